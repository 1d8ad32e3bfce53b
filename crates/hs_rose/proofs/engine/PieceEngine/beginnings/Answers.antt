use Rattle.std.proofs.Common.{[], ◌∷◌, sym, subst, arith}
use Rattle.hs_repeat.specs.RepeatEngines.{meaning_of_first, meaning_of_last, meaning_of_ring}
use Rattle.hs_rose.specs.PieceEngines.{piece_meaning}
use Rattle.hs_rose.specs.PositionEngines.{meaning_of_positions}
use Rattle.hs_rose.specs.declared.engine.PieceEngine.{PieceEngine}
use Rattle.hs_rose.specs.declared.positions.PositionEngine.{PositionEngine}
use Rattle.hs_waking.specs.BeginningRows.{rows_of_beginnings}
use Rattle.hs_waking.specs.EntryRows.{TellBeginnings}
use Rattle.hs_waking.proofs.RowLemmas.{tells-one-row}
use Rattle.hs_rose.proofs.RepeatEntryLemmas.{first-tells, last-tells, ring-tells}
use Rattle.hs_rose.proofs.engine.PieceEngine.beginnings.Goals as goal

pub returns-in-Positions : goal.returns-in-Positions
returns-in-Positions c =
    subst (λ (e : PieceEngine). TellBeginnings (piece_meaning e) c.beginnings.result.behind (rows_of_beginnings c.beginnings.result.rows)) (sym c.in-Positions.is)
    (subst (λ (l : PositionEngine). TellBeginnings (meaning_of_positions l) c.beginnings.result.behind (rows_of_beginnings c.beginnings.result.rows)) c.deref.ensures c.beginnings.ensures)

pub returns-in-First : goal.returns-in-First
returns-in-First c =
    subst (λ (e : PieceEngine). TellBeginnings (piece_meaning e) c.with.result.behind (rows_of_beginnings c.with.result.rows)) (sym c.in-First.is)
    (subst (TellBeginnings (meaning_of_first c.in-First.first) c.with.result.behind) (sym c.with.ensures.rows)
    (tells-one-row (meaning_of_first c.in-First.first) c.with.result.behind (c.wakers.result.now ∷ [])
    (first-tells c.in-First.first.farthest.set c.wakers.result.now c.in-First.first.farthest.bound c.with.result.behind (omega (arith, c.in-First.first.farthest.some)) c.with.ensures.behind c.wakers.ensures)))

pub returns-in-Last : goal.returns-in-Last
returns-in-Last c =
    subst (λ (e : PieceEngine). TellBeginnings (piece_meaning e) c.with-in-Last.result.behind (rows_of_beginnings c.with-in-Last.result.rows)) (sym c.in-Last.is)
    (subst (TellBeginnings (meaning_of_last c.in-Last.last) c.with-in-Last.result.behind) (sym c.with-in-Last.ensures.rows)
    (tells-one-row (meaning_of_last c.in-Last.last) c.with-in-Last.result.behind (c.wakers-in-Last.result.now ∷ [])
    (last-tells c.in-Last.last.nearest.set c.wakers-in-Last.result.now c.in-Last.last.nearest.bound c.with-in-Last.result.behind (omega (arith, c.in-Last.last.nearest.some)) c.with-in-Last.ensures.behind c.wakers-in-Last.ensures)))

pub returns-in-Ring : goal.returns-in-Ring
returns-in-Ring c =
    subst (λ (e : PieceEngine). TellBeginnings (piece_meaning e) c.with-in-Ring.result.behind (rows_of_beginnings c.with-in-Ring.result.rows)) (sym c.in-Ring.is)
    (subst (TellBeginnings (meaning_of_ring c.in-Ring.ring) c.with-in-Ring.result.behind) (sym c.with-in-Ring.ensures.rows)
    (tells-one-row (meaning_of_ring c.in-Ring.ring) c.with-in-Ring.result.behind (c.wakers-in-Ring.result.now ∷ [])
    (ring-tells c.in-Ring.ring.set c.wakers-in-Ring.result.now c.in-Ring.ring.least c.in-Ring.ring.greatest c.with-in-Ring.result.behind (omega (arith, c.in-Ring.ring.some)) c.with-in-Ring.ensures.behind c.wakers-in-Ring.ensures)))

use Rattle.std.proofs.Common.{map, sym, subst}
use Rattle.hs_limex.specs.LimexEngines.{moves_of_limex}
use Rattle.hs_rose.specs.PositionEngines.{meaning_of_positions}
use Rattle.hs_waking.specs.EntryRows.{TellBeginnings}
use Rattle.hs_waking.specs.Rows.{row_sets}
use Rattle.hs_rose.proofs.MovesRowLemmas.{moves-rows}
use Rattle.hs_rose.proofs.positions.PositionEngine.beginnings.Goals as goal

pub returns : goal.returns
returns c =
    let own = c.args.self.now in
    subst (λ rows. TellBeginnings (meaning_of_positions own) own.behind (map row_sets rows)) (sym c.deref.ensures.value) (moves-rows (moves_of_limex own.limex) own.behind (map row_sets own.rows.items) own.behind_has own.rows_are)

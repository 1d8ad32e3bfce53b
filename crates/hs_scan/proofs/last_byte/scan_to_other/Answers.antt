use Rattle.std.proofs.Common.{◌≡◌, ◌-◌, ◌++◌, length, take, drop, refl, sym, ap, subst, ◌∙◌, arith}
use Rattle.hs_literals.specs.Held.{held}
use Rattle.hs_scan.specs.Scratches.{stand_of}
use Rattle.hs_scan.specs.Writing.{LeavesToEnd}
use Rattle.hs_nodes.proofs.FillLemmas.{whole}
use Rattle.hs_scan.proofs.LineFeedLemmas.{none-left_behind}
use Rattle.hs_scan.proofs.BetweenLemmas.{between-kept}
use Rattle.hs_scan.proofs.last_byte.scan_to_other.Goals as goal

pub returns-clause-left : goal.returns-clause-left
returns-clause-left g c =
    let m = g.E.Engine.meaning in
    let graph = c.args.tables.now.graph.now in
    let literals = held c.args.tables.now.literals.now in
    let first = stand_of c.args.scratch.now c.args.region.now in
    let s = c.scan_bytes.new.scratch in
    let last = c.leave_none.new.last in
    let len : length last ≡ length s.last.items = c.leave_none.ensures.len ∙ ap length c.deref_mut.ensures.value in
    let now : take s.last.len (last ++ drop (length last) s.last.items) ≡ last = whole last s.last.items s.last.len len (omega (arith, s.last.ok)) in
    subst (λ xs. LeavesToEnd m graph literals first c.args.bytes.now xs) (sym now)
    (none-left_behind m graph literals c.requires.sound.terminals first c.args.bytes.now last (length c.args.bytes.now - 1) (omega (arith, c.requires.some)) c.requires.ends c.leave_none.ensures.none)

pub returns-clause-behind : goal.returns-clause-behind
returns-clause-behind g c =
    let s = c.scan_bytes.new.scratch in
    let last = c.leave_none.new.last in
    let len : length last ≡ length s.last.items = c.leave_none.ensures.len ∙ ap length c.deref_mut.ensures.value in
    let now : take s.last.len (last ++ drop (length last) s.last.items) ≡ last = whole last s.last.items s.last.len len (omega (arith, s.last.ok)) in
    between-kept g.E.Engine.meaning c.args.tables.now.graph.now c.scan_bytes.new.region c.scan_bytes.new.cache refl
    (record { ends = refl; course = refl; hits = refl; rows = refl; finals = refl; last = ap length now ∙ len; past = refl }) c.scan_bytes.ensures.behind

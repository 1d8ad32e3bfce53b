use Rattle.std.proofs.Common.{get_or}
use Rattle.std.proofs.lemmas.Option.{slice_get-get_or}
use Rattle.hs_base.specs.declared.entry.ExprId.{ExprId}
use Rattle.hs_reports.specs.Events.{still}
use Rattle.hs_reports.specs.WordBits.{row_bit}
use Rattle.hs_reports.proofs.WalkLemmas.{through-next, through-all}
use Rattle.hs_reports.proofs.block.tell_place.Goals as goal

pub loop-k-init : goal.loop-k-init
loop-k-init g c = still

pub loop-k-preserved : goal.loop-k-preserved
loop-k-preserved g c =
    let none : ExprId = record { 0 = 0 } in
    through-next g.V.Events.tells c.args.ids.now (λ k. row_bit c.args.words.now k c.args.place) c.args.to c.loop-k.k (get_or c.args.ids.now c.loop-k.k none) c.has_bit.result
    (slice_get-get_or c.args.ids.now c.loop-k.k none c.loop-k-test.true) c.has_bit.ensures c.loop-k.invariant c.tell_if.ensures

pub returns : goal.returns
returns g c = through-all g.V.Events.tells c.args.ids.now (λ k. row_bit c.args.words.now k c.args.place) c.args.to c.loop-k.k c.loop-k-test.false c.loop-k.invariant

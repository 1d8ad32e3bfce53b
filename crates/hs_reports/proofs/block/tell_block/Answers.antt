use Rattle.std.proofs.Common.{ℕ, ◌+◌, sym, subst}
use Rattle.hs_reports.specs.Events.{Through, still}
use Rattle.hs_reports.specs.Identifiers.{id_numbers}
use Rattle.hs_reports.specs.WordBits.{row_bit}
use Rattle.hs_reports.proofs.BlockLemmas.{chunk-none}
use Rattle.hs_reports.proofs.WalkLemmas.{walked-none, walked-next, through-place, told-all}
use Rattle.hs_reports.proofs.block.tell_block.Goals as goal

pub loop-left-init : goal.loop-left-init
loop-left-init g c = (
  0,
  walked-none c.args.lates.now c.args.earlies.now c.united-late.result c.united-early.result c.places_to.result c.args.last c.requires.last c.united-late.ensures c.united-early.ensures c.places_to.ensures,
  subst (λ ps. Through g.V.Events.tells c.args.events.now ps c.args.events.now)
      (sym (chunk-none (id_numbers c.args.ids.now) (row_bit c.args.lates.now) (row_bit c.args.earlies.now) c.args.at)) still,
)

pub loop-left-preserved : goal.loop-left-preserved
loop-left-preserved g c =
    let (m, walked, told) = c.loop-left.invariant in
    let place : ℕ = c.lowest_bit-place.result in (
      place + 1,
      walked-next c.args.lates.now c.args.earlies.now (c.args.last + 1) c.loop-left.left m place walked c.lowest_bit-place.ensures.lowest
          c.without_lowest_bit-left.result c.lowest_bit-place.ensures.within (c.without_lowest_bit-left.ensures.behind place c.lowest_bit-place.ensures.lowest),
      through-place g.V.Events.tells c.args.lates.now c.args.earlies.now (id_numbers c.args.ids.now) c.args.at (c.args.last + 1) c.loop-left.left m place walked
          c.lowest_bit-place.ensures.lowest c.lowest_bit-place.ensures.within told c.tell_any.ensures c.tell_any-in-loop-left.ensures,
    )

pub returns : goal.returns
returns g c =
    let (m, walked, told) = c.loop-left.invariant in
    subst (λ ps. Through g.V.Events.tells c.args.events.now ps c.loop-left.events)
    (sym (told-all c.args.lates.now c.args.earlies.now (id_numbers c.args.ids.now) c.args.at (c.args.last + 1) c.loop-left.left m walked c.loop-left-test.false)) told

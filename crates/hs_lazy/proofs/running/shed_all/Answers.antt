use Rattle.std.proofs.Common.{◌<◌, length, ◌∙◌, refl, arith, length-set}
use Rattle.std.proofs.lemmas.Option.{slice_get-get_or}
use Rattle.hs_lazy.specs.Members.IsShed.{stays}
use Rattle.hs_lazy.proofs.ShedLemmas.{shed-set}
use Rattle.hs_lazy.proofs.running.shed_all.Goals as goal

pub loop-at-init : goal.loop-at-init
loop-at-init c = record {
  len = refl;
  shed = λ i dfa is. (dfa, is, stays refl);
}

pub loop-at-preserved : goal.loop-at-preserved
loop-at-preserved c =
    let low : c.loop-at.at < length c.loop-at.list = omega (arith, c.loop-at-test.true, c.loop-at.invariant.len) in
    record {
      len = length-set c.loop-at.list c.loop-at.at c.shed_some.new.dfa ∙ c.loop-at.invariant.len;
      shed = shed-set c.args.list.now c.loop-at.list c.loop-at.at _ c.shed_some.new.dfa (slice_get-get_or c.loop-at.list c.loop-at.at c.index-list-at.result low) c.shed_some.ensures c.loop-at.invariant.shed;
    }

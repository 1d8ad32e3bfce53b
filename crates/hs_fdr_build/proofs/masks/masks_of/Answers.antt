use Rattle.std.proofs.Common.{rules, map, sym, subst}
use Rattle.hs_base.specs.LiteralView.{literal_bytes}
use Rattle.hs_fdr_build.specs.Clearing.{Clears}
use Rattle.hs_fdr_build.specs.MaskPlaces.{HasPlace, IsAskedBy, AreMasksOf}
use Rattle.hs_fdr_build.proofs.MaskLemmas.{masks-are, written-back}
use Rattle.hs_fdr_build.proofs.masks.masks_of.Goals as goal

pub returns-clause-exact : goal.returns-clause-exact
returns-clause-exact c =
    let width = c.args.width in
    let literals = map literal_bytes c.args.literals.now in
    let buckets = c.args.buckets.now in
    let filled = c.in_ok-masks.masks in
    let new = c.clear_all.new.masks in
    let made = subst (λ old. Clears (IsAskedBy (HasPlace width) literals buckets) old new) c.as_mut_slice.ensures.value c.clear_all.ensures in
    subst (AreMasksOf width literals buckets) (sym (written-back new filled.items filled.len made.alike (search rules)))
    (masks-are width literals buckets c.past_of-past.result filled.items new c.past_of-past.ensures c.in_ok-masks.ensures.each (search rules) made)

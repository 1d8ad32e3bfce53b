use Rattle.std.proofs.Common.{◌≡◌, ℕ, ◌+◌, ◌*◌, ◌^◌, ◌<◌, get_or, map, subst}
use Rattle.hs_fdr.specs.Masks.{mask_of}
use Rattle.hs_base.specs.LiteralView.{literal_bytes}
use Rattle.hs_fdr_build.specs.MaskPlaces.{AreMasksOf}
use Rattle.hs_fdr_build.proofs.TableLemmas.{tables-are}
use Rattle.hs_fdr_build.proofs.building.build.Goals as goal

pub returns-clause-exact : goal.returns-clause-exact
returns-clause-exact c =
    let width = c.width_for-width.result in
    let literals = map literal_bytes c.args.literals.now in
    let masks = c.in_ok-masks.masks.items in
    let tables = c.in_ok-tables.tables in
    tables-are width literals c.in_ok-buckets.buckets.items masks tables
    (subst (λ b. AreMasksOf width literals b masks) c.as_slice.ensures.value c.in_ok-masks.ensures.exact)
    c.in_ok-tables.ensures.width
    (subst (λ m. (j v : ℕ) → j < 8 → v < 2 ^ width → mask_of tables j v ≡ get_or m (j * 2 ^ width + v) 0) c.as_slice-2.ensures.value c.in_ok-tables.ensures.masks)

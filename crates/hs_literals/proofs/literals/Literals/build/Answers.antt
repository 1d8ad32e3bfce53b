use Rattle.std.proofs.Common.{◌≡◌, ◌∙◌, map, sym, subst}
use Rattle.hs_confirm.specs.Filed.{literals_of, buckets_of}
use Rattle.hs_fdr_build.specs.Asking.{AreTablesOf}
use Rattle.hs_base.specs.LiteralView.{literal_bytes}
use Rattle.hs_literals.specs.Masking.{AreFew}
use Rattle.hs_literals.proofs.MaskLemmas.{tables_hide_none, few-from_all}
use Rattle.hs_literals.proofs.literals.Literals.build.Goals as goal

pub invariant_of-result : goal.invariant_of-result
invariant_of-result c =
    let tables = c.in_ok-tables.tables in
    let confirm = c.in_ok-confirm.confirm in
    let literals : literals_of confirm ≡ _ = c.in_ok-confirm.ensures.literals in
    let buckets : buckets_of confirm ≡ c.in_ok-tables.buckets.items = c.in_ok-confirm.ensures.buckets ∙ c.as_slice.ensures.value in
    let few : AreFew (buckets_of confirm) = subst AreFew (sym buckets) (few-from_all c.in_ok-tables.buckets.items c.in_ok-tables.ensures.below) in
    record {
      hides_none = tables_hide_none tables (literals_of confirm) (buckets_of confirm) few
          (subst (λ ls. AreTablesOf ls (buckets_of confirm) tables) (sym literals) (subst (λ bs. AreTablesOf (map literal_bytes c.args.literals.now) bs tables) (sym buckets) c.in_ok-tables.ensures.exact));
      few = few;
    }

-- Tables made of masks.
use Rattle.std.proofs.Common.{◌≡◌, ◌↔◌, ℕ, ◌+◌, ◌*◌, ◌^◌, ◌<◌, List, get_or, sym, ap, subst, ◌∙◌}
use Rattle.std.specs.Int.{bit_at}
use Rattle.hs_base.specs.Literals.{LiteralByte}
use Rattle.hs_fdr.specs.declared.tables.Tables.{Tables}
use Rattle.hs_fdr.specs.Masks.{mask_of, width_of}
use Rattle.hs_fdr_build.specs.Asking.{IsAsked, AreTablesOf}
use Rattle.hs_fdr_build.specs.MaskPlaces.{AreMasksOf}

pub tables-are : (width : ℕ) (literals : List (List LiteralByte)) (buckets masks : List ℕ) (tables : Tables) → AreMasksOf width literals buckets masks → width_of tables ≡ width
    → ((j v : ℕ) → j < 8 → v < 2 ^ width → mask_of tables j v ≡ get_or masks (j * 2 ^ width + v) 0) → AreTablesOf literals buckets tables
tables-are width literals buckets masks tables are same at = record {
  each = subst (λ w. (bucket j v : ℕ) → bucket < 8 → j < 8 → v < 2 ^ w → (bit_at (mask_of tables j v) bucket ≡ 0) ↔ IsAsked w literals buckets bucket j v) (sym same) (λ bucket j v b p s.
      let e : bit_at (mask_of tables j v) bucket ≡ bit_at (get_or masks (j * 2 ^ width + v) 0) bucket = ap (λ m. bit_at m bucket) (at j v p s) in
      (λ is. (are.each bucket j v b p s).0 (sym e ∙ is), λ asked. e ∙ (are.each bucket j v b p s).1 asked));
}

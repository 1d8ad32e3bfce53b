-- Where the fields of nodes lie.
use Rattle.std.proofs.Common.{◌≡◌, ℕ, suc, ◌+◌, ◌≤◌, ◌^◌, List, length, Some, slice_get, sym, ap, subst, ◌∙◌, arith}
use Rattle.std.specs.Prelude.{slice_index}
use Rattle.std.proofs.lemmas.List.{length-map}
use Rattle.std.proofs.lemmas.Option.{get_or_from_slice_get, slice_get-get_or, slice_get_within}
use Rattle.hs_base.specs.Regions.{fields_at, sums_from}
use Rattle.hs_base.proofs.SumLemmas.{sums-next, sums-size}
use Rattle.hs_layout.specs.Layouts.{AreApart, Laid, laid_size}
use Rattle.hs_layout.proofs.StartLemmas.{are-apart, size-last}
use Rattle.hs_rose.specs.declared.role.Role.{Role}
use Rattle.hs_rose.specs.Identifiers.{singles_of}
use Rattle.hs_rose.specs.Programs.{Tables}
use Rattle.hs_rose.proofs.ListLemmas.{get-map}
use Rattle.hs_compile.specs.GraphTables.{IsLaidFor, sizes_of}

field-size : (at : ℕ) (sizes : List ℕ) (k size : ℕ) → slice_get sizes k ≡ Some size → slice_index (sums_from at sizes) (k + 1) ≡ slice_index (sums_from at sizes) k + size
field-size at sizes k size is =
    let below = slice_get_within sizes k size is in
    let low = slice_get-get_or (sums_from at sizes) k 0 (omega (arith, below, sums-size at sizes)) in
    let next : suc k ≡ k + 1 = omega arith in
    ap (slice_index (sums_from at sizes)) (sym next) ∙ get_or_from_slice_get (sums_from at sizes) (suc k) (slice_index (sums_from at sizes) k + size) 0 (sums-next at sizes k (slice_index (sums_from at sizes) k) size low is)

module _ (t : Tables) (l : Laid) (laid : IsLaidFor t l) where
  pub layout-apart : AreApart l
  layout-apart =
      subst AreApart (sym laid.laid)
      (are-apart (length (singles_of t.identifiers)) (length t.identifiers) (sizes_of t.roles)
      (subst (λ n. n ≤ 2 ^ 24) (ap laid_size laid.laid ∙ size-last (length (singles_of t.identifiers)) (length t.identifiers) (sizes_of t.roles)) laid.small))

  pub starts-count : length l.starts ≡ suc (length t.roles)
  starts-count =
      ap (λ (x : Laid). length x.starts) laid.laid
      ∙ (sums-size (fields_at (length (singles_of t.identifiers)) (length t.identifiers)) (sizes_of t.roles) ∙ ap suc (length-map t.roles (λ role. role.field_size)))

  -- the field of a role has its size
  pub role-field : (i : ℕ) (r : Role) → slice_get t.roles i ≡ Some r → slice_index l.starts (i + 1) ≡ slice_index l.starts i + r.field_size
  role-field i r at =
      let base = fields_at (length (singles_of t.identifiers)) (length t.identifiers) in
      subst (λ (x : Laid). slice_index x.starts (i + 1) ≡ slice_index x.starts i + r.field_size) (sym laid.laid)
      (field-size base (sizes_of t.roles) i r.field_size (get-map (λ role. role.field_size) t.roles i r at))

-- Where the fields begin, one behind the other.
use Rattle.std.proofs.Common.{◌≡◌, ℕ, suc, ◌+◌, ◌-◌, ◌^◌, ◌<◌, ◌≤◌, List, [], ◌∷◌, drop, length, get_or, refl, sym, ap, ◌∙◌, subst, arith}
use Rattle.std.specs.Prelude.{slice_index}
use Rattle.std.proofs.lemmas.List.{drop_more}
use Rattle.hs_base.specs.Regions.{fields_at, region_size, sums_from}
use Rattle.hs_base.proofs.SumLemmas.{sums-low, sums-rise, sums-size}
use Rattle.hs_layout.specs.Layouts.{AreApart, Laid, layout_of, laid_size}

-- the next one is no greater than the end
pub next-small : (at total : ℕ) (sizes : List ℕ) (i : ℕ) → i < length sizes →
    slice_index (sums_from at (drop i sizes)) (length (drop i sizes)) ≡ total → at + get_or sizes i 0 ≤ total
next-small at total sizes i below end =
    let size : ℕ = get_or sizes i 0 in
    let rest : List ℕ = drop (i + 1) sizes in
    let e = subst (λ ns. slice_index (sums_from at ns) (length ns) ≡ total) (drop_more sizes i 0 below) end in
    let low : at + size ≤ slice_index (sums_from (at + size) rest) (length rest) = sums-low (at + size) rest in
    omega arith

module _ (singles identifiers : ℕ) (sizes : List ℕ) where
  pub header-within : fields_at singles identifiers ≤ region_size singles identifiers sizes
  header-within = sums-low (fields_at singles identifiers) sizes

  pub size-last : laid_size (layout_of singles identifiers sizes) ≡ region_size singles identifiers sizes
  size-last =
      let count : length (sums_from (fields_at singles identifiers) sizes) ≡ suc (length sizes) = sums-size (fields_at singles identifiers) sizes in
      let last : length (sums_from (fields_at singles identifiers) sizes) - 1 ≡ length sizes = omega arith in
      ap (slice_index (sums_from (fields_at singles identifiers) sizes)) last

  first-of : slice_index (sums_from (fields_at singles identifiers) sizes) 0 ≡ fields_at singles identifiers
  first-of = first-sum (fields_at singles identifiers) sizes
    where
      first-sum : (at : ℕ) (ns : List ℕ) → slice_index (sums_from at ns) 0 ≡ at
      first-sum at [] = refl
      first-sum at (n ∷ ns) = refl

  pub are-apart : region_size singles identifiers sizes ≤ 2 ^ 24 → AreApart (layout_of singles identifiers sizes)
  are-apart small = record {
    some = omega (arith, sums-size (fields_at singles identifiers) sizes);
    first = first-of;
    rising = λ j k order below. sums-rise (fields_at singles identifiers) sizes j k order below;
    header = omega (arith, header-within, size-last);
    small = omega (arith, size-last);
  }

-- as the code has them
pub same-layout : (singles identifiers first : ℕ) (sizes starts : List ℕ) → first ≡ fields_at singles identifiers → starts ≡ sums_from first sizes →
    ◌≡◌ {A = Laid} (layout_of singles identifiers sizes) (record { singles = singles; identifiers = identifiers; starts = starts })
same-layout singles identifiers first sizes starts is same =
    ap (λ ns. record { singles = singles; identifiers = identifiers; starts = ns })
    (sym (same ∙ ap (λ n. sums_from n sizes) is))

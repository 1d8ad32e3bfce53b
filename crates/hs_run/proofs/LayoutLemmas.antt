-- Where the fields of a program lie, and a region of which one is written.
use Rattle.std.proofs.Common.{◌≡◌, ℕ, zero, suc, ◌+◌, ◌-◌, ◌<◌, ◌≤◌, List, [], ◌∷◌, ◌++◌, length, take, drop, Some, slice_get, refl, sym, ap, subst, ◌∙◌, inl, inr, arith}
use Rattle.std.specs.Prelude.{slice_index, slice_range}
use Rattle.std.proofs.lemmas.List.{length-map}
use Rattle.std.proofs.lemmas.Option.{slice_get-get_or, slice_get-map, slice_get_within, get_or_from_slice_get}
use Rattle.hs_base.specs.Regions.{fields_at, sums_from}
use Rattle.hs_base.proofs.RegionLemmas.{range-size}
use Rattle.hs_base.proofs.SumLemmas.{sums-first, sums-next, sums-size, sums-low, sums-rise}
use Rattle.hs_layout.specs.Layouts.{Laid, AreApart, field_bytes, laid_size, with_field}
use Rattle.hs_layout.specs.LayoutLaws.{IsFieldWritten}
use Rattle.hs_layout.proofs.FieldLemmas.{fields-disjoint}
use Rattle.hs_layout.proofs.WrittenLemmas.{part-mid}
use Rattle.hs_run.specs.Chains.{AreWritten}
use Rattle.hs_run.specs.Programs.{FitsLayout, sizes_of}
use Rattle.hs_rose.specs.Programs.{Tables}
use Rattle.hs_rose.specs.declared.role.Role.{Role}

-- an element is there
pub there : {A : Type 0} (xs : List A) (k : ℕ) → k < length xs → (x : A) × (slice_get xs k ≡ Some x)
there [] k below = absurd (omega arith)
there (x ∷ xs) zero below = (x, refl)
there (x ∷ xs) (suc k) below = there xs k (omega arith)

module _ (program : Tables) (l : Laid) (fits : FitsLayout program l) where
  abbrev pub sizes : List ℕ
  sizes = sizes_of program.roles

  sizes-count : length sizes ≡ length program.roles
  sizes-count = length-map program.roles (λ r. r.field_size)

  pub starts-are : l.starts ≡ sums_from (fields_at l.singles l.identifiers) sizes
  starts-are = subst (λ x. x.starts ≡ sums_from (fields_at x.singles x.identifiers) sizes) (sym fits.laid) refl

  abbrev pub first_at : ℕ
  first_at = fields_at l.singles l.identifiers

  pub starts-count : length l.starts ≡ length program.roles + 1
  starts-count = omega (arith, ap length starts-are, sums-size first_at sizes, sizes-count)

  end-is : laid_size l ≡ slice_index (sums_from first_at sizes) (length sizes)
  end-is =
      let e : length l.starts - 1 ≡ length sizes = omega (arith, starts-count, sizes-count) in
      ap (slice_index l.starts) e ∙ ap (λ xs. slice_index xs (length sizes)) starts-are

  pub apart : AreApart l
  apart = record {
    some = omega (arith, starts-count);
    first = get_or_from_slice_get l.starts 0 first_at 0 (ap (λ xs. slice_get xs 0) starts-are ∙ sums-first first_at sizes);
    rising = λ j k order within.
        subst (λ xs. slice_index xs j ≤ slice_index xs k) (sym starts-are)
        (sums-rise first_at sizes j k order (omega (arith, within, ap length starts-are)));
    header = omega (arith, end-is, sums-low first_at sizes);
    small = fits.small;
  }

  pub field-next : (k : ℕ) (r : Role) → slice_get program.roles k ≡ Some r → slice_index l.starts (k + 1) ≡ slice_index l.starts k + r.field_size
  field-next k r role =
      let below : k < length program.roles = slice_get_within program.roles k r role in
      let low : slice_get (sums_from first_at sizes) k ≡ Some (slice_index (sums_from first_at sizes) k) =
      slice_get-get_or (sums_from first_at sizes) k 0 (omega (arith, below, sums-size first_at sizes, sizes-count)) in
      let size : slice_get sizes k ≡ Some r.field_size = slice_get-map (λ x. x.field_size) program.roles k ∙ ap (λ o. Rattle.std.specs.Prelude.option_map (λ x. x.field_size) o) role in
      let next = get_or_from_slice_get (sums_from first_at sizes) (suc k) (slice_index (sums_from first_at sizes) k + r.field_size) 0 (sums-next first_at sizes k (slice_index (sums_from first_at sizes) k) r.field_size low size) in
      let e : k + 1 ≡ suc k = omega arith in
      subst (λ xs. slice_index xs (k + 1) ≡ slice_index xs k + r.field_size) (sym starts-are) (ap (slice_index (sums_from first_at sizes)) e ∙ next)

  pub field-order : (k : ℕ) → k < length program.roles → slice_index l.starts k ≤ slice_index l.starts (k + 1)
  field-order k below = apart.rising k (k + 1) (omega arith) (omega (arith, below, starts-count))

  pub field-within : (k : ℕ) → k < length program.roles → slice_index l.starts (k + 1) ≤ laid_size l
  field-within k below = apart.rising (k + 1) (length l.starts - 1) (omega (arith, below, starts-count)) (omega (arith, starts-count))

  pub field-wide : (region : List ℕ) (k : ℕ) (r : Role) → length region ≡ laid_size l → slice_get program.roles k ≡ Some r → length (field_bytes l region k) ≡ r.field_size
  field-wide region k r sized role =
      let below : k < length program.roles = slice_get_within program.roles k r role in
      range-size region (slice_index l.starts k) (slice_index l.starts (k + 1)) (field-order k below) (omega (arith, sized, field-within k below))
      ∙ omega (arith, field-next k r role)

  -- what one field's new contents leave as it was
  pub field-written : (region part : List ℕ) (k : ℕ) → k < length program.roles → length region ≡ laid_size l → length part ≡ length (field_bytes l region k) → IsFieldWritten l k part region (with_field l region k part)
  field-written region part k below sized same = fields-disjoint l k region part apart sized (omega (arith, below, starts-count)) same

module _ (program : Tables) (l : Laid) (fits : FitsLayout program l) (region : List ℕ) (k low high : ℕ) (below : k < length program.roles) (sized : length region ≡ laid_size l)
    (is_low : low ≡ slice_index l.starts k) (is_high : high ≡ slice_index l.starts (k + 1)) where
  pub part-same : slice_range region low high ≡ field_bytes l region k
  part-same = ap (λ a. slice_range region a high) is_low ∙ ap (λ b. slice_range region (slice_index l.starts k) b) is_high

  pub field-put : (w : List ℕ) → length w ≡ length (slice_range region low high) → IsFieldWritten l k w region (take low region ++ (w ++ drop (high - low) (drop low region)))
  field-put w wide =
      let same : length w ≡ length (field_bytes l region k) = wide ∙ ap length part-same in
      subst (λ a. IsFieldWritten l k w region (take a region ++ (w ++ drop (high - a) (drop a region)))) (sym is_low)
      (subst (λ b. IsFieldWritten l k w region (take (slice_index l.starts k) region ++ (w ++ drop (b - slice_index l.starts k) (drop (slice_index l.starts k) region)))) (sym is_high)
      (subst (IsFieldWritten l k w region) (part-mid region w (slice_index l.starts k) (slice_index l.starts (k + 1)) (field-order program l fits k below))
      (field-written program l fits region w k below sized same)))

pub written-is : (l : Laid) (region part new : List ℕ) (k : ℕ) → IsFieldWritten l k part region new → AreWritten l k (k + 1) region new
written-is l region part new k is = record {
  len = is.len;
  header = is.header;
  others = λ j outside within. is.others j (λ same. elim outside [ inl low ↦ omega (arith, low, same) | inr high ↦ omega (arith, high, same) ]) within;
}

pub written-none : (l : Laid) (from to : ℕ) (region : List ℕ) → AreWritten l from to region region
written-none l from to region = record { len = refl; header = refl; others = λ j outside within. refl }

pub written-more : (l : Laid) (from k to : ℕ) (old mid new : List ℕ) → from ≤ k → k ≤ to → AreWritten l from k old mid → AreWritten l k to mid new → AreWritten l from to old new
written-more l from k to old mid new low high first second = record {
  len = second.len ∙ first.len;
  header = second.header ∙ first.header;
  others = λ j outside within.
      second.others j (elim outside [ inl under ↦ inl (omega (arith, under, low)) | inr over ↦ inr (omega (arith, over)) ]) within
      ∙ first.others j (elim outside [ inl under ↦ inl under | inr over ↦ inr (omega (arith, over, high)) ]) within;
}

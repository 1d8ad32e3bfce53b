-- What stands in a field's place, and in the others'.
use Rattle.std.proofs.Common.{◌≡◌, ℕ, ◌+◌, ◌-◌, ◌≤◌, List, ◌++◌, take, drop, length, slice_index, slice_range}
use Rattle.std.proofs.Common.{sym, ap, ◌∙◌, inl, inr, arith, length-append, length-drop}
use Rattle.std.proofs.lemmas.List.{length-take-le}
use Rattle.std.proofs.lemmas.Slice.{take-put_mid_below, drop-put_mid, between-put_mid, between_is}
use Rattle.std.proofs.lemmas.Bool.{cases_lt}
use Rattle.hs_base.specs.Regions.{fields_at}
use Rattle.hs_layout.proofs.LendingLemmas.{length-range}
use Rattle.hs_layout.proofs.WrittenLemmas.{part-mid}
use Rattle.hs_layout.specs.Layouts.{laid_size, with_part}
use Rattle.hs_layout.specs.LayoutLaws.{FieldsAreDisjoint}

-- bytes in the place of those from `low` to before `high`
module _ (region bytes : List ℕ) (low high : ℕ) (order : low ≤ high) (within : high ≤ length region)
    (long : length bytes ≡ high - low) where
  abbrev now : List ℕ
  now = with_part region low high bytes

  same-length : length now ≡ length region
  same-length = omega (
    arith,
    length-append (take low region) (bytes ++ drop high region),
    length-append bytes (drop high region),
    length-take-le low region (omega arith),
    length-drop high region,
    order,
    within,
    long,
  )

  before : (n : ℕ) → n ≤ low → take n now ≡ take n region
  before n below =
      ap (take n) (part-mid region bytes low high order) ∙
      take-put_mid_below low (high - low) region bytes n below (omega (arith, order, within))

  range-before : (i j : ℕ) → j ≤ low → slice_range now i j ≡ slice_range region i j
  range-before i j below = between_is now i j ∙ ap (drop i) (before j below) ∙ sym (between_is region i j)

  range-here : slice_range now low high ≡ bytes
  range-here =
      ap (λ (l : List ℕ). slice_range l low high) (part-mid region bytes low high order) ∙
      between-put_mid low (high - low) region bytes high (omega (arith, order, within)) long

  range-behind : (i j : ℕ) → high ≤ i → slice_range now i j ≡ slice_range region i j
  range-behind i j above =
      ap (λ (l : List ℕ). take (j - i) l) (
      ap (drop i) (part-mid region bytes low high order) ∙
      drop-put_mid low (high - low) region bytes i (omega (arith, order, above)) (omega (arith, order, within)) long)

pub fields-disjoint : FieldsAreDisjoint
fields-disjoint l k region bytes apart sized there same = record {
  len = same-length region bytes low high order within long;
  header = before region bytes low high order within long (fields_at l.singles l.identifiers) behind;
  here = range-here region bytes low high order within long;
  others = λ j away inside. elim (cases_lt j k) [
    | inl below ↦
        range-before region bytes low high order within long (slice_index l.starts j) (slice_index l.starts (j + 1))
        (apart.rising (j + 1) k (omega (arith, below)) (omega (arith, there)))
    | inr above ↦
        range-behind region bytes low high order within long (slice_index l.starts j) (slice_index l.starts (j + 1))
        (apart.rising (k + 1) j (omega (arith, above, away)) (omega (arith, inside)))
  ];
}
  where
    low : ℕ
    low = slice_index l.starts k

    high : ℕ
    high = slice_index l.starts (k + 1)

    order : low ≤ high
    order = apart.rising k (k + 1) (omega arith) there

    within : high ≤ length region
    within =
        let last : high ≤ laid_size l =
        apart.rising (k + 1) (length l.starts - 1) (omega (arith, there)) (omega (arith, there)) in
        omega (arith, last, sized)

    long : length bytes ≡ high - low
    long = same ∙ length-range region low high order within

    behind : fields_at l.singles l.identifiers ≤ low
    behind =
        let first : slice_index l.starts 0 ≤ low = apart.rising 0 k (omega arith) (omega (arith, there)) in
        omega (arith, first, apart.first)

-- Rows of bits of a region, as rows of words.
use Rattle.std.proofs.Common.{◌≡◌, ◌⊎◌, ℕ, ◌+◌, ◌*◌, ◌/◌, ◌<◌, ◌≤◌, ◌-◌, Bool, true, false, ◌&&◌, ◌||◌, List, ◌++◌, take, drop, length, get_or, slice_range, ltb, refl, sym, ap, ◌∙◌, inl, inr, arith, length-append, length-drop}
use Rattle.std.proofs.lemmas.List.{length-take-le, get_or_append_left, get_or-append-add, get_or-take, get_or-drop}
use Rattle.std.proofs.lemmas.Bool.{cases_eq, lt-ltb}
use Rattle.hs_base.specs.Bits.{has_bit, has_word_bit}
use Rattle.hs_base.specs.Regions.{row_size}
use Rattle.hs_base.proofs.RegionLemmas.{get-range}
use Rattle.hs_layout.specs.Layouts.{IsBitWritten, with_part}
use Rattle.hs_layout.specs.Rows.{IsRowRead, IsRowWritten}
use Rattle.hs_layout.proofs.WrittenLemmas.{bit-of}

-- the bits of a part of a region
pub range-bit : (xs : List ℕ) (low high k : ℕ) → k < 8 * (high - low) → has_bit (slice_range xs low high) k ≡ has_bit xs (8 * low + k)
range-bit xs low high k below =
    let e : low + k / 8 ≡ (8 * low + k) / 8 = omega arith in
    bit-of (slice_range xs low high) xs k (8 * low + k) (get-range xs low high (k / 8) (omega (arith, below)) ∙ ap (λ i. get_or xs i 0) e) (omega arith)

-- a byte of the part that is written, and one outside of it
part-inside : (region w : List ℕ) (low high i : ℕ) → low + length w ≡ high → high ≤ length region → i < length w → get_or (with_part region low high w) (low + i) 0 ≡ get_or w i 0
part-inside region w low high i wide within below =
    let size : length (take low region) ≡ low = length-take-le low region (omega (arith, wide, within)) in
    let e : low + i ≡ length (take low region) + i = omega (arith, size) in
    ap (λ n. get_or (with_part region low high w) n 0) e ∙ (get_or-append-add (take low region) (w ++ drop high region) i 0 ∙ get_or_append_left w (drop high region) 0 i below)

part-outside : (region w : List ℕ) (low high i : ℕ) → low + length w ≡ high → high ≤ length region → (i < low) ⊎ (high ≤ i) → get_or (with_part region low high w) i 0 ≡ get_or region i 0
part-outside region w low high i wide within (inl before) =
    let size : length (take low region) ≡ low = length-take-le low region (omega (arith, wide, within)) in
    get_or_append_left (take low region) (w ++ drop high region) 0 i (omega (arith, size, before)) ∙ get_or-take low region i 0 before
part-outside region w low high i wide within (inr behind) =
    let size : length (take low region) ≡ low = length-take-le low region (omega (arith, wide, within)) in
    let k : ℕ = i - high in
    let e : i ≡ length (take low region) + (length w + k) = omega (arith, size, wide, behind) in
    let e' : high + k ≡ i = omega (arith, behind) in
    ap (λ n. get_or (with_part region low high w) n 0) e
    ∙ (get_or-append-add (take low region) (w ++ drop high region) (length w + k) 0
    ∙ (get_or-append-add w (drop high region) k 0 ∙ (get_or-drop high region k 0 ∙ ap (λ n. get_or region n 0) e')))

-- whole bytes of a row
pub stored : (region w row : List ℕ) (from bytes : ℕ) → from + bytes ≤ length region → length w ≡ bytes → ((k : ℕ) → has_bit w k ≡ (ltb k (8 * bytes) && has_word_bit row k)) → IsRowWritten from (8 * bytes) row region (with_part region from (from + bytes) w)
stored region w row from bytes within size bits = record {
  len = omega (arith, length-append (take from region) (w ++ drop (from + bytes) region), length-append w (drop (from + bytes) region), length-take-le from region low, length-drop (from + bytes) region, size, within);
  row_is = λ k below.
      let e : (8 * from + k) / 8 ≡ from + k / 8 = omega arith in
      bit-of now w (8 * from + k) k (ap (λ n. get_or now n 0) e ∙ part-inside region w from (from + bytes) (k / 8) wide within (omega (arith, below, size))) (omega arith)
      ∙ (bits k ∙ ap (λ b. b && has_word_bit row k) (lt-ltb k (8 * bytes) below));
  others = λ k out. bit-of now region k k (part-outside region w from (from + bytes) (k / 8) wide within (bytes-out k out)) refl;
  bytes = λ i out. part-outside region w from (from + bytes) i wide within (row-out i out);
}
  where
    now : List ℕ
    now = with_part region from (from + bytes) w

    low : from ≤ length region
    low = omega (arith, within)

    wide : from + length w ≡ from + bytes
    wide = omega (arith, size)

    bytes-out : (k : ℕ) → (k < 8 * from) ⊎ (8 * from + 8 * bytes ≤ k) → (k / 8 < from) ⊎ (from + bytes ≤ k / 8)
    bytes-out k (inl before) = inl (omega (arith, before))
    bytes-out k (inr behind) = inr (omega (arith, behind))

    row-out : (i : ℕ) → (i < from) ⊎ (from + row_size (8 * bytes) ≤ i) → (i < from) ⊎ (from + bytes ≤ i)
    row-out i (inl before) = inl before
    row-out i (inr behind) = inr (omega (arith, behind))

-- one bit more
pub one-more : (from k : ℕ) (value : Bool) (row old mid new : List ℕ) → value ≡ has_word_bit row k → IsRowWritten from k row old mid → IsBitWritten (8 * from + k) value mid new → IsRowWritten from (k + 1) row old new
one-more from k value row old mid new is first second = record {
  len = second.len ∙ first.len;
  row_is = λ j below. elim (cases_eq j k) [
    | inl same ↦ ap (λ n. has_bit new (8 * from + n)) same ∙ (second.here ∙ (is ∙ ap (has_word_bit row) (sym same)))
    | inr apart ↦ second.others (8 * from + j) (λ e. apart (omega (arith, e))) ∙ first.row_is j (omega (arith, below, apart))
  ];
  others = λ j out. second.others j (bit-apart j out) ∙ first.others j (bit-out j out);
  bytes = λ i out. second.bytes i (byte-apart i out) ∙ first.bytes i (byte-out i out);
}
  where
    bit-apart : (j : ℕ) → (j < 8 * from) ⊎ (8 * from + (k + 1) ≤ j) → j ≡ 8 * from + k → ⊥
    bit-apart j (inl before) e = omega (arith, before, e)
    bit-apart j (inr behind) e = omega (arith, behind, e)

    bit-out : (j : ℕ) → (j < 8 * from) ⊎ (8 * from + (k + 1) ≤ j) → (j < 8 * from) ⊎ (8 * from + k ≤ j)
    bit-out j (inl before) = inl before
    bit-out j (inr behind) = inr (omega (arith, behind))

    byte-apart : (i : ℕ) → (i < from) ⊎ (from + row_size (k + 1) ≤ i) → i ≡ (8 * from + k) / 8 → ⊥
    byte-apart i (inl before) e = omega (arith, before, e)
    byte-apart i (inr behind) e = omega (arith, behind, e)

    byte-out : (i : ℕ) → (i < from) ⊎ (from + row_size (k + 1) ≤ i) → (i < from) ⊎ (from + row_size k ≤ i)
    byte-out i (inl before) = inl before
    byte-out i (inr behind) = inr (omega (arith, behind))

-- what is read into a row without a bit
pub row-read : (region cleared new : List ℕ) (from bits high : ℕ) (old : List ℕ) → length new ≡ length old → bits ≤ 8 * (high - from) → ((k : ℕ) → has_word_bit cleared k ≡ false) →
    ((k : ℕ) → has_word_bit new k ≡ (has_bit (slice_range region from high) k || has_word_bit cleared k)) → IsRowRead from bits region old new
row-read region cleared new from bits high old len few none united = record {
  len = len;
  row_is = λ k below. united k ∙ (ap (λ b. has_bit (slice_range region from high) k || b) (none k) ∙ (or-none (has_bit (slice_range region from high) k) ∙ range-bit region from high k (omega (arith, below, few))));
}
  where
    or-none : (b : Bool) → (b || false) ≡ b
    or-none true = refl
    or-none false = refl

-- What is written into a region, and what stays.
use Rattle.std.proofs.Common.{◌≡◌, ℕ, ◌+◌, ◌/◌, ◌%◌, ◌<◌, ◌≤◌, ◌-◌, Bool, List, ◌++◌, take, drop, length, get_or, slice_range, eqb, if◌then◌else◌, refl, sym, ap, ◌∙◌, inl, inr, arith, length-append, length-drop}
use Rattle.std.proofs.lemmas.List.{length-take-le, get_or_append_left, get_or-append-add, get_or-take, get_or-drop}
use Rattle.std.specs.Int.{bit_at}
use Rattle.std.proofs.Math.Seq.{drop-append-add, take-append_seam}
use Rattle.std.proofs.lemmas.Bool.{cases_eq, cases_lt, eq-eqb, ne_eqb}
use Rattle.hs_base.specs.Bits.{has_bit}
use Rattle.hs_base.proofs.RegionLemmas.{drop-drop}
use Rattle.hs_layout.specs.Layouts.{IsBitWritten, with_part}

-- after a write to `region[low..high]`
pub part-mid : (region w : List ℕ) (low high : ℕ) → low ≤ high → with_part region low high w ≡ take low region ++ (w ++ drop (high - low) (drop low region))
part-mid region w low high order =
    let e : low + (high - low) ≡ high = omega arith in
    ap (λ l. take low region ++ (w ++ l)) (sym (drop-drop low (high - low) region ∙ ap (λ n. drop n region) e))

-- a byte of the part, and one outside of it
part-byte : (region : List ℕ) (low : ℕ) (w : List ℕ) → low < length region → length w ≡ 1 → get_or (with_part region low (low + 1) w) low 0 ≡ get_or w 0 0
part-byte region low w within one =
    let size : length (take low region) ≡ low = length-take-le low region (omega arith) in
    let e : low ≡ length (take low region) + 0 = omega arith in
    ap (λ n. get_or (with_part region low (low + 1) w) n 0) e
    ∙ (get_or-append-add (take low region) (w ++ drop (low + 1) region) 0 0 ∙ get_or_append_left w (drop (low + 1) region) 0 0 (omega arith))

other-byte : (region : List ℕ) (low : ℕ) (w : List ℕ) → low < length region → length w ≡ 1 → (i : ℕ) → (i ≡ low → ⊥) → get_or (with_part region low (low + 1) w) i 0 ≡ get_or region i 0
other-byte region low w within one i apart = elim (cases_lt i low) [
  | inl before ↦
      get_or_append_left (take low region) (w ++ drop (low + 1) region) 0 i (omega (arith, size)) ∙ get_or-take low region i 0 before
  | inr behind ↦
      let k : ℕ = i - (low + 1) in
      let e : i ≡ length (take low region) + (length w + k) = omega (arith, size) in
      let e' : low + 1 + k ≡ i = omega arith in
      ap (λ n. get_or (with_part region low (low + 1) w) n 0) e
      ∙ (get_or-append-add (take low region) (w ++ drop (low + 1) region) (length w + k) 0
      ∙ (get_or-append-add w (drop (low + 1) region) k 0 ∙ (get_or-drop (low + 1) region k 0 ∙ ap (λ n. get_or region n 0) e')))
]
  where
    size : length (take low region) ≡ low
    size = length-take-le low region (omega arith)

pub range-one : (region : List ℕ) (low : ℕ) → low < length region → length (slice_range region low (low + 1)) ≡ 1
range-one region low within =
    let e : low + 1 - low ≡ 1 = omega arith in
    length-take-le (low + 1 - low) (drop low region) (omega (arith, length-drop low region)) ∙ e

pub bit-of : (xs ys : List ℕ) (j k : ℕ) → get_or xs (j / 8) 0 ≡ get_or ys (k / 8) 0 → j % 8 ≡ k % 8 → has_bit xs j ≡ has_bit ys k
unfolding has_bit
bit-of xs ys j k byte place = ap (λ n. eqb (bit_at n (j % 8)) 1) byte ∙ ap (λ n. eqb (bit_at (get_or ys (k / 8) 0) n) 1) place

-- one bit of one byte
pub written : (bit : ℕ) (value : Bool) (region w : List ℕ) → bit / 8 < length region → length w ≡ 1 →
    ((k : ℕ) → has_bit w k ≡ (if eqb k (bit % 8) then value else has_bit (slice_range region (bit / 8) (bit / 8 + 1)) k)) →
    IsBitWritten bit value region (with_part region (bit / 8) (bit / 8 + 1) w)
written bit value region w within one bits = record {
  len = omega (arith, length-append (take place region) (w ++ drop (place + 1) region), length-append w (drop (place + 1) region), length-take-le place region below, length-drop (place + 1) region);
  here = bit-of now w bit (bit % 8) (part-byte region place w within one ∙ ap (λ n. get_or w n 0) e) (omega arith) ∙ (bits (bit % 8) ∙ rw (eq-eqb (bit % 8) (bit % 8) refl) refl);
  others = others;
  bytes = λ i apart. other-byte region place w within one i apart;
}
  where
    place : ℕ
    place = bit / 8

    now : List ℕ
    now = with_part region (bit / 8) (bit / 8 + 1) w

    below : bit / 8 ≤ length region
    below = omega arith

    e : 0 ≡ bit % 8 / 8
    e = omega arith

    range-byte : get_or (slice_range region (bit / 8) (bit / 8 + 1)) 0 0 ≡ get_or region (bit / 8) 0
    range-byte =
        get_or-take (bit / 8 + 1 - bit / 8) (drop (bit / 8) region) 0 0 (omega arith)
        ∙ (get_or-drop (bit / 8) region 0 0 ∙ ap (λ n. get_or region n 0) (let f : bit / 8 + 0 ≡ bit / 8 = omega arith in f))

    others : (k : ℕ) → (k ≡ bit → ⊥) → has_bit now k ≡ has_bit region k
    others k apart = elim (cases_eq (k / 8) (bit / 8)) [
      | inl same ↦
          let zero-byte : 0 ≡ k % 8 / 8 = omega arith in
          let far : k % 8 ≡ bit % 8 → ⊥ = λ rest. apart (omega arith) in
          bit-of now w k (k % 8) (ap (λ n. get_or now n 0) same ∙ (part-byte region (bit / 8) w within one ∙ ap (λ n. get_or w n 0) zero-byte)) (omega arith)
          ∙ (bits (k % 8) ∙ (rw (ne_eqb (k % 8) (bit % 8) far) refl
          ∙ bit-of (slice_range region (bit / 8) (bit / 8 + 1)) region (k % 8) k
          (sym (ap (λ n. get_or (slice_range region (bit / 8) (bit / 8 + 1)) n 0) zero-byte) ∙ (range-byte ∙ ap (λ n. get_or region n 0) (sym same))) (omega arith)))
      | inr away ↦ bit-of now region k k (other-byte region (bit / 8) w within one (k / 8) away) refl
    ]

-- what is written reads back
pub part-reads : (region bytes : List ℕ) (low high : ℕ) → low ≤ length region → low + length bytes ≡ high →
    slice_range (with_part region low high bytes) low high ≡ bytes
part-reads region bytes low high within wide =
    let size : length (take low region) ≡ low = length-take-le low region within in
    let rest : List ℕ = bytes ++ drop high region in
    let e : high - low ≡ length bytes = omega arith in
    let e' : low ≡ length (take low region) + 0 = omega arith in
    ap (λ n. take n (drop low (take low region ++ rest))) e
    ∙ (ap (take (length bytes)) (ap (λ n. drop n (take low region ++ rest)) e' ∙ drop-append-add (take low region) rest 0)
    ∙ take-append_seam bytes (drop high region))

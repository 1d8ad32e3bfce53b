-- Bytes of a region of which parts were written.
use Rattle.std.proofs.Common.{◌≡◌, ℕ, ◌+◌, ◌-◌, ◌/◌, ◌%◌, ◌<◌, ◌≤◌, List, ◌++◌, length, get_or, take, drop, eqb, sym, ap, ◌∙◌, arith}
use Rattle.std.specs.Prelude.{slice_range}
use Rattle.std.specs.Int.{bit_at}
use Rattle.std.proofs.lemmas.List.{get_or-append-add, get_or-take, get_or-drop, length-take-le}
use Rattle.hs_base.specs.Bits.{has_bit}
use Rattle.hs_base.proofs.BitLemmas.{same-places}
use Rattle.hs_base.proofs.RegionLemmas.{get-range, range-size}
use Rattle.hs_layout.specs.Layouts.{with_part}

-- what stands behind a part stays
pub part-behind : (region bytes : List ℕ) (low high i : ℕ) → low + length bytes ≡ high → high ≤ length region → high ≤ i → get_or (with_part region low high bytes) i 0 ≡ get_or region i 0
part-behind region bytes low high i wide within above =
    let size : length (take low region) ≡ low = length-take-le low region (omega (arith, wide, within)) in
    let k : ℕ = i - high in
    let e : i ≡ length (take low region) + (length bytes + k) = omega (arith, size, wide, above) in
    let e' : high + k ≡ i = omega (arith, above) in
    ap (λ n. get_or (with_part region low high bytes) n 0) e
    ∙ (get_or-append-add (take low region) (bytes ++ drop high region) (length bytes + k) 0
    ∙ (get_or-append-add bytes (drop high region) k 0 ∙ (get_or-drop high region k 0 ∙ ap (λ n. get_or region n 0) e')))

pub range-same : (xs ys : List ℕ) (low high : ℕ) → length xs ≡ length ys → low ≤ high → high ≤ length xs → ((i : ℕ) → low ≤ i → i < high → get_or xs i 0 ≡ get_or ys i 0) → slice_range xs low high ≡ slice_range ys low high
range-same xs ys low high len order within same =
    let size : length (slice_range xs low high) ≡ high - low = range-size xs low high order within in
    same-places (slice_range xs low high) (slice_range ys low high) (size ∙ sym (range-size ys low high order (omega (arith, len, within))))
    (λ i below.
    let inner : i < high - low = omega (arith, below, size) in
    get-range xs low high i inner ∙ (same (low + i) (omega arith) (omega (arith, inner)) ∙ sym (get-range ys low high i inner)))

pub bit-same : (xs ys : List ℕ) (k : ℕ) → get_or xs (k / 8) 0 ≡ get_or ys (k / 8) 0 → has_bit xs k ≡ has_bit ys k
unfolding has_bit
bit-same xs ys k same = ap (λ n. eqb (bit_at n (k % 8)) 1) same

pub take-same : (n i : ℕ) (xs ys : List ℕ) → take n xs ≡ take n ys → i < n → get_or xs i 0 ≡ get_or ys i 0
take-same n i xs ys same below = sym (get_or-take n xs i 0 below) ∙ (ap (λ zs. get_or zs i 0) same ∙ get_or-take n ys i 0 below)

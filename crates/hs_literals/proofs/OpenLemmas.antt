-- Places that are left open, as the bits of a word, and what closed places tell.
use Rattle.std.proofs.Common.{◌≡◌, ◌≢◌, ℕ, ◌+◌, ◌-◌, ◌%◌, ◌^◌, ◌<◌, ◌≤◌, Bool, true, false, not, cond, List, ◌++◌, length, get_or, map, replicate, eqb, refl, sym, ap, ◌∙◌, subst, arith, inl, inr, eq-eqb, w8}
use Rattle.std.specs.Int.{bit_at}
use Rattle.std.specs.Simd.Lanes.{zip2, mask_l, top}
use Rattle.std.proofs.lemmas.Bool.{cases_lt, cases_eq, ne_eqb, false≢true}
use Rattle.std.proofs.lemmas.List.{get_or-map, get_or_past, length-map}
use Rattle.std.proofs.lemmas.Simd.{bitmask_splat, bit_mask_l}
use Rattle.std.proofs.lemmas.Nat.Bits.{bit_at-zero}
use Rattle.hs_base.specs.Literals.{LiteralByte}
use Rattle.hs_base.specs.LiteralEnds.{EndsAt}
use Rattle.hs_literals.specs.Masking.{HidesNone, MasksHideNone, AreFew}
use Rattle.hs_literals.specs.OpenPlaces.{AreOpenPlaces, ClosedBehind}
use Rattle.hs_bits.specs.LowestBits.{IsLowestBit, AreBitsBehind}
use Rattle.hs_literals.specs.Places.{NoneBetween}
use Rattle.hs_literals.proofs.MaskLemmas.{none_ends}

abbrev leaves_open : ℕ → Bool
leaves_open mask = not (eqb mask 255)

is_set : (m : Bool) → ◌≡◌ {A = ℕ} (cond m 1 0) 1 → m ≡ true
is_set true e = refl
is_set false e = absurd (omega arith)

open_differs : (mask : ℕ) → leaves_open mask ≡ true → mask ≢ 255
open_differs mask is same = false≢true (sym (ap not (eq-eqb mask 255 same)) ∙ is)

differing_is_open : (mask : ℕ) → mask ≢ 255 → leaves_open mask ≡ true
differing_is_open mask apart = ap not (ne_eqb mask 255 apart)

lane_bit : (masks : List ℕ) (i : ℕ) → i < length masks → bit_at (mask_l (map leaves_open masks)) i ≡ cond (leaves_open (get_or masks i 0)) 1 0
lane_bit masks i below = bit_mask_l (map leaves_open masks) i ∙ ap (λ m. cond m 1 0) (get_or-map leaves_open masks i 0 false below)

no_lane_bit : (masks : List ℕ) (i : ℕ) → length masks ≤ i → bit_at (mask_l (map leaves_open masks)) i ≡ 0
no_lane_bit masks i past = bit_mask_l (map leaves_open masks) i ∙ ap (λ m. cond m 1 0) (get_or_past (map leaves_open masks) i false (omega (arith, length-map masks leaves_open)))

-- the lanes that differ from a mask that leaves none open
pub marks_are_open : (masks : List ℕ) → length masks ≡ 64 → AreOpenPlaces masks 0 (mask_l (map (top 7) (zip2 (λ a b. cond (not (eqb a b)) 255 0) masks (replicate 64 255))) % 2 ^ 64)
marks_are_open masks long i =
    let lanes = mask_l (map (top 7) (zip2 (λ (a : ℕ) (b : ℕ). cond (not (eqb a b)) 255 0) masks (replicate 64 255))) % 2 ^ 64 in
    let are : lanes ≡ mask_l (map leaves_open masks) = bitmask_splat w8 (λ x y. not (eqb x y)) masks 64 255 long (omega arith) in
    let at : bit_at lanes i ≡ bit_at (mask_l (map leaves_open masks)) i = ap (λ n. bit_at n i) are in (
      λ set. elim (cases_lt i 64) [
        | inl below ↦ (omega arith, below, open_differs (get_or masks i 0) (is_set _ (sym (lane_bit masks i (omega arith)) ∙ sym at ∙ set)))
        | inr past ↦ absurd (omega (arith, set, at, no_lane_bit masks i (omega arith)))
      ],
      λ opened. at ∙ lane_bit masks i (omega (arith, opened.1)) ∙ ap (λ m. cond m 1 0) (differing_is_open (get_or masks i 0) opened.2),
    )

-- what is open behind the lowest place that is
pub open_behind : (masks : List ℕ) (from marks place rest : ℕ) → AreOpenPlaces masks from marks → IsLowestBit marks place → AreBitsBehind marks place rest → AreOpenPlaces masks (place + 1) rest
open_behind masks from marks place rest are is behind i =
    let here = (are place).0 is.is in (
      λ set.
          let (above, marked) = (behind i).0 set in
          let there = (are i).0 marked in
          (omega arith, there.1, there.2),
      λ opened. (behind i).1 (omega (arith, opened.0), (are i).1 (omega (arith, here.0, opened.0), opened.1, opened.2)),
    )

-- a place that is not marked is closed
pub unmarked_is_closed : (masks : List ℕ) (from marks i : ℕ) → AreOpenPlaces masks from marks → bit_at marks i ≡ 0 → from ≤ i → i < 64 → get_or masks i 0 ≡ 255
unmarked_is_closed masks from marks i are unset low high =
    elim (cases_eq (get_or masks i 0) 255) [
      | inl closed ↦ closed
      | inr opened ↦ absurd (omega (arith, unset, (are i).1 (low, high, opened)))
    ]

-- where no mark is left, all places are closed
pub unmarked_block_is_closed : (masks : List ℕ) (from marks i : ℕ) → AreOpenPlaces masks from marks → marks ≡ 0 → from ≤ i → i < 64 → get_or masks i 0 ≡ 255
unmarked_block_is_closed masks from marks i are none = unmarked_is_closed masks from marks i are (ap (λ n. bit_at n i) none ∙ bit_at-zero i)

-- where no mark is left, a later beginning has none either
pub none_open_later : (masks : List ℕ) (from later marks : ℕ) → from ≤ later → marks ≡ 0 → AreOpenPlaces masks from marks → AreOpenPlaces masks later marks
none_open_later masks from later marks order none are i = (
  λ set. absurd (omega (arith, set, ap (λ n. bit_at n i) none, bit_at-zero i)),
  λ opened. (are i).1 (omega (arith, opened.0), opened.1, opened.2),
)

-- a place that is open is one of the bytes
pub open_is_inside : (masks bytes : List ℕ) (from i : ℕ) → ClosedBehind masks bytes from → i < 64 → get_or masks i 0 ≢ 255 → from + i < length bytes
open_is_inside masks bytes from i closed below opened =
    elim (cases_lt (from + i) (length bytes)) [
      | inl inside ↦ inside
      | inr past ↦ absurd (opened (closed i below past))
    ]

-- no literal ends at closed places
pub none_between_closed : (literals : List (List LiteralByte)) (buckets history bytes masks : List ℕ) (block at to : ℕ) → AreFew buckets → length buckets ≡ length literals → MasksHideNone masks literals buckets history bytes block → block ≤ at → to ≤ block + 65 → to ≤ length bytes + 1
    → ((i : ℕ) → at - block ≤ i → block + i + 1 < to → get_or masks i 0 ≡ 255) → NoneBetween literals history bytes at to
none_between_closed literals buckets history bytes masks block at to few same hide behind near within closed end number literal low high numbered ends =
    let i = end - 1 - block in
    let there : end ≡ block + i + 1 = omega arith in
    none_ends literals buckets (history ++ bytes) (length history + (block + i + 1)) (get_or masks i 0) number literal few same (closed i (omega arith) (omega arith)) (hide i (omega arith) (omega arith)) numbered
    (subst (λ k. EndsAt literal (history ++ bytes) (length history + k)) there ends)

-- none up to a place, and none behind it, of the same literals in the same bytes
pub none_joined : (literals literals' : List (List LiteralByte)) (history history' bytes bytes' : List ℕ) (from at to : ℕ) → literals' ≡ literals → history' ≡ history → bytes' ≡ bytes → NoneBetween literals history bytes from (at + 1) → NoneBetween literals' history' bytes' at to
    → NoneBetween literals history bytes from to
none_joined literals literals' history history' bytes bytes' from at to sameLiterals sameHistory sameBytes front later =
    let behind : NoneBetween literals history bytes at to = subst (λ ls. NoneBetween ls history bytes at to) sameLiterals (subst (λ h. NoneBetween literals' h bytes at to) sameHistory (subst (λ bs. NoneBetween literals' history' bs at to) sameBytes later)) in
    λ end number literal low high numbered ends. elim (cases_lt at end) [
      | inl after ↦ behind end number literal after high numbered ends
      | inr before ↦ front end number literal low (omega arith) numbered ends
    ]

-- a mask that hides none of the same literals in the same bytes
pub hides_alike : (mask : ℕ) (literals literals' : List (List LiteralByte)) (buckets buckets' history history' bytes bytes' : List ℕ) (at : ℕ) → literals' ≡ literals → buckets' ≡ buckets → history' ≡ history → bytes' ≡ bytes
    → HidesNone mask literals' buckets' (history' ++ bytes') (length history' + at) → HidesNone mask literals buckets (history ++ bytes) (length history + at)
hides_alike mask literals literals' buckets buckets' history history' bytes bytes' at sameLiterals sameBuckets sameHistory sameBytes hides =
    subst (λ ls. HidesNone mask ls buckets (history ++ bytes) (length history + at)) sameLiterals
    (subst (λ bs. HidesNone mask literals' bs (history ++ bytes) (length history + at)) sameBuckets
    (subst (λ h. HidesNone mask literals' buckets' (h ++ bytes) (length h + at)) sameHistory
    (subst (λ bs. HidesNone mask literals' buckets' (history' ++ bs) (length history' + at)) sameBytes hides)))

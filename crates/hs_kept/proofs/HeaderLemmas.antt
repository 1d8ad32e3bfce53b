-- The header of a region, and of what is kept: what begins with the same bytes has the same one.
use Rattle.std.proofs.Common.{◌≡◌, ℕ, zero, suc, ◌+◌, ◌-◌, ◌*◌, ◌/◌, ◌%◌, ◌<◌, ◌≤◌, ◌↔◌, true, false, eqb, List, [], ◌∷◌, ◌++◌, length, take, drop, replicate, get_or, Some, slice_get, slice_range, refl, sym, ap, subst, ◌∙◌, inl, inr, arith}
use Rattle.std.specs.Prelude.{slice_index, if◌then◌else◌}
use Rattle.std.specs.Int.{bit_at, from_le_bytes, w64}
use Rattle.std.proofs.lemmas.Bool.{cases_eq, cases_lt, eq-eqb, ne_eqb}
use Rattle.std.proofs.lemmas.Grind.{same_number_lists}
use Rattle.std.proofs.lemmas.List.{drop-take, get_or-append_right, get_or-drop, get_or-replicate, get_or-take, get_or_append_left, length-replicate, length-take-le}
use Rattle.std.proofs.lemmas.Nat.{le_bytes_8}
use Rattle.std.proofs.lemmas.Option.{slice_get-get_or, slice_get_within}
use Rattle.hs_base.specs.Assertions.{is_word_byte, line_feed}
use Rattle.hs_base.specs.Bits.{has_bit}
use Rattle.hs_base.specs.Contexts.{prev_at, prev_behind, prev_by}
use Rattle.hs_base.specs.declared.context.Prev.{Prev}
use Rattle.hs_base.specs.declared.context.Prev.TheVariants as stands
use Rattle.hs_base.specs.Lists.{Each}
use Rattle.hs_base.specs.Regions.{AreBitsOf, IsHeader, IsRegion, Plan, fields_at, last_bytes, plan_fields_at, plan_here_at, plan_last_at, region_offset, told_at}
use Rattle.hs_base.proofs.BitOnceLemmas.{byte-by_bits, each-below}
use Rattle.hs_base.proofs.RegionLemmas.{get-range, range-size}
use Rattle.hs_kept.specs.KeptRegions.{IsHeaderOf}
use Rattle.hs_kept.specs.Packing.{prev_in}
use Rattle.hs_kept.proofs.PartLemmas.{range-as, range-join, take-take}

pub each-front : (n : ℕ) (xs : List ℕ) → Each (λ b. b < 256) xs → Each (λ b. b < 256) (take n xs)
each-front zero xs each = tt
each-front (suc n) [] each = tt
each-front (suc n) (x ∷ xs) each = (each.0, each-front n xs each.1)

-- Lists that begin with the same n bytes.
module _ (n : ℕ) (xs ys : List ℕ) (same : take n xs ≡ take n ys) where
  pub index-front : (i : ℕ) → i < n → get_or xs i 0 ≡ get_or ys i 0
  index-front i below = sym (get_or-take n xs i 0 below) ∙ (ap (λ zs. get_or zs i 0) same ∙ get_or-take n ys i 0 below)

  pub take-front : (m : ℕ) → m ≤ n → take m xs ≡ take m ys
  take-front m low =
      let e : m + (n - m) ≡ n = omega arith in
      sym (take-take m (n - m) xs) ∙ (ap (λ k. take m (take k xs)) e ∙ (ap (take m) same ∙ (ap (λ k. take m (take k ys)) (sym e) ∙ take-take m (n - m) ys)))

  pub range-front : (a b : ℕ) → a ≤ b → b ≤ n → slice_range xs a b ≡ slice_range ys a b
  range-front a b order low =
      let e : a + (b - a) ≡ b = omega arith in
      sym (drop-take a (b - a) xs)
      ∙ (ap (λ k. drop a (take k xs)) e ∙ (ap (drop a) (take-front b low) ∙ (ap (λ k. drop a (take k ys)) (sym e) ∙ drop-take a (b - a) ys)))

  pub bit-front : (k : ℕ) → k < 8 * n → has_bit xs k ≡ has_bit ys k
  unfolding has_bit
  bit-front k below = ap (λ b. eqb (bit_at b (k % 8)) 1) (index-front (k / 8) (omega arith))

  pub offset-front : 8 ≤ n → region_offset xs ≡ region_offset ys
  offset-front low = ap (from_le_bytes w64) (take-front 8 low)

  bits-front : (from end : ℕ) (ids : List ℕ) (Has : ℕ → Type 0) → end ≡ from + (length ids + 7) / 8 → end ≤ n → AreBitsOf xs from end ids Has → AreBitsOf ys from end ids Has
  bits-front from end ids Has wide low are = record {
    each = λ i id there.
        let within : i < length ids = slice_get_within ids i id there in
        let e : has_bit xs (8 * from + i) ≡ has_bit ys (8 * from + i) = bit-front (8 * from + i) (omega arith) in
        (λ is. (are.each i id there).0 (e ∙ is), λ has. sym e ∙ (are.each i id there).1 has);
    spare = λ k past below. sym (bit-front k (omega arith)) ∙ are.spare k past below;
  }

  pub header-front : (singles identifiers : ℕ) → fields_at singles identifiers ≤ n → IsHeader singles identifiers xs → IsHeader singles identifiers ys
  header-front singles identifiers low is =
      let e : region_offset xs ≡ region_offset ys = offset-front (omega arith) in
      record {
        offset = omega (arith, is.offset);
        history = λ i early. sym (index-front (8 + i) (omega arith)) ∙ is.history i (omega arith);
        told = λ k past below. sym (bit-front k (omega arith)) ∙ is.told k past below;
        here = λ k past below. sym (bit-front k (omega arith)) ∙ is.here k past below;
        last = λ k past below. sym (bit-front k (omega arith)) ∙ is.last k past below;
      }

  module _ (plan : Plan) (u : List ℕ) where
    pub header_of-front : plan_fields_at plan ≤ n → IsHeaderOf plan u xs → IsHeaderOf plan u ys
    header_of-front low is = record {
      within = is.within;
      offset = sym (offset-front (omega arith)) ∙ is.offset;
      history = sym (range-front 8 72 (omega arith) (omega arith)) ∙ is.history;
      told = bits-front told_at (plan_here_at plan) plan.singles _ refl (omega arith) is.told;
      here = bits-front (plan_here_at plan) (plan_last_at plan) plan.identifiers _ refl (omega arith) is.here;
      last = bits-front (plan_last_at plan) (plan_fields_at plan) plan.identifiers _ refl (omega arith) is.last;
    }

-- The header of a region's stream.
pub header-of_region : (plan : Plan) (u region : List ℕ) → IsRegion plan u region → IsHeaderOf plan u region
header-of_region plan u region is =
    record { within = is.within; offset = is.offset; history = is.history; told = is.told; here = is.here; last = is.last }

early-zero : (n : ℕ) (u : List ℕ) (i : ℕ) → i + length u < n → get_or (last_bytes n u) i 0 ≡ 0
early-zero n u i below =
    get_or-drop (length u) (replicate n 0 ++ u) i 0
    ∙ (get_or_append_left (replicate n 0) u 0 (length u + i) (omega (arith, length-replicate {A = ℕ} n 0))
    ∙ get_or-replicate n (length u + i) 0 0 (omega arith))

pub header-well : (plan : Plan) (u xs : List ℕ) → IsHeaderOf plan u xs → IsHeader (length plan.singles) (length plan.identifiers) xs
header-well plan u xs is = record {
  offset = omega (arith, is.offset, is.within);
  history = λ i below.
      let early : i + length u < 64 = omega (arith, is.offset) in
      let inner : i < 72 - 8 = omega arith in
      sym (get-range xs 8 72 i inner) ∙ (ap (λ zs. get_or zs i 0) is.history ∙ early-zero 64 u i early);
  told = λ k past below. is.told.spare k past below;
  here = λ k past below. is.here.spare k past below;
  last = λ k past below. is.last.spare k past below;
}

-- What stands before the next byte.

prev-choose : (n : ℕ) (p q : Prev) → (n ≡ 0 → p ≡ stands.Start) → (0 < n → p ≡ q) → (if eqb n 0 then stands.Start else q) ≡ p
prev-choose n p q none some = elim (cases_eq n 0) [
  | inl is ↦ let e : eqb n 0 ≡ true = eq-eqb n 0 is in rw e (sym (none is))
  | inr isnt ↦ let e : eqb n 0 ≡ false = ne_eqb n 0 isnt in rw e (sym (some (omega arith)))
]

prev-none : (u : List ℕ) (n : ℕ) → n ≡ 0 → prev_at u n ≡ stands.Start
unfolding prev_at
prev-none u n is = ap (prev_at u) is

prev-some : (u : List ℕ) (n b : ℕ) → slice_get u n ≡ Some b → prev_at u (suc n) ≡ prev_by (eqb b line_feed) (is_word_byte b)
unfolding prev_at
prev-some u n b there = ap prev_behind there

last-byte : (u : List ℕ) (n : ℕ) → suc n ≡ length u → get_or (last_bytes 64 u) 63 0 ≡ get_or u n 0
last-byte u n is =
    let e : (length u + 63) - 64 ≡ n = omega arith in
    get_or-drop (length u) (replicate 64 0 ++ u) 63 0
    ∙ (get_or-append_right (replicate 64 0) u 64 (length u + 63) 0 (length-replicate {A = ℕ} 64 0) (omega arith) ∙ ap (λ k. get_or u k 0) e)

pub prev-in : (plan : Plan) (u region : List ℕ) → IsHeaderOf plan u region → prev_in region ≡ prev_at u (length u)
prev-in plan u region is =
    prev-choose (region_offset region) (prev_at u (length u)) (prev_by (eqb (slice_index region 71) line_feed) (is_word_byte (slice_index region 71)))
    (λ none. prev-none u (length u) (sym is.offset ∙ none))
    (λ some. behind (omega (arith, is.offset)))
  where
    behind : 0 < length u → prev_at u (length u) ≡ prev_by (eqb (slice_index region 71) line_feed) (is_word_byte (slice_index region 71))
    behind some =
        let n : ℕ = length u - 1 in
        let e : suc n ≡ length u = omega arith in
        let b : ℕ = get_or u n 0 in
        let there : slice_get u n ≡ Some b = slice_get-get_or u n 0 (omega arith) in
        let same : b ≡ slice_index region 71 = sym (last-byte u n e) ∙ (sym (ap (λ zs. get_or zs 63 0) is.history) ∙ get-range region 8 72 63 (omega arith)) in
        sym (ap (prev_at u) e) ∙ (prev-some u n b there ∙ ap (λ b. prev_by (eqb b line_feed) (is_word_byte b)) same)

-- A stream has one header.

-- lists part by part
pub join-front : (xs ys : List ℕ) (low high : ℕ) → low ≤ high → take low xs ≡ take low ys → slice_range xs low high ≡ slice_range ys low high → take high xs ≡ take high ys
join-front xs ys low high order before part = whole xs ∙ (ap (λ zs. zs ++ slice_range xs low high) before ∙ (ap (λ zs. take low ys ++ zs) part ∙ sym (whole ys)))
  where
    whole : (zs : List ℕ) → take high zs ≡ take low zs ++ slice_range zs low high
    whole zs =
        sym (range-as zs 0 high high (omega arith))
        ∙ (range-join zs 0 low high (omega arith) order ∙ ap (λ ys. ys ++ slice_range zs low high) (range-as zs 0 low low (omega arith)))

bits-alike : (xs ys : List ℕ) (from end : ℕ) (ids : List ℕ) (Has : ℕ → Type 0) → AreBitsOf xs from end ids Has → AreBitsOf ys from end ids Has →
    (k : ℕ) → 8 * from ≤ k → k < 8 * end → (has_bit xs k ≡ true) ↔ (has_bit ys k ≡ true)
bits-alike xs ys from end ids Has are other k above below = elim (cases_lt (k - 8 * from) (length ids)) [
  | inl within ↦
      let i : ℕ = k - 8 * from in
      let e : 8 * from + i ≡ k = omega arith in
      let there : slice_get ids i ≡ Some (get_or ids i 0) = slice_get-get_or ids i 0 within in
      let a = are.each i (get_or ids i 0) there in
      let b = other.each i (get_or ids i 0) there in
      subst (λ n. (has_bit xs n ≡ true) ↔ (has_bit ys n ≡ true)) e (λ is. b.1 (a.0 is), λ is. a.1 (b.0 is))
  | inr past ↦
      let past2 : 8 * from + length ids ≤ k = omega arith in
      let a : has_bit xs k ≡ has_bit ys k = are.spare k past2 below ∙ sym (other.spare k past2 below) in
      (λ is. sym a ∙ is, λ is. a ∙ is)
]

module _ (xs ys : List ℕ) (each : Each (λ b. b < 256) xs) (each2 : Each (λ b. b < 256) ys) (n : ℕ) (within : n ≤ length xs) (within2 : n ≤ length ys) where
  next-row : (from end : ℕ) (ids : List ℕ) (Has : ℕ → Type 0) → AreBitsOf xs from end ids Has → AreBitsOf ys from end ids Has → from ≤ end → end ≤ n →
      take from xs ≡ take from ys → take end xs ≡ take end ys
  next-row from end ids Has are other order low before =
      let size : length (slice_range xs from end) ≡ end - from = range-size xs from end order (omega arith) in
      let size2 : length (slice_range ys from end) ≡ end - from = range-size ys from end order (omega arith) in
      join-front xs ys from end order before
      (same_number_lists (slice_range xs from end) (slice_range ys from end) (size ∙ sym size2)
      (λ i below.
      let inner : i < end - from = omega arith in
      get-range xs from end i inner
      ∙ (byte-by_bits xs ys each each2 (from + i) (λ j low_bit. bits-alike xs ys from end ids Has are other (8 * (from + i) + j) (omega arith) (omega arith))
      ∙ sym (get-range ys from end i inner))))

  take-each : (zs : List ℕ) → Each (λ b. b < 256) zs → (m i : ℕ) → get_or (take m zs) i 0 < 256
  take-each zs small m i = each-below (take m zs) (each-front m zs small) i

  same-offset : 8 ≤ n → region_offset xs ≡ region_offset ys → take 8 xs ≡ take 8 ys
  same-offset low same =
      sym (le_bytes_8 (take 8 xs) (region_offset xs) (length-take-le 8 xs (omega arith)) (take-each xs each 8) refl)
      ∙ le_bytes_8 (take 8 ys) (region_offset xs) (length-take-le 8 ys (omega arith)) (take-each ys each2 8) same

  pub header-once : (plan : Plan) (u : List ℕ) → plan_fields_at plan ≤ n → IsHeaderOf plan u xs → IsHeaderOf plan u ys → take (plan_fields_at plan) xs ≡ take (plan_fields_at plan) ys
  header-once plan u low is other =
      next-row (plan_last_at plan) (plan_fields_at plan) plan.identifiers _ is.last other.last (omega arith) (omega arith)
      (next-row (plan_here_at plan) (plan_last_at plan) plan.identifiers _ is.here other.here (omega arith) (omega arith)
      (next-row told_at (plan_here_at plan) plan.singles _ is.told other.told (omega arith) (omega arith)
      (join-front xs ys 8 72 (omega arith) (same-offset (omega arith) (is.offset ∙ sym other.offset)) (is.history ∙ sym other.history))))

-- The region of a stream: there is one, and it is well formed.
use Rattle.std.proofs.Common.{◌≡◌, ℕ, zero, suc, ◌+◌, ◌-◌, ◌*◌, ◌<◌, ◌≤◌, ◌⊎◌, ◌↔◌, true, false, List, [], ◌∷◌, ◌++◌, length, map, take, drop, replicate, get_or, Some, slice_get, slice_range, refl, sym, ap, subst, ◌∙◌, inl, inr, arith, length-append, length-drop, append_assoc}
use Rattle.std.specs.Int.{to_le_bytes, w64}
use Rattle.std.specs.Option.{option_map}
use Rattle.std.proofs.lemmas.Bool.{cases_lt}
use Rattle.std.proofs.lemmas.Nat.{le_bytes_8}
use Rattle.std.proofs.lemmas.Option.{slice_get-get_or, slice_get-map}
use Rattle.std.proofs.lemmas.Grind.{same_number_lists}
use Rattle.std.proofs.lemmas.List.{length-take-le, get_or-take, get_or-drop, get_or_append_left, get_or-replicate, length-replicate, drop-append-le}
use Rattle.std.proofs.Math.Seq.{take-length}
use Rattle.hs_base.specs.Lists.{Each}
use Rattle.hs_base.specs.Bits.{has_bit}
use Rattle.hs_base.specs.KeptPieces.{IsFieldAt}
use Rattle.hs_base.specs.Regions.{Place, Plan, list_places, place_form, place_size, told_at, fields_at, region_offset, last_bytes, AreBitsOf, plan_starts, plan_size, plan_here_at, plan_last_at, plan_fields_at, IsPlaced, IsRegion, IsWellFormed}
use Rattle.hs_base.proofs.SumLemmas.{sums-first, sums-next, sums-size, sums-above}
use Rattle.hs_base.proofs.BitOnceLemmas.{byte-by_bits, each-below}
use Rattle.hs_base.proofs.KeptLemmas.{fields-once, fields-at}

-- Where the fields begin.

get-there : {A : Type 0} (xs : List A) (k : ℕ) → k < length xs → (x : A) × (slice_get xs k ≡ Some x)
get-there [] k below = absurd (omega arith)
get-there (x ∷ xs) zero below = (x, refl)
get-there (x ∷ xs) (suc k) below = get-there xs k (omega arith)

some-same : (x y : ℕ) → ◌≡◌ (Some x) (Some y) → x ≡ y
some-same x y same = cc

map-size : {A : Type 0} (f : A → ℕ) (xs : List A) → length (map f xs) ≡ length xs
map-size f [] = refl
map-size f (x ∷ xs) = ap (λ n. suc n) (map-size f xs)

-- where a piece's field is
pub placed-end : (plan : Plan) (k low high : ℕ) (p : Place) → IsPlaced plan k p low high → high ≡ low + place_size p
placed-end plan k low high p placed =
    let size : slice_get (map place_size (list_places plan)) k ≡ Some (place_size p) =
    slice_get-map place_size (list_places plan) k ∙ ap (option_map place_size) placed.piece in
    some-same high (low + place_size p)
    (sym placed.end ∙ sums-next (fields_at (length plan.singles) (length plan.identifiers)) (map place_size (list_places plan)) k low (place_size p) placed.begin size)

-- Lists part by part.

next-part : (xs ys : List ℕ) (low high : ℕ) → low ≤ high → high ≤ length xs → high ≤ length ys → take low xs ≡ take low ys →
    slice_range xs low high ≡ slice_range ys low high → take high xs ≡ take high ys
next-part xs ys low high order within within' before part =
    same_number_lists (take high xs) (take high ys) (length-take-le high xs within ∙ sym (length-take-le high ys within'))
    (λ k below.
    let low' : k < high = omega (arith, length-take-le high xs within) in
    get_or-take high xs k 0 low' ∙ (by k low' (cases_lt k low) ∙ sym (get_or-take high ys k 0 low')))
  where
    inside : (zs : List ℕ) (i : ℕ) → i < high - low → get_or (slice_range zs low high) i 0 ≡ get_or zs (low + i) 0
    inside zs i below = get_or-take (high - low) (drop low zs) i 0 below ∙ get_or-drop low zs i 0

    by : (k : ℕ) → k < high → (k < low) ⊎ (low ≤ k) → get_or xs k 0 ≡ get_or ys k 0
    by k below (inl first) =
        sym (get_or-take low xs k 0 first) ∙ (ap (λ zs. get_or zs k 0) before ∙ get_or-take low ys k 0 first)
    by k below (inr behind) =
        let e : low + (k - low) ≡ k = omega arith in
        let inner : k - low < high - low = omega arith in
        sym (ap (λ n. get_or xs n 0) e)
        ∙ (sym (inside xs (k - low) inner) ∙ (ap (λ zs. get_or zs (k - low) 0) part ∙ (inside ys (k - low) inner ∙ ap (λ n. get_or ys n 0) e)))

pub get-range : (xs : List ℕ) (low high i : ℕ) → i < high - low → get_or (slice_range xs low high) i 0 ≡ get_or xs (low + i) 0
get-range xs low high i below = get_or-take (high - low) (drop low xs) i 0 below ∙ get_or-drop low xs i 0

pub range-size : (xs : List ℕ) (low high : ℕ) → low ≤ high → high ≤ length xs → length (slice_range xs low high) ≡ high - low
range-size xs low high order within = length-take-le (high - low) (drop low xs) (omega (arith, length-drop low xs))

same-range : (xs ys : List ℕ) (low high : ℕ) → low ≤ high → high ≤ length xs → high ≤ length ys →
    ((k : ℕ) → low ≤ k → k < high → get_or xs k 0 ≡ get_or ys k 0) → slice_range xs low high ≡ slice_range ys low high
same-range xs ys low high order within within' same =
    same_number_lists (slice_range xs low high) (slice_range ys low high) (range-size xs low high order within ∙ sym (range-size ys low high order within'))
    (λ i below.
    let inner : i < high - low = omega (arith, range-size xs low high order within) in
    get-range xs low high i inner ∙ (same (low + i) (omega arith) (omega arith) ∙ sym (get-range ys low high i inner)))

-- Bits for the members of a list.

bits-alike : (xs ys : List ℕ) (from end : ℕ) (ids : List ℕ) (Has : ℕ → Type 0) → AreBitsOf xs from end ids Has → AreBitsOf ys from end ids Has →
    (k : ℕ) → 8 * from ≤ k → k < 8 * end → (has_bit xs k ≡ true) ↔ (has_bit ys k ≡ true)
bits-alike xs ys from end ids Has are are' k above below = elim (cases_lt (k - 8 * from) (length ids)) [
  | inl within ↦
      let i : ℕ = k - 8 * from in
      let e : 8 * from + i ≡ k = omega arith in
      let there : slice_get ids i ≡ Some (get_or ids i 0) = slice_get-get_or ids i 0 within in
      let a = are.each i (get_or ids i 0) there in
      let b = are'.each i (get_or ids i 0) there in
      subst (λ n. (has_bit xs n ≡ true) ↔ (has_bit ys n ≡ true)) e (λ is. b.1 (a.0 is), λ is. a.1 (b.0 is))
  | inr past ↦
      let past' : 8 * from + length ids ≤ k = omega arith in
      let a : has_bit xs k ≡ false = are.spare k past' below in
      let b : has_bit ys k ≡ false = are'.spare k past' below in
      (λ is. absurd (let e : true ≡ false = sym is ∙ a in cc), λ is. absurd (let e : true ≡ false = sym is ∙ b in cc))
]

row-alike : (xs ys : List ℕ) → Each (λ b. b < 256) xs → Each (λ b. b < 256) ys → (from end : ℕ) (ids : List ℕ) (Has : ℕ → Type 0) →
    AreBitsOf xs from end ids Has → AreBitsOf ys from end ids Has → from ≤ end → end ≤ length xs → end ≤ length ys → slice_range xs from end ≡ slice_range ys from end
row-alike xs ys each each' from end ids Has are are' order within within' =
    same-range xs ys from end order within within'
    (λ k low high. byte-by_bits xs ys each each' k (λ i below. bits-alike xs ys from end ids Has are are' (8 * k + i) (omega arith) (omega arith)))

-- A history has one region.

take-bytes : (xs : List ℕ) → Each (λ b. b < 256) xs → (n i : ℕ) → get_or (take n xs) i 0 < 256
take-bytes xs each n i = each-below (take n xs) (each-take n xs each) i
  where
    each-take : (n : ℕ) (xs : List ℕ) → Each (λ b. b < 256) xs → Each (λ b. b < 256) (take n xs)
    each-take zero xs each = tt
    each-take (suc n) [] each = tt
    each-take (suc n) (x ∷ xs) each = (each.0, each-take n xs each.1)

offset-bytes : (xs : List ℕ) (n : ℕ) → Each (λ b. b < 256) xs → 8 ≤ length xs → region_offset xs ≡ n → to_le_bytes w64 n ≡ take 8 xs
offset-bytes xs n each within is = le_bytes_8 (take 8 xs) n (length-take-le 8 xs within) (take-bytes xs each 8) (sym is)

module _ (plan : Plan) where
  pub size-above : (k low : ℕ) → slice_get (plan_starts plan) k ≡ Some low → low ≤ plan_size plan
  size-above k low begin = sums-above (plan_fields_at plan) (map place_size (list_places plan)) k low begin

  pub fields-within : plan_fields_at plan ≤ plan_size plan
  fields-within = size-above 0 (plan_fields_at plan) (sums-first (plan_fields_at plan) (map place_size (list_places plan)))

  module _ (u xs ys : List ℕ) (is : IsRegion plan u xs) (is' : IsRegion plan u ys) where
    within-x : (n : ℕ) → n ≤ plan_size plan → n ≤ length xs
    within-x n low = omega (arith, is.len)

    within-y : (n : ℕ) → n ≤ plan_size plan → n ≤ length ys
    within-y n low = omega (arith, is'.len)

    header-below : (n : ℕ) → n ≤ plan_fields_at plan → n ≤ plan_size plan
    header-below n low = let e : plan_fields_at plan ≤ plan_size plan = fields-within in omega arith

    same-offset : take 8 xs ≡ take 8 ys
    same-offset =
        let low : 8 ≤ plan_size plan = header-below 8 (omega arith) in
        sym (offset-bytes xs (length u) is.bytes (within-x 8 low) is.offset) ∙ offset-bytes ys (length u) is'.bytes (within-y 8 low) is'.offset

    same-history : take 72 xs ≡ take 72 ys
    same-history =
        let low : 72 ≤ plan_size plan = header-below 72 (omega arith) in
        next-part xs ys 8 72 (omega arith) (within-x 72 low) (within-y 72 low) same-offset (is.history ∙ sym is'.history)

    next-row : (from end : ℕ) (ids : List ℕ) (Has : ℕ → Type 0) → AreBitsOf xs from end ids Has → AreBitsOf ys from end ids Has → from ≤ end → end ≤ plan_fields_at plan →
        take from xs ≡ take from ys → take end xs ≡ take end ys
    next-row from end ids Has are are' order low before =
        let inside : end ≤ plan_size plan = header-below end low in
        next-part xs ys from end order (within-x end inside) (within-y end inside) before
        (row-alike xs ys is.bytes is'.bytes from end ids Has are are' order (within-x end inside) (within-y end inside))

    same-header : take (plan_fields_at plan) xs ≡ take (plan_fields_at plan) ys
    same-header =
        next-row (plan_last_at plan) (plan_fields_at plan) plan.identifiers _ is.last is'.last (omega arith) (omega arith)
        (next-row (plan_here_at plan) (plan_last_at plan) plan.identifiers _ is.here is'.here (omega arith) (omega arith)
        (next-row told_at (plan_here_at plan) plan.singles _ is.told is'.told (omega arith) (omega arith) same-history))

    same-fields : (k low : ℕ) → k ≤ length (list_places plan) → slice_get (plan_starts plan) k ≡ Some low → take low xs ≡ take low ys
    same-fields zero low below begin =
        let e : plan_fields_at plan ≡ low = some-same (plan_fields_at plan) low (sym (sums-first (plan_fields_at plan) (map place_size (list_places plan))) ∙ begin) in
        subst (λ n. take n xs ≡ take n ys) e same-header
    same-fields (suc k) high below end =
        let (p, piece) = get-there (list_places plan) k (omega arith) in
        let count : length (plan_starts plan) ≡ suc (length (map place_size (list_places plan))) = sums-size (plan_fields_at plan) (map place_size (list_places plan)) in
        let (low, begin) = get-there (plan_starts plan) k (omega (arith, map-size place_size (list_places plan))) in
        let placed : IsPlaced plan k p low high = record { piece = piece; begin = begin; end = end } in
        let wide : high ≡ low + place_size p = placed-end plan k low high p placed in
        let inside : high ≤ plan_size plan = size-above (suc k) high end in
        next-part xs ys low high (omega arith) (within-x high inside) (within-y high inside) (same-fields k low (omega arith) begin)
        (fields-once (place_form p) p.pieces (slice_range xs low high) (slice_range ys low high) u (is.fields k low high p placed) (is'.fields k low high p placed))

    pub regions-once : xs ≡ ys
    regions-once =
        let n : ℕ = length (list_places plan) in
        let sizes : length (map place_size (list_places plan)) ≡ n = map-size place_size (list_places plan) in
        let count : length (plan_starts plan) ≡ suc (length (map place_size (list_places plan))) = sums-size (plan_fields_at plan) (map place_size (list_places plan)) in
        let end : slice_get (plan_starts plan) (length (map place_size (list_places plan))) ≡ Some (plan_size plan) =
        slice_get-get_or (plan_starts plan) (length (map place_size (list_places plan))) 0 (omega arith) in
        let whole : take (plan_size plan) xs ≡ take (plan_size plan) ys =
        same-fields (length (map place_size (list_places plan))) (plan_size plan) (omega arith) end in
        sym (take-length xs) ∙ (ap (λ m. take m xs) is.len ∙ (whole ∙ (ap (λ m. take m ys) (sym is'.len) ∙ take-length ys)))

-- It is well formed.

early-zero : (n : ℕ) (u : List ℕ) (i : ℕ) → i + length u < n → get_or (last_bytes n u) i 0 ≡ 0
early-zero n u i below =
    get_or-drop (length u) (replicate n 0 ++ u) i 0
    ∙ (get_or_append_left (replicate n 0) u 0 (length u + i) (omega (arith, length-replicate {A = ℕ} n 0))
    ∙ get_or-replicate n (length u + i) 0 0 (omega arith))

module _ (plan : Plan) (u region : List ℕ) (is : IsRegion plan u region) where
  pub regions-well : IsWellFormed plan region
  regions-well = record {
    len = is.len;
    bytes = is.bytes;
    header = record {
      offset = omega (arith, is.offset, is.within);
      history = λ i below.
          let early : i + length u < 64 = omega (arith, is.offset) in
          let inner : i < 72 - 8 = omega arith in
          sym (get-range region 8 72 i inner) ∙ (ap (λ zs. get_or zs i 0) is.history ∙ early-zero 64 u i early);
      told = λ k past below. is.told.spare k past below;
      here = λ k past below. is.here.spare k past below;
      last = λ k past below. is.last.spare k past below;
    };
    fields = λ k low high p placed.
        subst (IsFieldAt (place_form p) (slice_range region low high)) (sym is.offset)
        (fields-at (place_form p) p.pieces (slice_range region low high) u (is.fields k low high p placed)).1;
  }

-- The history goes on.

drop-none : (n : ℕ) (xs : List ℕ) → length xs ≡ 0 → drop n xs ≡ xs
drop-none zero xs no_bytes = refl
drop-none (suc n) [] no_bytes = refl
drop-none (suc n) (x ∷ xs) no_bytes = absurd (omega arith)

pub drop-drop : (m n : ℕ) (xs : List ℕ) → drop n (drop m xs) ≡ drop (m + n) xs
drop-drop zero n xs = let e : n ≡ zero + n = omega arith in ap (λ k. drop k xs) e
drop-drop (suc m) n [] = drop-none n [] refl ∙ sym (drop-none (suc m + n) [] refl)
drop-drop (suc m) n (x ∷ xs) =
    let e : suc (m + n) ≡ suc m + n = omega arith in
    drop-drop m n xs ∙ ap (λ k. drop k (x ∷ xs)) e

pub last_bytes-follow : (n : ℕ) (u v : List ℕ) → last_bytes n (u ++ v) ≡ drop (length v) (last_bytes n u ++ v)
last_bytes-follow n u v =
    let zeros : List ℕ = replicate n 0 in
    let low : length u ≤ length (zeros ++ u) = omega (arith, length-append zeros u) in
    ap (λ k. drop k (zeros ++ (u ++ v))) (length-append u v)
    ∙ (sym (drop-drop (length u) (length v) (zeros ++ (u ++ v)))
    ∙ ap (drop (length v)) (ap (drop (length u)) (sym (append_assoc zeros u v)) ∙ drop-append-le (length u) (zeros ++ u) v low))

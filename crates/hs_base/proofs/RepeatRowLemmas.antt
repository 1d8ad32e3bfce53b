-- The rows of repeats: a history has one, and it may stand where the history ends.
use Rattle.std.proofs.Common.{◌≡◌, ℕ, zero, suc, ◌+◌, ◌*◌, ◌/◌, ◌%◌, ◌<◌, ◌≤◌, Bool, true, false, List, [], length, get_or, refl, sym, ap, ◌∙◌, inl, inr, arith}
use Rattle.std.specs.Prelude.{min}
use Rattle.std.proofs.Math.Nat.{mod-le, mod-lt}
use Rattle.hs_base.specs.Bits.{AreZero, has_bit}
use Rattle.hs_base.specs.RepeatRows.{IsAway, IsDistanceAt, IsFirstDistance, IsHeld, IsLastDistance, IsRingAt, IsRingRow, distance_of}
use Rattle.hs_base.specs.RepeatRows.IsFirstDistance.{none as first_none, some as first_some}
use Rattle.hs_base.specs.RepeatRows.IsLastDistance.{none as last_none, some as last_some}
use Rattle.hs_base.proofs.BitLemmas.{same-places, same-told}

denied : (b : Bool) → (b ≡ true → ⊥) → b ≡ false
denied true isnt = absurd (isnt refl)
denied false isnt = refl

-- a distance in two bytes

two : (xs ys : List ℕ) → get_or xs 0 0 ≡ get_or ys 0 0 → get_or xs 1 0 ≡ get_or ys 1 0 → length xs ≡ 2 → (i : ℕ) → i < length xs → get_or xs i 0 ≡ get_or ys i 0
two xs ys low high len zero below = low
two xs ys low high len (suc zero) below = high
two xs ys low high len (suc (suc i)) below = absurd (omega arith)

pub same-distance : (xs ys : List ℕ) → length xs ≡ 2 → length ys ≡ 2 → ((i : ℕ) → i < length xs → get_or xs i 0 < 256) → ((i : ℕ) → i < length ys → get_or ys i 0 < 256) →
    distance_of xs ≡ distance_of ys → xs ≡ ys
same-distance xs ys len len' small small' same =
    let x0 : get_or xs 0 0 < 256 = small 0 (omega (arith, len)) in
    let x1 : get_or xs 1 0 < 256 = small 1 (omega (arith, len)) in
    let y0 : get_or ys 0 0 < 256 = small' 0 (omega (arith, len')) in
    let y1 : get_or ys 1 0 < 256 = small' 1 (omega (arith, len')) in
    let low : get_or xs 0 0 ≡ get_or ys 0 0 = omega arith in
    let high : get_or xs 1 0 ≡ get_or ys 1 0 = omega arith in
    same-places xs ys (len ∙ sym len') (two xs ys low high len)

pub zero-distance : (xs : List ℕ) → length xs ≡ 2 → AreZero xs → distance_of xs ≡ 0
zero-distance xs len zeros =
    let low : get_or xs 0 0 ≡ 0 = zeros 0 (omega (arith, len)) in
    let high : get_or xs 1 0 ≡ 0 = zeros 1 (omega (arith, len)) in
    omega arith

zeros-at : (xs : List ℕ) → length xs ≡ 2 → distance_of xs ≡ 0 → (i : ℕ) → i < length xs → get_or xs i 0 ≡ 0
zeros-at xs len none zero below = omega arith
zeros-at xs len none (suc zero) below = omega arith
zeros-at xs len none (suc (suc i)) below = absurd (omega arith)

pub distance-zero : (xs : List ℕ) → length xs ≡ 2 → distance_of xs ≡ 0 → AreZero xs
distance-zero xs len none = zeros-at xs len none

-- the farthest distance

pub first-once : (n : ℕ) (Away : ℕ → Type 0) (v w : ℕ) → IsFirstDistance n Away v → IsFirstDistance n Away w → v ≡ w
first-once n Away v w (first_none zeros nothing) (first_none zeros' nothing') = zeros ∙ sym zeros'
first-once n Away v w (first_none zeros nothing) (first_some far greatest equal) = absurd (nothing far greatest.holds)
first-once n Away v w (first_some far greatest equal) (first_none zeros nothing) = absurd (nothing far greatest.holds)
first-once n Away v w (first_some far greatest equal) (first_some far' greatest' equal') =
    let one : far' ≤ far = greatest.greatest far' greatest'.holds in
    let other : far ≤ far' = greatest'.greatest far greatest.holds in
    let same : far ≡ far' = omega arith in
    equal ∙ (ap (min n) same ∙ sym equal')

pub first-within : (n : ℕ) (set : List Bool) (u : List ℕ) (entered : List Bool) (v : ℕ) → IsFirstDistance n (IsAway set u entered) v → IsDistanceAt n v (length u)
first-within n set u entered v (first_none zeros nothing) = record { bounded = omega arith; within = omega arith }
first-within n set u entered v (first_some far greatest equal) =
    let ends = greatest.holds.ends in
    record { bounded = omega arith; within = omega arith }

-- the nearest distance

pub last-once : (m : ℕ) (Away : ℕ → Type 0) (v w : ℕ) → IsLastDistance m Away v → IsLastDistance m Away w → v ≡ w
last-once m Away v w (last_none zeros nothing) (last_none zeros' nothing') = zeros ∙ sym zeros'
last-once m Away v w (last_none zeros nothing) (last_some near within) = absurd (nothing w near.holds within)
last-once m Away v w (last_some near within) (last_none zeros nothing) = absurd (nothing v near.holds within)
last-once m Away v w (last_some near within) (last_some near' within') =
    let one : v ≤ w = near.least w near'.holds in
    let other : w ≤ v = near'.least v near.holds in
    omega arith

pub last-within : (m : ℕ) (set : List Bool) (u : List ℕ) (entered : List Bool) (v : ℕ) → IsLastDistance m (IsAway set u entered) v → IsDistanceAt m v (length u)
last-within m set u entered v (last_none zeros nothing) = record { bounded = omega arith; within = omega arith }
last-within m set u entered v (last_some near within) =
    let ends = near.holds.ends in
    record { bounded = within; within = omega arith }

-- the bits of the last offsets

pub ring-once : (m : ℕ) (set : List Bool) (u : List ℕ) (entered : List Bool) (xs ys : List ℕ) → length xs ≡ length ys → ((i : ℕ) → i < length xs → get_or xs i 0 < 256) → ((i : ℕ) → i < length ys → get_or ys i 0 < 256) →
    IsRingRow m set xs u entered → IsRingRow m set ys u entered → xs ≡ ys
ring-once m set u entered = same-told (IsHeld m set u entered)

pub ring-within : (m : ℕ) (set : List Bool) (u : List ℕ) (entered : List Bool) (bytes : List ℕ) → IsRingRow m set bytes u entered → IsRingAt m bytes (length u)
ring-within m set u entered bytes row = record {
  spare = λ k above. denied (has_bit bytes k) (λ is. let (low, _) = places k is in omega arith);
  early = λ k above. denied (has_bit bytes k) (λ is. let (_, short) = places k is in omega arith);
} where
  places : (k : ℕ) → has_bit bytes k ≡ true → (k < m) × (k < length u)
  places k is =
      let held : IsHeld m set u entered k = (row k).0 is in
      let before : held.from < length u = held.unbroken.before in
      let recent : length u ≤ held.from + m = held.recent in
      let some : 0 < m = omega arith in
      let place : held.from % m ≡ k = held.place in
      let under : held.from % m < m = mod-lt held.from some in
      let low : held.from % m ≤ held.from = mod-le held.from m in
      (omega arith, omega arith)

-- The sums of the first numbers of a list: where parts of these sizes begin, one behind the other.
use Rattle.std.proofs.Common.{◌≡◌, ℕ, zero, suc, ◌+◌, ◌<◌, ◌≤◌, List, [], ◌∷◌, length, Some, slice_get, refl, ap, ◌∙◌, arith}
use Rattle.std.specs.Prelude.{slice_index}
use Rattle.std.proofs.lemmas.Option.{slice_get_within}
use Rattle.hs_base.specs.Regions.{sums_from}

pub sums-first : (at : ℕ) (ns : List ℕ) → slice_get (sums_from at ns) 0 ≡ Some at
sums-first at [] = refl
sums-first at (n ∷ ns) = refl

pub sums-next : (at : ℕ) (ns : List ℕ) (k low n : ℕ) → slice_get (sums_from at ns) k ≡ Some low → slice_get ns k ≡ Some n → slice_get (sums_from at ns) (suc k) ≡ Some (low + n)
sums-next at [] k low n begin size = absurd (let e : k < 0 = slice_get_within [] k n size in omega arith)
sums-next at (x ∷ ns) zero low n begin size =
    let e : at ≡ low = cc in
    let e' : x ≡ n = cc in
    sums-first (at + x) ns ∙ (ap (λ m. Some (m + x)) e ∙ ap (λ m. Some (low + m)) e')
sums-next at (x ∷ ns) (suc k) low n begin size = sums-next (at + x) ns k low n begin size

pub sums-size : (at : ℕ) (ns : List ℕ) → length (sums_from at ns) ≡ suc (length ns)
sums-size at [] = refl
sums-size at (n ∷ ns) = ap (λ m. suc m) (sums-size (at + n) ns)

-- they rise
pub sums-low : (at : ℕ) (ns : List ℕ) → at ≤ slice_index (sums_from at ns) (length ns)
sums-low at [] = omega arith
sums-low at (n ∷ ns) = let e : at + n ≤ slice_index (sums_from (at + n) ns) (length ns) = sums-low (at + n) ns in omega arith

pub sums-above : (at : ℕ) (ns : List ℕ) (k low : ℕ) → slice_get (sums_from at ns) k ≡ Some low → low ≤ slice_index (sums_from at ns) (length ns)
sums-above at [] zero low begin = let e : at ≡ low = cc in omega arith
sums-above at [] (suc k) low begin = absurd (let e : suc k < 1 = slice_get_within (at ∷ []) (suc k) low begin in omega arith)
sums-above at (n ∷ ns) zero low begin =
    let e : at ≡ low = cc in
    let f : at ≤ slice_index (sums_from at (n ∷ ns)) (length (n ∷ ns)) = sums-low at (n ∷ ns) in
    omega arith
sums-above at (n ∷ ns) (suc k) low begin = sums-above (at + n) ns k low begin

first-low : (at : ℕ) (ns : List ℕ) (k : ℕ) → k < length (sums_from at ns) → at ≤ slice_index (sums_from at ns) k
first-low at [] zero below = omega arith
first-low at [] (suc k) below = absurd (omega arith)
first-low at (n ∷ ns) zero below = omega arith
first-low at (n ∷ ns) (suc k) below = let e : at + n ≤ slice_index (sums_from (at + n) ns) k = first-low (at + n) ns k (omega arith) in omega arith

pub sums-rise : (at : ℕ) (ns : List ℕ) (j k : ℕ) → j ≤ k → k < length (sums_from at ns) → slice_index (sums_from at ns) j ≤ slice_index (sums_from at ns) k
sums-rise at [] zero zero order below = omega arith
sums-rise at [] j (suc k) order below = absurd (omega arith)
sums-rise at [] (suc j) zero order below = absurd (omega arith)
sums-rise at (n ∷ ns) zero k order below = first-low at (n ∷ ns) k below
sums-rise at (n ∷ ns) (suc j) zero order below = absurd (omega arith)
sums-rise at (n ∷ ns) (suc j) (suc k) order below = sums-rise (at + n) ns j k (omega arith) (omega arith)

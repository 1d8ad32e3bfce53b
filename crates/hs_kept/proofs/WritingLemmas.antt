-- What is written into a part of a list.
use Rattle.std.proofs.Common.{suc, get_or, ◌≡◌, ℕ, ◌+◌, ◌-◌, ◌<◌, ◌≤◌, List, ◌++◌, length, take, drop, slice_range, sym, ap, ◌∙◌, arith, length-append, append_assoc}
use Rattle.std.proofs.lemmas.List.{append-nil, drop-take, drop_all, get_or-take, length-drop, length-take-le, take-take}
use Rattle.std.proofs.Math.Seq.{drop-append-add, take-append_seam}
use Rattle.std.specs.Prelude.{slice_index}

-- a range is the same where the fronts up to its end are
pub range-by_front : (xs ys : List ℕ) (low high : ℕ) → low ≤ high → take high xs ≡ take high ys → slice_range xs low high ≡ slice_range ys low high
range-by_front xs ys low high order same =
    let e : low + (high - low) ≡ high = omega arith in
    let by : (zs : List ℕ) → slice_range zs low high ≡ drop low (take high zs) =
    λ zs. sym (drop-take low (high - low) zs) ∙ ap (λ n. drop low (take n zs)) e in
    by xs ∙ (ap (λ l. drop low l) same ∙ sym (by ys))

pub byte-by_front : (xs ys : List ℕ) (k : ℕ) → take (suc k) xs ≡ take (suc k) ys → slice_index xs k ≡ slice_index ys k
byte-by_front xs ys k same =
    let below : k < suc k = omega arith in
    sym (get_or-take (suc k) xs k 0 below) ∙ (ap (λ l. get_or l k 0) same ∙ get_or-take (suc k) ys k 0 below)

pub shorter-front : (xs ys : List ℕ) (m n : ℕ) → m ≤ n → take n xs ≡ take n ys → take m xs ≡ take m ys
shorter-front xs ys m n order same = sym (take-take m n xs order) ∙ (ap (λ l. take m l) same ∙ take-take m n ys order)

-- the front up to the end of what is written
pub front-written : (xs w rest : List ℕ) (low high : ℕ) → low ≤ length xs → low + length w ≡ high → take high (take low xs ++ (w ++ rest)) ≡ take low xs ++ w
front-written xs w rest low high within wide =
    let size : length (take low xs ++ w) ≡ high = length-append (take low xs) w ∙ (ap (λ n. n + length w) (length-take-le low xs within) ∙ wide) in
    ap (λ l. take high l) (sym (append_assoc (take low xs) w rest))
    ∙ (ap (λ n. take n ((take low xs ++ w) ++ rest)) (sym size) ∙ take-append_seam (take low xs ++ w) rest)

-- what is written reads back
pub range-written : (xs w rest : List ℕ) (low high : ℕ) → low ≤ length xs → low + length w ≡ high → slice_range (take low xs ++ (w ++ rest)) low high ≡ w
range-written xs w rest low high within wide =
    let ys : List ℕ = take low xs ++ (w ++ rest) in
    let size : length (take low xs) ≡ low = length-take-le low xs within in
    let e : low + (high - low) ≡ high = omega arith in
    let e' : low ≡ length (take low xs) + 0 = omega arith in
    sym (drop-take low (high - low) ys)
    ∙ (ap (λ n. drop low (take n ys)) e
    ∙ (ap (λ l. drop low l) (front-written xs w rest low high within wide)
    ∙ (ap (λ n. drop n (take low xs ++ w)) e' ∙ drop-append-add (take low xs) w 0)))

-- what is written up to the end
pub end-written : (xs w : List ℕ) (low : ℕ) → low ≤ length xs → take low xs ++ (w ++ drop (length xs - low) (drop low xs)) ≡ take low xs ++ w
end-written xs w low within =
    let size : length (drop low xs) ≡ length xs - low = length-drop low xs in
    ap (λ l. take low xs ++ (w ++ l)) (drop_all (length xs - low) (drop low xs) (omega (arith, size)))
    ∙ ap (λ l. take low xs ++ l) (append-nil w)

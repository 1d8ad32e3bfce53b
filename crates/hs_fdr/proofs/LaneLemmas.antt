-- Lanes that are moved: lists that zeros are joined to.
use Rattle.std.proofs.Common.{◌≡◌, ℕ, zero, suc, ◌+◌, ◌<◌, ◌≤◌, List, [], ◌∷◌, ◌++◌, length, get_or, replicate, bit_or, refl, sym, ap, ◌∙◌, inl, inr, subst, arith, length-append, length-drop, ◌-◌, take, drop, cond, ltb}
use Rattle.std.specs.List.{range_with_len}
use Rattle.std.specs.Simd.Lanes.{zip2, chunk, pick_l}
use Rattle.std.proofs.lemmas.List.{get_or-drop, get_or_past, take_rest}
use Rattle.std.proofs.lemmas.Bool.{cases_lt, lt-ltb, le-ltb}
use Rattle.std.proofs.lemmas.Simd.{length-chunk, get_or-chunk, pick_l-range_with_len, length-zip2, get_or-zip2}
use Rattle.hs_fdr.specs.Lanes.{HasLanes}

zeros : (n k : ℕ) → ◌≡◌ {A = ℕ} (get_or (replicate n 0) k 0) 0
zeros zero k = refl
zeros (suc n) zero = refl
zeros (suc n) (suc k) = zeros n k

-- behind a list with zeros joined to it stands what a read past its end gives
pub padded : (xs : List ℕ) (n k : ℕ) → get_or (xs ++ replicate n 0) k 0 ≡ get_or xs k 0
padded [] n k = zeros n k
padded (x ∷ xs) n zero = refl
padded (x ∷ xs) n (suc k) = padded xs n k

picked : (xs : List ℕ) (a : ℕ) (f : ℕ → ℕ) → a + 16 ≤ length xs → ((k : ℕ) → k < 16 → get_or xs (a + k) 0 ≡ f k) → HasLanes (pick_l 0 xs (range_with_len a 16)) f
picked xs a f room is =
    subst (λ v. HasLanes v f) (sym (pick_l-range_with_len 0 xs a 16 room)) (record {
      long = length-chunk a 16 xs room;
      each = λ k h. get_or-chunk a 16 xs k 0 h ∙ is k h;
    })

pub lanes_on : (lanes : List ℕ) (a : ℕ) → length lanes ≡ 16 → a ≤ 16 → HasLanes (pick_l 0 (lanes ++ replicate 16 0) (range_with_len a 16)) (λ k. get_or lanes (a + k) 0)
lanes_on lanes a long h = picked (lanes ++ replicate 16 0) a _ (omega (arith, length-append lanes (replicate 16 0))) (λ k _. padded lanes 16 (a + k))

pub lanes_later : (lanes : List ℕ) → length lanes ≡ 16 → HasLanes (pick_l 0 (replicate 16 0 ++ lanes) (range_with_len 15 16)) (λ k. get_or (0 ∷ lanes) k 0)
lanes_later lanes long = picked (replicate 16 0 ++ lanes) 15 _ (omega (arith, length-append (replicate 16 0) lanes)) (λ k _. sym (get_or-drop 15 (replicate 16 0 ++ lanes) k 0))

pub lanes_either : (a b : List ℕ) → length a ≡ 16 → length b ≡ 16 → HasLanes (zip2 bit_or a b) (λ k. bit_or (get_or a k 0) (get_or b k 0))
lanes_either a b p q = record {
  long = length-zip2 bit_or a b (p ∙ sym q) ∙ p;
  each = λ k l. get_or-zip2 bit_or a b k 0 0 0 (omega arith) (omega arith);
}

-- the same lanes, said in another way
pub lanes_as : (lanes : List ℕ) (f g : ℕ → ℕ) → HasLanes lanes f → ((k : ℕ) → k < 16 → f k ≡ g k) → HasLanes lanes g
lanes_as lanes f g h e = record { long = h.long; each = λ k l. h.each k l ∙ e k l }

-- the lanes of an eight that starts at a place
pub lanes_row : (rows : List ℕ) (start : ℕ) → start + 8 ≤ length rows
    → HasLanes (pick_l 0 (chunk 0 8 (take (length rows - start) (drop start rows)) ++ replicate 8 0) (range_with_len 0 16)) (λ k. cond (ltb k 8) (get_or rows (start + k) 0) 0)
lanes_row rows start room =
    let slice = take (length rows - start) (drop start rows) in
    let long : length slice ≡ length rows - start = omega (arith, ap length (take_rest rows start), length-drop start rows) in
    let eight : length (chunk 0 8 slice) ≡ 8 = length-chunk 0 8 slice (omega arith) in
    picked (chunk 0 8 slice ++ replicate 8 0) 0 _ (omega (arith, length-append (chunk 0 8 slice) (replicate 8 0))) (λ k _.
    padded (chunk 0 8 slice) 8 (0 + k)
    ∙ elim (cases_lt k 8) [
      | inl l ↦
          let z : 0 + k ≡ k = omega arith in
          ap (λ m. get_or (chunk 0 8 slice) m 0) z ∙ get_or-chunk 0 8 slice k 0 l ∙ ap (λ m. get_or slice m 0) z ∙ ap (λ xs. get_or xs k 0) (take_rest rows start) ∙ get_or-drop start rows k 0
          ∙ rw (lt-ltb k 8 l) refl
      | inr g ↦ get_or_past (chunk 0 8 slice) (0 + k) 0 (omega arith) ∙ rw (le-ltb k 8 g) refl
    ])

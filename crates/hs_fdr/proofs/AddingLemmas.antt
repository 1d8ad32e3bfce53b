-- What places add to later ones: sums of more places, and the formula.
use Rattle.std.proofs.Common.{◌≡◌, ℕ, zero, suc, ◌+◌, ◌-◌, ◌<◌, ◌≤◌, true, false, List, map, leb, bit_or, refl, sym, ap, ◌∙◌, inl, inr, arith}
use Rattle.std.specs.List.{range_with_len}
use Rattle.std.specs.Int.Bits.{or_zero_r}
use Rattle.std.proofs.lemmas.Nat.{or_comm}
use Rattle.std.proofs.lemmas.Bool.{le-leb, cases_lt}
use Rattle.hs_fdr.specs.Blocks.{super_at, or_all, term, mask_at}
use Rattle.hs_fdr.specs.Adding.{cell, added, added_by}
use Rattle.hs_fdr.proofs.OrLemmas.{or_assoc}

is_le : (a b : ℕ) → a ≤ b → leb a b ≡ true
is_le a b h = le-leb a b h

isnt_le : (a b : ℕ) → b < a → leb a b ≡ false
isnt_le a b h = grind arith

pub cell_far : (rows : ℕ → ℕ → ℕ) (p k : ℕ) → 8 ≤ k → cell rows p k ≡ 0
cell_far rows p k h = rw (isnt_le (suc k) 8 (omega arith)) refl

cell_near : (rows : ℕ → ℕ → ℕ) (p k : ℕ) → k < 8 → cell rows p k ≡ rows p k
cell_near rows p k h = rw (is_le (suc k) 8 (omega arith)) refl

-- nothing is said of places that far on
pub added_far : (rows : ℕ → ℕ → ℕ) (n i : ℕ) → n + 7 ≤ i → added rows n i ≡ 0
added_far rows zero i h = refl
added_far rows (suc n) i h = rw (added_far rows n i (omega arith), is_le n i (omega arith), cell_far rows n (i - n) (omega arith)) refl

-- one more place
pub added_here : (rows : ℕ → ℕ → ℕ) (n k : ℕ) → added rows (suc n) (n + k) ≡ bit_or (added rows n (n + k)) (cell rows n k)
added_here rows n k =
    let e : n + k - n ≡ k = omega arith in
    rw (is_le n (n + k) (omega arith)) (ap (λ j. bit_or (added rows n (n + k)) (cell rows n j)) e)

-- places behind one say nothing of it
pub added_later : (rows : ℕ → ℕ → ℕ) (n i : ℕ) → i < n → added rows n i ≡ added rows (suc i) i
added_later rows zero i h = absurd (omega arith)
added_later rows (suc n) i h =
    elim (cases_lt i n) [
      | inl l ↦ rw (isnt_le n i l) (or_zero_r (added rows n i) ∙ added_later rows n i l)
      | inr g ↦ let e : n ≡ i = omega arith in ap (λ m. added rows (suc m) i) e
    ]

-- the first places, and some behind them
pub added_both : (rows : ℕ → ℕ → ℕ) (n count k : ℕ) → added rows (n + count) (n + k) ≡ bit_or (added rows n (n + k)) (added_by rows n count k)
added_both rows n zero k = let e : n + 0 ≡ n = omega arith in ap (λ m. added rows m (n + k)) e ∙ sym (or_zero_r (added rows n (n + k)))
added_both rows n (suc count) zero =
    let e : n + 0 ≡ n = omega arith in
    added_later rows (n + suc count) (n + 0) (omega arith) ∙ ap (λ m. added rows (suc m) (n + 0)) e ∙ added_here rows n 0
added_both rows n (suc count) (suc k) =
    let c : n + suc count ≡ n + 1 + count = omega arith in
    let i : n + suc k ≡ n + 1 + k = omega arith in
    let s : n + 1 ≡ suc n = omega arith in
    let rest = added_by rows (n + 1) count k in
    (λ t. added rows (c t) (i t)) ∙ added_both rows (n + 1) count k
    ∙ (λ t. bit_or (added rows (s t) (sym i t)) rest)
    ∙ ap (λ x. bit_or x rest) (added_here rows n (suc k))
    ∙ or_assoc (added rows n (n + suc k)) (cell rows n (suc k)) rest

-- two texts that say the same
cell_alike : (r s : ℕ → ℕ → ℕ) (p q k : ℕ) → (k < 8 → r p k ≡ s q k) → cell r p k ≡ cell s q k
cell_alike r s p q k h =
    elim (cases_lt k 8) [
      | inl l ↦ cell_near r p k l ∙ h l ∙ sym (cell_near s q k l)
      | inr g ↦ cell_far r p k g ∙ sym (cell_far s q k g)
    ]

-- of the places from p on and from q on, as many as count and as far as k, each says the same
abbrev pub SayAlike : (r s : ℕ → ℕ → ℕ) (p q count k : ℕ) → Type 0
SayAlike r s p q count k = (t : ℕ) → t < count → t ≤ k → (a b : ℕ) → a ≡ p + t → b ≡ q + t → (j : ℕ) → j < 8 → r a j ≡ s b j

pub added_by-alike : (r s : ℕ → ℕ → ℕ) (p q count k : ℕ) → SayAlike r s p q count k → added_by r p count k ≡ added_by s q count k
added_by-alike r s p q zero k h = refl
added_by-alike r s p q (suc count) zero h = cell_alike r s p q 0 (h 0 (omega arith) (omega arith) p q (omega arith) (omega arith) 0)
added_by-alike r s p q (suc count) (suc k) h = (λ i. bit_or
    (cell_alike r s p q (suc k) (h 0 (omega arith) (omega arith) p q (omega arith) (omega arith) (suc k)) i)
    (added_by-alike r s (p + 1) (q + 1) count k (λ t x y a b e f. h (suc t) (omega arith) (omega arith) a b (omega arith) (omega arith)) i))

module _ (mask : ℕ → ℕ → ℕ) (width : ℕ) (text : List ℕ) (next i : ℕ) where
  abbrev says : ℕ → ℕ → ℕ
  says p j = mask j (super_at width text next p)

  none_before : (count j : ℕ) → i < j → or_all (map (term mask width text next i) (range_with_len j count)) ≡ 0
  none_before zero j h = refl
  none_before (suc count) j h = rw (isnt_le j i h) (none_before count (j + 1) (omega arith))

  formula_from : (count j n : ℕ) → j + count ≡ 8 → n + j ≡ suc i → added says n i ≡ or_all (map (term mask width text next i) (range_with_len j count))
  formula_from zero j n e f = added_far says n i (omega arith)
  formula_from (suc count) j zero e f = sym (none_before (suc count) j (omega arith))
  formula_from (suc count) j (suc m) e f =
      let a : i - m ≡ j = omega arith in
      let b : i - j ≡ m = omega arith in
      let rest = or_all (map (term mask width text next i) (range_with_len (j + 1) count)) in
      rw (is_le m i (omega arith), is_le j i (omega arith), a, b, cell_near says m j (omega arith))
      (ap (λ x. bit_or x (says m j)) (formula_from count (j + 1) m (omega arith) (omega arith)) ∙ or_comm rest (says m j))

  -- all that is said of a place is the formula's mask
  pub added_is_mask : added says (suc i) i ≡ mask_at mask width text next i
  unfolding mask_at
  added_is_mask = formula_from 8 0 (suc i) refl (omega arith)

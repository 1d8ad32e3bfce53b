-- Zeros in bytes and in the words that they make.
use Rattle.std.proofs.Common.{◌≡◌, ℕ, zero, suc, ◌+◌, ◌-◌, ◌<◌, ◌≤◌, List, [], ◌∷◌, length, take, drop, get_or, refl, sym, ap, subst, ◌∙◌, inl, inr, arith}
use Rattle.std.specs.Int.{from_le_bytes, to_le_bytes, w64}
use Rattle.std.specs.Int.Bits.{bit_or}
use Rattle.std.proofs.lemmas.Bool.{cases_lt}
use Rattle.std.proofs.lemmas.List.{get_or-drop, get_or-take, length-drop, length-take-le}
use Rattle.std.proofs.lemmas.Nat.{le_bytes_8, le_or_l, le_or_r}
use Rattle.hs_bits.specs.Zeros.{IsZeroBetween}
use Rattle.hs_bits.proofs.WordLemmas.{eight-taken}

-- eight bytes that are 0 as a word
pub word-zero : (bytes : List ℕ) (at word : ℕ) → ((i : ℕ) → get_or bytes i 0 < 256) → at + 8 ≤ length bytes → word ≡ from_le_bytes w64 (take 8 (drop at bytes)) → word ≡ 0 → IsZeroBetween bytes at (at + 8)
word-zero bytes at word small room is none i low high =
    let own : List ℕ = take 8 (drop at bytes) in
    let count : length own ≡ 8 = length-take-le 8 (drop at bytes) (omega (arith, length-drop at bytes)) in
    let each : (k : ℕ) → get_or own k 0 < 256 = λ k. elim (cases_lt k 8) [
      | inl below ↦ subst (λ n. n < 256) (sym (get_or-take 8 (drop at bytes) k 0 below ∙ get_or-drop at bytes k 0)) (small (at + k))
      | inr past ↦ subst (λ n. n < 256) (sym (past-zero own k (omega (arith, past, count)))) (omega arith)
    ] in
    let zeros : to_le_bytes w64 0 ≡ own = le_bytes_8 own 0 count each (sym none ∙ is) in
    let there : at + (i - at) ≡ i = omega (arith, low) in
    ap (λ n. get_or bytes n 0) (sym there) ∙ (sym (get_or-drop at bytes (i - at) 0) ∙ (sym (get_or-take 8 (drop at bytes) (i - at) 0 (omega (arith, low, high))) ∙ (ap (λ xs. get_or xs (i - at) 0) (sym zeros) ∙ zero-at (i - at))))
  where
    past-zero : (xs : List ℕ) (k : ℕ) → length xs ≤ k → get_or xs k 0 ≡ 0
    past-zero [] k past = refl
    past-zero (x ∷ xs) zero past = absurd (omega arith)
    past-zero (x ∷ xs) (suc k) past = past-zero xs k (omega arith)

    zero-at : (k : ℕ) → get_or (to_le_bytes w64 0) k 0 ≡ 0
    zero-at zero = refl
    zero-at (suc zero) = refl
    zero-at (suc (suc zero)) = refl
    zero-at (suc (suc (suc zero))) = refl
    zero-at (suc (suc (suc (suc zero)))) = refl
    zero-at (suc (suc (suc (suc (suc zero))))) = refl
    zero-at (suc (suc (suc (suc (suc (suc zero)))))) = refl
    zero-at (suc (suc (suc (suc (suc (suc (suc zero))))))) = refl
    zero-at (suc (suc (suc (suc (suc (suc (suc (suc k)))))))) = refl

pub zero-none : (bytes : List ℕ) (at end : ℕ) → end ≡ at → IsZeroBetween bytes at end
zero-none bytes at end is k low high = absurd (omega (arith, is, low, high))

pub zero-then : (bytes : List ℕ) (at mid end : ℕ) → IsZeroBetween bytes at mid → IsZeroBetween bytes mid end → IsZeroBetween bytes at end
zero-then bytes at mid end one other k low high = elim (cases_lt k mid) [
  | inl before ↦ one k low before
  | inr behind ↦ other k (omega (arith, behind)) high
]

-- four words that are 0
pub block-zero : (bytes : List ℕ) (at a b c d : ℕ) → ((i : ℕ) → get_or bytes i 0 < 256) → at + 32 ≤ length bytes → a ≡ from_le_bytes w64 (take 8 (drop at bytes)) → b ≡ from_le_bytes w64 (take 8 (drop (at + 8) bytes)) →
    c ≡ from_le_bytes w64 (take 8 (drop (at + 16) bytes)) → d ≡ from_le_bytes w64 (take 8 (drop (at + 24) bytes)) → bit_or (bit_or a b) (bit_or c d) ≡ 0 → IsZeroBetween bytes at (at + 32)
block-zero bytes at a b c d small room is_a is_b is_c is_d none =
    let one : bit_or a b ≡ 0 = omega (arith, le_or_l (bit_or a b) (bit_or c d), none) in
    let two : bit_or c d ≡ 0 = omega (arith, le_or_r (bit_or a b) (bit_or c d), none) in
    zero-then bytes at (at + 8) (at + 32) (word-zero bytes at a small (omega (arith, room)) is_a (omega (arith, le_or_l a b, one)))
    (zero-then bytes (at + 8) (at + 16) (at + 32)
    (λ k low high. word-zero bytes (at + 8) b small (omega (arith, room)) is_b (omega (arith, le_or_r a b, one)) k low (omega (arith, high)))
    (zero-then bytes (at + 16) (at + 24) (at + 32)
    (λ k low high. word-zero bytes (at + 16) c small (omega (arith, room)) is_c (omega (arith, le_or_l c d, two)) k low (omega (arith, high)))
    (λ k low high. word-zero bytes (at + 24) d small (omega (arith, room)) is_d (omega (arith, le_or_r c d, two)) k low (omega (arith, high)))))

-- the word of eight bytes that are 0
pub zero-word : (bytes : List ℕ) (at word : ℕ) → at + 8 ≤ length bytes → word ≡ from_le_bytes w64 (take 8 (drop at bytes)) → IsZeroBetween bytes at (at + 8) → word ≡ 0
zero-word bytes at word room is zeros =
    let first : get_or bytes at 0 ≡ 0 = zeros at (omega arith) (omega arith) in
    let each : (k : ℕ) → k < 8 → get_or bytes (at + k) 0 ≡ 0 = λ k below. zeros (at + k) (omega arith) (omega (arith, below)) in
    is
    ∙ (ap (from_le_bytes w64) (sym (eight-taken bytes at room))
    ∙ rw (first, each 1 (omega arith), each 2 (omega arith), each 3 (omega arith), each 4 (omega arith), each 5 (omega arith), each 6 (omega arith), each 7 (omega arith)) refl)

-- and four of them
pub zero-block : (bytes : List ℕ) (at a b c d : ℕ) → at + 32 ≤ length bytes → a ≡ from_le_bytes w64 (take 8 (drop at bytes)) → b ≡ from_le_bytes w64 (take 8 (drop (at + 8) bytes)) → c ≡ from_le_bytes w64 (take 8 (drop (at + 16) bytes)) →
    d ≡ from_le_bytes w64 (take 8 (drop (at + 24) bytes)) → IsZeroBetween bytes at (at + 32) → bit_or (bit_or a b) (bit_or c d) ≡ 0
zero-block bytes at a b c d room is_a is_b is_c is_d zeros =
    rw (
      zero-word bytes at a (omega (arith, room)) is_a (λ k low high. zeros k low (omega (arith, high))),
      zero-word bytes (at + 8) b (omega (arith, room)) is_b (λ k low high. zeros k (omega (arith, low)) (omega (arith, high))),
      zero-word bytes (at + 16) c (omega (arith, room)) is_c (λ k low high. zeros k (omega (arith, low)) (omega (arith, high))),
      zero-word bytes (at + 24) d (omega (arith, room)) is_d (λ k low high. zeros k (omega (arith, low)) (omega (arith, high))),
    ) refl

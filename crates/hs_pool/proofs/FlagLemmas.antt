-- Flags of lanes as the bits of words.
use Rattle.std.proofs.Common.{◌≡◌, ℕ, ◌*◌, ◌%◌, ◌^◌, ◌<◌, ◌≤◌, Bool, true, false, not, cond, List, length, get_or, map, replicate, eqb, bit_and, zero, suc, refl, ap, ◌∙◌, arith, w8}
use Rattle.std.specs.Int.{bit_at}
use Rattle.std.specs.Simd.Lanes.{zip2, mask_l, top}
use Rattle.std.proofs.lemmas.Bool.{ne_eqb}
use Rattle.std.proofs.lemmas.List.{get_or-map, get_or_past, length-map}
use Rattle.std.proofs.lemmas.Simd.{bitmask_splat, bit_mask_l, zip2_splat}
use Rattle.std.proofs.lemmas.Nat.{pow_pos}
use Rattle.std.proofs.lemmas.Nat.Bits.{and_pow, bit_at-lt}
use Rattle.hs_bits.specs.WordBits.{word_bit}
use Rattle.hs_pool.specs.Following.{AreFlagsAt}

is-bit : (x p : ℕ) → x < 2 → 0 < p → not (eqb (x * p) 0) ≡ eqb x 1
is-bit zero p h q = let e : 0 * p ≡ 0 = omega arith in rw e refl
is-bit (suc zero) p h q = let e : suc zero * p ≡ p = omega arith in rw (e, ne_eqb p 0 (λ z. omega arith)) refl
is-bit (suc (suc x)) p h q = absurd (omega arith)

bit-of-truth : (b : Bool) → eqb (cond b 1 0) 1 ≡ b
bit-of-truth true = refl
bit-of-truth false = refl

module _ (flags : List ℕ) (k : ℕ) (long : length flags ≡ 64) where
  abbrev marks : List Bool
  marks = map (λ (x : ℕ). not (eqb x 0)) (map (λ b. bit_and b (2 ^ k)) flags)

  abbrev word : ℕ
  word = mask_l (map (top 7) (zip2 (λ (a : ℕ) (b : ℕ). cond (not (eqb a b)) 255 0) (zip2 bit_and flags (replicate 64 (2 ^ k))) (replicate 64 0))) % 2 ^ 64

  word-is : word ≡ mask_l marks
  word-is =
      ap (λ l. mask_l (map (top 7) (zip2 (λ (a : ℕ) (b : ℕ). cond (not (eqb a b)) 255 0) l (replicate 64 0))) % 2 ^ 64) (zip2_splat bit_and flags 64 (2 ^ k) long)
      ∙ bitmask_splat w8 (λ x y. not (eqb x y)) (map (λ b. bit_and b (2 ^ k)) flags) 64 0 (length-map flags (λ b. bit_and b (2 ^ k)) ∙ long) (omega arith)

  bit-is : (i : ℕ) → bit_at word i ≡ cond (get_or marks i false) 1 0
  bit-is i = ap (λ n. bit_at n i) word-is ∙ bit_mask_l marks i

  mark-is : (i : ℕ) → i < 64 → get_or marks i false ≡ eqb (bit_at (get_or flags i 0) k) 1
  mark-is i low =
      get_or-map (λ (x : ℕ). not (eqb x 0)) (map (λ b. bit_and b (2 ^ k)) flags) i 0 false (omega (arith, long, length-map flags (λ b. bit_and b (2 ^ k))))
      ∙ (ap (λ x. not (eqb x 0)) (get_or-map (λ b. bit_and b (2 ^ k)) flags i 0 0 (omega (arith, long)))
      ∙ (ap (λ x. not (eqb x 0)) (and_pow (get_or flags i 0) k)
      ∙ is-bit (bit_at (get_or flags i 0) k) (2 ^ k) (bit_at-lt (get_or flags i 0) k) (pow_pos k)))

  below : (i : ℕ) → i < 64 → word_bit word i ≡ word_bit (get_or flags i 0) k
  unfolding word_bit
  below i low = ap (λ n. eqb n 1) (bit-is i) ∙ (bit-of-truth (get_or marks i false) ∙ mark-is i low)

  past : (i : ℕ) → 64 ≤ i → word_bit word i ≡ false
  unfolding word_bit
  past i high =
      ap (λ n. eqb n 1) (bit-is i) ∙ (bit-of-truth (get_or marks i false)
      ∙ get_or_past marks i false (omega (arith, long, length-map flags (λ b. bit_and b (2 ^ k)), length-map (map (λ b. bit_and b (2 ^ k)) flags) (λ (x : ℕ). not (eqb x 0)))))

  pub flags-at : AreFlagsAt flags k word
  flags-at = record { below = below; past = past }

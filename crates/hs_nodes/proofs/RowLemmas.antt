-- The four bytes that are kept of a literal as one word, turned round.
use Rattle.std.proofs.Common.{◌≡◌, ℕ, zero, suc, ◌+◌, ◌-◌, ◌*◌, ◌/◌, ◌%◌, ◌^◌, ◌<◌, ◌≤◌, false, ◌&&◌, nat_le, List, [], ◌∷◌, length, get_or, take, eqb, refl, sym, ap, subst, ◌∙◌, inl, inr, arith, w64}
use Rattle.std.specs.Int.{bit_at, from_le_bytes, to_le_bytes}
use Rattle.std.proofs.lemmas.Bool.{cases_lt, le-leb, lt-leb}
use Rattle.std.proofs.lemmas.List.{get_or-take, get_or_past}
use Rattle.std.proofs.lemmas.Nat.{from_le_bytes-to_le_bytes_8}
use Rattle.std.proofs.lemmas.Nat.Bits.{bit_at-zero}
use Rattle.hs_base.specs.Bits.{has_bit}
use Rattle.hs_bits.proofs.WordLemmas.{eight-bits}
use Rattle.hs_block.specs.LiteralBlocks.{turned}
use Rattle.hs_bits.specs.WordBits.{word_bit}
use Rattle.hs_block.proofs.LiteralWordLemmas.{turned-above, turned-below}
use Rattle.hs_bits.proofs.PlaceLemmas.{bit-shifted, bit-up, none-from}

-- a word has no bits past its last one
none-past : (word i : ℕ) → word < 2 ^ 64 → 64 ≤ i → word_bit word i ≡ false
none-past word i fits high = let none : word / 2 ^ 64 ≡ 0 = omega (arith, fits) in none-from word 64 none i high

-- The word of a row, turned round and moved down, has the bits of the row.
pub read-bits : (row round : ℕ) (part : List ℕ) (len i : ℕ) → 1 ≤ len → len ≤ 32 → round < 2 ^ 64 → ((k : ℕ) → k < 64 → word_bit round k ≡ word_bit row (63 - k)) → ((k : ℕ) → k < 64 → word_bit row k ≡ has_bit part k) → word_bit (round / 2 ^ (64 - len)) i ≡ turned len (has_bit part) i
read-bits row round part len i some short fits turns is = elim (cases_lt i len) [
  | inl below ↦
      let e : 63 - (64 - len + i) ≡ len - suc i = omega (arith, below, short) in
      bit-shifted round (64 - len) i
      ∙ (turns (64 - len + i) (omega (arith, below, short)) ∙ (ap (word_bit row) e ∙ (is (len - suc i) (omega (arith, short)) ∙ sym (turned-below len (has_bit part) i below))))
  | inr above ↦ bit-shifted round (64 - len) i ∙ (none-past round (64 - len + i) fits (omega (arith, above, short)) ∙ sym (turned-above len (has_bit part) i above))
]

-- And the word that is moved up and turned round has the bits of the other one.
pub kept-bits : (carry round len k : ℕ) → 1 ≤ len → len ≤ 32 → k < 64 → word_bit round k ≡ word_bit (carry * 2 ^ (64 - len) % 18446744073709551616) (63 - k) → word_bit round k ≡ turned len (word_bit carry) k
kept-bits carry round len k some short low turns =
    let up : word_bit (carry * 2 ^ (64 - len) % 18446744073709551616) (63 - k) ≡ (nat_le (64 - len) (63 - k) && word_bit carry (63 - k - (64 - len))) = bit-up carry (64 - len) (63 - k) (omega arith) in
    turns
    ∙ (up
    ∙ elim (cases_lt k len) [
      | inl below ↦
          let e : 63 - k - (64 - len) ≡ len - suc k = omega (arith, below, short) in
          ap (λ b. b && word_bit carry (63 - k - (64 - len))) (le-leb (64 - len) (63 - k) (omega (arith, below, short))) ∙ (ap (word_bit carry) e ∙ sym (turned-below len (word_bit carry) k below))
      | inr above ↦
          ap (λ b. b && word_bit carry (63 - k - (64 - len))) (lt-leb (64 - len) (63 - k) (omega (arith, above, short, low))) ∙ sym (turned-above len (word_bit carry) k above)
    ])

-- four bytes and four zeros as a word
four-is : (part : List ℕ) → length part ≡ 4 → (k : ℕ) → get_or (get_or part 0 0 ∷ get_or part 1 0 ∷ get_or part 2 0 ∷ get_or part 3 0 ∷ 0 ∷ 0 ∷ 0 ∷ 0 ∷ []) k 0 ≡ get_or part k 0
four-is (a ∷ b ∷ c ∷ d ∷ []) len zero = refl
four-is (a ∷ b ∷ c ∷ d ∷ []) len (suc zero) = refl
four-is (a ∷ b ∷ c ∷ d ∷ []) len (suc (suc zero)) = refl
four-is (a ∷ b ∷ c ∷ d ∷ []) len (suc (suc (suc zero))) = refl
four-is (a ∷ b ∷ c ∷ d ∷ []) len (suc (suc (suc (suc zero)))) = refl
four-is (a ∷ b ∷ c ∷ d ∷ []) len (suc (suc (suc (suc (suc zero))))) = refl
four-is (a ∷ b ∷ c ∷ d ∷ []) len (suc (suc (suc (suc (suc (suc zero)))))) = refl
four-is (a ∷ b ∷ c ∷ d ∷ []) len (suc (suc (suc (suc (suc (suc (suc k))))))) = past-eight k where
  past-eight : (j : ℕ) → get_or {A = ℕ} (0 ∷ []) j 0 ≡ 0
  past-eight zero = refl
  past-eight (suc j) = refl
four-is [] len k = absurd (omega arith)
four-is (a ∷ []) len k = absurd (omega arith)
four-is (a ∷ b ∷ []) len k = absurd (omega arith)
four-is (a ∷ b ∷ c ∷ []) len k = absurd (omega arith)
four-is (a ∷ b ∷ c ∷ d ∷ e ∷ part) len k = absurd (omega arith)

same-bits : (xs ys : List ℕ) → ((k : ℕ) → get_or xs k 0 ≡ get_or ys k 0) → (i : ℕ) → has_bit xs i ≡ has_bit ys i
unfolding has_bit
same-bits xs ys same i = ap (λ b. eqb (bit_at b (i % 8)) 1) (same (i / 8))

pub four-bits : (part : List ℕ) (row : ℕ) → length part ≡ 4 → ((k : ℕ) → get_or part k 0 < 256) → row ≡ from_le_bytes w64 (get_or part 0 0 ∷ get_or part 1 0 ∷ get_or part 2 0 ∷ get_or part 3 0 ∷ 0 ∷ 0 ∷ 0 ∷ 0 ∷ []) → (k : ℕ) → k < 64 → word_bit row k ≡ has_bit part k
unfolding word_bit
four-bits part row len small is k low =
    let bytes : List ℕ = get_or part 0 0 ∷ get_or part 1 0 ∷ get_or part 2 0 ∷ get_or part 3 0 ∷ 0 ∷ 0 ∷ 0 ∷ 0 ∷ [] in
    let same : (j : ℕ) → get_or bytes j 0 ≡ get_or part j 0 = four-is part len in
    let here : 8 * 0 + k ≡ k = omega arith in
    ap (λ n. eqb (bit_at n k) 1) is ∙ (eight-bits bytes 0 k (omega arith) (λ j. subst (λ b. b < 256) (sym (same j)) (small j)) low ∙ (ap (has_bit bytes) here ∙ same-bits bytes part same k))

-- the bytes of a word
bytes-small : (row k : ℕ) → get_or (to_le_bytes w64 row) k 0 < 256
bytes-small row zero = omega arith
bytes-small row (suc zero) = omega arith
bytes-small row (suc (suc zero)) = omega arith
bytes-small row (suc (suc (suc zero))) = omega arith
bytes-small row (suc (suc (suc (suc zero)))) = omega arith
bytes-small row (suc (suc (suc (suc (suc zero))))) = omega arith
bytes-small row (suc (suc (suc (suc (suc (suc zero)))))) = omega arith
bytes-small row (suc (suc (suc (suc (suc (suc (suc zero))))))) = omega arith
bytes-small row (suc (suc (suc (suc (suc (suc (suc (suc k)))))))) = omega arith

word-bits : (row k : ℕ) → row < 2 ^ 64 → k < 64 → has_bit (to_le_bytes w64 row) k ≡ word_bit row k
unfolding word_bit
word-bits row k fits low =
    let here : 8 * 0 + k ≡ k = omega arith in
    sym (ap (has_bit (to_le_bytes w64 row)) here) ∙ (sym (eight-bits (to_le_bytes w64 row) 0 k (omega arith) (bytes-small row) low) ∙ ap (λ n. eqb (bit_at n k) 1) (from_le_bytes-to_le_bytes_8 row fits))

first-four : (bytes part : List ℕ) (k : ℕ) → part ≡ take 4 bytes → k < 32 → has_bit part k ≡ has_bit bytes k
unfolding has_bit
first-four bytes part k is low = ap (λ b. eqb (bit_at b (k % 8)) 1) (ap (λ xs. get_or xs (k / 8) 0) is ∙ get_or-take 4 bytes (k / 8) 0 (omega (arith, low)))

past-bits : (part : List ℕ) (k : ℕ) → length part ≡ 4 → 32 ≤ k → has_bit part k ≡ false
unfolding has_bit
past-bits part k len high = ap (λ b. eqb (bit_at b (k % 8)) 1) (get_or_past part (k / 8) 0 (omega (arith, len, high))) ∙ ap (λ b. eqb b 1) (bit_at-zero (k % 8))

pub written-bits : (carry row : ℕ) (part : List ℕ) (len : ℕ) → 1 ≤ len → len ≤ 32 → length part ≡ 4 → row < 2 ^ 64 → ((k : ℕ) → k < 64 → word_bit row k ≡ word_bit (carry * 2 ^ (64 - len) % 18446744073709551616) (63 - k)) → part ≡ take 4 (to_le_bytes w64 row) → (k : ℕ) → has_bit part k ≡ turned len (word_bit carry) k
written-bits carry row part len some short size fits turns bytes k = elim (cases_lt k 32) [
  | inl low ↦ first-four (to_le_bytes w64 row) part k bytes low ∙ (word-bits row k fits (omega (arith, low)) ∙ kept-bits carry row len k some short (omega (arith, low)) (turns k (omega (arith, low))))
  | inr high ↦ past-bits part k size high ∙ sym (turned-above len (word_bit carry) k (omega (arith, short, high)))
]

-- The words of a region.
use Rattle.std.proofs.Common.{◌≡◌, ℕ, ◌+◌, ◌-◌, ◌*◌, ◌/◌, ◌%◌, ◌^◌, ◌<◌, ◌≤◌, Bool, true, false, ◌&&◌, [], ◌∷◌, ◌++◌, List, length, take, drop, get_or, eqb, bit_and, refl, sym, ap, ◌∙◌, inl, inr, arith}
use Rattle.std.specs.Prelude.{nat_lt}
use Rattle.std.specs.Int.{bit_at}
use Rattle.std.proofs.lemmas.Bool.{cases_lt, le-ltb, lt-ltb}
use Rattle.std.proofs.lemmas.List.{get_or-append_right, get_or-take, get_or_append_left, length-append, length-drop, length-take-le}
use Rattle.std.proofs.lemmas.Nat.{shr-shr}
use Rattle.hs_base.specs.Bits.{has_bit, has_word_bit}
use Rattle.hs_base.proofs.BitLemmas.{bits-past}
use Rattle.hs_base.proofs.ContextSetLemmas.{bit-and}
use Rattle.hs_bits.proofs.WordLemmas.{all-under, words-past}
use Rattle.hs_limex.specs.SingleWords.{is_set}
use Rattle.hs_limex.proofs.SingleLemmas.{no-bit, one-word, past-word}

-- the bits of one word of a row
pub word-bit : (words : List ℕ) (place i : ℕ) → i < 64 → is_set (get_or words place 0) i ≡ has_word_bit words (64 * place + i)
unfolding has_word_bit
word-bit words place i small =
    let k : ℕ = 64 * place + i in
    let word : k / 64 ≡ place = omega arith in
    let bit : k % 64 ≡ i = omega arith in
    sym (ap (λ n. eqb (bit_at (get_or words n 0) (k % 64)) 1) word ∙ ap (λ n. eqb (bit_at (get_or words place 0) n) 1) bit)

-- a word that ends with the bytes, moved down by the bytes before the start
pub last-word : (bytes : List ℕ) (word at start shift i : ℕ) → word < 2 ^ 64 → ((j : ℕ) → j < 64 → is_set word j ≡ has_bit bytes (8 * at + j)) → at + 8 ≡ length bytes → start ≡ at + shift →
    is_set (word / 2 ^ (8 * shift)) i ≡ has_bit bytes (8 * start + i)
last-word bytes word at start shift i fits bits ends begins =
    let j : ℕ = 8 * shift + i in
    let moved : is_set (word / 2 ^ (8 * shift)) i ≡ is_set word j = ap (λ m. eqb (m % 2) 1) (shr-shr word (8 * shift) i) in
    moved
    ∙ elim (cases_lt j 64) [
      | inl inside ↦
          let same : 8 * at + j ≡ 8 * start + i = omega arith in
          bits j inside ∙ ap (has_bit bytes) same
      | inr past ↦ past-word word j fits past ∙ sym (bits-past bytes (8 * start + i) (omega arith))
    ]

-- all bits lie in the words that there are
pub words-all : (bytes : List ℕ) (k n : ℕ) → length bytes ≤ 8 * n → (nat_lt k (64 * n) && has_bit bytes k) ≡ has_bit bytes k
words-all bytes k n room = all-under k (64 * n) (has_bit bytes k) (λ past. bits-past bytes k (omega arith))

and-turned : (a b : Bool) → (a && b) ≡ (b && a)
and-turned true true = refl
and-turned true false = refl
and-turned false true = refl
and-turned false false = refl

-- one word more has no bit in both
pub apart-more : (bytes row : List ℕ) (p shared : ℕ) → shared ≡ 0 → ((i : ℕ) → i < 64 → is_set shared i ≡ (is_set (get_or row p 0) i && has_bit bytes (64 * p + i))) →
    ((k : ℕ) → k < 64 * p → (has_bit bytes k && has_word_bit row k) ≡ false) → (k : ℕ) → k < 64 * (p + 1) → (has_bit bytes k && has_word_bit row k) ≡ false
apart-more bytes row p shared none bits known k below =
    elim (cases_lt k (64 * p)) [
      | inl under ↦ known k under
      | inr above ↦
          let i : ℕ = k - 64 * p in
          let small : i < 64 = omega arith in
          let at : 64 * p + i ≡ k = omega arith in
          and-turned (has_bit bytes k) (has_word_bit row k)
          ∙ (ap (λ n. has_word_bit row n && has_bit bytes n) (sym at)
          ∙ (ap (λ b. b && has_bit bytes (64 * p + i)) (sym (word-bit row p i small)) ∙ (sym (bits i small) ∙ (ap (λ w. is_set w i) none ∙ no-bit i))))
    ]

-- a row of one word has its bits
pub one-row : (word k : ℕ) → word < 2 ^ 64 → has_word_bit (word ∷ []) k ≡ is_set word k
one-row word k fits =
    elim (cases_lt k 64) [
      | inl below ↦ one-word (word ∷ []) k below
      | inr past ↦ words-past (word ∷ []) k past ∙ sym (past-word word k fits past)
    ]

-- bytes that are those of the first word of a row
pub one-kept : (row : List ℕ) (count k : ℕ) → count ≤ 8 → (nat_lt k (8 * count) && is_set (get_or row 0 0) k) ≡ (nat_lt k (8 * count) && has_word_bit row k)
one-kept row count k few =
    elim (cases_lt k (8 * count)) [
      | inl below ↦ ap (λ b. nat_lt k (8 * count) && b) (sym (one-word row k (omega arith)))
      | inr past ↦ ap (λ b. b && is_set (get_or row 0 0) k) (le-ltb k (8 * count) past) ∙ sym (ap (λ b. b && has_word_bit row k) (le-ltb k (8 * count) past))
    ]

-- a word that has no bit of the first word of a row
pub apart-one : (bytes row : List ℕ) (word k : ℕ) → length bytes ≤ 8 → ((i : ℕ) → is_set word i ≡ has_bit bytes i) → bit_and word (get_or row 0 0) ≡ 0 → (has_bit bytes k && has_word_bit row k) ≡ false
apart-one bytes row word k few bits none =
    elim (cases_lt k 64) [
      | inl below ↦
          ap (λ b. has_bit bytes k && b) (one-word row k below)
          ∙ (ap (λ b. b && is_set (get_or row 0 0) k) (sym (bits k))
          ∙ (sym (bit-and word (get_or row 0 0) k) ∙ (ap (λ w. is_set w k) none ∙ no-bit k)))
      | inr past ↦ ap (λ b. b && has_word_bit row k) (bits-past bytes k (omega arith))
    ]

-- the bits of what stands in front
front-bits : (front back : List ℕ) (k : ℕ) → k < 8 * length front → has_bit (front ++ back) k ≡ has_bit front k
unfolding has_bit
front-bits front back k below = ap (λ n. eqb (bit_at n (k % 8)) 1) (get_or_append_left front back 0 (k / 8) (omega arith))

-- the bits of what stands behind so many bytes
back-bits : (front back : List ℕ) (n k : ℕ) → length front ≡ n → 8 * n ≤ k → has_bit (front ++ back) k ≡ has_bit back (k - 8 * n)
unfolding has_bit
back-bits front back n k len above =
    let place : (k - 8 * n) / 8 ≡ k / 8 - n = omega arith in
    let bit : (k - 8 * n) % 8 ≡ k % 8 = omega arith in
    ap (λ m. eqb (bit_at m (k % 8)) 1) (get_or-append_right front back n (k / 8) 0 len (omega arith))
    ∙ sym (ap (λ i. eqb (bit_at (get_or back i 0) ((k - 8 * n) % 8)) 1) place ∙ ap (λ i. eqb (bit_at (get_or back (k / 8 - n) 0) i) 1) bit)

-- the bits of the first so many bytes
taken-bits : (n : ℕ) (bytes : List ℕ) (k : ℕ) → k < 8 * n → has_bit (take n bytes) k ≡ has_bit bytes k
unfolding has_bit
taken-bits n bytes k below = ap (λ m. eqb (bit_at m (k % 8)) 1) (get_or-take n bytes (k / 8) 0 (omega arith))

-- whole words that were written in front, and then what is left of one behind them
pub wide-stored : (front rest tail row : List ℕ) (count n k : ℕ) → length front ≡ 8 * count → length (front ++ rest) ≡ n → 8 * count + length tail ≡ n → length tail ≤ 8 →
    ((i : ℕ) → has_bit front i ≡ (nat_lt i (8 * length front) && has_word_bit row i)) →
    ((i : ℕ) → has_bit tail i ≡ (nat_lt i (8 * length tail) && is_set (get_or row count 0) i)) →
    has_bit (take (8 * count) (front ++ rest) ++ (tail ++ drop (length (front ++ rest) - 8 * count) (drop (8 * count) (front ++ rest)))) k ≡ (nat_lt k (8 * n) && has_word_bit row k)
wide-stored front rest tail row count n k len whole ends few low high =
    let all : List ℕ = front ++ rest in
    let before : List ℕ = take (8 * count) all in
    let over : ℕ = length all - 8 * count in
    let beyond : List ℕ = drop over (drop (8 * count) all) in
    let start : length before ≡ 8 * count = length-take-le (8 * count) all (omega arith) in
    let none : length beyond ≡ 0 = omega (arith, length-drop over (drop (8 * count) all), length-drop (8 * count) all) in
    elim (cases_lt k (64 * count)) [
      | inl under ↦
          let inside : nat_lt k (8 * length front) ≡ nat_lt k (8 * n) = lt-ltb k (8 * length front) (omega arith) ∙ sym (lt-ltb k (8 * n) (omega arith)) in
          front-bits before (tail ++ beyond) k (omega arith)
          ∙ (taken-bits (8 * count) all k (omega arith) ∙ (front-bits front rest k (omega arith) ∙ (low k ∙ ap (λ b. b && has_word_bit row k) inside)))
      | inr above ↦
          let i : ℕ = k - 8 * (8 * count) in
          back-bits before (tail ++ beyond) (8 * count) k start (omega arith)
          ∙ elim (cases_lt i (8 * length tail)) [
            | inl below ↦
                let at : 64 * count + i ≡ k = omega arith in
                let inside : nat_lt i (8 * length tail) ≡ nat_lt k (8 * n) = lt-ltb i (8 * length tail) below ∙ sym (lt-ltb k (8 * n) (omega arith)) in
                front-bits tail beyond i below
                ∙ (high i
                ∙ (ap (λ b. b && is_set (get_or row count 0) i) inside ∙ ap (λ b. nat_lt k (8 * n) && b) (word-bit row count i (omega arith) ∙ ap (has_word_bit row) at)))
            | inr out ↦
                bits-past (tail ++ beyond) i (omega (arith, length-append tail beyond, none)) ∙ sym (ap (λ b. b && has_word_bit row k) (le-ltb k (8 * n) (omega arith)))
          ]
    ]

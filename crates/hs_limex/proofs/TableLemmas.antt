-- Bits in a table of rows of words.
use Rattle.std.proofs.Common.{◌≡◌, ℕ, ◌+◌, ◌*◌, ◌/◌, ◌%◌, ◌<◌, ◌≤◌, Bool, false, ◌&&◌, ◌||◌, List, length, get_or, take, drop, replicate, eqb, refl, sym, ap, ◌∙◌, inl, inr, arith}
use Rattle.std.specs.Prelude.{nat_lt}
use Rattle.std.specs.Int.{bit_at}
use Rattle.std.proofs.lemmas.Bool.{cases_eq, cases_lt, eq-eqb, ne_eqb, lt-ltb, le-ltb}
use Rattle.std.proofs.lemmas.List.{get_or-drop, get_or-take, get_or_past, get_or-replicate, length-replicate, length-drop, length-take-le}
use Rattle.std.proofs.lemmas.Nat.Bits.{bit_at-zero}
use Rattle.hs_engine.proofs.CellLemmas.{same_cell}
use Rattle.hs_base.specs.Bits.{has_word_bit}
use Rattle.hs_bits.proofs.WordLemmas.{and-none, words-zero}

pub replicate-words : (n k : ℕ) → has_word_bit (replicate n 0) k ≡ false
replicate-words n k =
    words-zero (replicate n 0) (λ i.
    elim (cases_lt i n) [
      | inl below ↦ get_or-replicate n i 0 0 below
      | inr above ↦ get_or_past (replicate n 0) i 0 (omega (arith, length-replicate {A = ℕ} n 0))
    ]) k

-- no bit is set in words that are all zero
pub none-in_table : (p q : Bool) (words : List ℕ) (n k : ℕ) → words ≡ replicate n 0 → (p && (q && has_word_bit words k)) ≡ false
none-in_table p q words n k zeros =
    let none : has_word_bit words k ≡ false = ap (λ z. has_word_bit z k) zeros ∙ replicate-words n k in
    ap (λ b. p && (q && b)) none ∙ (ap (λ b. p && b) (and-none q) ∙ and-none p)

-- the bits of one row
pub row-bits : (words : List ℕ) (start len count width n k : ℕ) → n < count → start ≡ width * n → len ≡ width → start + len ≤ length words →
    has_word_bit (take len (drop start words)) k ≡ (nat_lt n count && (nat_lt k (64 * width) && has_word_bit words (64 * (width * n) + k)))
unfolding has_word_bit
row-bits words start len count width n k hn begins wide within =
    elim (cases_lt k (64 * width)) [
      | inl below ↦
          let short : k / 64 < len = omega arith in
          let place : start + k / 64 ≡ (64 * (width * n) + k) / 64 = omega arith in
          let bit : k % 64 ≡ (64 * (width * n) + k) % 64 = omega arith in
          let read : get_or (take len (drop start words)) (k / 64) 0 ≡ get_or words ((64 * (width * n) + k) / 64) 0 =
          get_or-take len (drop start words) (k / 64) 0 short ∙ (get_or-drop start words (k / 64) 0 ∙ ap (λ i. get_or words i 0) place) in
          rw (lt-ltb n count hn, lt-ltb k (64 * width) below)
          (ap (λ m. eqb (bit_at m (k % 64)) 1) read ∙ ap (λ i. eqb (bit_at (get_or words ((64 * (width * n) + k) / 64) 0) i) 1) bit)
      | inr above ↦
          let out : length (take len (drop start words)) ≤ k / 64 = omega (arith, length-take-le len (drop start words) (omega (arith, length-drop start words))) in
          rw (lt-ltb n count hn, le-ltb k (64 * width) above) (ap (λ m. eqb (bit_at m (k % 64)) 1) (get_or_past (take len (drop start words)) (k / 64) 0 out) ∙ ap (λ m. eqb m 1) (bit_at-zero (k % 64)))
    ]

-- two bits of rows are one only for the same row and the same place
bit-number : (width n k number bit : ℕ) → k < 64 * width → bit < 64 * width → eqb (64 * (width * n) + k) (64 * (width * number) + bit) ≡ (eqb n number && eqb k bit)
bit-number width n k number bit hk hb =
    elim (cases_eq n number) [
      | inl same ↦ rw (eq-eqb n number same) elim (cases_eq k bit) [
        | inl e ↦
            let rows : width * n ≡ width * number = ap (λ z. width * z) same in
            rw (eq-eqb k bit e) (eq-eqb (64 * (width * n) + k) (64 * (width * number) + bit) (omega arith))
        | inr apart ↦
            let rows : width * n ≡ width * number = ap (λ z. width * z) same in
            rw (ne_eqb k bit apart) (ne_eqb (64 * (width * n) + k) (64 * (width * number) + bit) (λ e. apart (omega arith)))
      ]
      | inr apart ↦
          rw (ne_eqb n number apart)
          (ne_eqb (64 * (width * n) + k) (64 * (width * number) + bit)
          (λ e.
          let left : 64 * width * n + k ≡ 64 * (width * n) + k = omega arith in
          let right : 64 * width * number + bit ≡ 64 * (width * number) + bit = omega arith in
          apart (same_cell (64 * width) n k number bit hk hb (left ∙ (e ∙ sym right))).0))
    ]

-- the table where one bit was set
pub inserted-bit : (old new : List ℕ) (count width number bit at : ℕ) → number < count → bit < 64 * width → at ≡ 64 * (width * number) + bit →
    ((b : ℕ) → has_word_bit new b ≡ (eqb b at || has_word_bit old b)) → (n k : ℕ) →
    (nat_lt n count && (nat_lt k (64 * width) && has_word_bit new (64 * (width * n) + k)))
    ≡ ((eqb n number && eqb k bit) || (nat_lt n count && (nat_lt k (64 * width) && has_word_bit old (64 * (width * n) + k))))
inserted-bit old new count width number bit at hn hb is bits n k =
    elim (cases_lt n count) [
      | inr past ↦ rw (le-ltb n count past, ne_eqb n number (λ e. omega arith)) refl
      | inl below ↦ elim (cases_lt k (64 * width)) [
        | inr past ↦ rw (lt-ltb n count below, le-ltb k (64 * width) past, ne_eqb k bit (λ e. omega arith)) (sym (ap (λ b. b || false) (and-none (eqb n number))))
        | inl hk ↦
            rw (lt-ltb n count below, lt-ltb k (64 * width) hk)
            (bits (64 * (width * n) + k)
            ∙ (ap (λ z. eqb (64 * (width * n) + k) z || has_word_bit old (64 * (width * n) + k)) is
            ∙ ap (λ b. b || has_word_bit old (64 * (width * n) + k)) (bit-number width n k number bit hk hb)))
      ]
    ]

-- Bits of one word.
use Rattle.std.proofs.Common.{◌≡◌, ◌≢◌, ℕ, ◌+◌, ◌-◌, ◌*◌, ◌/◌, ◌%◌, ◌^◌, ◌<◌, ◌≤◌, Bool, true, false, ◌&&◌, ◌||◌, List, length, get_or, set, eqb, bit_and, bit_or, refl, sym, ap, ◌∙◌, inl, inr, arith, w64}
use Rattle.std.specs.Prelude.{nat_lt, nat_le}
use Rattle.std.specs.Int.{bit_at, from_le_bytes, to_le_bytes}
use Rattle.std.specs.Int.Count.{count_trailing_zeros}
use Rattle.std.proofs.lemmas.Bool.{cases_lt, cases_eq, eq-eqb, ne_eqb, eqb-true, eqb-false, lt-ltb, le-ltb, le-leb, lt-leb, leb-true}
use Rattle.std.proofs.lemmas.Nat.{from_le_bytes-to_le_bytes_8, shr-shr}
use Rattle.std.proofs.lemmas.List.{get_or-set_other, get_or-set_same, take_all}
use Rattle.std.proofs.lemmas.Nat.Bits.{bit_at-lt, bit_at-zero, bit_at_above, bit_at_set_same, bit_at_set_other, same_from_bits, same_from_bits_below}
use Rattle.hs_base.specs.Bits.{AreZero, has_bit, has_word_bit}
use Rattle.hs_base.proofs.BitLemmas.{bits-past, zero-bits}
use Rattle.hs_base.proofs.ByteSetLemmas.{bit-or}
use Rattle.hs_base.proofs.ContextLemmas.{first_of_both, second_of_both, of_both, of_either, left_of_either, right_of_either}
use Rattle.hs_base.proofs.ContextSetLemmas.{bit-all, bit-and}
use Rattle.hs_bits.specs.LowestBits.{IsLowestBit, AreBitsBehind}
use Rattle.hs_bits.proofs.LowestLemmas.{lowest-is}
use Rattle.hs_bits.proofs.WordLemmas.{and-none, and-true, eight-bits, eight-taken, eight_at, or-turned, shl-bit}
use Rattle.hs_limex.proofs.PlainLemmas.{not-true, true-false}
use Rattle.hs_limex.specs.SingleWords.{IsLedBut, IsNearLed, IsOn, is_moved_on, is_set}

pub set-bit : (word bit k : ℕ) → bit < 64 → is_set (bit_or word (1 * 2 ^ bit % 2 ^ 64)) k ≡ ((eqb k bit && true) || is_set word k)
set-bit word bit k small =
    elim (cases_eq k bit) [
      | inl same ↦
          rw (eq-eqb k bit same) (ap (λ i. eqb (bit_at (bit_or word (1 * 2 ^ bit % 2 ^ 64)) i) 1) same ∙ ap (λ n. eqb n 1) (bit_at_set_same w64 word bit small))
      | inr apart ↦
          rw (ne_eqb k bit apart) (ap (λ n. eqb n 1) (bit_at_set_other w64 word bit small k apart))
    ]

pub kept-bit : (word bit k : ℕ) → is_set word k ≡ ((eqb k bit && false) || is_set word k)
kept-bit word bit k = sym (ap (λ b. b || is_set word k) (and-none (eqb k bit)))

pub moved-bit : (live row d k : ℕ) → k < 64 → is_set (bit_and live row * 2 ^ d % 2 ^ 64) k ≡ is_moved_on live row d k
moved-bit live row d k small = shl-bit (bit_and live row) d k small ∙ ap (λ b. nat_le d k && b) (bit-and live row (k - d))

-- beyond the end of a word no bit is set
pub past-word : (word k : ℕ) → word < 2 ^ 64 → 64 ≤ k → is_set word k ≡ false
past-word word k fits past = ap (λ n. eqb n 1) (bit_at_above word 64 k fits past)

pub one-word : (words : List ℕ) (k : ℕ) → k < 64 → has_word_bit words k ≡ is_set (get_or words 0 0) k
unfolding has_word_bit
one-word words k small =
    let word : k / 64 ≡ 0 = omega arith in
    let bit : k % 64 ≡ k = omega arith in
    ap (λ n. eqb (bit_at (get_or words n 0) (k % 64)) 1) word ∙ ap (λ n. eqb (bit_at (get_or words 0 0) n) 1) bit

-- a word that isn't 0 has a bit
pub some-bit : (word : ℕ) → word ≢ 0 → word < 2 ^ 64 → (k : ℕ) × (is_set word k ≡ true)
some-bit word some fits =
    let low : IsLowestBit word (count_trailing_zeros 64 word) = lowest-is word some fits in
    (count_trailing_zeros 64 word, eq-eqb (bit_at word (count_trailing_zeros 64 word)) 1 low.is)

pub no-bit : (k : ℕ) → is_set 0 k ≡ false
no-bit k = ap (λ n. eqb n 1) (bit_at-zero k)

-- one distance more
module _ (f : ℕ → ℕ → Bool) (live row d led more : ℕ) (row_is : (k : ℕ) → is_set row k ≡ f k (k + d)) (more_is : (k : ℕ) → k < 64 → is_set more k ≡ is_moved_on live row d k) where
  moved-from : (k : ℕ) → k < 64 → is_set more k ≡ true → IsOn f live k
  moved-from k small is =
      let both : Bool = is_set live (k - d) && is_set row (k - d) in
      let moved : (nat_le d k && both) ≡ true = sym (more_is k small) ∙ is in
      let above : d ≤ k = leb-true d k (first_of_both (nat_le d k) both moved) in
      let back : k - d + d ≡ k = omega arith in
      let set : both ≡ true = second_of_both (nat_le d k) both moved in record {
        from = k - d;
        is_live = first_of_both (is_set live (k - d)) (is_set row (k - d)) set;
        is_followed = ap (f (k - d)) (sym back) ∙ (sym (row_is (k - d)) ∙ second_of_both (is_set live (k - d)) (is_set row (k - d)) set);
      }

  moved-to : (x k : ℕ) → k < 64 → is_set live x ≡ true → f x k ≡ true → x + d ≡ k → is_set more k ≡ true
  moved-to x k small set is place =
      let from : k - d ≡ x = omega arith in
      let above : d ≤ k = omega arith in
      let bit : is_set row (k - d) ≡ true = ap (is_set row) from ∙ (row_is x ∙ (ap (f x) place ∙ is)) in
      more_is k small
      ∙ of_both (nat_le d k) (is_set live (k - d) && is_set row (k - d)) (le-leb d k above)
      (of_both (is_set live (k - d)) (is_set row (k - d)) (ap (is_set live) from ∙ set) bit)

  pub near-more : IsNearLed f live d led → IsNearLed f live (d + 1) (bit_or led more)
  near-more near = record {
    sound = λ k small is.
        elim (of_either (is_set led k) (is_set more k) (sym (bit-or led more k) ∙ is)) [
          | inl old ↦ near.sound k small old
          | inr new ↦ moved-from k small new
        ];
    whole = λ x k small set is least most.
        bit-or led more k
        ∙ elim (cases_lt k (x + d)) [
          | inl before ↦ left_of_either (is_set led k) (is_set more k) (near.whole x k small set is least before)
          | inr here ↦
              let place : x + d ≡ k = omega arith in
              right_of_either (is_set led k) (is_set more k) (moved-to x k small set is place)
        ];
  }

pub near-none : (f : ℕ → ℕ → Bool) (live : ℕ) → IsNearLed f live 0 0
near-none f live = record {
  sound = λ k small is. true-false (is_set 0 k) is (no-bit k);
  whole = λ x k small set is least most. absurd (omega arith);
}

-- where what isn't far is near, those that follow the far ones are left
pub led-near : (f : ℕ → ℕ → Bool) (live far span led : ℕ) → ((x y : ℕ) → f x y ≡ true → is_set far x ≡ false → x ≤ y) → ((x y : ℕ) → f x y ≡ true → is_set far x ≡ false → y < x + span) →
    IsNearLed f live span led → IsLedBut f live (bit_and live far) led
led-near f live far span led least most near = record {
  sound = near.sound;
  whole = λ x k small set is gone.
      let beside : is_set far x ≡ false = not-true (is_set far x) (λ apart. true-false (is_set (bit_and live far) x) (bit-and live far x ∙ of_both (is_set live x) (is_set far x) set apart) gone) in
      near.whole x k small set is (least x k is beside) (most x k is beside);
}

-- a bit that isn't the lowest one stays
pub left-stays : (left place rest : ℕ) → IsLowestBit left place → AreBitsBehind left place rest → (x : ℕ) → x ≢ place → is_set left x ≡ true → is_set rest x ≡ true
left-stays left place rest low behind x apart here =
    let is : bit_at left x ≡ 1 = eqb-true (bit_at left x) 1 here in
    elim (cases_lt place x) [
      | inl above ↦ eq-eqb (bit_at rest x) 1 ((behind x).1 (above, is))
      | inr under ↦ absurd (omega (arith, is, low.lowest x (omega arith)))
    ]

-- one position less is left
pub led-more : (f : ℕ → ℕ → Bool) (live left place word rest led : ℕ) → IsLowestBit left place → AreBitsBehind left place rest → is_set live place ≡ true → ((k : ℕ) → is_set word k ≡ f place k) →
    IsLedBut f live left led → IsLedBut f live rest (bit_or led word)
led-more f live left place word rest led low behind set word_is old = record {
  sound = λ k small is.
      elim (of_either (is_set led k) (is_set word k) (sym (bit-or led word k) ∙ is)) [
        | inl before ↦ old.sound k small before
        | inr now ↦ record { from = place; is_live = set; is_followed = sym (word_is k) ∙ now }
      ];
  whole = λ x k small live_x is gone.
      bit-or led word k
      ∙ elim (cases_eq x place) [
        | inl same ↦ right_of_either (is_set led k) (is_set word k) (word_is k ∙ (ap (λ p. f p k) (sym same) ∙ is))
        | inr apart ↦
            left_of_either (is_set led k) (is_set word k)
            (old.whole x k small live_x is (not-true (is_set left x) (λ here. true-false (is_set rest x) (left-stays left place rest low behind x apart here) gone)))
      ];
}

pub left-before : (left place rest : ℕ) → AreBitsBehind left place rest → (x : ℕ) → is_set rest x ≡ true → is_set left x ≡ true
left-before left place rest behind x is = eq-eqb (bit_at left x) 1 ((behind x).0 (eqb-true (bit_at rest x) 1 is)).1

-- the bits of one byte, moved to its place
pub byte-moved : (byte place k : ℕ) → byte < 2 ^ 8 → place < 8 → is_set (byte * 2 ^ (8 * place) % 2 ^ 64) k ≡ (eqb (k / 8) place && is_set byte (k % 8))
byte-moved byte place k fits small =
    elim (cases_lt k 64) [
      | inl inside ↦
          shl-bit byte (8 * place) k inside
          ∙ elim (cases_lt k (8 * place)) [
            | inl below ↦
                let apart : k / 8 ≢ place = omega arith in
                rw (lt-leb (8 * place) k below, ne_eqb (k / 8) place apart) refl
            | inr above ↦ elim (cases_lt k (8 * place + 8)) [
              | inl here ↦
                  let same : k / 8 ≡ place = omega arith in
                  let bit : k - 8 * place ≡ k % 8 = omega arith in
                  rw (le-leb (8 * place) k above, eq-eqb (k / 8) place same) (ap (is_set byte) bit)
              | inr past ↦
                  let apart : k / 8 ≢ place = omega arith in
                  let over : 8 ≤ k - 8 * place = omega arith in
                  rw (le-leb (8 * place) k above, ne_eqb (k / 8) place apart) (ap (λ n. eqb n 1) (bit_at_above byte 8 (k - 8 * place) fits over))
            ]
          ]
      | inr past ↦
          let apart : k / 8 ≢ place = omega arith in
          let below : byte * 2 ^ (8 * place) % 2 ^ 64 < 2 ^ 64 = omega arith in
          past-word (byte * 2 ^ (8 * place) % 2 ^ 64) k below past ∙ sym (ap (λ b. b && is_set byte (k % 8)) (ne_eqb (k / 8) place apart))
    ]

-- a word with the bits of one byte
pub with-byte : (bytes : List ℕ) (word place k : ℕ) → get_or bytes place 0 < 2 ^ 8 → place < 8 →
    is_set (bit_or word (get_or bytes place 0 * 2 ^ (8 * place) % 2 ^ 64)) k ≡ ((eqb (k / 8) place && has_bit bytes k) || is_set word k)
unfolding has_bit
with-byte bytes word place k fits small =
    let moved : ℕ = get_or bytes place 0 * 2 ^ (8 * place) % 2 ^ 64 in
    bit-or word moved k
    ∙ (or-turned (is_set word k) (is_set moved k)
    ∙ ap (λ b. b || is_set word k) (byte-moved (get_or bytes place 0) place k fits small ∙ same-byte (k / 8) place (λ p. is_set (get_or bytes p 0) (k % 8))))
  where
    same-byte : (p place : ℕ) (test : ℕ → Bool) → (eqb p place && test place) ≡ (eqb p place && test p)
    same-byte p place test =
        elim (cases_eq p place) [
          | inl same ↦ ap (λ b. eqb p place && b) (ap test (sym same))
          | inr apart ↦ rw (ne_eqb p place apart) refl
        ]

-- one byte more of those whose bits a word has
pub bytes-more : (bytes : List ℕ) (before now k place : ℕ) (known : Bool) → is_set before k ≡ (known && has_bit bytes k) → is_set now k ≡ ((eqb (k / 8) place && has_bit bytes k) || is_set before k) →
    is_set now k ≡ ((eqb (k / 8) place || known) && has_bit bytes k)
bytes-more bytes before now k place known was is = is ∙ (ap (λ b. (eqb (k / 8) place && has_bit bytes k) || b) was ∙ joined (eqb (k / 8) place) known (has_bit bytes k))
  where
    joined : (new old bit : Bool) → ((new && bit) || (old && bit)) ≡ ((new || old) && bit)
    joined true old true = refl
    joined true old false = and-none old
    joined false old bit = refl

-- all bytes
pub bytes-known : (bytes : List ℕ) (now k : ℕ) (known : Bool) → is_set now k ≡ (known && has_bit bytes k) → (k < 8 * length bytes → known ≡ true) → is_set now k ≡ has_bit bytes k
bytes-known bytes now k known is every =
    is
    ∙ elim (cases_lt k (8 * length bytes)) [
      | inl below ↦ ap (λ b. b && has_bit bytes k) (every below)
      | inr past ↦ ap (λ b. known && b) (bits-past bytes k past) ∙ (and-none known ∙ sym (bits-past bytes k past))
    ]

-- it is this one, or one of the rest
pub this-or : (p place : ℕ) (rest : Bool) → (p ≢ place → rest ≡ true) → (eqb p place || rest) ≡ true
this-or p place rest other =
    elim (cases_eq p place) [
      | inl same ↦ left_of_either (eqb p place) rest (eq-eqb p place same)
      | inr apart ↦ right_of_either (eqb p place) rest (other apart)
    ]

-- the one byte
pub one-byte : (bytes : List ℕ) (now k : ℕ) → length bytes ≡ 1 → is_set now k ≡ ((eqb (k / 8) 0 && has_bit bytes k) || is_set 0 k) → is_set now k ≡ has_bit bytes k
one-byte bytes now k one is =
    bytes-known bytes now k (eqb (k / 8) 0 || false) (bytes-more bytes 0 now k 0 false (no-bit k) is) (λ below. this-or (k / 8) 0 false (λ a. absurd (omega arith)))

-- no byte
pub no-byte : (bytes : List ℕ) (k : ℕ) → length bytes ≡ 0 → is_set 0 k ≡ has_bit bytes k
no-byte bytes k none = no-bit k ∙ sym (bits-past bytes k (omega arith))

-- the row of a word from a bit on
pub row-bit : (word start all size k : ℕ) → is_set all k ≡ nat_lt k size → is_set (bit_and (word / 2 ^ start) all) k ≡ (nat_lt k size && is_set word (start + k))
row-bit word start all size k all_is =
    bit-and (word / 2 ^ start) all k
    ∙ (ap (λ b. is_set (word / 2 ^ start) k && b) all_is
    ∙ (ap (λ b. b && nat_lt k size) (ap (λ m. eqb (m % 2) 1) (shr-shr word start k)) ∙ and-turned (is_set word (start + k)) (nat_lt k size)))
  where
    and-turned : (a b : Bool) → (a && b) ≡ (b && a)
    and-turned true true = refl
    and-turned true false = refl
    and-turned false true = refl
    and-turned false false = refl

-- bytes are zero exactly where their word is
pub clear-word : (bytes : List ℕ) (word : ℕ) → word < 2 ^ 64 → ((i : ℕ) → get_or bytes i 0 < 2 ^ 8) → ((k : ℕ) → is_set word k ≡ has_bit bytes k) → AreZero bytes → word ≡ 0
clear-word bytes word fits each bits zeros =
    same_from_bits word 0 (λ k.
    let none : is_set word k ≡ false = bits k ∙ zero-bits bytes zeros k in
    omega (arith, bit_at-lt word k, bit_at-zero k, eqb-false (bit_at word k) 1 none))

pub word-clear : (bytes : List ℕ) (word : ℕ) → ((i : ℕ) → get_or bytes i 0 < 2 ^ 8) → ((k : ℕ) → is_set word k ≡ has_bit bytes k) → word ≡ 0 → AreZero bytes
unfolding has_bit
word-clear bytes word each bits none i below =
    same_from_bits_below 8 (get_or bytes i 0) 0 (each i) (omega arith) (λ b small.
    let byte : (8 * i + b) / 8 ≡ i = omega arith in
    let bit : (8 * i + b) % 8 ≡ b = omega arith in
    let unset : eqb (bit_at (get_or bytes i 0) b) 1 ≡ false =
    sym (ap (λ n. eqb (bit_at (get_or bytes n 0) ((8 * i + b) % 8)) 1) byte ∙ ap (λ n. eqb (bit_at (get_or bytes i 0) n) 1) bit)
    ∙ (sym (bits (8 * i + b)) ∙ (ap (λ w. is_set w (8 * i + b)) none ∙ no-bit (8 * i + b))) in
    omega (arith, bit_at-lt (get_or bytes i 0) b, bit_at-zero b, eqb-false (bit_at (get_or bytes i 0) b) 1 unset))

-- eight bytes that are those of the word have its bits
pub eight-stored : (bytes : List ℕ) (word count k : ℕ) → word < 2 ^ 64 → bytes ≡ to_le_bytes w64 word → count ≡ 8 → length bytes ≡ 8 → ((i : ℕ) → get_or bytes i 0 < 2 ^ 8) →
    has_bit bytes k ≡ (nat_lt k (8 * count) && is_set word k)
eight-stored bytes word count k fits are counted len each =
    elim (cases_lt k 64) [
      | inl below ↦
          let room : 0 + 8 ≤ length bytes = omega arith in
          let inside : k < 8 * count = omega arith in
          let place : 8 * 0 + k ≡ k = omega arith in
          let whole : eight_at bytes 0 ≡ bytes = eight-taken bytes 0 room ∙ take_all 8 bytes (omega arith) in
          let value : from_le_bytes w64 (eight_at bytes 0) ≡ word = ap (from_le_bytes w64) whole ∙ (ap (from_le_bytes w64) are ∙ from_le_bytes-to_le_bytes_8 word fits) in
          sym (eight-bits bytes 0 k room each below ∙ ap (has_bit bytes) place) ∙ (ap (λ w. is_set w k) value ∙ sym (ap (λ b. b && is_set word k) (lt-ltb k (8 * count) inside)))
      | inr past ↦ bits-past bytes k (omega arith) ∙ sym (ap (λ b. b && is_set word k) (le-ltb k (8 * count) (omega arith)))
    ]

-- a byte that is made that of the word
pub put-here : (bytes : List ℕ) (word place k : ℕ) → place < length bytes → k / 8 ≡ place → has_bit (set bytes place (bit_and (word / 2 ^ (8 * place)) 255)) k ≡ is_set word k
unfolding has_bit
put-here bytes word place k within here =
    let moved : ℕ = word / 2 ^ (8 * place) in
    let byte : ℕ = bit_and moved 255 in
    let at : 8 * place + k % 8 ≡ k = omega arith in
    ap (λ n. eqb (bit_at (get_or (set bytes place byte) n 0) (k % 8)) 1) here
    ∙ (ap (λ n. eqb (bit_at n (k % 8)) 1) (get_or-set_same bytes place byte 0 within)
    ∙ (bit-and moved 255 (k % 8)
    ∙ (ap (λ b. is_set moved (k % 8) && b) (bit-all 8 (k % 8) (omega arith))
    ∙ (and-true (is_set moved (k % 8)) ∙ (ap (λ m. eqb (m % 2) 1) (shr-shr word (8 * place) (k % 8)) ∙ ap (is_set word) at)))))

-- the bytes beside it stay
put-beside : (bytes : List ℕ) (place byte k : ℕ) → k / 8 ≢ place → has_bit (set bytes place byte) k ≡ has_bit bytes k
unfolding has_bit
put-beside bytes place byte k apart = ap (λ n. eqb (bit_at n (k % 8)) 1) (get_or-set_other bytes place (k / 8) byte 0 apart)

-- what is the word's already stays so
pub put-kept : (bytes : List ℕ) (word place k : ℕ) → place < length bytes → has_bit bytes k ≡ is_set word k → has_bit (set bytes place (bit_and (word / 2 ^ (8 * place)) 255)) k ≡ is_set word k
put-kept bytes word place k within was =
    elim (cases_eq (k / 8) place) [
      | inl here ↦ put-here bytes word place k within here
      | inr apart ↦ put-beside bytes place (bit_and (word / 2 ^ (8 * place)) 255) k apart ∙ was
    ]

-- bytes that are all the word's
pub bytes-stored : (bytes : List ℕ) (word count k : ℕ) → length bytes ≡ count → (k < 8 * count → has_bit bytes k ≡ is_set word k) → has_bit bytes k ≡ (nat_lt k (8 * count) && is_set word k)
bytes-stored bytes word count k len every =
    elim (cases_lt k (8 * count)) [
      | inl below ↦ every below ∙ sym (ap (λ b. b && is_set word k) (lt-ltb k (8 * count) below))
      | inr past ↦ bits-past bytes k (omega arith) ∙ sym (ap (λ b. b && is_set word k) (le-ltb k (8 * count) past))
    ]

-- Bytes made of a test of the numbers of their bits.
use Rattle.std.proofs.Common.{◌≡◌, ℕ, zero, suc, ◌+◌, ◌*◌, ◌/◌, ◌%◌, ◌^◌, ◌<◌, ◌≤◌, Bool, true, false, nat_lt, ◌&&◌, ◌∷◌, List, ◌-◌, ◌++◌, take, drop, length, length-append, length-drop, get_or, set, eqb, bit_and, w64, refl, sym, ap, ◌∙◌, inl, inr, arith}
use Rattle.std.specs.Prelude.{if◌then◌else◌}
use Rattle.std.specs.Int.{bit_at, to_le_bytes}
use Rattle.std.proofs.lemmas.Bool.{cases_eq, cases_lt}
use Rattle.std.proofs.lemmas.List.{get_or-append-add, get_or-set_other, get_or-set_same, get_or-take, get_or_append_left, length-take-le}
use Rattle.std.proofs.lemmas.Nat.{and_mask, shr-shr}
use Rattle.std.proofs.lemmas.Nat.Bits.{bit_at-lt, same_from_bits_below}
use Rattle.std.proofs.Math.Nat.{pow-suc}
use Rattle.hs_base.specs.Bits.{AreZero, has_bit, has_word_bit}
use Rattle.hs_base.proofs.BitLemmas.{bits-past, same-places}
use Rattle.hs_bits.specs.Packed.{digits, packed}
use Rattle.hs_bits.proofs.PlaceLemmas.{less-is, not-less}
use Rattle.hs_bits.proofs.WordLemmas.{byte-bits, le-bits, le-fits}

pub length-packed : (n : ℕ) (bit : ℕ → Bool) → length (packed n bit) ≡ n
length-packed zero bit = refl
length-packed (suc n) bit = omega (arith, length-packed n (λ k. bit (8 + k)))

pub digits-same : (n : ℕ) (f g : ℕ → Bool) → ((k : ℕ) → k < n → f k ≡ g k) → digits n f ≡ digits n g
digits-same zero f g same = refl
digits-same (suc n) f g same =
    ap (λ b. (if b then 1 else 0) + 2 * digits n (λ k. f (suc k))) (same 0 (omega arith))
    ∙ ap (λ d. (if g 0 then 1 else 0) + 2 * d) (digits-same n (λ k. f (suc k)) (λ k. g (suc k)) (λ k below. same (suc k) (omega arith)))

pub packed-same : (n : ℕ) (f g : ℕ → Bool) → ((k : ℕ) → k < 8 * n → f k ≡ g k) → packed n f ≡ packed n g
packed-same zero f g same = refl
packed-same (suc n) f g same =
    ap (λ d. d ∷ packed n (λ k. f (8 + k))) (digits-same 8 f g (λ k below. same k (omega arith)))
    ∙ ap (λ rest. digits 8 g ∷ rest) (packed-same n (λ k. f (8 + k)) (λ k. g (8 + k)) (λ k below. same (8 + k) (omega arith)))

pub digits-none : (n : ℕ) (f : ℕ → Bool) → ((k : ℕ) → k < n → f k ≡ false) → digits n f ≡ 0
digits-none zero f none_ = refl
digits-none (suc n) f none_ =
    let first : ◌≡◌ {A = ℕ} (if f 0 then 1 else 0) 0 = ap (λ b. if b then 1 else 0) (none_ 0 (omega arith)) in
    omega (arith, first, digits-none n (λ k. f (suc k)) (λ k below. none_ (suc k) (omega arith)))

one-digit : (b : Bool) (m : ℕ) → ((if b then 1 else 0) + 2 * m) % 2 ≡ (if b then 1 else 0)
one-digit true m = omega arith
one-digit false m = omega arith

half-digit : (b : Bool) (m : ℕ) → ((if b then 1 else 0) + 2 * m) / 2 ≡ m
half-digit true m = omega arith
half-digit false m = omega arith

digit-truth : (b : Bool) → eqb (if b then 1 else 0) 1 ≡ b
digit-truth true = refl
digit-truth false = refl

bit-half : (m k : ℕ) → bit_at m (suc k) ≡ bit_at (m / 2) k
bit-half m k =
    let e : suc k ≡ 1 + k = omega arith in
    ap (λ j. m / 2 ^ j % 2) e ∙ ap (λ q. q % 2) (sym (shr-shr m 1 k))

-- a digit tells of its number
pub bit-digits : (n : ℕ) (f : ℕ → Bool) (k : ℕ) → k < n → eqb (bit_at (digits n f) k) 1 ≡ f k
bit-digits zero f k below = absurd (omega arith)
bit-digits (suc n) f zero below =
    let rest : ℕ = digits n (λ k. f (suc k)) in
    let whole : ℕ = (if f 0 then 1 else 0) + 2 * rest in
    let low : bit_at whole 0 ≡ whole % 2 = let e : whole / 1 ≡ whole = omega arith in ap (λ q. q % 2) e in
    ap (λ d. eqb d 1) (low ∙ one-digit (f 0) rest) ∙ digit-truth (f 0)
bit-digits (suc n) f (suc k) below =
    let rest : ℕ = digits n (λ k. f (suc k)) in
    ap (λ d. eqb d 1) (bit-half ((if f 0 then 1 else 0) + 2 * rest) k ∙ ap (λ m. bit_at m k) (half-digit (f 0) rest)) ∙ bit-digits n (λ k. f (suc k)) k (omega arith)

-- the byte of that number
pub packed-at : (n : ℕ) (f : ℕ → Bool) (i : ℕ) → i < n → get_or (packed n f) i 0 ≡ digits 8 (λ k. f (8 * i + k))
packed-at zero f i below = absurd (omega arith)
packed-at (suc n) f zero below = refl
packed-at (suc n) f (suc i) below =
    packed-at n (λ k. f (8 + k)) i (omega arith)
    ∙ digits-same 8 (λ k. f (8 + (8 * i + k))) (λ k. f (8 * suc i + k)) (λ k small. ap f (let e : 8 + (8 * i + k) ≡ 8 * suc i + k = omega arith in e))

pub bit-packed : (n : ℕ) (f : ℕ → Bool) (x : ℕ) → x < 8 * n → has_bit (packed n f) x ≡ f x
unfolding has_bit
bit-packed n f x below =
    let place : 8 * (x / 8) + x % 8 ≡ x = omega arith in
    ap (λ b. eqb (bit_at b (x % 8)) 1) (packed-at n f (x / 8) (omega arith))
    ∙ (bit-digits 8 (λ k. f (8 * (x / 8) + k)) (x % 8) (omega arith) ∙ ap f place)

pub bit-packed_past : (n : ℕ) (f : ℕ → Bool) (x : ℕ) → 8 * n ≤ x → has_bit (packed n f) x ≡ false
bit-packed_past n f x past = bits-past (packed n f) x (omega (arith, length-packed n f))

-- where none passes, all bytes are 0
pub packed-zero : (n : ℕ) (f : ℕ → Bool) → ((x : ℕ) → x < 8 * n → f x ≡ false) → AreZero (packed n f)
packed-zero n f none_ i below =
    let inside : i < n = omega (arith, length-packed n f) in
    packed-at n f i inside ∙ digits-none 8 (λ k. f (8 * i + k)) (λ k small. none_ (8 * i + k) (omega arith))

-- the bits of such bytes
pub bits-of_packed : (bytes : List ℕ) (n : ℕ) (f : ℕ → Bool) → bytes ≡ packed n f → (x : ℕ) → has_bit bytes x ≡ (nat_lt x (8 * n) && f x)
bits-of_packed bytes n f is x =
    ap (λ b. has_bit b x) is
    ∙ elim (cases_lt x (8 * n)) [
      | inl below ↦ bit-packed n f x below ∙ sym (ap (λ b. b && f x) (less-is x (8 * n) below))
      | inr past ↦ bit-packed_past n f x past ∙ sym (ap (λ b. b && f x) (not-less x (8 * n) past))
    ]

-- bytes that are those of a row

digits-below : (n : ℕ) (f : ℕ → Bool) → digits n f < 2 ^ n
digits-below zero f = omega arith
digits-below (suc n) f =
    let first : (if f 0 then 1 else 0) ≤ 1 = one-most (f 0) in
    omega (arith, first, digits-below n (λ k. f (suc k)), pow-suc 2 n)
  where
    one-most : (b : Bool) → (if b then 1 else 0) ≤ 1
    one-most true = omega arith
    one-most false = omega arith

-- a byte is made of its bits
byte-is : (byte : ℕ) (f : ℕ → Bool) → byte < 2 ^ 8 → ((k : ℕ) → k < 8 → eqb (bit_at byte k) 1 ≡ f k) → byte ≡ digits 8 f
byte-is byte f small bits =
    same_from_bits_below 8 byte (digits 8 f) small (digits-below 8 f) (λ k below.
    same-digit (bit_at byte k) (bit_at (digits 8 f) k) (bit_at-lt byte k) (bit_at-lt (digits 8 f) k) (bits k below ∙ sym (bit-digits 8 f k below)))
  where
    same-digit : (a b : ℕ) → a < 2 → b < 2 → eqb a 1 ≡ eqb b 1 → a ≡ b
    same-digit zero zero h k e = refl
    same-digit zero (suc zero) h k e = absurd (let f : false ≡ true = e in cc)
    same-digit (suc zero) zero h k e = absurd (let f : true ≡ false = e in cc)
    same-digit (suc zero) (suc zero) h k e = refl
    same-digit (suc (suc a)) b h k e = absurd (omega arith)
    same-digit a (suc (suc b)) h k e = absurd (omega arith)

pub low-byte : (row : List ℕ) (i : ℕ) → bit_and (get_or row (i / 8) 0 / 2 ^ (8 * (i % 8))) 255 ≡ digits 8 (λ k. has_word_bit row (8 * i + k))
low-byte row i =
    let byte : ℕ = bit_and (get_or row (i / 8) 0 / 2 ^ (8 * (i % 8))) 255 in
    byte-is byte (λ k. has_word_bit row (8 * i + k)) (omega (arith, and_mask (get_or row (i / 8) 0 / 2 ^ (8 * (i % 8))) 8)) (byte-bits row i)

-- one of the eight bytes of a word
byte-of_word : (row : List ℕ) (p j : ℕ) → get_or row p 0 < 2 ^ 64 → j < 8 → get_or (to_le_bytes w64 (get_or row p 0)) j 0 ≡ digits 8 (λ k. has_word_bit row (8 * (8 * p + j) + k))
unfolding has_bit has_word_bit
byte-of_word row p j fits inside =
    let word : ℕ = get_or row p 0 in
    byte-is (get_or (to_le_bytes w64 word) j 0) (λ k. has_word_bit row (8 * (8 * p + j) + k)) (le-fits word j) (λ k below.
    let byte : (8 * j + k) / 8 ≡ j = omega (arith, below) in
    let bit : (8 * j + k) % 8 ≡ k = omega (arith, below) in
    let number : (8 * (8 * p + j) + k) / 64 ≡ p = omega (arith, below, inside) in
    let place : (8 * (8 * p + j) + k) % 64 ≡ 8 * j + k = omega (arith, below, inside) in
    sym (ap (λ n. eqb (bit_at (get_or (to_le_bytes w64 word) n 0) ((8 * j + k) % 8)) 1) byte ∙ ap (λ n. eqb (bit_at (get_or (to_le_bytes w64 word) j 0) n) 1) bit)
    ∙ (le-bits word (8 * j + k) fits
    ∙ sym (ap (λ n. eqb (bit_at (get_or row n 0) ((8 * (8 * p + j) + k) % 64)) 1) number ∙ ap (λ n. eqb (bit_at word n) 1) place)))

-- eight bytes in the place of eight
pub length-stored : (bytes w : List ℕ) (p : ℕ) → 8 * p + 8 ≤ length bytes → length w ≡ 8 → length (take (8 * p) bytes ++ (w ++ drop (8 * p + 8 - 8 * p) (drop (8 * p) bytes))) ≡ length bytes
length-stored bytes w p room eight =
    let back : List ℕ = drop (8 * p + 8 - 8 * p) (drop (8 * p) bytes) in
    let start : length (take (8 * p) bytes) ≡ 8 * p = length-take-le (8 * p) bytes (omega (arith, room)) in
    let left : length back ≡ length (drop (8 * p) bytes) - (8 * p + 8 - 8 * p) = length-drop (8 * p + 8 - 8 * p) (drop (8 * p) bytes) in
    length-append (take (8 * p) bytes) (w ++ back) ∙ omega (arith, length-append w back, start, eight, left, length-drop (8 * p) bytes, room)

-- a word more is stored
pub word-stored : (row bytes w back : List ℕ) (p : ℕ) → get_or row p 0 < 2 ^ 64 → 8 * p ≤ length bytes → w ≡ to_le_bytes w64 (get_or row p 0) → ((i : ℕ) → i < 8 * p → get_or bytes i 0 ≡ digits 8 (λ k. has_word_bit row (8 * i + k))) →
    (i : ℕ) → i < 8 * (p + 1) → get_or (take (8 * p) bytes ++ (w ++ back)) i 0 ≡ digits 8 (λ k. has_word_bit row (8 * i + k))
word-stored row bytes w back p fits room are before i below =
    let start : length (take (8 * p) bytes) ≡ 8 * p = length-take-le (8 * p) bytes room in
    elim (cases_lt i (8 * p)) [
      | inl under ↦ get_or_append_left (take (8 * p) bytes) (w ++ back) 0 i (omega arith) ∙ (get_or-take (8 * p) bytes i 0 under ∙ before i under)
      | inr above ↦
          let j : ℕ = i - 8 * p in
          let inside : j < 8 = omega arith in
          let size : length w ≡ 8 = ap length are in
          let at : i ≡ length (take (8 * p) bytes) + j = omega arith in
          let number : 8 * p + j ≡ i = omega arith in
          ap (λ n. get_or (take (8 * p) bytes ++ (w ++ back)) n 0) at
          ∙ (get_or-append-add (take (8 * p) bytes) (w ++ back) j 0
          ∙ (get_or_append_left w back 0 j (omega arith) ∙ (ap (λ l. get_or l j 0) are ∙ (byte-of_word row p j fits inside ∙ ap (λ n. digits 8 (λ k. has_word_bit row (8 * n + k))) number))))
    ]

-- one byte more, and all of them
pub byte-stored : (bytes : List ℕ) (p v : ℕ) (f : ℕ → Bool) → p < length bytes → v ≡ digits 8 (λ k. f (8 * p + k)) → ((i : ℕ) → i < p → get_or bytes i 0 ≡ digits 8 (λ k. f (8 * i + k))) →
    (i : ℕ) → i < p + 1 → get_or (set bytes p v) i 0 ≡ digits 8 (λ k. f (8 * i + k))
byte-stored bytes p v f within byte before i below =
    elim (cases_eq i p) [
      | inl same ↦ ap (λ n. get_or (set bytes p v) n 0) same ∙ (get_or-set_same bytes p v 0 within ∙ (byte ∙ ap (λ n. digits 8 (λ k. f (8 * n + k))) (sym same)))
      | inr apart ↦ get_or-set_other bytes p i v 0 apart ∙ before i (omega arith)
    ]

pub all-stored : (bytes : List ℕ) (n : ℕ) (f : ℕ → Bool) → length bytes ≡ n → ((i : ℕ) → i < n → get_or bytes i 0 ≡ digits 8 (λ k. f (8 * i + k))) → bytes ≡ packed n f
all-stored bytes n f len are = same-places bytes (packed n f) (len ∙ sym (length-packed n f)) (λ i below. are i (omega arith) ∙ sym (packed-at n f i (omega arith)))

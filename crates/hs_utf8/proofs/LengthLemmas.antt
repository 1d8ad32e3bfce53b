-- How long encodings are.
use Rattle.std.proofs.Common.{◌≡◌, ℕ, ◌/◌, ◌<◌, ◌≤◌, true, false, [], ◌∷◌, length, inl, inr, refl, ltb, arith}
use Rattle.std.proofs.lemmas.Bool.Decides.{nat_tests}
use Rattle.std.proofs.lemmas.Bool.{cases_lt}
use lib.Utf8.{encode}
use Rattle.hs_utf8.specs.Digits.{digit_bytes, HasLength}

-- the encodings of one, two, three and four bytes
pub encode-one : (c : ℕ) → c < 0x80 → encode c ≡ c ∷ []
unfolding encode
encode-one c low =
    let one : ltb c 0x80 ≡ true = grind (arith, nat_tests) in
    rw one refl

pub encode-two : (c : ℕ) → 0x80 ≤ c → c ≤ 0x7FF → encode c ≡ digit_bytes 0xC0 1 c
unfolding encode
encode-two c low high =
    let one : ltb c 0x80 ≡ false = grind (arith, nat_tests) in
    let two : ltb c 0x800 ≡ true = grind (arith, nat_tests) in
    rw (one, two) refl

pub encode-three : (c : ℕ) → 0x800 ≤ c → c ≤ 0xFFFF → encode c ≡ digit_bytes 0xE0 2 c
unfolding encode
encode-three c low high =
    let one : ltb c 0x80 ≡ false = grind (arith, nat_tests) in
    let two : ltb c 0x800 ≡ false = grind (arith, nat_tests) in
    let three : ltb c 0x10000 ≡ true = grind (arith, nat_tests) in
    let first : c / 4096 ≡ c / 64 / 64 = omega arith in
    rw (one, two, three, first) refl

pub encode-four : (c : ℕ) → 0x10000 ≤ c → encode c ≡ digit_bytes 0xF0 3 c
unfolding encode
encode-four c low =
    let one : ltb c 0x80 ≡ false = grind (arith, nat_tests) in
    let two : ltb c 0x800 ≡ false = grind (arith, nat_tests) in
    let three : ltb c 0x10000 ≡ false = grind (arith, nat_tests) in
    let first : c / 262144 ≡ c / 64 / 64 / 64 = omega arith in
    let second : c / 4096 ≡ c / 64 / 64 = omega arith in
    rw (one, two, three, first, second) refl

pub length-two : (c : ℕ) → 0x80 ≤ c → c ≤ 0x7FF → HasLength c 0x7FF 1
unfolding encode
length-two c low high = record {
  lead = 0xC0;
  some = high;
  bounded = omega arith;
  scalar = λ d above below. grind (arith, nat_tests);
  encodings = λ d above below. encode-two d (omega arith) below;
  ends = λ is same. absurd (let no : 3 ≡ 2 = same in omega arith);
}

pub length-three_low : (c : ℕ) → 0x800 ≤ c → c ≤ 0xD7FF → HasLength c 0xD7FF 2
unfolding encode
length-three_low c low high = record {
  lead = 0xE0;
  some = high;
  bounded = omega arith;
  scalar = λ d above below. grind (arith, nat_tests);
  encodings = λ d above below. encode-three d (omega arith) (omega arith);
  ends = λ is same. cc;
}

pub length-three_high : (c : ℕ) → 0xE000 ≤ c → c ≤ 0xFFFF → HasLength c 0xFFFF 2
unfolding encode
length-three_high c low high = record {
  lead = 0xE0;
  some = high;
  bounded = omega arith;
  scalar = λ d above below. grind (arith, nat_tests);
  encodings = λ d above below. encode-three d (omega arith) below;
  ends = λ is same. absurd (let no : 4 ≡ 3 = same in omega arith);
}

pub length-four : (c : ℕ) → 0x10000 ≤ c → c ≤ 0x10FFFF → HasLength c 0x10FFFF 3
unfolding encode
length-four c low high = record {
  lead = 0xF0;
  some = high;
  bounded = omega arith;
  scalar = λ d above below. grind (arith, nat_tests);
  encodings = λ d above below. encode-four d (omega arith);
  ends = λ is same. cc;
}

-- an encoding has a byte
pub some_byte : (c : ℕ) → 0 < length (encode c)
some_byte c = elim (cases_lt c 0x80) [
  | inl one ↦ rw (encode-one c one) (omega arith)
  | inr low ↦ elim (cases_lt c 0x800) [
    | inl two ↦ rw (encode-two c low (omega arith)) (omega arith)
    | inr middle ↦ elim (cases_lt c 0x10000) [
      | inl three ↦ rw (encode-three c middle (omega arith)) (omega arith)
      | inr four ↦ rw (encode-four c four) (omega arith)
    ]
  ]
]

-- The character that bytes begin with is a well-formed encoding.
use Rattle.std.proofs.Common.{◌≡◌, ℕ, zero, suc, ◌+◌, ◌/◌, ◌%◌, ◌<◌, ◌≤◌, inl, inr, Bool, true, false, ◌&&◌, List, [], ◌∷◌, ◌++◌, length, take, Option, Some, None, refl, sym, ap, ap₂, subst, ◌∙◌, append-nil, min, arith}
use Rattle.std.specs.Prelude.{nat_le, nat_lt, encode_utf8}
use Rattle.std.specs.List.{slice_get}
use Rattle.std.specs.Option.{option_map}
use Rattle.std.specs.Char.{IsScalar}
use Rattle.std.specs.Str.{chars, is_utf8, encode_utf8_all, all_scalars}
use Rattle.std.proofs.lemmas.Bool.{cases_lt, cases_Bool, and_parts, and_from, cond-true, cond-false, lt-ltb, le-ltb, le-leb, lt-leb, leb-true}
use Rattle.std.proofs.lemmas.Bool.{cond_both}
use Rattle.std.proofs.lemmas.List.{length-take, length-take-le, length-append}
use Rattle.std.proofs.lemmas.Str.{length-encode, encode_ascii, chars-encodes, IsUtf8-from_is_utf8, is_utf8-from_IsUtf8, IsUtf8-encode}
use lib.Utf8.{encode, low_scalar}
use lib.Dec.{ltb}
use Rattle.hs_syntax.proofs.CharacterLemmas.{length_some}
use Rattle.hs_syntax.specs.Characters.{is_beyond_ascii, encoding_length, encoded, character_of}
use Rattle.hs_syntax.specs.CharacterLaws.{BeginsEncoded, CharactersAreEncodings}

-- an encoding by its first byte, which tells its length
record HasLead (c : ℕ) : Type 0 where
  pub lead : ℕ
  pub rest : List ℕ
  pub is : encode_utf8 c ≡ lead ∷ rest
  pub count : encoding_length lead ≡ length (encode_utf8 c)

length_one : (b : ℕ) → b ≤ 0x7F → encoding_length b ≡ 1
length_one b h = cond-true (nat_le b 0x7F) _ _ (le-leb b 0x7F h)

length_two : (b : ℕ) → 0x7F < b → b ≤ 0xDF → encoding_length b ≡ 2
length_two b h k = cond-false (nat_le b 0x7F) _ _ (lt-leb b 0x7F h) ∙ cond-true (nat_le b 0xDF) _ _ (le-leb b 0xDF k)

length_three : (b : ℕ) → 0xDF < b → b ≤ 0xEF → encoding_length b ≡ 3
length_three b h k =
    cond-false (nat_le b 0x7F) _ _ (lt-leb b 0x7F (omega (arith, h)))
    ∙ cond-false (nat_le b 0xDF) _ _ (lt-leb b 0xDF h)
    ∙ cond-true (nat_le b 0xEF) _ _ (le-leb b 0xEF k)

length_four : (b : ℕ) → 0xEF < b → encoding_length b ≡ 4
length_four b h =
    cond-false (nat_le b 0x7F) _ _ (lt-leb b 0x7F (omega (arith, h)))
    ∙ cond-false (nat_le b 0xDF) _ _ (lt-leb b 0xDF (omega (arith, h)))
    ∙ cond-false (nat_le b 0xEF) _ _ (lt-leb b 0xEF h)

lead_of : (c : ℕ) → HasLead c
unfolding encode
lead_of c = elim (cases_lt c 128) [
  | inl one ↦
      let first : ltb c 128 ≡ true = lt-ltb c 128 one in
      let is : encode c ≡ c ∷ [] = rw first refl in
      record { lead = c; rest = []; is = is; count = length_one c (omega (arith, one)) ∙ sym (ap length is) }
  | inr more ↦ elim (cases_lt c 2048) [
    | inl two ↦
        let first : ltb c 128 ≡ false = le-ltb c 128 more in
        let second : ltb c 2048 ≡ true = lt-ltb c 2048 two in
        let is : encode c ≡ (192 + c / 64) ∷ (128 + c % 64) ∷ [] = rw (first, second) refl in
        record {
          lead = 192 + c / 64;
          rest = _;
          is = is;
          count = length_two (192 + c / 64) (omega arith) (omega (arith, two)) ∙ sym (ap length is);
        }
    | inr many ↦ elim (cases_lt c 65536) [
      | inl three ↦
          let first : ltb c 128 ≡ false = le-ltb c 128 more in
          let second : ltb c 2048 ≡ false = le-ltb c 2048 many in
          let third : ltb c 65536 ≡ true = lt-ltb c 65536 three in
          let is : encode c ≡ (224 + c / 4096) ∷ (128 + (c / 64) % 64) ∷ (128 + c % 64) ∷ [] = rw (first, second, third) refl in
          record {
            lead = 224 + c / 4096;
            rest = _;
            is = is;
            count = length_three (224 + c / 4096) (omega arith) (omega (arith, three)) ∙ sym (ap length is);
          }
      | inr four ↦
          let first : ltb c 128 ≡ false = le-ltb c 128 more in
          let second : ltb c 2048 ≡ false = le-ltb c 2048 many in
          let third : ltb c 65536 ≡ false = le-ltb c 65536 four in
          let is : encode c ≡ (240 + c / 262144) ∷ (128 + (c / 4096) % 64) ∷ (128 + (c / 64) % 64) ∷ (128 + c % 64) ∷ [] =
          rw (first, second, third) refl in
          record { lead = 240 + c / 262144; rest = _; is = is; count = length_four (240 + c / 262144) (omega arith) ∙ sym (ap length is) }
    ]
  ]
]

-- the first byte of the front
front_first : (n : ℕ) (bytes : List ℕ) (b : ℕ) → 0 < n → slice_get bytes 0 ≡ Some b → slice_get (take n bytes) 0 ≡ Some b
front_first n [] b h e = absurd cc
front_first (suc n) (x ∷ bytes) b h e = e
front_first zero (x ∷ bytes) b h e = absurd (omega (arith, h))

-- what all bytes of the front encode
record OnlyOne (front : List ℕ) (b : ℕ) : Type 0 where
  pub code : ℕ
  pub scalar : IsScalar code
  pub is : front ≡ encode_utf8 code
  pub first : slice_get (chars front) 0 ≡ Some code

no_more : (xs ys : List ℕ) → length (xs ++ ys) ≡ length xs → ys ≡ []
no_more xs [] h = refl
no_more xs (y ∷ ys) h = let both = length-append xs (y ∷ ys) in absurd (omega (arith, h, both))

one_character : (front : List ℕ) (b : ℕ) → slice_get front 0 ≡ Some b → length front ≡ encoding_length b → (cs : List ℕ) →
    all_scalars cs ≡ true → encode_utf8_all cs ≡ front → OnlyOne front b
one_character front b e h [] scalars is = absurd (let bad : None ≡ Some b = ap (λ xs. slice_get xs 0) is ∙ e in cc)
one_character front b e h (c ∷ cs) scalars is =
    let lead = lead_of c in
    let first : Some lead.lead ≡ Some b =
    sym (ap (λ xs. slice_get (xs ++ encode_utf8_all cs) 0) lead.is) ∙ ap (λ xs. slice_get xs 0) is ∙ e in
    let same : lead.lead ≡ b = cc in
    let count : length (encode_utf8 c ++ encode_utf8_all cs) ≡ length (encode_utf8 c) =
    ap length is ∙ h ∙ sym (ap encoding_length same) ∙ lead.count in
    let none = no_more (encode_utf8 c) (encode_utf8_all cs) count in
    record {
      code = c;
      scalar = (and_parts _ (all_scalars cs) scalars).0;
      is = sym is ∙ ap (λ xs. encode_utf8 c ++ xs) none ∙ append-nil (encode_utf8 c);
      first = ap (λ xs. slice_get xs 0) (ap chars (sym is) ∙ chars-encodes (c ∷ cs) scalars);
    }

front_length : (n : ℕ) (bytes : List ℕ) → n ≤ length bytes → length (take n bytes) ≡ n
front_length n bytes h = length-take-le n bytes h

only_one : (bytes : List ℕ) (b : ℕ) → slice_get bytes 0 ≡ Some b → encoding_length b ≤ length bytes →
    is_utf8 (take (encoding_length b) bytes) ≡ true → OnlyOne (take (encoding_length b) bytes) b
only_one bytes b e h u =
    let text = IsUtf8-from_is_utf8 (take (encoding_length b) bytes) u in
    one_character (take (encoding_length b) bytes) b (front_first (encoding_length b) bytes b (length_some b) e)
    (front_length (encoding_length b) bytes h) text.0 text.1.0 text.1.1

pairs_same : {a b c d : ℕ} → ◌≡◌ {A = Option (ℕ × ℕ)} (Some (a, b)) (Some (c, d)) → (a ≡ c) × (b ≡ d)
pairs_same {a = a} {b = b} {c = c} {d = d} e =
    let inner : ◌≡◌ {A = ℕ × ℕ} (a, b) (c, d) = cc in (ap (λ (p : ℕ × ℕ). p.0) inner, ap (λ (p : ℕ × ℕ). p.1) inner)

abbrev paired : ℕ → ℕ → Option (ℕ × ℕ)
paired x y = Some (x, y)

-- a character beyond ASCII is an encoding
encoded_begins : (bytes : List ℕ) (b code n : ℕ) → slice_get bytes 0 ≡ Some b → encoded bytes (encoding_length b) ≡ Some (code, n) → BeginsEncoded bytes code n
encoded_begins bytes b code n e is = elim (cases_Bool test) [
  | inl holds ↦
      let parts = and_parts (nat_le m (length bytes)) (is_utf8 (take m bytes)) holds in
      let one = only_one bytes b e (leb-true m (length bytes) parts.0) parts.1 in
      let same : ◌≡◌ {A = Option (ℕ × ℕ)} (Some (one.code, m)) (Some (code, n)) =
      sym (ap (option_map (λ (c : ℕ). (c, m))) one.first) ∙ sym (cond-true test _ None holds) ∙ is in
      let both = pairs_same same in
      let count : m ≡ length (encode_utf8 one.code) =
      sym (front_length m bytes (leb-true m (length bytes) parts.0)) ∙ ap length one.is in
      record {
        scalar = subst IsScalar both.0 one.scalar;
        count = sym both.1 ∙ count ∙ ap (λ c. length (encode_utf8 c)) both.0;
        front = ap (λ k. take k bytes) (sym both.1) ∙ one.is ∙ ap encode_utf8 both.0;
      }
  | inr fails ↦ absurd (let bad : ◌≡◌ {A = Option (ℕ × ℕ)} None (Some (code, n)) = sym (cond-false test _ None fails) ∙ is in cc)
]
  where
    m : ℕ
    m = encoding_length b

    test : Bool
    test = nat_le m (length bytes) && is_utf8 (take m bytes)

-- the first byte of an encoding tells its length
begun : (bytes : List ℕ) (b code n : ℕ) → slice_get bytes 0 ≡ Some b → BeginsEncoded bytes code n → encoding_length b ≡ n
begun bytes b code n e begins =
    let lead = lead_of code in
    let some : 0 < n = subst (λ k. 0 < k) (sym begins.count) (subst (λ xs. 0 < length xs) (sym lead.is) (omega arith)) in
    let first : Some lead.lead ≡ Some b =
    sym (ap (λ xs. slice_get xs 0) (begins.front ∙ lead.is)) ∙ front_first n bytes b some e in
    let same : lead.lead ≡ b = cc in
    sym (ap encoding_length same) ∙ lead.count ∙ sym begins.count

long_enough : (n : ℕ) (bytes xs : List ℕ) → take n bytes ≡ xs → n ≡ length xs → n ≤ length bytes
long_enough n bytes xs e h =
    let part = length-take n bytes in
    let same : min n (length bytes) ≡ n = sym part ∙ ap length e ∙ sym h in
    omega (arith, same)

encoding_first : (c : ℕ) → IsScalar c → slice_get (chars (encode_utf8 c)) 0 ≡ Some c
encoding_first c scalar =
    ap (λ xs. slice_get xs 0)
    (ap chars (sym (append-nil (encode_utf8 c))) ∙ chars-encodes (c ∷ []) (and_from _ true scalar refl))

begins_encoded : (bytes : List ℕ) (b code n : ℕ) → slice_get bytes 0 ≡ Some b → BeginsEncoded bytes code n → encoded bytes (encoding_length b) ≡ Some (code, n)
begins_encoded bytes b code n e begins =
    ap (encoded bytes) (begun bytes b code n e begins)
    ∙ cond-true (nat_le n (length bytes) && is_utf8 (take n bytes)) _ None
    (and_from _ _ (le-leb n (length bytes) (long_enough n bytes (encode_utf8 code) begins.front begins.count))
    (ap is_utf8 begins.front ∙ is_utf8-from_IsUtf8 (encode_utf8 code) (IsUtf8-encode code begins.scalar)))
    ∙ ap (option_map (λ (c : ℕ). (c, n))) (ap (λ xs. slice_get (chars xs) 0) begins.front ∙ encoding_first code begins.scalar)

-- ASCII
ascii_begins : (bytes : List ℕ) (b code n : ℕ) → b < 128 → slice_get bytes 0 ≡ Some b → ◌≡◌ {A = Option (ℕ × ℕ)} (Some (b, 1)) (Some (code, n)) → BeginsEncoded bytes code n
ascii_begins bytes b code n h e is =
    let both = pairs_same is in
    let here = encode_ascii b h in
    record {
      scalar = subst IsScalar both.0 (low_scalar b (omega (arith, h)));
      count = sym both.1 ∙ sym (ap length here) ∙ ap (λ c. length (encode_utf8 c)) both.0;
      front = ap (λ k. take k bytes) (sym both.1) ∙ one_byte bytes b e ∙ sym here ∙ ap encode_utf8 both.0;
    }
  where
    one_byte : (xs : List ℕ) (b : ℕ) → slice_get xs 0 ≡ Some b → take 1 xs ≡ b ∷ []
    one_byte [] b e = absurd cc
    one_byte (x ∷ xs) b e = let same : x ≡ b = cc in ap (λ y. y ∷ []) same

begins_ascii : (bytes : List ℕ) (b code n : ℕ) → b < 128 → slice_get bytes 0 ≡ Some b → BeginsEncoded bytes code n → ◌≡◌ {A = Option (ℕ × ℕ)} (Some (b, 1)) (Some (code, n))
begins_ascii bytes b code n h e begins =
    let count = begun bytes b code n e begins in
    let one = length_one b (omega (arith, h)) in
    let lead = lead_of code in
    let first : Some lead.lead ≡ Some b =
    sym (ap (λ xs. slice_get xs 0) (begins.front ∙ lead.is)) ∙ front_first n bytes b (omega (arith, count, one)) e in
    let same : lead.lead ≡ b = cc in
    let low : code < 128 = short_code code (omega (arith, count, one, begins.count)) in
    let code_is : code ≡ b =
    only_byte (sym (encode_ascii code low) ∙ lead.is) ∙ same in
    ap₂ paired (sym code_is) (sym one ∙ count)
  where
    only_byte : {x y : ℕ} {ys : List ℕ} → x ∷ [] ≡ y ∷ ys → x ≡ y
    only_byte e = cc

    length_more : (c : ℕ) → 128 ≤ c → 2 ≤ length (encode_utf8 c)
    length_more c high =
        subst (λ k. 2 ≤ k) (sym (length-encode c))
        (subst (λ k. 2 ≤ k) (sym (cond-false (nat_lt c 0x80) 1 _ (le-ltb c 0x80 high)))
        (cond_both (nat_lt c 0x800) 2 _ (λ k. 2 ≤ k) (λ _. omega arith)
        (λ _. cond_both (nat_lt c 0x1_0000) 3 4 (λ k. 2 ≤ k) (λ _. omega arith) (λ _. omega arith))))

    short_code : (c : ℕ) → length (encode_utf8 c) ≡ 1 → c < 128
    short_code c h = elim (cases_lt c 128) [
      | inl low ↦ low
      | inr high ↦ let more = length_more c high in absurd (omega (arith, h, more))
    ]

pub characters_are_encodings : CharactersAreEncodings
characters_are_encodings bytes b code n e = elim (cases_lt b 0x80) [
  | inl low ↦
      let is : character_of true bytes b ≡ paired b 1 = cond-false (is_beyond_ascii b) _ _ (lt-leb 0x80 b low) in
      (λ same. ascii_begins bytes b code n low e (sym is ∙ same), λ begins. is ∙ begins_ascii bytes b code n low e begins)
  | inr high ↦
      let is : character_of true bytes b ≡ encoded bytes (encoding_length b) = cond-true (is_beyond_ascii b) _ _ (le-leb 0x80 b high) in
      (λ same. encoded_begins bytes b code n e (sym is ∙ same), λ begins. is ∙ begins_encoded bytes b code n e begins)
]

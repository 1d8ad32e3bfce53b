-- What the bytes begin with is some of them.
use Rattle.std.proofs.Common.{◌≡◌, ℕ, ◌+◌, ◌*◌, ◌<◌, ◌≤◌, inl, inr, Bool, true, false, List, [], ◌∷◌, length, drop, Option, Some, None, IfSome, refl, sym, ◌∙◌, arith}
use Rattle.std.specs.Prelude.{◌&&◌, ◌==◌, not, nat_lt, nat_le, if◌then◌else◌}
use Rattle.std.specs.List.{slice_get}
use Rattle.std.specs.Char.{is_ascii_lowercase}
use Rattle.std.proofs.lemmas.List.{length-drop}
use Rattle.std.proofs.lemmas.Option.{slice_get_within}
use Rattle.std.proofs.lemmas.Bool.{cases_lt, le-ltb}
use Rattle.hs_base.specs.Assertions.{is_word_byte}
use Prim.Native.String.{String}
use Rattle.hs_syntax.specs.declared.mode.Mode.{Mode}
use Rattle.hs_syntax.specs.declared.mode.Change.{Change}
use Rattle.hs_syntax.specs.declared.number.Number.{Number}
use Rattle.hs_syntax.specs.Bytes.{is_byte, is_digit, is_one_of, letters_on, word_bytes_on, place_on}
use Rattle.hs_syntax.specs.Settings.{is_option, set_option, set_options}
use Rattle.hs_syntax.specs.Numbers.{digit_of, number_on, number_at}
use Rattle.hs_syntax.specs.Names.{closing_bracket, name_end, group_name_end}

-- what holds of both choices holds of a choice
pub either :
    {A : Type 0} (P : A → Type 0) (b : Bool) (x y : A) →
    (b ≡ true → P x) → (b ≡ false → P y) → P (if b then x else y)
either P true x y h k = h refl
either P false x y h k = k refl

-- both of two tests
pub both_left : (a b : Bool) → (a && b) ≡ true → a ≡ true
both_left true b h = refl
both_left false b h = absurd cc

pub both_right : (a b : Bool) → (a && b) ≡ true → b ≡ true
both_right true b h = h
both_right false b h = absurd cc

-- a number is less where the test says so
pub less : (a b : ℕ) → nat_lt a b ≡ true → a < b
less a b h =
    elim (cases_lt a b) [
      | inl below ↦ below
      | inr above ↦ absurd (let bad : true ≡ false = sym h ∙ le-ltb a b above in cc)
    ]

-- where a byte is, the bytes go on
byte_within_of : (bytes : List ℕ) (at b : ℕ) (o : Option ℕ) → slice_get bytes at ≡ o → is_byte b o ≡ true → at < length bytes
byte_within_of bytes at b None e h = absurd cc
byte_within_of bytes at b (Some c) e h = slice_get_within bytes at c e

pub byte_within : (bytes : List ℕ) (at b : ℕ) → is_byte b (slice_get bytes at) ≡ true → at < length bytes
byte_within bytes at b h = byte_within_of bytes at b (slice_get bytes at) refl h

one_within_of : (set : String) (bytes : List ℕ) (at : ℕ) (o : Option ℕ) → slice_get bytes at ≡ o → is_one_of set o ≡ true → at < length bytes
one_within_of set bytes at None e h = absurd cc
one_within_of set bytes at (Some c) e h = slice_get_within bytes at c e

pub is_one_within : (set : String) (bytes : List ℕ) (at : ℕ) → is_one_of set (slice_get bytes at) ≡ true → at < length bytes
is_one_within set bytes at h = one_within_of set bytes at (slice_get bytes at) refl h

-- so many bytes are behind a place
pub behind_length : (bytes : List ℕ) (at : ℕ) → at ≤ length bytes → at + length (drop at bytes) ≡ length bytes
behind_length bytes at h = let e = length-drop at bytes in omega (arith, e, h)

-- a place is neither before nor too far
pub record IsNear (at end most : ℕ) : Type 0 where
  pub rises : at ≤ end
  pub near : end ≤ most

letters_near : (count : ℕ) (bytes : List ℕ) → IsNear count (letters_on count bytes) (count + length bytes)
letters_near count [] = record { rises = omega arith; near = omega arith }
letters_near count (b ∷ bytes) =
    either (λ end. IsNear count end (count + length (b ∷ bytes))) (is_ascii_lowercase b) _ _
    (λ h. let rest = letters_near (count + 1) bytes in record { rises = omega (arith, rest.rises); near = omega (arith, rest.near) })
    (λ h. record { rises = omega arith; near = omega arith })

words_near : (count : ℕ) (bytes : List ℕ) → IsNear count (word_bytes_on count bytes) (count + length bytes)
words_near count [] = record { rises = omega arith; near = omega arith }
words_near count (b ∷ bytes) =
    either (λ end. IsNear count end (count + length (b ∷ bytes))) (is_word_byte b) _ _
    (λ h. let rest = words_near (count + 1) bytes in record { rises = omega (arith, rest.rises); near = omega (arith, rest.near) })
    (λ h. record { rises = omega arith; near = omega arith })

pub place_near : (byte count : ℕ) (bytes : List ℕ) → IfSome (place_on byte count bytes) (λ place. (count ≤ place) × (place < count + length bytes))
place_near byte count [] = tt
place_near byte count (b ∷ bytes) =
    either (λ found. IfSome found (λ place. (count ≤ place) × (place < count + length (b ∷ bytes)))) (b == byte) _ _
    (λ h. (omega arith, omega arith))
    (λ h. further (place_on byte (count + 1) bytes) (place_near byte (count + 1) bytes))
  where
    further : (found : Option ℕ) → IfSome found (λ place. (count + 1 ≤ place) × (place < count + 1 + length bytes)) →
        IfSome found (λ place. (count ≤ place) × (place < count + length (b ∷ bytes)))
    further None h = tt
    further (Some place) h = (omega (arith, h.0), omega (arith, h.1))

pub options_near : (on : Bool) (mode : Mode) (at : ℕ) (bytes : List ℕ) → IsNear at (set_options on mode at bytes).end (at + length bytes)
options_near on mode at [] = record { rises = omega arith; near = omega arith }
options_near on mode at (b ∷ bytes) =
    either (λ (c : Change). IsNear at c.end (at + length (b ∷ bytes))) (is_option b) _ _
    (λ h. let rest = options_near on (set_option b on mode) (at + 1) bytes in
    record { rises = omega (arith, rest.rises); near = omega (arith, rest.near) })
    (λ h. record { rises = omega arith; near = omega arith })

number_near :
    (radix most value count : ℕ) (bytes : List ℕ) →
    IsNear count (number_on radix most value count bytes).count (count + length bytes)
number_near radix most value count [] = record { rises = omega arith; near = omega arith }
number_near radix most value count (b ∷ bytes) =
    either (λ (n : Number). IsNear count n.count (count + length (b ∷ bytes))) (nat_lt count most && nat_lt (digit_of b) radix) _ _
    (λ h. let rest = number_near radix most (value * radix + digit_of b) (count + 1) bytes in
    record { rises = omega (arith, rest.rises); near = omega (arith, rest.near) })
    (λ h. record { rises = omega arith; near = omega arith })

-- digits end within the bytes
pub number_within : (radix most : ℕ) (bytes : List ℕ) (at : ℕ) → at ≤ length bytes → at + (number_at radix most bytes at).count ≤ length bytes
unfolding number_at
number_within radix most bytes at h =
    let e = behind_length bytes at h in
    let n = number_near radix most 0 0 (drop at bytes) in
    omega (arith, e, n.near)

-- a name is one letter long at least, and its mark and the `]` are there
pub name_within : (mark : ℕ) (bytes : List ℕ) (at : ℕ) → IfSome (name_end mark bytes at) (λ end. (at < end) × (end + 2 ≤ length bytes))
unfolding name_end
name_within mark bytes at =
    either (λ found. IfSome found (λ end. (at < end) × (end + 2 ≤ length bytes))) (nat_lt at end && (is_byte mark (slice_get bytes end) && is_byte closing_bracket (slice_get bytes (end + 1)))) _ _
    (λ h.
    let marks = both_right (nat_lt at end) _ h in
    let there = byte_within bytes (end + 1) closing_bracket (both_right (is_byte mark (slice_get bytes end)) _ marks) in
    (less at end (both_left (nat_lt at end) _ h), omega (arith, there)))
    (λ h. tt)
  where
    end : ℕ
    end = letters_on at (drop at bytes)

-- the name of a group ends within the bytes
pub group_name_within : (mark : ℕ) (bytes : List ℕ) (at : ℕ) → IfSome (group_name_end mark bytes at) (λ end. (at < end) × (end ≤ length bytes))
unfolding group_name_end
group_name_within mark bytes at =
    either (λ found. IfSome found (λ end. (at < end) × (end ≤ length bytes))) (nat_lt at end && (nat_le end (at + 32) && (not (is_digit (slice_get bytes at)) && is_byte mark (slice_get bytes end)))) _ _
    (λ h.
    let first = less at end (both_left (nat_lt at end) _ h) in
    let there = byte_within bytes end mark
    (both_right (not (is_digit (slice_get bytes at))) _ (both_right (nat_le end (at + 32)) _ (both_right (nat_lt at end) _ h))) in
    (omega (arith, first), omega (arith, there)))
    (λ h. tt)
  where
    end : ℕ
    end = word_bytes_on at (drop at bytes)

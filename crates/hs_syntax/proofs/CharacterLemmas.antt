-- A character takes some of the bytes.
use Rattle.std.proofs.Common.{◌≡◌, ℕ, ◌<◌, ◌≤◌, Bool, true, false, List, length, take, Option, Some, None, IfSome, sym, ap, subst, ◌∙◌, arith}
use Rattle.std.specs.Prelude.{◌&&◌, nat_le, nat_lt}
use Rattle.std.specs.List.{slice_get}
use Rattle.std.specs.Option.{option_map}
use Rattle.std.specs.Str.{chars, is_utf8, IsUtf8}
use Rattle.std.specs.Str.Lossy.{utf8_valid_len}
use Rattle.std.proofs.lemmas.Bool.{leb-true, le-leb, le-ltb, and_from, and_right, cond-true, cond-false, false_from_ne_true}
use Rattle.std.proofs.lemmas.Str.{IsUtf8-from_is_utf8, is_utf8-from_IsUtf8, utf8_valid_len-IsUtf8}
use Rattle.hs_syntax.specs.Characters.{is_beyond_ascii, encoding_length, encoded, character_of, ill_formed_of}
use Rattle.hs_syntax.specs.Lengths.{IsLength}
use Rattle.hs_syntax.proofs.FitLemmas.{either, both_left}

pub fits : {n k : ℕ} → 0 < k → k ≤ n → IsLength n k
fits h l = record { some = h; within = l }

pub length_some : (b : ℕ) → 0 < encoding_length b
length_some b =
    either (λ n. 0 < n) (nat_le b 0x7F) _ _ (λ _. omega arith)
    (λ _. either (λ n. 0 < n) (nat_le b 0xDF) _ _ (λ _. omega arith)
    (λ _. either (λ n. 0 < n) (nat_le b 0xEF) _ _ (λ _. omega arith) (λ _. omega arith)))

with_length : (m n : ℕ) (o : Option ℕ) → IsLength m n → IfSome {T = ℕ × ℕ} (option_map (λ (code : ℕ). (code, n)) o) (λ c. IsLength m c.1)
with_length m n None h = tt
with_length m n (Some code) h = h

encoded_fits : (bytes : List ℕ) (n : ℕ) → 0 < n → IfSome (encoded bytes n) (λ c. IsLength (length bytes) c.1)
encoded_fits bytes n h =
    either (λ (o : Option (ℕ × ℕ)). IfSome o (λ c. IsLength (length bytes) c.1)) (nat_le n (length bytes) && is_utf8 (take n bytes)) _ _
    (λ e. with_length (length bytes) n (slice_get (chars (take n bytes)) 0)
    (fits h (leb-true n (length bytes) (both_left (nat_le n (length bytes)) _ e))))
    (λ _. tt)

-- one that the bytes begin with is some of them
pub character_fits : (utf8 : Bool) (bytes : List ℕ) (b : ℕ) → 1 ≤ length bytes → IfSome (character_of utf8 bytes b) (λ c. IsLength (length bytes) c.1)
character_fits utf8 bytes b h =
    either (λ (o : Option (ℕ × ℕ)). IfSome o (λ c. IsLength (length bytes) c.1)) (utf8 && is_beyond_ascii b) _ _
    (λ _. encoded_fits bytes (encoding_length b) (length_some b)) (λ _. fits (omega arith) h)

-- bytes that encode no character
pub none_encoded : (bytes front : List ℕ) (n : ℕ) → front ≡ take n bytes → (IsUtf8 front → ⊥) → None ≡ encoded bytes n
none_encoded bytes front n e none =
    let other : is_utf8 (take n bytes) ≡ false =
    false_from_ne_true (is_utf8 (take n bytes)) (λ h. none (subst IsUtf8 (sym e) (IsUtf8-from_is_utf8 (take n bytes) h))) in
    sym (cond-false (nat_le n (length bytes) && is_utf8 (take n bytes)) _ None (and_right (nat_le n (length bytes)) _ other))

-- and those that do
pub some_encoded :
    (bytes front text rest : List ℕ) (n character : ℕ) → front ≡ take n bytes → IsUtf8 front → n ≤ length bytes → rest ≡ text → text ≡ front →
    Some character ≡ slice_get (chars rest) 0 → Some (character, n) ≡ encoded bytes n
some_encoded bytes front text rest n character e whole h is same first =
    let good : is_utf8 (take n bytes) ≡ true = is_utf8-from_IsUtf8 (take n bytes) (subst IsUtf8 e whole) in
    ap (option_map (λ (code : ℕ). (code, n))) (first ∙ ap (λ bs. slice_get (chars bs) 0) (is ∙ same ∙ e))
    ∙ sym (cond-true (nat_le n (length bytes) && is_utf8 (take n bytes)) _ None (and_from _ _ (le-leb n (length bytes) h) good))

-- a text that is well formed
pub all_formed : (utf8 : Bool) (bytes : List ℕ) → IsUtf8 bytes → None ≡ ill_formed_of utf8 bytes
all_formed utf8 bytes whole =
    sym (cond-false (utf8 && nat_lt (utf8_valid_len bytes) (length bytes)) _ None
    (and_right utf8 _ (le-ltb (utf8_valid_len bytes) (length bytes) (omega (arith, utf8_valid_len-IsUtf8 bytes whole)))))

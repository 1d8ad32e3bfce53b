-- The lengths of escapes and of pieces of classes.
use Rattle.std.proofs.Common.{◌≡◌, ℕ, ◌+◌, ◌-◌, ◌<◌, ◌≤◌, Bool, List, [], ◌∷◌, length, take, drop, Option, Some, None, IfSome, refl, arith}
use Rattle.std.specs.Prelude.{◌&&◌, not, nat_lt, if◌then◌else◌}
use Rattle.std.specs.List.{slice_get}
use Rattle.std.specs.Char.{is_ascii_alphabetic}
use Rattle.std.specs.Int.{is_in_range}
use Rattle.std.proofs.lemmas.List.{length-drop}
use Rattle.std.proofs.lemmas.Option.{slice_get_within}
use Rattle.hs_syntax.specs.declared.mode.Mode.{Mode}
use Rattle.hs_syntax.specs.declared.named.Named.{Named}
use Rattle.hs_syntax.specs.declared.number.Number.{Number}
use Rattle.hs_syntax.specs.declared.escape.Escape.{Escape}
use Rattle.hs_syntax.specs.declared.escape.Escape.TheVariants as escape
use Rattle.hs_syntax.specs.Bytes.{◌∈◌, is_one_of}
use Rattle.hs_syntax.specs.Numbers.{number_at}
use Rattle.hs_syntax.specs.Characters.{is_code, character_of}
use Rattle.hs_syntax.specs.Names.{named_letter, class_of_name, name_end}
use Rattle.hs_syntax.specs.Escapes.{character_letter, control_of, coded, short_at, braced_at, hexadecimal_at, itself_of, letter_of, escape_by, escape_of, escape_at}
use Rattle.hs_syntax.specs.Pieces.{escaped_of, posix_of, posix_name, posix_at, collating_of, bracket_at, character_piece, piece_by, piece_at, colon, full_stop, equals_sign}
use Rattle.hs_syntax.specs.Lengths.{IsLength, WrongFits, PieceFits}
use Rattle.hs_syntax.proofs.FitLemmas.{either, both_right, is_one_within, number_within, name_within}
use Rattle.hs_syntax.proofs.CharacterLemmas.{fits, character_fits}

-- the length of an escape, of so many bytes
abbrev pub EscapeFits : ℕ → Escape → Type 0
EscapeFits n (escape.Character code length) = IsLength n length
EscapeFits n (escape.Class class negated) = 2 ≤ n
EscapeFits n (escape.Other b) = 2 ≤ n
EscapeFits n (escape.Refused reason) = WrongFits n reason

coded_fits : (utf8 : Bool) (n code k : ℕ) → 0 < k → k ≤ n → EscapeFits n (coded utf8 code k)
coded_fits utf8 n code k h l = either (EscapeFits n) (is_code utf8 code) _ _ (λ _. fits h l) (λ _. tt)

control_fits : (bytes : List ℕ) (o : Option ℕ) → slice_get bytes 2 ≡ o → EscapeFits (length bytes) (control_of o)
control_fits bytes None e = tt
control_fits bytes (Some b) e =
    let there = slice_get_within bytes 2 b e in
    either (EscapeFits (length bytes)) (is_in_range 0x20 0x7E b) _ _ (λ _. fits (omega arith) (omega (arith, there))) (λ _. tt)

short_fits : (utf8 : Bool) (radix : ℕ) (bytes : List ℕ) → 2 ≤ length bytes → EscapeFits (length bytes) (short_at utf8 radix bytes)
unfolding short_at
short_fits utf8 radix bytes h =
    let far = number_within radix 2 bytes 2 h in
    coded_fits utf8 (length bytes) (number_at radix 2 bytes 2).value ((number_at radix 2 bytes 2).count + 2) (omega arith) (omega (arith, far))

braced_fits : (utf8 : Bool) (radix : ℕ) (bytes : List ℕ) → EscapeFits (length bytes) (braced_at utf8 radix bytes)
unfolding braced_at
braced_fits utf8 radix bytes =
    either (EscapeFits (length bytes)) (is_one_of "{" (slice_get bytes 2) && (nat_lt 0 number.count && is_one_of "}" (slice_get bytes (number.count + 3)))) _ _
    (λ h.
    let there = is_one_within "}" bytes (number.count + 3) (both_right (nat_lt 0 number.count) _ (both_right (is_one_of "{" (slice_get bytes 2)) _ h)) in
    coded_fits utf8 (length bytes) number.value (number.count + 4) (omega arith) (omega (arith, there)))
    (λ _. tt)
  where
    number : Number
    number = number_at radix 8 bytes 3

hexadecimal_fits : (utf8 : Bool) (bytes : List ℕ) → 2 ≤ length bytes → EscapeFits (length bytes) (hexadecimal_at utf8 bytes)
hexadecimal_fits utf8 bytes h =
    either (EscapeFits (length bytes)) (is_one_of "{" (slice_get bytes 2)) _ _ (λ _. braced_fits utf8 16 bytes) (λ _. short_fits utf8 16 bytes h)

itself_fits : (n m : ℕ) (itself : Option (ℕ × ℕ)) → 2 ≤ n → m + 1 ≡ n → IfSome itself (λ c. IsLength m c.1) → EscapeFits n (itself_of itself)
itself_fits n m None h e l = omega (arith, h)
itself_fits n m (Some (code, length)) h e l = fits (omega arith) (omega (arith, e, l.within))

letter_fits :
    (n m b : ℕ) (itself : Option (ℕ × ℕ)) (character : Option ℕ) (named : Option Named) → 2 ≤ n → m + 1 ≡ n →
    IfSome itself (λ c. IsLength m c.1) → EscapeFits n (letter_of b itself character named)
letter_fits n m b itself (Some code) named h e l = fits (omega arith) h
letter_fits n m b itself None (Some class) h e l = h
letter_fits n m b itself None None h e l =
    either (EscapeFits n) (is_ascii_alphabetic b) _ _ (λ _. h) (λ _. itself_fits n m itself h e l)

escape_by_fits : (utf8 : Bool) (bytes : List ℕ) (b : ℕ) → 2 ≤ length bytes → EscapeFits (length bytes) (escape_by utf8 bytes b)
unfolding escape_by
escape_by_fits utf8 bytes b h =
    let behind = length-drop 1 bytes in
    either (EscapeFits (length bytes)) (b ∈ "c") _ _ (λ _. control_fits bytes (slice_get bytes 2) refl)
    (λ _. either (EscapeFits (length bytes)) (b ∈ "x") _ _ (λ _. hexadecimal_fits utf8 bytes h)
    (λ _. either (EscapeFits (length bytes)) (b ∈ "o") _ _ (λ _. braced_fits utf8 8 bytes)
    (λ _. either (EscapeFits (length bytes)) (b ∈ "0") _ _ (λ _. short_fits utf8 8 bytes h)
    (λ _. either (EscapeFits (length bytes)) (b ∈ "123456789gk") _ _ (λ _. tt)
    (λ _. either (EscapeFits (length bytes)) (b ∈ "pP") _ _ (λ _. tt)
    (λ _. letter_fits (length bytes) (length (drop 1 bytes)) b (character_of utf8 (drop 1 bytes) b) (character_letter b) (named_letter b) h
    (omega (arith, behind, h)) (character_fits utf8 (drop 1 bytes) b (omega (arith, behind, h)))))))))

escape_of_fits : (utf8 : Bool) (bytes : List ℕ) (o : Option ℕ) → slice_get bytes 1 ≡ o → EscapeFits (length bytes) (escape_of utf8 bytes o)
escape_of_fits utf8 bytes None e = tt
escape_of_fits utf8 bytes (Some b) e = let there = slice_get_within bytes 1 b e in escape_by_fits utf8 bytes b (omega (arith, there))

pub escape_fits : (utf8 : Bool) (bytes : List ℕ) → EscapeFits (length bytes) (escape_at utf8 bytes)
unfolding escape_at
escape_fits utf8 bytes = escape_of_fits utf8 bytes (slice_get bytes 1) refl

escaped_fits : (n : ℕ) (e : Escape) → EscapeFits n e → PieceFits n (escaped_of e)
escaped_fits n (escape.Character code length) h = h
escaped_fits n (escape.Class class negated) h = fits (omega arith) h
escaped_fits n (escape.Other b) h = either (PieceFits n) (b ∈ "b") _ _ (λ _. fits (omega arith) h) (λ _. tt)
escaped_fits n (escape.Refused reason) h = h

posix_of_fits : (n end : ℕ) (negated : Bool) (o : Option Named) → 0 < end → end ≤ n → PieceFits n (posix_of negated end o)
posix_of_fits n end negated None h l = tt
posix_of_fits n end negated (Some class) h l = fits h l

posix_name_fits :
    (caseless negated : Bool) (bytes : List ℕ) (at : ℕ) (end : Option ℕ) → 1 ≤ length bytes →
    IfSome end (λ end. (at < end) × (end + 2 ≤ length bytes)) →
    PieceFits (length bytes) (posix_name caseless negated bytes at end)
posix_name_fits caseless negated bytes at None h l = fits (omega arith) h
posix_name_fits caseless negated bytes at (Some end) h l =
    posix_of_fits (length bytes) (end + 2) negated (class_of_name caseless (take (end - at) (drop at bytes))) (omega arith) l.1

posix_fits : (caseless : Bool) (bytes : List ℕ) → 1 ≤ length bytes → PieceFits (length bytes) (posix_at caseless bytes)
unfolding posix_at
posix_fits caseless bytes h = posix_name_fits caseless negated bytes at (name_end colon bytes at) h (name_within colon bytes at)
  where
    negated : Bool
    negated = is_one_of "^" (slice_get bytes 2)

    at : ℕ
    at = if negated then 3 else 2

collating_fits : (n : ℕ) (o : Option ℕ) → 1 ≤ n → PieceFits n (collating_of o)
collating_fits n None h = fits (omega arith) h
collating_fits n (Some end) h = tt

bracket_fits : (caseless : Bool) (bytes : List ℕ) → 1 ≤ length bytes → PieceFits (length bytes) (bracket_at caseless bytes)
unfolding bracket_at
bracket_fits caseless bytes h =
    either (PieceFits (length bytes)) (is_one_of ":" (slice_get bytes 1)) _ _ (λ _. posix_fits caseless bytes h)
    (λ _. either (PieceFits (length bytes)) (is_one_of "." (slice_get bytes 1)) _ _ (λ _. collating_fits (length bytes) (name_end full_stop bytes 2) h)
    (λ _. either (PieceFits (length bytes)) (is_one_of "=" (slice_get bytes 1)) _ _ (λ _. collating_fits (length bytes) (name_end equals_sign bytes 2) h)
    (λ _. fits (omega arith) h)))

pub no_first : (bytes : List ℕ) → slice_get bytes 0 ≡ None → length bytes ≡ 0
no_first [] e = refl
no_first (b ∷ bytes) e = absurd cc

character_piece_fits : (n : ℕ) (o : Option (ℕ × ℕ)) → 1 ≤ n → IfSome o (λ c. IsLength n c.1) → PieceFits n (character_piece o)
character_piece_fits n None h l = h
character_piece_fits n (Some (code, length)) h l = l

piece_of_fits : (mode : Mode) (first : Bool) (bytes : List ℕ) (o : Option ℕ) → slice_get bytes 0 ≡ o → PieceFits (length bytes) (piece_by mode first bytes o)
piece_of_fits mode first bytes None e = no_first bytes e
piece_of_fits mode first bytes (Some b) e =
    let there = slice_get_within bytes 0 b e in
    either (PieceFits (length bytes)) (b ∈ "\\") _ _ (λ _. escaped_fits (length bytes) (escape_at mode.utf8 bytes) (escape_fits mode.utf8 bytes))
    (λ _. either (PieceFits (length bytes)) (b ∈ "[") _ _ (λ _. bracket_fits mode.caseless bytes (omega (arith, there)))
    (λ _. either (PieceFits (length bytes)) ((b ∈ "]") && not first) _ _ (λ _. fits (omega arith) (omega (arith, there)))
    (λ _. character_piece_fits (length bytes) (character_of mode.utf8 bytes b) (omega (arith, there)) (character_fits mode.utf8 bytes b (omega (arith, there))))))

-- a piece takes some of the bytes
pub piece_fits : (mode : Mode) (first : Bool) (bytes : List ℕ) → PieceFits (length bytes) (piece_at mode first bytes)
unfolding piece_at
piece_fits mode first bytes = piece_of_fits mode first bytes (slice_get bytes 0) refl

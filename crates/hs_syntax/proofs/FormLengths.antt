-- The lengths of groups, quantifiers and forms.
use Rattle.std.proofs.Common.{◌≡◌, ℕ, ◌+◌, ◌<◌, ◌≤◌, Bool, true, List, length, take, drop, Option, Some, None, IfSome, refl, arith}
use Rattle.std.specs.Prelude.{◌&&◌, ◌==◌, nat_lt, is_some, if◌then◌else◌}
use Rattle.std.specs.List.{slice_get}
use Rattle.std.specs.Char.{is_ascii_alphabetic}
use Rattle.std.specs.Str.Lossy.{utf8_valid_len}
use Rattle.std.proofs.lemmas.Bool.{ltb-true}
use Rattle.std.proofs.lemmas.List.{length-take-le}
use Rattle.std.proofs.lemmas.Option.{slice_get_within}
use Rattle.hs_base.specs.Assertions.{line_feed}
use Rattle.hs_base.specs.ByteSets.{is_space}
use Rattle.hs_base.specs.declared.assertion.Assertion.{Assertion}
use Rattle.hs_base.specs.declared.construct.Construct.{Construct}
use Rattle.hs_syntax.specs.declared.mode.Mode.{Mode}
use Rattle.hs_syntax.specs.declared.mode.Change.{Change}
use Rattle.hs_syntax.specs.declared.number.Number.{Number}
use Rattle.hs_syntax.specs.declared.escape.Escape.{Escape}
use Rattle.hs_syntax.specs.declared.escape.Escape.TheVariants as escape
use Rattle.hs_syntax.specs.Bytes.{◌∈◌, is_one_of, is_digit, place_on}
use Rattle.hs_syntax.specs.Settings.{set_options}
use Rattle.hs_syntax.specs.Numbers.{decimal_at}
use Rattle.hs_syntax.specs.Names.{name_end, group_name_end}
use Rattle.hs_syntax.specs.Pieces.{colon}
use Rattle.hs_syntax.specs.Escapes.{escape_at, assertion_letter, construct_letter}
use Rattle.hs_syntax.specs.Groups.{closing_parenthesis, greater_sign, apostrophe, comment, comment_of, named_of, settings_of, changed, settings_at, letter_group, angle_group, hyphen_group, question_by, question_of, group_at}
use Rattle.hs_syntax.specs.Quantifiers.{quantifier_at, second_of, first_of, brace_at}
use Rattle.hs_syntax.specs.Forms.{letter_of, escaped_of, character_form, quoted_of, line_of, bracket_of, marked_by, plain_of, form_at}
use Rattle.hs_syntax.specs.Characters.{character_of, ill_formed_of}
use Rattle.hs_syntax.specs.Lengths.{IsLength, FormFits}
use Rattle.hs_syntax.proofs.FitLemmas.{either, both_right, is_one_within, behind_length, place_near, group_name_within}
use Rattle.hs_syntax.proofs.CharacterLemmas.{fits, character_fits}
use Rattle.hs_syntax.proofs.EscapeFits.{EscapeFits, escape_fits, no_first}

-- a byte of a beginning that begins no character is one of the bytes
ill_formed_within : (utf8 : Bool) (bytes : List ℕ) → IfSome (ill_formed_of utf8 bytes) (λ place. place < length bytes)
ill_formed_within utf8 bytes =
    either (λ o. IfSome o (λ place. place < length bytes)) (utf8 && nat_lt (utf8_valid_len bytes) (length bytes)) _ _
    (λ e. ltb-true (utf8_valid_len bytes) (length bytes) (both_right utf8 _ e))
    (λ _. tt)

some_comment : (n m length : ℕ) (mode : Mode) (o : Option ℕ) → m ≤ n → IsLength n length → IfSome o (λ place. place < m) → FormFits n (comment mode length o)
some_comment n m length mode None h l k = l
some_comment n m length mode (Some place) h l k = omega (arith, h, k)

comment_fits : (bytes : List ℕ) (mode : Mode) (o : Option ℕ) → IfSome o (λ place. place < length bytes) → FormFits (length bytes) (comment_of mode bytes o)
comment_fits bytes mode None h = tt
comment_fits bytes mode (Some close) h =
    some_comment (length bytes) (length (take close bytes)) (close + 1) mode (ill_formed_of mode.utf8 (take close bytes))
    (omega (arith, h, length-take-le close bytes (omega (arith, h)))) (fits (omega arith) (omega (arith, h))) (ill_formed_within mode.utf8 (take close bytes))

named_fits : (n at : ℕ) (mode : Mode) (o : Option ℕ) → IfSome o (λ end. (at < end) × (end ≤ n)) → FormFits n (named_of mode o)
named_fits n at mode None h = tt
named_fits n at mode (Some end) h = fits (omega (arith, h.0)) h.1

settings_of_fits : (bytes : List ℕ) (change : Change) (o : Option ℕ) → slice_get bytes change.end ≡ o → FormFits (length bytes) (settings_of change o)
settings_of_fits bytes change None e = tt
settings_of_fits bytes change (Some b) e =
    let there = slice_get_within bytes change.end b e in
    either (FormFits (length bytes)) (b ∈ ")") _ _ (λ _. fits (omega arith) (omega (arith, there)))
    (λ _. either (FormFits (length bytes)) (b ∈ ":") _ _ (λ _. fits (omega arith) (omega (arith, there)))
    (λ _. either (FormFits (length bytes)) (is_ascii_alphabetic b) _ _ (λ _. tt) (λ _. tt)))

settings_fits : (mode : Mode) (bytes : List ℕ) → FormFits (length bytes) (settings_at mode bytes)
unfolding settings_at
settings_fits mode bytes = settings_of_fits bytes (changed bytes (set_options true mode 2 (drop 2 bytes))) _ refl

letter_group_fits : (mode : Mode) (bytes : List ℕ) → FormFits (length bytes) (letter_group mode bytes)
unfolding letter_group
letter_group_fits mode bytes =
    either (FormFits (length bytes)) (is_one_of "<" (slice_get bytes 3)) _ _
    (λ _. named_fits (length bytes) 4 mode (group_name_end greater_sign bytes 4) (group_name_within greater_sign bytes 4))
    (λ _. either (FormFits (length bytes)) (is_one_of ">" (slice_get bytes 3)) _ _ (λ _. tt)
    (λ _. either (FormFits (length bytes)) (is_one_of "=" (slice_get bytes 3)) _ _ (λ _. tt) (λ _. settings_fits mode bytes)))

angle_group_fits : (mode : Mode) (bytes : List ℕ) → FormFits (length bytes) (angle_group mode bytes)
unfolding angle_group
angle_group_fits mode bytes =
    either (FormFits (length bytes)) (is_one_of "=!" (slice_get bytes 3)) _ _ (λ _. tt)
    (λ _. named_fits (length bytes) 3 mode (group_name_end greater_sign bytes 3) (group_name_within greater_sign bytes 3))

hyphen_group_fits : (mode : Mode) (bytes : List ℕ) → FormFits (length bytes) (hyphen_group mode bytes)
unfolding hyphen_group
hyphen_group_fits mode bytes =
    either (FormFits (length bytes)) (is_digit (slice_get bytes 3)) _ _ (λ _. tt) (λ _. settings_fits mode bytes)

place_within : (byte at : ℕ) (bytes : List ℕ) → at ≤ length bytes → IfSome (place_on byte at (drop at bytes)) (λ place. place < length bytes)
place_within byte at bytes h = nearer (place_on byte at (drop at bytes)) (place_near byte at (drop at bytes))
  where
    nearer : (o : Option ℕ) → IfSome o (λ place. (at ≤ place) × (place < at + length (drop at bytes))) → IfSome o (λ place. place < length bytes)
    nearer None k = tt
    nearer (Some place) k = let e = behind_length bytes at h in omega (arith, e, k.1)

question_by_fits : (mode : Mode) (bytes : List ℕ) (b : ℕ) → 3 ≤ length bytes → FormFits (length bytes) (question_by mode bytes b)
unfolding question_by
question_by_fits mode bytes b h =
    either (FormFits (length bytes)) (b ∈ ":|") _ _ (λ _. fits (omega arith) h)
    (λ _. either (FormFits (length bytes)) (b ∈ "P") _ _ (λ _. letter_group_fits mode bytes)
    (λ _. either (FormFits (length bytes)) (b ∈ "<") _ _ (λ _. angle_group_fits mode bytes)
    (λ _. either (FormFits (length bytes)) (b ∈ "'") _ _ (λ _. named_fits (length bytes) 3 mode (group_name_end apostrophe bytes 3) (group_name_within apostrophe bytes 3))
    (λ _. either (FormFits (length bytes)) (b ∈ "#") _ _ (λ _. comment_fits bytes mode (place_on closing_parenthesis 3 (drop 3 bytes)) (place_within closing_parenthesis 3 bytes h))
    (λ _. either (FormFits (length bytes)) (b ∈ "=!") _ _ (λ _. tt)
    (λ _. either (FormFits (length bytes)) (b ∈ ">") _ _ (λ _. tt)
    (λ _. either (FormFits (length bytes)) (b ∈ "(") _ _ (λ _. tt)
    (λ _. either (FormFits (length bytes)) (b ∈ "C") _ _ (λ _. tt)
    (λ _. either (FormFits (length bytes)) (b ∈ "R&+0123456789") _ _ (λ _. tt)
    (λ _. either (FormFits (length bytes)) (b ∈ "-") _ _ (λ _. hyphen_group_fits mode bytes)
    (λ _. settings_fits mode bytes)))))))))))

question_of_fits : (mode : Mode) (bytes : List ℕ) (o : Option ℕ) → slice_get bytes 2 ≡ o → FormFits (length bytes) (question_of mode bytes o)
question_of_fits mode bytes None e = tt
question_of_fits mode bytes (Some b) e = let there = slice_get_within bytes 2 b e in question_by_fits mode bytes b (omega (arith, there))

group_fits : (mode : Mode) (bytes : List ℕ) → 1 ≤ length bytes → FormFits (length bytes) (group_at mode bytes)
unfolding group_at
group_fits mode bytes h =
    either (FormFits (length bytes)) (is_one_of "*" (slice_get bytes 1)) _ _ (λ _. tt)
    (λ _. either (FormFits (length bytes)) (is_one_of "?" (slice_get bytes 1)) _ _ (λ _. question_of_fits mode bytes (slice_get bytes 2) refl)
    (λ _. fits (omega arith) h))

quantifier_fits : (least : ℕ) (greatest : Option ℕ) (bytes : List ℕ) (at : ℕ) → 0 < at → at ≤ length bytes → FormFits (length bytes) (quantifier_at least greatest bytes at)
unfolding quantifier_at
quantifier_fits least greatest bytes at h k =
    either (FormFits (length bytes)) (is_one_of "?" (slice_get bytes at)) _ _
    (λ e. let there = is_one_within "?" bytes at e in fits (omega arith) (omega (arith, there)))
    (λ _. either (FormFits (length bytes)) (is_one_of "+" (slice_get bytes at)) _ _
    (λ e. let there = is_one_within "+" bytes at e in fits (omega arith) (omega (arith, there)))
    (λ _. fits h k))

second_fits : (bytes : List ℕ) (first second : Number) (at : ℕ) → 1 ≤ length bytes → FormFits (length bytes) (second_of bytes first second at)
second_fits bytes first second at h =
    either (FormFits (length bytes)) (is_one_of "}" (slice_get bytes at)) _ _
    (λ e.
    let there = is_one_within "}" bytes at e in
    quantifier_fits first.value (if second.count == 0 then None else Some second.value) bytes (at + 1) (omega arith) (omega (arith, there)))
    (λ _. fits (omega arith) h)

first_fits : (bytes : List ℕ) (first : Number) (at : ℕ) → 1 ≤ length bytes → FormFits (length bytes) (first_of bytes first at)
first_fits bytes first at h =
    either (FormFits (length bytes)) (is_one_of "}" (slice_get bytes at)) _ _
    (λ e.
    let there = is_one_within "}" bytes at e in
    quantifier_fits first.value (Some first.value) bytes (at + 1) (omega arith) (omega (arith, there)))
    (λ _. either (FormFits (length bytes)) (is_one_of "," (slice_get bytes at)) _ _
    (λ _. second_fits bytes first (decimal_at bytes (at + 1)) (at + 1 + (decimal_at bytes (at + 1)).count) h)
    (λ _. fits (omega arith) h))

brace_fits : (bytes : List ℕ) → 1 ≤ length bytes → FormFits (length bytes) (brace_at bytes)
unfolding brace_at
brace_fits bytes h =
    either (FormFits (length bytes)) ((decimal_at bytes 1).count == 0) _ _ (λ _. fits (omega arith) h)
    (λ _. first_fits bytes (decimal_at bytes 1) ((decimal_at bytes 1).count + 1) h)

letter_fits : (n : ℕ) (mode : Mode) (b : ℕ) (a : Option Assertion) (c : Option Construct) → 2 ≤ n → FormFits n (letter_of mode b a c)
letter_fits n mode b (Some assertion) c h = fits (omega arith) h
letter_fits n mode b None (Some construct) h = tt
letter_fits n mode b None None h =
    either (FormFits n) (b ∈ "Q") _ _ (λ _. fits (omega arith) h)
    (λ _. either (FormFits n) (b ∈ "E") _ _ (λ _. fits (omega arith) h) (λ _. tt))

escaped_fits : (n : ℕ) (mode : Mode) (e : Escape) → EscapeFits n e → FormFits n (escaped_of mode e)
escaped_fits n mode (escape.Character code length) h = h
escaped_fits n mode (escape.Class class negated) h = fits (omega arith) h
escaped_fits n mode (escape.Other b) h = letter_fits n mode b (assertion_letter b) (construct_letter b) h
escaped_fits n mode (escape.Refused reason) h = h

bracket_fits : (bytes : List ℕ) → 1 ≤ length bytes → FormFits (length bytes) (bracket_of bytes)
bracket_fits bytes h =
    either (FormFits (length bytes)) (is_one_of ":" (slice_get bytes 1) && is_some (name_end colon bytes 2)) _ _ (λ _. tt)
    (λ _. fits (omega arith) h)

character_form_fits : (n : ℕ) (o : Option (ℕ × ℕ)) → 1 ≤ n → IfSome o (λ c. IsLength n c.1) → FormFits n (character_form o)
character_form_fits n None h l = h
character_form_fits n (Some (code, length)) h l = l

marked_fits : (mode : Mode) (bytes : List ℕ) (b : ℕ) → 1 ≤ length bytes → FormFits (length bytes) (marked_by mode bytes b)
unfolding marked_by
marked_fits mode bytes b h =
    either (FormFits (length bytes)) (b ∈ "\\") _ _ (λ _. escaped_fits (length bytes) mode (escape_at mode.utf8 bytes) (escape_fits mode.utf8 bytes))
    (λ _. either (FormFits (length bytes)) (b ∈ "[") _ _ (λ _. bracket_fits bytes h)
    (λ _. either (FormFits (length bytes)) (b ∈ "(") _ _ (λ _. group_fits mode bytes h)
    (λ _. either (FormFits (length bytes)) (b ∈ ")") _ _ (λ _. fits (omega arith) h)
    (λ _. either (FormFits (length bytes)) (b ∈ "|") _ _ (λ _. fits (omega arith) h)
    (λ _. either (FormFits (length bytes)) (b ∈ "*") _ _ (λ _. quantifier_fits 0 None bytes 1 (omega arith) h)
    (λ _. either (FormFits (length bytes)) (b ∈ "+") _ _ (λ _. quantifier_fits 1 None bytes 1 (omega arith) h)
    (λ _. either (FormFits (length bytes)) (b ∈ "?") _ _ (λ _. quantifier_fits 0 (Some 1) bytes 1 (omega arith) h)
    (λ _. either (FormFits (length bytes)) (b ∈ "{") _ _ (λ _. brace_fits bytes h)
    (λ _. either (FormFits (length bytes)) (b ∈ ".") _ _ (λ _. fits (omega arith) h)
    (λ _. either (FormFits (length bytes)) (b ∈ "^") _ _ (λ _. fits (omega arith) h)
    (λ _. either (FormFits (length bytes)) (b ∈ "$") _ _ (λ _. fits (omega arith) h)
    (λ _. character_form_fits (length bytes) (character_of mode.utf8 bytes b) h (character_fits mode.utf8 bytes b h)))))))))))))

line_fits :
    (bytes : List ℕ) (mode : Mode) (o : Option ℕ) → 1 ≤ length bytes → IfSome o (λ place. place < length bytes) →
    FormFits (length bytes) (line_of mode bytes o)
line_fits bytes mode None h k =
    some_comment (length bytes) (length bytes) (length bytes) mode (ill_formed_of mode.utf8 bytes) (omega arith) (fits h (omega arith))
    (ill_formed_within mode.utf8 bytes)
line_fits bytes mode (Some at) h k =
    some_comment (length bytes) (length (take at bytes)) (at + 1) mode (ill_formed_of mode.utf8 (take at bytes))
    (omega (arith, k, length-take-le at bytes (omega (arith, k)))) (fits (omega arith) (omega (arith, k))) (ill_formed_within mode.utf8 (take at bytes))

plain_fits : (mode : Mode) (bytes : List ℕ) (o : Option ℕ) → slice_get bytes 0 ≡ o → FormFits (length bytes) (plain_of mode bytes o)
plain_fits mode bytes None e = no_first bytes e
plain_fits mode bytes (Some b) e =
    let there : 0 < length bytes = slice_get_within bytes 0 b e in
    let some : 1 ≤ length bytes = omega (arith, there) in
    either (FormFits (length bytes)) (mode.extended && is_space b) _ _ (λ _. fits (omega arith) some)
    (λ _. either (FormFits (length bytes)) (mode.extended && b ∈ "#") _ _
    (λ _. line_fits bytes mode (place_on line_feed 1 (drop 1 bytes)) some (place_within line_feed 1 bytes some))
    (λ _. marked_fits mode bytes b some))

quoted_fits : (mode : Mode) (bytes : List ℕ) (o : Option ℕ) → slice_get bytes 0 ≡ o → FormFits (length bytes) (quoted_of mode bytes o (slice_get bytes 1))
quoted_fits mode bytes None e = no_first bytes e
quoted_fits mode bytes (Some b) e =
    let there = slice_get_within bytes 0 b e in
    either (FormFits (length bytes)) ((b ∈ "\\") && is_one_of "E" (slice_get bytes 1)) _ _
    (λ h.
    let next = is_one_within "E" bytes 1 (both_right (b ∈ "\\") _ h) in
    fits (omega arith) (omega (arith, next)))
    (λ _. character_form_fits (length bytes) (character_of mode.utf8 bytes b) (omega (arith, there)) (character_fits mode.utf8 bytes b (omega (arith, there))))

-- a form takes some of the bytes
pub form_fits : (mode : Mode) (bytes : List ℕ) → FormFits (length bytes) (form_at mode bytes)
unfolding form_at
form_fits mode bytes =
    either (FormFits (length bytes)) mode.quoted _ _ (λ _. quoted_fits mode bytes (slice_get bytes 0) refl)
    (λ _. plain_fits mode bytes (slice_get bytes 0) refl)

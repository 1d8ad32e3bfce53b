-- Quantifiers (PCRE pattern syntax, "Repetition"). Bytes begin with the quantifier.
use Rattle.std.specs.Prelude.{ℕ, ◌+◌, true, false, ◌==◌, Option, Some, None, if◌then◌else◌, List, slice_get}
use Rattle.hs_syntax.specs.declared.number.Number.{Number}
use Rattle.hs_syntax.specs.declared.form.Form.{Form}
use Rattle.hs_syntax.specs.declared.form.Form.TheVariants.{Character, Quantifier}
use Rattle.hs_syntax.specs.Bytes.{is_one_of}
use Rattle.hs_syntax.specs.Numbers.{decimal_at}

-- the byte `{`
abbrev pub opening_brace : ℕ
opening_brace = 0x7B

-- A quantifier that ends at a place, by the mark there: a `?` has no effect, a `+` makes it possessive.
abbrev pub marked : ℕ → Option ℕ → (at : ℕ) → (mark : Option ℕ) → Form
marked least greatest at mark =
    if is_one_of "?" mark then Quantifier least greatest false (at + 1)
    else if is_one_of "+" mark then Quantifier least greatest true (at + 1)
    else Quantifier least greatest false at

-- `*`, `+` and `?`
unfoldable pub quantifier_at : ℕ → Option ℕ → List ℕ → (at : ℕ) → Form
quantifier_at least greatest bytes at = marked least greatest at (slice_get bytes at)

-- `{n,}` and `{n,m}`, by the bounds and the byte behind the second one; the place is that of this byte
abbrev pub second_of : List ℕ → (first second : Number) → (at : ℕ) → Form
second_of bytes first second at =
    if is_one_of "}" (slice_get bytes at)
    then quantifier_at first.value (if second.count == 0 then None else Some second.value) bytes (at + 1)
    else Character opening_brace 1

-- by the first bound and the place behind it
abbrev pub first_of : List ℕ → Number → (at : ℕ) → Form
first_of bytes first at =
    if is_one_of "}" (slice_get bytes at) then quantifier_at first.value (Some first.value) bytes (at + 1)
    else if is_one_of "," (slice_get bytes at) then
    (let second = decimal_at bytes (at + 1) in second_of bytes first second (at + 1 + second.count))
    else Character opening_brace 1

-- a `{`, which stands for itself where it begins no quantifier
unfoldable pub brace_at : List ℕ → Form
brace_at bytes =
    let first = decimal_at bytes 1 in
    if first.count == 0 then Character opening_brace 1 else first_of bytes first (first.count + 1)

-- What an expression is made of: its tokens, a class being one of them.
use Rattle.std.specs.Prelude.{◌≡◌, ℕ, ◌+◌, Bool, not, ◌==◌, ◌||◌, Option, if◌then◌else◌, List}
use Rattle.hs_base.specs.Assertions.{line_feed}
use Rattle.hs_base.specs.ByteSets.{bytes_where}
use Rattle.hs_base.specs.declared.assertion.Assertion.{Assertion}
use Rattle.hs_base.specs.declared.refusal.Refusal.{Refusal}
use Rattle.hs_base.specs.declared.refusal.Refusal.TheVariants.{Syntax}
use Rattle.hs_syntax.specs.declared.mode.Mode.{Mode}
use Rattle.hs_syntax.specs.declared.form.Form.{Form}
use Rattle.hs_syntax.specs.declared.form.Form.TheVariants as form
use Rattle.hs_parse.specs.declared.item.Item.TheVariants as item
use Rattle.hs_parse.specs.declared.set.Test.{Test}
use Rattle.hs_parse.specs.declared.set.Test.TheVariants.{Range, Class}
use Rattle.hs_parse.specs.declared.spot.Spot.{Spot}
use Rattle.hs_parse.specs.Spots.{spot, form_of, refusal_at}
use Rattle.hs_parse.specs.Classes.{item_at, Items, bytes_of, is_negated, items_start, class_of}

-- A token: one byte of a set, one code point, an assertion, a mark of the grammar, a quantifier with its bounds and
-- whether it is possessive, a change of options, the end of the text, or a form that is refused.
pub data Token : Type 0 where
  ending : Token
  single : List Bool → Token
  code_point : Token
  assertion : Assertion → Token
  opening : Token
  closing : Token
  bar : Token
  quantifier : ℕ → Option ℕ → Bool → Token
  setting : Token
  faulty : Refusal → Token

-- every byte, or under no s every byte but the line feed
unfoldable pub any_byte : (dotall : Bool) → List Bool
any_byte dotall = bytes_where (λ b. dotall || not (b == line_feed))

-- one byte of the set, or in UTF-8 one code point
abbrev pub one_of : Mode → List Bool → Token
one_of mode set = if mode.utf8 then code_point else single set

-- What a form makes: a token, with the options behind it and its length in bytes, bytes that are skipped, or a class.
pub data Made : Type 0 where
  token : Token → Mode → ℕ → Made
  skips : Mode → ℕ → Made
  bracket : Made

-- what a form at a place makes
abbrev pub made_by : Mode → ℕ → Form → Made
made_by mode at form.End = token ending mode 0
made_by mode at (form.Skipped behind length) = skips behind length
made_by mode at (form.Setting behind length) = token setting behind length
made_by mode at (form.Opening inside length) = token opening inside length
made_by mode at form.Closing = token closing mode 1
made_by mode at form.Bar = token bar mode 1
made_by mode at form.Any = token (one_of mode (any_byte mode.dotall)) mode 1
made_by mode at (form.Character code length) =
    token (one_of mode (bytes_of (Range mode.caseless code code))) mode length
made_by mode at (form.Class class negated length) =
    token (one_of mode (bytes_of (Class class negated))) mode length
made_by mode at form.Bracket = bracket
made_by mode at (form.Assert here length) = token (assertion here) mode length
made_by mode at (form.Quantifier least greatest possessive length) =
    token (quantifier least greatest possessive) mode length
made_by mode at (form.Refused reason) = token (faulty (refusal_at reason at)) mode 0

-- what begins at a place makes
unfoldable pub made_at : List ℕ → Spot → Made
made_at text s = made_by s.mode s.place (form_of text s)

-- A class, from its `[` to the place behind its `]`. It isn't closed where its items go on to the end of the text.
pub data ClassToken (text : List ℕ) (mode : Mode) (at : ℕ) : Token → ℕ → Type 0 where
  closed : {tests : List Test} {close : ℕ} →
      Items text mode (items_start text at) (items_start text at) tests close →
      item_at text mode (items_start text at) close ≡ item.Close →
      ClassToken text mode at (one_of mode (class_of (is_negated text at) tests)) (close + 1)
  unclosed : {tests : List Test} {end : ℕ} →
      Items text mode (items_start text at) (items_start text at) tests end →
      item_at text mode (items_start text at) end ≡ item.End →
      ClassToken text mode at (faulty (Syntax at)) at
  refused : {tests : List Test} {here : ℕ} {refusal : Refusal} →
      Items text mode (items_start text at) (items_start text at) tests here →
      item_at text mode (items_start text at) here ≡ item.Refused refusal →
      ClassToken text mode at (faulty refusal) at

-- The token that begins at a place, and what is behind it.
pub data TokenAt (text : List ℕ) (s : Spot) : Token → Spot → Type 0 where
  formed : {made : Token} {mode : Mode} {length : ℕ} →
      made_at text s ≡ token made mode length →
      TokenAt text s made (spot (s.place + length) mode)
  bracketed : {made : Token} {end : ℕ} →
      made_at text s ≡ bracket →
      ClassToken text s.mode s.place made end →
      TokenAt text s made (spot end s.mode)

-- The next token from a place on, behind what is skipped: where it begins, and what is behind it.
pub data Next (text : List ℕ) : Spot → (start : Spot) → Token → Spot → Type 0 where
  now : {s t : Spot} {made : Token} →
      TokenAt text s made t →
      Next text s s made t
  skipped : {s start t : Spot} {made : Token} {mode : Mode} {length : ℕ} →
      made_at text s ≡ skips mode length →
      Next text (spot (s.place + length) mode) start made t →
      Next text s start made t

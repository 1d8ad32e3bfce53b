-- Which code points may stand where an expression over code points has a character, a class or a `.`.
use Rattle.std.specs.Prelude.{◌≡◌, ℕ, ◌≤◌, zero, suc, ◌+◌, Bool, false, not, ◌==◌, ◌&&◌, ◌||◌, nat_lt, Option}
use Rattle.std.specs.Prelude.{Some, None, if◌then◌else◌, List, [], ◌∷◌}
use Rattle.std.specs.List.{list_any}
use Rattle.unicode.specs.CaseFolding.{simple_fold}
use Rattle.regex_class.specs.Ranges.{in_ranges, IsCanonical, HasExactly}
use Rattle.hs_base.specs.Assertions.{line_feed}
use Rattle.hs_utf8.specs.Members.{has_encoding}
use Rattle.hs_syntax.specs.declared.mode.Mode.{Mode}
use Rattle.hs_syntax.specs.declared.named.Named.{Named}
use Rattle.hs_syntax.specs.declared.form.Form.{Form}
use Rattle.hs_syntax.specs.declared.form.Form.TheVariants as form
use Rattle.hs_syntax.specs.Names.{is_of, ranges_beyond}
use Rattle.hs_parse.specs.declared.item.Item.TheVariants as item
use Rattle.hs_parse.specs.declared.set.Test.{Test}
use Rattle.hs_parse.specs.declared.set.Test.TheVariants.{Any, Range, Class}
use Rattle.hs_parse.specs.declared.spot.Spot.{Spot}
use Rattle.hs_parse.specs.Spots.{form_of}
use Rattle.hs_parse.specs.Classes.{is_between, item_at, Items, is_negated, items_start}

-- one of so many numbers from the first on passes the test
abbrev pub any_from : (ℕ → Bool) → (first count : ℕ) → Bool
any_from test first zero = false
any_from test first (suc count) = test first || any_from test (first + 1) count

-- some code point from the first to the last has the same simple folding (The Unicode Standard, "Caseless Matching")
unfoldable pub shares_folding : ℕ → ℕ → ℕ → Bool
shares_folding first last c =
    any_from (λ member. is_between first last member && (simple_fold member == simple_fold c)) 0 0x110000

-- a code point of the class: of ASCII those that are its bytes
abbrev pub is_point_of : Named → ℕ → Bool
is_point_of class c = (nat_lt c 0x80 && is_of class c) || in_ranges (ranges_beyond class) c

-- what `.` takes: all, or under no s all but the line feed
abbrev pub any_point : (dotall : Bool) → ℕ → Bool
any_point dotall c = dotall || not (c == line_feed)

-- the code points of a `.` or an item; under i characters and ranges are closed by case, and classes aren't
abbrev pub passes_point : Test → ℕ → Bool
passes_point (Any dotall) c = any_point dotall c
passes_point (Range caseless first last) c = if caseless then shares_folding first last c else is_between first last c
passes_point (Class class negated) c = if negated then not (is_point_of class c) else is_point_of class c

-- the code points that pass one of the tests, or none of them
abbrev pub is_point_by : (negated : Bool) → List Test → ℕ → Bool
is_point_by negated tests c =
    if negated
    then not (list_any (λ test. passes_point test c) tests)
    else list_any (λ test. passes_point test c) tests

-- the test of a form that is one character
abbrev pub test_of : Mode → Form → Option Test
test_of mode form.End = None
test_of mode (form.Skipped behind length) = None
test_of mode (form.Setting behind length) = None
test_of mode (form.Opening inside length) = None
test_of mode form.Closing = None
test_of mode form.Bar = None
test_of mode form.Any = Some (Any mode.dotall)
test_of mode (form.Character code length) = Some (Range mode.caseless code code)
test_of mode (form.Class class negated length) = Some (Class class negated)
test_of mode form.Bracket = None
test_of mode (form.Assert here length) = None
test_of mode (form.Quantifier least greatest possessive length) = None
test_of mode (form.Refused reason) = None

-- At the spot one of these tests is to be passed, or none of them: it has a form of one test, or a class.
pub data AreTests (text : List ℕ) (s : Spot) : (negated : Bool) → List Test → Type 0 where
  formed : {test : Test} →
      test_of s.mode (form_of text s) ≡ Some test →
      AreTests text s false (test ∷ [])
  bracketed : {tests : List Test} {close : ℕ} →
      form_of text s ≡ form.Bracket →
      Items text s.mode (items_start text s.place) (items_start text s.place) tests close →
      item_at text s.mode (items_start text s.place) close ≡ item.Close →
      AreTests text s (is_negated text s.place) tests

-- The ranges rise, no two of them touch, and they have the code points that pass, surrogates left out.
pub record AreRanges (test : ℕ → Bool) (ranges : List (ℕ × ℕ)) : Type 0 where
  pub canonical : IsCanonical ranges
  pub exactly : HasExactly ranges (λ c. has_encoding c && test c)

-- the new ranges have the old code points, and those that pass the test
abbrev pub AddsPoints : (ℕ → Bool) → (old new : List (ℕ × ℕ)) → Type 0
AddsPoints test old new = (c : ℕ) → c ≤ 0x10FFFF → in_ranges new c ≡ (test c || in_ranges old c)

-- The ranges have the code points that may stand at the spot.
pub record ArePoints (text : List ℕ) (s : Spot) (ranges : List (ℕ × ℕ)) : Type 0 where
  pub negated : Bool
  pub tests : List Test
  pub there : AreTests text s negated tests
  pub are : AreRanges (is_point_by negated tests) ranges

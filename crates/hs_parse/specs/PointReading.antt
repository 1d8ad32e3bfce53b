-- What the functions that read sets of code points find out.
use Rattle.std.specs.Prelude.{◌≡◌, ℕ, ◌≤◌, List}
use Rattle.std.specs.List.{list_any}
use Rattle.regex_class.specs.Ranges.{in_ranges}
use Rattle.hs_syntax.specs.declared.mode.Mode.{Mode}
use Rattle.hs_parse.specs.declared.item.Item.TheVariants as item
use Rattle.hs_parse.specs.declared.set.Test.{Test}
use Rattle.hs_parse.specs.declared.spot.Spot.{Spot}
use Rattle.hs_parse.specs.Classes.{item_at, Items, is_negated, items_start}
use Rattle.hs_parse.specs.Tokens.{code_point, TokenAt}
use Rattle.hs_parse.specs.Points.{passes_point, is_point_by, AreRanges}

-- a token of one code point begins at the spot
abbrev pub IsPoint : List ℕ → Spot → Type 0
IsPoint text s = (t : Spot) × TokenAt text s code_point t

-- no item of a class stands at the place
abbrev pub StandsNoItem : List ℕ → Mode → (start at : ℕ) → Type 0
StandsNoItem text mode start at = (test : Test) (end : ℕ) → item_at text mode start at ≡ item.Bytes test end → ⊥

-- the ranges have the code points of the items of a class up to a place
pub record HavePoints (text : List ℕ) (mode : Mode) (start : ℕ) (ranges : List (ℕ × ℕ)) (here : ℕ) : Type 0 where
  pub tests : List Test
  pub items : Items text mode start start tests here
  pub same : (c : ℕ) → c ≤ 0x10FFFF → in_ranges ranges c ≡ list_any (λ test. passes_point test c) tests

-- the ranges have the code points of all items of a class
pub record HaveItems (text : List ℕ) (mode : Mode) (start : ℕ) (ranges : List (ℕ × ℕ)) : Type 0 where
  pub here : ℕ
  pub points : HavePoints text mode start ranges here
  pub stop : StandsNoItem text mode start here

-- the ranges have the code points of the class that begins at a place
pub record AreClassPoints (text : List ℕ) (mode : Mode) (at : ℕ) (ranges : List (ℕ × ℕ)) : Type 0 where
  pub tests : List Test
  pub here : ℕ
  pub items : Items text mode (items_start text at) (items_start text at) tests here
  pub stop : StandsNoItem text mode (items_start text at) here
  pub are : AreRanges (is_point_by (is_negated text at) tests) ranges

-- The code points that differ from a member in case alone.
use Rattle.std.specs.Prelude.{◌≡◌, ◌↔◌, ℕ, ◌≤◌, true, List}
use Rattle.regex_class.specs.Ranges.{in_ranges, IsCanonical}
use Rattle.unicode.specs.CaseFolding.{simple_fold}

-- the greatest code point of Unicode
abbrev pub last_code_point : ℕ
last_code_point = 0x10FFFF

-- a member of the ranges and the code point have the same simple folding
pub record SharesFolding (ranges : List (ℕ × ℕ)) (c : ℕ) : Type 0 where
  pub member : ℕ
  pub within : member ≤ last_code_point
  pub is_member : in_ranges ranges member ≡ true
  pub same : simple_fold member ≡ simple_fold c

-- the ranges rise, no two of them touch, and they have exactly the code points that share a folding with a member
pub record AreFolds (ranges folds : List (ℕ × ℕ)) : Type 0 where
  pub canonical : IsCanonical folds
  pub exactly : (c : ℕ) → c ≤ last_code_point → (in_ranges folds c ≡ true) ↔ SharesFolding ranges c

-- The tree in bytes of an expression: each set of code points becomes the alternatives of its encodings, and all else
-- stays as it is.
use Rattle.std.specs.Prelude.{◌≡◌, ℕ, Bool, true, false, ◌&&◌, nat_lt, List, [], ◌∷◌, ◌++◌}
use Rattle.hs_base.specs.ByteSets.{bytes_where}
use Rattle.hs_base.specs.Trees.{Tree, Trees, empty, class, points, assert, cat, alt, repeat, none, more, trees_of}
use Rattle.hs_utf8.specs.Members.{is_member}
use Rattle.hs_utf8.specs.Runs.{AreRuns}

-- below this a code point is its own encoding, of one byte
abbrev pub ascii_end : ℕ
ascii_end = 0x80

-- the member is one of ASCII
abbrev pub is_ascii_member : List (ℕ × ℕ) → ℕ → Bool
is_ascii_member ranges b = nat_lt b ascii_end && is_member ranges b

-- the members of ASCII are one class, if there are any
pub data AreAscii (ranges : List (ℕ × ℕ)) : List Tree → Type 0 where
  nothing : ((b : ℕ) → is_ascii_member ranges b ≡ false) → AreAscii ranges []
  something : (b : ℕ) → is_ascii_member ranges b ≡ true →
      AreAscii ranges (class (bytes_where (is_ascii_member ranges)) ∷ [])

-- one part is itself, and of no part it is the class of nothing
abbrev pub alternatives : List Tree → Tree
alternatives [] = class (bytes_where (λ _. false))
alternatives (part ∷ []) = part
alternatives (part ∷ second ∷ parts) = alt (trees_of (part ∷ second ∷ parts))

-- the alternatives of a set of code points: those of ASCII first, then the runs
pub record IsLoweredSet (ranges : List (ℕ × ℕ)) (tree : Tree) : Type 0 where
  pub ascii : List Tree
  pub runs : List Tree
  pub are_ascii : AreAscii ranges ascii
  pub are_runs : AreRuns (is_member ranges) ascii_end runs
  pub is : tree ≡ alternatives (ascii ++ runs)

-- the second tree is the first one in bytes
abbrev mutual
  pub IsLowered : Tree → Tree → Type 0
  IsLowered empty tree = tree ≡ empty
  IsLowered (class set) tree = tree ≡ class set
  IsLowered (points ranges) tree = IsLoweredSet ranges tree
  IsLowered (assert assertion) tree = tree ≡ assert assertion
  IsLowered (cat items) tree = (lowered : Trees) × AreLowered items lowered × (tree ≡ cat lowered)
  IsLowered (alt items) tree = (lowered : Trees) × AreLowered items lowered × (tree ≡ alt lowered)
  IsLowered (repeat body least greatest) tree =
      (lowered : Tree) × IsLowered body lowered × (tree ≡ repeat lowered least greatest)

  pub AreLowered : Trees → Trees → Type 0
  AreLowered none trees = trees ≡ none
  AreLowered (more item items) trees =
      (first : Tree) × (others : Trees) × IsLowered item first × AreLowered items others × (trees ≡ more first others)

-- no set of code points is left
abbrev mutual
  pub HasNoPoints : Tree → Type 0
  HasNoPoints empty = Unit {0}
  HasNoPoints (class set) = Unit {0}
  HasNoPoints (points ranges) = ⊥
  HasNoPoints (assert assertion) = Unit {0}
  HasNoPoints (cat items) = HaveNoPoints items
  HasNoPoints (alt items) = HaveNoPoints items
  HasNoPoints (repeat body least greatest) = HasNoPoints body

  pub HaveNoPoints : Trees → Type 0
  HaveNoPoints none = Unit {0}
  HaveNoPoints (more item items) = HasNoPoints item × HaveNoPoints items

-- The runs of a set of code points: members in a row whose encodings are all choices of a byte from one range per
-- place.
use Rattle.std.specs.Prelude.{◌≡◌, ℕ, ◌+◌, ◌<◌, ◌≤◌, Bool, true, false, List, [], ◌∷◌, map, nat_le, ◌&&◌, encode_utf8}
use Rattle.hs_base.specs.ByteSets.{bytes_where}
use Rattle.hs_base.specs.Spans.{IsInRange}
use Rattle.hs_base.specs.Trees.{Tree, class, cat, trees_of}

-- at each place the text has a byte of the range of that place
abbrev pub IsChoice : List (ℕ × ℕ) → List ℕ → Type 0
IsChoice [] [] = Unit {0}
IsChoice [] (byte ∷ bytes) = ⊥
IsChoice (range ∷ ranges) [] = ⊥
IsChoice (range ∷ ranges) (byte ∷ bytes) = IsInRange byte range × IsChoice ranges bytes

-- the texts of the numbers from the first to the last are exactly all choices: so they have one length
pub record AreChoices (text_of : ℕ → List ℕ) (first last : ℕ) (places : List (ℕ × ℕ)) : Type 0 where
  pub each : (c : ℕ) → first ≤ c → c ≤ last → IsChoice places (text_of c)
  pub every : (text : List ℕ) → IsChoice places text → (c : ℕ) × (first ≤ c) × (c ≤ last) × (text ≡ text_of c)

-- the code points from the first to the last are members, and their encodings are exactly all choices
pub record IsCodePointRun (member : ℕ → Bool) (first last : ℕ) (places : List (ℕ × ℕ)) : Type 0 where
  pub some : first ≤ last
  pub members : (c : ℕ) → first ≤ c → c ≤ last → member c ≡ true
  pub encodings : AreChoices encode_utf8 first last places

-- the longest run from the least member that is not below a code point
pub record NextRun (member : ℕ → Bool) (from : ℕ) : Type 0 where
  pub first : ℕ
  pub last : ℕ
  pub places : List (ℕ × ℕ)
  pub above : from ≤ first
  pub least : (c : ℕ) → from ≤ c → c < first → member c ≡ false
  pub run : IsCodePointRun member first last places
  pub longest : (other : ℕ) (others : List (ℕ × ℕ)) → IsCodePointRun member first other others → other ≤ last

-- one byte of a range
abbrev pub place_tree : ℕ × ℕ → Tree
place_tree (first, last) = class (bytes_where (λ b. nat_le first b && nat_le b last))

-- a byte of each range, one after the other
abbrev pub run_tree : List (ℕ × ℕ) → Tree
run_tree places = cat (trees_of (map place_tree places))

-- the trees of the runs that cover the members from a code point on, rising
abbrev pub AreRuns : (ℕ → Bool) → ℕ → List Tree → Type 0
AreRuns member from [] = (c : ℕ) → from ≤ c → member c ≡ false
AreRuns member from (tree ∷ trees) =
    (next : NextRun member from) × (tree ≡ run_tree next.places) × AreRuns member (next.last + 1) trees

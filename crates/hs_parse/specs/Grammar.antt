-- The grammar of expressions (PCRE pattern syntax). A relation reads a form of the grammar, within so many groups, from
-- the place where the form begins to what is behind it. The options in force go with the place: a change of options
-- holds to the end of the enclosing group, also in its later alternatives.
use Rattle.std.specs.Prelude.{◌≡◌, ℕ, ◌+◌, ◌<◌, ◌≤◌, Bool, false, List, [], ◌∷◌, length, Option}
use Rattle.hs_base.specs.declared.assertion.Assertion.{Assertion}
use Rattle.hs_base.specs.declared.flags.Flags.{Flags}
use Rattle.hs_base.specs.Trees.{Tree, empty, class, points, assert, cat, alt, repeat, AreBounds}
use Rattle.hs_expr.specs.Meaning.{trees_of}
use Rattle.hs_parse.specs.declared.spot.Spot.{Spot}
use Rattle.hs_parse.specs.Spots.{spot, start_of}
use Rattle.hs_parse.specs.Points.{ArePoints}
use Rattle.hs_parse.specs.Tokens.{single, code_point, assertion, opening, closing, bar, quantifier, setting, ending}
use Rattle.hs_parse.specs.Tokens.{Next}

-- the greatest length of a text, in bytes
abbrev pub greatest_length : ℕ
greatest_length = 16000

-- the greatest number of groups that may be open at once
abbrev pub greatest_depth : ℕ
greatest_depth = 128

-- no quantifier is the next token
abbrev pub NoQuantifier : List ℕ → Spot → Type 0
NoQuantifier text s =
    (least : ℕ) (greatest : Option ℕ) (possessive : Bool) (start t : Spot) →
    Next text s start (quantifier least greatest possessive) t → ⊥

-- The tree of a sequence: no item is the empty text, one is that item.
abbrev pub sequence_tree : List Tree → Tree
sequence_tree [] = empty
sequence_tree (item ∷ []) = item
sequence_tree (item ∷ other ∷ items) = cat (trees_of (item ∷ other ∷ items))

-- the tree of alternatives: one is itself
abbrev pub alternation_tree : List Tree → Tree
alternation_tree [] = alt (trees_of [])
alternation_tree (tree ∷ []) = tree
alternation_tree (tree ∷ other ∷ trees) = alt (trees_of (tree ∷ other ∷ trees))

mutual
  -- An atom: one byte of a set, one code point, an assertion, or a group, which leaves no node of its own, and behind
  -- which the options are those before it.
  pub data Atom (text : List ℕ) : ℕ → Spot → Tree → Spot → Type 0 where
    one_byte : {depth : ℕ} {s start t : Spot} {set : List Bool} →
        Next text s start (single set) t →
        Atom text depth s (class set) t
    one_point : {depth : ℕ} {s start t : Spot} {ranges : List (ℕ × ℕ)} →
        Next text s start code_point t →
        ArePoints text start ranges →
        Atom text depth s (points ranges) t
    asserted : {depth : ℕ} {s start t : Spot} {here : Assertion} →
        Next text s start (assertion here) t →
        Atom text depth s (assert here) t
    group : {depth : ℕ} {s start inner last close t : Spot} {trees : List Tree} →
        depth < greatest_depth →
        Next text s start opening inner →
        Alternation text (depth + 1) inner trees last →
        Next text last close closing t →
        Atom text depth s (alternation_tree trees) (spot t.place start.mode)

  -- An item: an atom, repeated where a quantifier follows it.
  pub data Item (text : List ℕ) : ℕ → Spot → Tree → Spot → Type 0 where
    once : {depth : ℕ} {s t : Spot} {tree : Tree} →
        Atom text depth s tree t →
        NoQuantifier text t →
        Item text depth s tree t
    repeated : {depth : ℕ} {s middle start t : Spot} {least : ℕ} {greatest : Option ℕ} {tree : Tree} →
        Atom text depth s tree middle →
        Next text middle start (quantifier least greatest false) t →
        AreBounds least greatest →
        Item text depth s (repeat tree least greatest) t

  -- A sequence: items and changes of options, one behind the other. A change of options leaves no node.
  pub data Sequence (text : List ℕ) : ℕ → Spot → List Tree → Spot → Type 0 where
    nothing : {depth : ℕ} {s : Spot} →
        Sequence text depth s [] s
    item_first : {depth : ℕ} {s middle t : Spot} {tree : Tree} {trees : List Tree} →
        Item text depth s tree middle →
        Sequence text depth middle trees t →
        Sequence text depth s (tree ∷ trees) t
    setting_first : {depth : ℕ} {s start middle t : Spot} {trees : List Tree} →
        Next text s start setting middle →
        Sequence text depth middle trees t →
        Sequence text depth s trees t

  -- Alternatives: sequences, with a `|` between each two.
  pub data Alternation (text : List ℕ) : ℕ → Spot → List Tree → Spot → Type 0 where
    last : {depth : ℕ} {s t : Spot} {items : List Tree} →
        Sequence text depth s items t →
        Alternation text depth s (sequence_tree items ∷ []) t
    alternative_first : {depth : ℕ} {s middle start next t : Spot} {items trees : List Tree} →
        Sequence text depth s items middle →
        Next text middle start bar next →
        Alternation text depth next trees t →
        Alternation text depth s (sequence_tree items ∷ trees) t

-- The text, from its start to its end, is read as the tree.
pub record Reads (text : List ℕ) (flags : Flags) (tree : Tree) : Type 0 where
  pub within : length text ≤ greatest_length
  pub trees : List Tree
  pub last : Spot
  pub whole : Alternation text 0 (start_of flags) trees last
  pub start : Spot
  pub behind : Spot
  pub ended : Next text last start ending behind
  pub is : tree ≡ alternation_tree trees

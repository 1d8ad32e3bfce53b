-- The items of a concatenation.
use Rattle.std.specs.Prelude.{ℕ, Bool, false, ◌&&◌, ◌==◌, List, [], ◌∷◌, ◌++◌, Option, Some, None, if◌then◌else◌}
use Rattle.hs_base.specs.Trees.{Tree, Trees, empty, class, points, assert, cat, alt, repeat, none, more}

-- exactly one copy
abbrev pub is_once : ℕ → Option ℕ → Bool
is_once least None = false
is_once least (Some greatest) = (least == 1) && (greatest == 1)

-- What an expression is the concatenation of: nested concatenations are opened, a repeat of exactly one copy is its
-- body, and the empty text is no item. Every other node is one item, as it stands.
abbrev mutual
  pub items_of : Tree → List Tree
  items_of empty = []
  items_of (class set) = class set ∷ []
  items_of (points ranges) = points ranges ∷ []
  items_of (assert assertion) = assert assertion ∷ []
  items_of (cat items) = items_of_all items
  items_of (alt items) = alt items ∷ []
  items_of (repeat body least greatest) =
      if is_once least greatest then items_of body else repeat body least greatest ∷ []

  pub items_of_all : Trees → List Tree
  items_of_all none = []
  items_of_all (more item items) = items_of item ++ items_of_all items

-- The items of a concatenation.
use Rattle.std.specs.Prelude.{◌≡◌, ℕ, Bool, false, ◌↔◌, List}
pub use Rattle.hs_base.specs.Items.{items_of, items_of_all, is_once}
use Rattle.hs_base.specs.Trees.{Tree, empty, class, points, assert, cat, alt, repeat}
use Rattle.hs_base.specs.Spans.{Spans}

-- the two expressions have the same spans in every stream
abbrev pub HaveSameSpans : Tree → Tree → Type 0
HaveSameSpans t u = (w : List ℕ) (ended : Bool) (i j : ℕ) → Spans w ended t i j ↔ Spans w ended u i j

-- the node can't be opened: it is one item
abbrev pub IsItem : Tree → Type 0
IsItem empty = ⊥
IsItem (class set) = Unit {0}
IsItem (points ranges) = Unit {0}
IsItem (assert assertion) = Unit {0}
IsItem (cat items) = ⊥
IsItem (alt items) = Unit {0}
IsItem (repeat body least greatest) = is_once least greatest ≡ false

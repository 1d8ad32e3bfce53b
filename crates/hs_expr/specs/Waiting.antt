-- What waits for the items to come, on the way from items to the pieces of a chain.
use Rattle.std.specs.Prelude.{ℕ, List, [], ◌∷◌, map, sum}
use Rattle.hs_base.specs.Chains.{Part, Piece, runs_joined, runs_cut, with_literal, with_ordinary}
use Rattle.hs_base.specs.Chains.{pieces_of, alternatives_of_all}
use Rattle.hs_base.specs.Items.{items_of}
use Rattle.hs_base.specs.Literals.{LiteralByte}
use Rattle.hs_base.specs.Trees.{Tree, Trees, trees_of}
use Rattle.hs_expr.specs.Counts.{position_counts}

-- a run that waits, before parts
abbrev pub with_run : List LiteralByte → List Part → List Part
with_run [] parts = parts
with_run (x ∷ xs) parts = with_literal (x ∷ xs) parts

-- ordinary items that wait, before parts
abbrev pub with_items : List Tree → List Part → List Part
with_items [] parts = parts
with_items (t ∷ ts) parts = with_ordinary (t ∷ ts) parts

-- a run that waits and then parts, with the runs cut
abbrev pub cut_from : List LiteralByte → List Part → List Part
cut_from run parts = runs_cut (with_run run (runs_joined parts))

-- the positions of items in a row
abbrev pub row : List Tree → ℕ
row items = sum (position_counts (trees_of items))

-- the chains of several alternatives
abbrev pub chains_of_all : Trees → List (List Piece)
chains_of_all items = map (λ u. pieces_of (items_of u)) (alternatives_of_all items)

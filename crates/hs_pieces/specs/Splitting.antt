-- Where a split stands: pieces that are complete, and what waits for the items to come.
use Rattle.std.specs.Prelude.{List, [], ◌∷◌, ◌++◌, map}
use Rattle.hs_base.specs.Chains.{Piece, nfa, Part, ordinary_joined, piece_of}
use Rattle.hs_base.specs.LiteralView.{literal_byte}
use Rattle.hs_base.specs.Trees.{Tree, cat, trees_of}
use Rattle.hs_expr.specs.Meaning.{tree_of}
use Rattle.hs_expr.specs.Waiting.{with_items, cut_from}
use Rattle.hs_pieces.specs.Meaning.{plain_piece}
use Rattle.hs_pieces.specs.declared.parts.Parts.{Parts}

-- ordinary items that wait, if nothing more of them comes
abbrev pub closed : List Tree → List Piece
closed [] = []
closed (t ∷ ts) = nfa (cat (trees_of (t ∷ ts))) ∷ []

-- what comes of ordinary items that wait, and then of parts whose runs are cut
abbrev pub pieces_of_cut : List Tree → List Part → List Piece
pieces_of_cut items cut = map piece_of (with_items items (ordinary_joined cut))

-- all pieces, if these parts come behind what waits but for the run
abbrev pub whole_of_cut : Parts → List Part → List Piece
whole_of_cut state cut = map plain_piece state.pieces.items ++ pieces_of_cut (map tree_of state.items.items) cut

-- all pieces, if these parts are to come
abbrev pub whole : Parts → List Part → List Piece
whole state parts = whole_of_cut state (cut_from (map literal_byte state.run.items) parts)

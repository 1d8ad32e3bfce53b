-- Chains as contracts see them.
use Rattle.std.specs.Prelude.{List, map}
use Rattle.hs_base.specs.ByteSets.{members}
use Rattle.hs_base.specs.LiteralView.{literal_byte}
use Rattle.hs_base.specs.Chains as plain
use Rattle.hs_expr.specs.Meaning.{tree_of}
use Rattle.hs_pieces.specs.declared.piece.Piece.{Piece}
use Rattle.hs_pieces.specs.declared.piece.Piece.TheVariants.{Lit, Nfa, Rep}
use Rattle.hs_pieces.specs.declared.piece.Chain.{Chain}

abbrev pub plain_piece : Piece → plain.Piece
plain_piece (Lit bytes) = plain.lit (map literal_byte bytes.items)
plain_piece (Nfa expr) = plain.nfa (tree_of expr)
plain_piece (Rep set least greatest) = plain.rep (members set) least greatest

abbrev pub plain_chain : Chain → List plain.Piece
plain_chain chain = map plain_piece chain.0.items

-- What the engine of a piece is, and where the piece has the empty span.
use Rattle.std.specs.Prelude.{◌≡◌, ◌↔◌, ℕ, true, List}
use Rattle.hs_base.specs.declared.context.Mask.{Mask}
use Rattle.hs_base.specs.declared.context.Next.{Next}
use Rattle.hs_base.specs.Contexts.{context_of}
use Rattle.hs_base.specs.ContextSets.{has_context}
use Rattle.hs_base.specs.Chains.{Piece, piece_tree}
use Rattle.hs_base.specs.Leaving.{IsEmptyAt}
use Rattle.hs_base.specs.Trees.{Tree}
use Rattle.hs_pieces.specs.Meaning.{plain_piece}
use Rattle.hs_rose.specs.declared.engine.PieceEngine.{PieceEngine}
use Rattle.hs_rose.specs.declared.making.Made.{Made}
use Rattle.hs_rose.specs.Marks.{mark_of}
use Rattle.hs_rose.specs.PieceEngines.{IsEngineOf}

-- the mask has the contexts in which the expression has the empty span, in every stream
abbrev pub IsNullMask : Mask → Tree → Type 0
IsNullMask mask tree =
    (u : List ℕ) (next : Next) → (has_context mask (context_of u next) ≡ true) ↔ IsEmptyAt tree u next

-- What is made of a piece: an engine that runs it, and the mask of its empty spans.
pub record IsMadeOf (engine : PieceEngine) (null : Mask) (piece : Piece) : Type 0 where
  pub engine_is : IsEngineOf engine piece
  pub null_is : IsNullMask null (piece_tree piece)

-- the piece that it was made of
abbrev pub model_of : Made → Piece
model_of made = plain_piece made.model

-- its mark is that of its piece
abbrev pub IsMarked : Made → Type 0
IsMarked made = made.mark ≡ mark_of (model_of made)

-- it is made of its piece
abbrev pub IsMade : Made → Type 0
IsMade made = IsMadeOf made.engine made.null (model_of made)

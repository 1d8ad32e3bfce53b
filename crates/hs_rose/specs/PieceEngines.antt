-- What the engine of a piece means, and which engine runs a piece.
use Rattle.std.specs.Prelude.{◌≡◌, ◌↔◌, ℕ, Bool, false, List}
use Rattle.hs_engine.specs.Engines.{Meaning}
use Rattle.hs_base.specs.Chains.{Piece, lit, nfa, rep, piece_tree}
use Rattle.hs_base.specs.KeptPieces as kept
use Rattle.hs_base.specs.KeptPieces.{Form, form_size, repeat_form, Says, IsFieldAt}
use Rattle.hs_repeat.specs.RepeatEngines.{meaning_of_first, meaning_of_last, meaning_of_ring}
use Rattle.hs_rose.specs.declared.engine.PieceEngine.{PieceEngine}
use Rattle.hs_rose.specs.declared.engine.PieceEngine.TheVariants.{Positions, First, Last, Ring}
use Rattle.hs_rose.specs.declared.kind.Kind.{Kind}
use Rattle.hs_rose.specs.declared.kind.Kind.TheVariants as kind
use Rattle.hs_rose.specs.Kinds.{kind_for}
use Rattle.hs_rose.specs.PositionEngines.{meaning_of_positions}

-- what it runs, and what its regions say
abbrev pub piece_meaning : PieceEngine → Meaning
piece_meaning (Positions positions) = meaning_of_positions positions.value
piece_meaning (First first) = meaning_of_first first
piece_meaning (Last last) = meaning_of_last last
piece_meaning (Ring ring) = meaning_of_ring ring

-- the kind of a role that keeps its regions
abbrev pub engine_kind : PieceEngine → Kind
engine_kind (Positions positions) = kind.Positions
engine_kind (First first) = kind.First
engine_kind (Last last) = kind.Last
engine_kind (Ring ring) = kind.Ring

-- what its regions keep of a piece
abbrev pub engine_form : Piece → Form
engine_form (lit xs) = kept.nothing
engine_form (nfa tree) = kept.positions tree
engine_form (rep set n m) = repeat_form set n m

-- The engine runs the piece, and its regions are the fields of that form.
pub record IsEngineOf (engine : PieceEngine) (piece : Piece) : Type 0 where
  pub runs : (piece_meaning engine).is_for (piece_tree piece)
  pub kind_is : engine_kind engine ≡ kind_for (engine_form piece) piece
  pub width : (piece_meaning engine).width ≡ form_size (engine_form piece)
  pub always : (piece_meaning engine).always ≡ false
  pub says : (bytes u : List ℕ) (entered : List Bool) →
      (piece_meaning engine).field bytes (piece_tree piece) u entered ↔ Says (engine_form piece) bytes u entered
  pub well : (bytes : List ℕ) (at : ℕ) →
      (piece_meaning engine).well bytes at ↔ IsFieldAt (engine_form piece) bytes at

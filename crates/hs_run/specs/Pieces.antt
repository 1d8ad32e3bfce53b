-- What runs a piece of a chain, and what it tells.
use Rattle.std.specs.Prelude.{◌≡◌, ◌↔◌, ℕ, ◌≤◌, Bool, true, false, ◌&&◌, List, []}
use Rattle.std.specs.Prelude.{◌∷◌, ◌++◌, length, replicate, Some, slice_get}
use Rattle.hs_base.specs.declared.context.Mask.{Mask}
use Rattle.hs_base.specs.declared.context.Next.{Next}
use Rattle.hs_base.specs.declared.context.NextSet.{NextSet}
use Rattle.hs_base.specs.Chains.{Piece, lit, piece_tree, IsFitChain}
use Rattle.hs_base.specs.Contexts.{context_of}
use Rattle.hs_base.specs.ContextSets.{has_context, has_next}
use Rattle.hs_base.specs.KeptPieces.{Form, nothing, positions, literal, first}
use Rattle.hs_base.specs.KeptPieces.{last, ring, form_size, IsFieldAt}
use Rattle.hs_base.specs.KeptPieces.{IsKeptAs, Says}
use Rattle.hs_base.specs.Leaving.{IsEmptyAt, LeavesBehind, TellsLeaving}
use Rattle.hs_base.specs.Literals.{LiteralByte, takes}
use Rattle.hs_base.specs.Regions.{Place, place_form}
use Rattle.hs_base.specs.RepeatRows.{IsRingAt}
use Rattle.hs_base.specs.Trees.{Tree}
use Rattle.hs_engine.specs.Engines.{Meaning}
use Rattle.hs_run.specs.Spots.{IsSpot}
use Rattle.hs_run.specs.declared.way.Way.TheVariants as way
use Rattle.hs_rose.specs.declared.engine.PieceEngine.{PieceEngine}
use Rattle.hs_rose.specs.PieceEngines.{piece_meaning}
use Rattle.hs_rose.specs.Programs.{Tables}
use Rattle.hs_run.specs.Ways.{way_of}
use Rattle.hs_rose.specs.declared.role.Role.{Role}
use Rattle.hs_run.specs.declared.spot.Spot.{Spot}

-- whether the bytes are ones that the literal takes
abbrev pub takes_all : List LiteralByte → List ℕ → Bool
takes_all [] [] = true
takes_all [] (b ∷ bytes) = false
takes_all (x ∷ xs) [] = false
takes_all (x ∷ xs) (b ∷ bytes) = takes x b && takes_all xs bytes

-- something is kept of a piece of that form
abbrev pub keeps : Form → Bool
keeps nothing = false
keeps (positions tree) = true
keeps (literal n) = true
keeps (first set n) = true
keeps (last set m) = true
keeps (ring set m) = true

-- the mask has the contexts in which the expression has the empty span, in every stream
abbrev pub IsRoleNull : Mask → Tree → Type 0
IsRoleNull mask tree =
    (u : List ℕ) (next : Next) → (has_context mask (context_of u next) ≡ true) ↔ IsEmptyAt tree u next

-- An engine of that meaning runs the expression of a piece whose fields have that form.
pub record RunsForm (m : Meaning) (form : Form) (tree : Tree) : Type 0 where
  pub kept : keeps form ≡ true
  pub runs : m.is_for tree
  pub wide : m.width ≡ form_size form
  pub listed : m.always ≡ false
  pub says : (bytes u : List ℕ) (entered : List Bool) → length entered ≡ length u →
      Says form bytes u entered ↔ m.field bytes tree u entered
  pub standing : (bytes : List ℕ) (at : ℕ) → length bytes ≡ form_size form → IsFieldAt form bytes at ↔ m.well bytes at

module _ (program : Tables) where
  -- The role runs a literal of which nothing is kept, since it is entered everywhere.
  pub record IsBare (r : Role) (p : Place) : Type 0 where
    pub kind : way_of r ≡ way.BareLiteral
    pub value : List LiteralByte
    pub there : slice_get program.literals r.number ≡ Some value
    pub is_piece : p.piece ≡ lit (value)
    pub is_first : p.pieces ≡ []

  -- The role runs a literal whose entries are kept.
  pub record IsEntered (r : Role) (p : Place) : Type 0 where
    pub kind : way_of r ≡ way.Literal
    pub value : List LiteralByte
    pub there : slice_get program.literals r.number ≡ Some value
    pub is_piece : p.piece ≡ lit (value)
    pub form : place_form p ≡ literal (length (value))

  -- The role runs the piece by an engine.
  pub record IsEngined (r : Role) (p : Place) : Type 0 where
    pub kind : way_of r ≡ way.Engine
    pub value : PieceEngine
    pub there : slice_get program.engines r.number ≡ Some value
    pub runs : RunsForm (piece_meaning value) (place_form p) (piece_tree p.piece)

  -- The role runs the piece, by itself.
  pub data IsAlone (r : Role) (p : Place) : Type 0 where
    bare : IsBare r p → IsAlone r p
    entered : IsEntered r p → IsAlone r p
    engine : IsEngined r p → IsAlone r p

  -- The role runs the piece by itself, and tells where it is empty.
  pub record IsRoleOf (r : Role) (p : Place) : Type 0 where
    pub alone : IsAlone r p
    pub null : IsRoleNull r.null (piece_tree p.piece)

  -- the number is that of an engine whose regions have that size, and may begin with zeros
  pub record IsEngineSound (k size : ℕ) : Type 0 where
    pub value : PieceEngine
    pub there : slice_get program.engines k ≡ Some value
    pub wide : (piece_meaning value).width ≡ size
    pub begins : (piece_meaning value).well (replicate size 0) 0

  -- the number is that of a literal
  pub record IsLiteralSound (k : ℕ) : Type 0 where
    pub value : List LiteralByte
    pub there : slice_get program.literals k ≡ Some value
    pub some : 1 ≤ length value
    pub short : length value ≤ 32

  -- What the role names is there, and fits a field of that size.
  pub record IsSound (r : Role) (size : ℕ) : Type 0 where
    pub engine : way_of r ≡ way.Engine → IsEngineSound r.number size
    pub bare : way_of r ≡ way.BareLiteral → IsLiteralSound r.number
    pub literal : way_of r ≡ way.Literal → IsLiteralSound r.number × (size ≡ 4)

  -- The bytes may be the role's field at that offset.
  pub record IsPart (r : Role) (bytes : List ℕ) (at : ℕ) : Type 0 where
    pub engine : way_of r ≡ way.Engine → (e : PieceEngine) → slice_get program.engines r.number ≡ Some e →
        (piece_meaning e).well bytes at
    pub literal : way_of r ≡ way.Literal → (x : List LiteralByte) → slice_get program.literals r.number ≡ Some x →
        IsRingAt (length (x)) bytes at

-- these tell where the piece behind those is left, after at least one byte
abbrev pub TellsBehind : NextSet → List Piece → Piece → List ℕ → Type 0
TellsBehind set pieces piece u = (next : Next) → (has_next set next ≡ true) ↔ LeavesBehind pieces piece u next

module _ (program : Tables) (r : Role) where
  -- Whatever piece the role runs, and behind whatever stream: where it is left after at least one byte.
  abbrev pub TellsOut : (part : List ℕ) → Spot → NextSet → Type 0
  TellsOut part spot out =
      (p : Place) (u : List ℕ) → IsRoleOf program r p → IsSpot u spot →
      IsKeptAs (place_form p) p.pieces part u → TellsBehind out p.pieces p.piece u

  -- And where the pieces up to it are left, if `now` tells where those before it are.
  abbrev pub GoesOn : (part : List ℕ) → Spot → (now then : NextSet) → Type 0
  GoesOn part spot now then =
      (p : Place) (rest : List Piece) (u : List ℕ) → IsRoleOf program r p →
      IsFitChain (p.pieces ++ p.piece ∷ rest) → IsSpot u spot →
      IsKeptAs (place_form p) p.pieces part u →
      TellsLeaving (has_next now) p.pieces u →
      TellsLeaving (has_next then) (p.pieces ++ p.piece ∷ []) u

  -- And its field behind the byte.
  abbrev pub KeepsOn : (old new : List ℕ) → Spot → (byte : ℕ) → NextSet → Type 0
  KeepsOn old new spot byte now =
      (p : Place) (u : List ℕ) → IsRoleOf program r p → IsSpot u spot →
      IsKeptAs (place_form p) p.pieces old u →
      TellsLeaving (has_next now) p.pieces u →
      IsKeptAs (place_form p) p.pieces new (u ++ byte ∷ [])

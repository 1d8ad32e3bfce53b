-- What is told of a piece that looks back, and of the literal behind it.
use Rattle.std.specs.Prelude.{◌≡◌, ◌⊎◌, ℕ, ◌-◌, ◌≤◌, false, List, [], ◌∷◌, ◌++◌, length, take, Some, slice_get}
use Rattle.hs_base.specs.declared.context.NextSet.{NextSet}
use Rattle.hs_base.specs.declared.context.Prev.{Prev}
use Rattle.hs_base.specs.Chains.{Piece, nfa, IsFitChain}
use Rattle.hs_base.specs.Contexts.{prev_at}
use Rattle.hs_base.specs.ContextSets.{has_next}
use Rattle.hs_base.specs.Fields.{entered_always}
use Rattle.hs_base.specs.Leaving.{IsAtMostWide, TellsLeaving, entered_never}
use Rattle.hs_base.specs.Trees.{Tree}
use Rattle.hs_engine.specs.Engines.{Meaning}
use Rattle.hs_rose.specs.declared.engine.PieceEngine.{PieceEngine}
use Rattle.hs_rose.specs.PieceEngines.{piece_meaning}
use Rattle.hs_run.specs.Pieces.{IsRoleNull}
use Rattle.hs_run.specs.Programs.{LooksBack, window_size}
use Rattle.hs_run.specs.Spots.{IsSpot}
use Rattle.hs_rose.specs.Programs.{Tables}
use Rattle.hs_rose.specs.declared.role.Role.{Role}
use Rattle.hs_run.specs.declared.spot.Spot.{Spot}

-- The bytes are the field of the expression behind v, where it is entered at the last offsets alone: at as many as an
-- expression that looks back has bytes, or at all.
pub record IsRunBack (m : Meaning) (tree : Tree) (v part : List ℕ) : Type 0 where
  pub front : List ℕ
  pub behind : List ℕ
  pub whole : v ≡ front ++ behind
  pub enough : (window_size ≤ length behind) ⊎ (front ≡ [])
  pub field : m.field part tree (front ++ behind) (entered_never front ++ entered_always behind)

-- That holds of the stream without its last `back` bytes, whatever the stream and the engine's expression.
abbrev pub RunsBack : Meaning → Spot → (back : ℕ) → (part : List ℕ) → Prev → Type 0
RunsBack m spot back part prev =
    (tree : Tree) (u : List ℕ) → m.is_for tree → m.always ≡ false → IsSpot u spot →
    IsRunBack m tree (take (length u - back) u) part × (prev ≡ prev_at u (length u - back))

module _ (program : Tables) where
  -- where the role's expression is left before the last `back` bytes
  abbrev pub LeavesBack : Role → Spot → (back : ℕ) → NextSet → Type 0
  LeavesBack r spot back set =
      (e : PieceEngine) (tree : Tree) (rest : List Piece) (u : List ℕ) →
      slice_get program.engines r.number ≡ Some e →
      (piece_meaning e).is_for tree → (piece_meaning e).always ≡ false → IsAtMostWide window_size tree →
      IsRoleNull r.null tree → IsFitChain (nfa tree ∷ rest) → IsSpot u spot →
      TellsLeaving (has_next set) (nfa tree ∷ []) (take (length u - back) u)

  -- where the first two pieces of a chain are left, the first of which looks back
  abbrev pub LeavesLooked : (first : ℕ) → Spot → NextSet → Type 0
  LeavesLooked first spot set =
      (chain : List Piece) (u : List ℕ) → LooksBack program first chain → IsFitChain chain → IsSpot u spot →
      TellsLeaving (has_next set) (take 2 chain) u

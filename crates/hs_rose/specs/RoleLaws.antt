-- What holds of the program of a list.
use Rattle.std.specs.Prelude.{◌≡◌, ◌↔◌, ℕ, List, length, map, Some, slice_get}
use Rattle.hs_base.specs.Chains.{Piece, chains_of}
use Rattle.hs_base.specs.Regions.{Plan, list_places, place_size}
use Rattle.hs_pieces.specs.LookBack.{begins_with_look_back}
use Rattle.hs_rose.specs.declared.engine.PieceEngine.{PieceEngine}
use Rattle.hs_rose.specs.declared.role.Role.{Role}
use Rattle.hs_rose.specs.Listing.{Asked, ListedPiece, listed_chains, listed_pieces}
use Rattle.hs_rose.specs.Made.{IsMadeOf}
use Rattle.hs_rose.specs.Naming.{engine_of}
use Rattle.hs_rose.specs.Programs.{Tables, IsProgramOf}

-- the role of that number is there, and so is its piece
pub record HasRole (t : Tables) (pieces : List ListedPiece) (k : ℕ) (r : Role) (piece : Piece) : Type 0 where
  pub listed : ListedPiece
  pub role_is : slice_get t.roles k ≡ Some r
  pub listed_is : slice_get pieces k ≡ Some listed
  pub piece_is : listed.place.piece ≡ piece

-- The engine of a role runs its piece, and the role tells where that has the empty span.
abbrev pub EnginesRunPieces : Type 0
EnginesRunPieces =
    (t : Tables) (entries : List Asked) (chains : List (List (List Piece))) (k n : ℕ) (r : Role) (piece : Piece) →
    IsProgramOf t entries chains →
    HasRole t (listed_pieces (listed_chains entries chains)) k r piece →
    engine_of r ≡ Some n →
    (engine : PieceEngine) × (slice_get t.engines n ≡ Some engine) × IsMadeOf engine r.null piece

-- Two roles have one engine just where their pieces are equal.
abbrev pub EqualPiecesHaveOneEngine : Type 0
EqualPiecesHaveOneEngine =
    (t : Tables) (entries : List Asked) (chains : List (List (List Piece))) (j k m n : ℕ) (r s : Role)
    (piece other : Piece) →
    IsProgramOf t entries chains →
    HasRole t (listed_pieces (listed_chains entries chains)) j r piece →
    HasRole t (listed_pieces (listed_chains entries chains)) k s other →
    engine_of r ≡ Some m →
    engine_of s ≡ Some n →
    (m ≡ n) ↔ (piece ≡ other)

-- The program is that of the chains of the plan's patterns.
pub record IsProgramOfPlan (t : Tables) (entries : List Asked) (plan : Plan) : Type 0 where
  pub program : IsProgramOf t entries (map (λ x. chains_of x.tree) plan.patterns)
  pub count : length entries ≡ length plan.patterns
  pub looks_back : (chain : List Piece) → plan.looks_back chain ≡ begins_with_look_back chain

-- The fields of the roles are those of the plan's regions, in order.
abbrev pub FieldsAreThoseOfPlan : Type 0
FieldsAreThoseOfPlan =
    (t : Tables) (entries : List Asked) (plan : Plan) →
    IsProgramOfPlan t entries plan →
    map (λ r. r.field_size) t.roles ≡ map place_size (list_places plan)

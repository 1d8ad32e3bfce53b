-- The region that a stream keeps between its writes, and that is saved: that of all pieces, in which one byte, the
-- number of a state, stands for the positions of each first piece that has few states.
use Rattle.std.specs.Prelude.{◌≡◌, ℕ, suc, ◌<◌, ◌≤◌, List, [], ◌∷◌, length, map, false, Some, slice_get, slice_range}
use Rattle.std.specs.List.{AllZip}
use Rattle.hs_base.specs.AssertionTests.{has_assertion}
use Rattle.hs_base.specs.Chains.{Piece, nfa}
use Rattle.hs_base.specs.Fields.{entered_always}
use Rattle.hs_base.specs.KeptPieces.{Form, form_size, IsFieldAt, IsKeptAs}
use Rattle.hs_base.specs.Lists.{Each}
use Rattle.hs_base.specs.Offsets.{greatest_offset}
use Rattle.hs_base.specs.Regions.{AreBitsOf, IsHeader, Place, Plan, field_starts, last_bytes, list_places, place_form}
use Rattle.hs_base.specs.Regions.{history_at, history_size, plan_fields_at, plan_here_at, plan_last_at, region_offset}
use Rattle.hs_base.specs.Regions.{region_size, told_at}
use Rattle.hs_base.specs.Reports.{IsReport}
use Rattle.hs_base.specs.Settling.{IsLeftToEnd}
use Rattle.hs_base.specs.Trees.{Tree}
use Rattle.hs_base.specs.WrittenOut.{count, write_out}
use Rattle.hs_states.specs.DfaHistories.{IsStateOf}
use Rattle.hs_states.specs.DfaStates.{AreStatesOf, DfaState}

-- ---- the pieces

-- All states of an expression that is entered before every byte, which are so few that a byte tells one.
pub record AreFewStates (tree : Tree) (states : List DfaState) : Type 0 where
  pub all : AreStatesOf (write_out tree) (has_assertion tree) states
  pub few : length states ≤ 255

-- The piece is the first one of a chain that doesn't look back, and an expression with a position and few states.
pub record IsKeptByState (p : Place) (tree : Tree) : Type 0 where
  pub ahead : p.looks_back ≡ false
  pub first : p.pieces ≡ []
  pub expression : p.piece ≡ nfa tree
  pub some : 0 < count (write_out tree)
  pub states : List DfaState
  pub few : AreFewStates tree states

-- What is kept of a piece: its field, or the number of the state of an expression.
pub data KeptForm : Type 0 where
  field : Form → KeptForm
  state : Tree → KeptForm

-- how a piece is kept
pub data IsKeptForm (p : Place) : KeptForm → Type 0 where
  by_state : (tree : Tree) → IsKeptByState p tree → IsKeptForm p (state tree)
  by_field : ((tree : Tree) → IsKeptByState p tree → ⊥) → IsKeptForm p (field (place_form p))

-- so the pieces of the plan are kept, in order
abbrev pub AreKeptForms : Plan → List KeptForm → Type 0
AreKeptForms plan forms = AllZip IsKeptForm (list_places plan) forms

-- how many bytes it takes
abbrev pub kept_form_size : KeptForm → ℕ
kept_form_size (field form) = form_size form
kept_form_size (state tree) = 1

-- The byte is the number of the expression's state behind u.
pub record IsStateByte (tree : Tree) (bytes u : List ℕ) : Type 0 where
  pub number : ℕ
  pub byte : bytes ≡ number ∷ []
  pub states : List DfaState
  pub few : AreFewStates tree states
  pub own : DfaState
  pub at : slice_get states number ≡ Some own
  pub behind : IsStateOf (write_out tree) (has_assertion tree) u (entered_always u) own

-- The byte is the number of a state.
pub record IsSomeStateByte (tree : Tree) (bytes : List ℕ) : Type 0 where
  pub number : ℕ
  pub byte : bytes ≡ number ∷ []
  pub states : List DfaState
  pub few : AreFewStates tree states
  pub within : number < length states

-- The bytes are what is kept of a piece behind u, which is entered where those pieces are left.
abbrev pub IsKeptPart : KeptForm → (pieces : List Piece) (bytes u : List ℕ) → Type 0
IsKeptPart (field form) pieces bytes u = IsKeptAs form pieces bytes u
IsKeptPart (state tree) pieces bytes u = IsStateByte tree bytes u

-- The bytes may be kept of a piece where the stream has so many bytes.
abbrev pub IsKeptPartAt : KeptForm → (bytes : List ℕ) (at : ℕ) → Type 0
IsKeptPartAt (field form) bytes at = IsFieldAt form bytes at
IsKeptPartAt (state tree) bytes at = IsSomeStateByte tree bytes

-- ---- regions

module _ (plan : Plan) where
  -- where what is kept of the pieces begins; behind the last one ends the region
  abbrev pub kept_starts : List KeptForm → List ℕ
  kept_starts forms = field_starts (length plan.singles) (length plan.identifiers) (map kept_form_size forms)

  -- how many bytes there are
  abbrev pub kept_size : List KeptForm → ℕ
  kept_size forms = region_size (length plan.singles) (length plan.identifiers) (map kept_form_size forms)

  -- The plan's regions are kept in so many bytes.
  pub record IsKeptSize (size : ℕ) : Type 0 where
    pub forms : List KeptForm
    pub are : AreKeptForms plan forms
    pub size_is : size ≡ kept_size forms

  -- the piece of that number is kept so, from the first to before the second byte
  pub record IsKeptPlaced (forms : List KeptForm) (k : ℕ) (p : Place) (form : KeptForm) (low high : ℕ) : Type 0 where
    pub piece : slice_get (list_places plan) k ≡ Some p
    pub kept : slice_get forms k ≡ Some form
    pub begin : slice_get (kept_starts forms) k ≡ Some low
    pub end : slice_get (kept_starts forms) (suc k) ≡ Some high

  -- What comes before that is kept of the pieces is as in the region of the stream u, which may go on.
  pub record IsHeaderOf (u region : List ℕ) : Type 0 where
    pub within : length u ≤ greatest_offset
    pub offset : region_offset region ≡ length u
    pub history : slice_range region history_at told_at ≡ last_bytes history_size u
    pub told : AreBitsOf region told_at (plan_here_at plan) plan.singles
        (λ id. (to : ℕ) × IsReport plan.patterns u false id to)
    pub here : AreBitsOf region (plan_here_at plan) (plan_last_at plan) plan.identifiers
        (λ id. IsReport plan.patterns u false id (length u))
    pub last : AreBitsOf region (plan_last_at plan) (plan_fields_at plan) plan.identifiers
        (λ id. IsLeftToEnd plan.patterns u id)

  -- The bytes are what is kept of the stream u, which may go on.
  pub record IsKeptRegion (u region : List ℕ) : Type 0 where
    pub forms : List KeptForm
    pub are : AreKeptForms plan forms
    pub len : length region ≡ kept_size forms
    pub bytes : Each (λ b. b < 256) region
    pub header : IsHeaderOf u region
    pub parts : (k low high : ℕ) (p : Place) (form : KeptForm) → IsKeptPlaced forms k p form low high →
        IsKeptPart form p.pieces (slice_range region low high) u

  -- The bytes may be what is kept of a stream: they have the length, and the header and each part keep to their rules.
  pub record IsWellKept (region : List ℕ) : Type 0 where
    pub forms : List KeptForm
    pub are : AreKeptForms plan forms
    pub len : length region ≡ kept_size forms
    pub bytes : Each (λ b. b < 256) region
    pub header : IsHeader (length plan.singles) (length plan.identifiers) region
    pub parts : (k low high : ℕ) (p : Place) (form : KeptForm) → IsKeptPlaced forms k p form low high →
        IsKeptPartAt form (slice_range region low high) (region_offset region)

-- Which program runs the patterns of a plan.
use Rattle.std.specs.Prelude.{◌≡◌, ◌⊎◌, ℕ, suc, ◌+◌, ◌-◌, ◌^◌, ◌<◌, ◌≤◌, Bool}
use Rattle.std.specs.Prelude.{true, false, List, ◌∷◌, length, map, flat_map, take}
use Rattle.std.specs.Prelude.{Some, slice_get}
use Rattle.hs_base.specs.Chains.{Piece, lit, nfa, chains_of, IsFitChain}
use Rattle.hs_base.specs.Leaving.{IsAtMostWide}
use Rattle.hs_base.specs.LeavingLaws.{HasSpansOfChains}
use Rattle.hs_base.specs.Lists.{Each}
use Rattle.hs_base.specs.Patterns.{Pattern, is_single}
use Rattle.hs_base.specs.Regions.{Place, Plan, IsPlan, list_places, place_size}
use Rattle.hs_base.specs.Trees.{Tree}
use Rattle.hs_layout.specs.Layouts.{Laid, laid_size, layout_of}
use Rattle.hs_run.specs.Pieces.{IsRoleNull, IsRoleOf, IsSound}
use Rattle.hs_rose.specs.declared.info.ChainInfo.{ChainInfo}
use Rattle.hs_rose.specs.declared.identifiers.Identifier.{Identifier}
use Rattle.hs_run.specs.declared.way.Way.TheVariants as way
use Rattle.hs_rose.specs.declared.engine.PieceEngine.{PieceEngine}
use Rattle.hs_rose.specs.declared.info.EntryInfo.{EntryInfo}
use Rattle.hs_rose.specs.Identifiers.{ids_of, singles_of}
use Rattle.hs_rose.specs.PieceEngines.{piece_meaning}
use Rattle.hs_base.specs.Literals.{LiteralByte}
use Rattle.hs_run.specs.Ways.{way_of}
use Rattle.hs_rose.specs.Programs.{Tables}
use Rattle.hs_rose.specs.declared.role.Role.{Role}

-- a chain of a pattern
pub record Row : Type 0 where
  pub pattern : Pattern
  pub chain : List Piece

abbrev pub rows_of : Pattern → List Row
rows_of x = map (λ chain. record { pattern = x; chain = chain }) (chains_of x.tree)

-- the chains of all patterns, in order
abbrev pub plan_rows : Plan → List Row
plan_rows plan = flat_map rows_of plan.patterns

-- where the piece of that number stands in a chain
abbrev pub row_place : Plan → List Piece → (i : ℕ) → Piece → Place
row_place plan chain i piece = record { looks_back = plan.looks_back chain; pieces = take i chain; piece = piece }

-- how many pieces of a chain are told together, where its first one looks back
abbrev pub looked : Bool → ℕ
looked true = 2
looked false = 0

-- the most bytes of a piece that looks back
abbrev pub window_size : ℕ
window_size = 16

-- the most bytes of the region of its engine
abbrev pub window_room : ℕ
window_room = 64

-- the sizes of the fields
abbrev pub sizes_of : List Role → List ℕ
sizes_of roles = map (λ role. role.field_size) roles

-- nothing is kept of the role's piece
abbrev pub HasNoField : Role → Type 0
HasNoField r = (way_of r ≡ way.LookBack) ⊎ (way_of r ≡ way.BareLiteral)

-- the chain has a first role, and that looks back
abbrev pub FirstLooksBack : Tables → ChainInfo → Type 0
FirstLooksBack program c =
    (c.first < c.end) × ((r : Role) → slice_get program.roles c.first ≡ Some r → way_of r ≡ way.LookBack)

module _ (program : Tables) where
  -- the role of that number runs the piece by itself
  abbrev pub RunsPlace : Role → Place → Type 0
  RunsPlace r p = IsRoleOf program r p

  -- The role of that number runs an expression that looks back, and the next one the literal behind it.
  pub record LooksBack (first : ℕ) (chain : List Piece) : Type 0 where
    pub tree : Tree
    pub value : List LiteralByte
    pub rest : List Piece
    pub is_chain : chain ≡ nfa tree ∷ lit (value) ∷ rest
    pub before : Role
    pub there : slice_get program.roles first ≡ Some before
    pub kind : way_of before ≡ way.LookBack
    pub engine : PieceEngine
    pub engine_there : slice_get program.engines before.number ≡ Some engine
    pub runs : (piece_meaning engine).is_for tree
    pub listed : (piece_meaning engine).always ≡ false
    pub narrow : IsAtMostWide window_size tree
    pub null : IsRoleNull before.null tree
    pub behind : Role
    pub behind_there : slice_get program.roles (suc first) ≡ Some behind
    pub value_there : slice_get program.literals behind.number ≡ Some value

  -- The chain has a role for each piece of the row.
  pub record RunsRow (plan : Plan) (c : ChainInfo) (x : Row) : Type 0 where
    pub end : c.end ≡ c.first + length x.chain
    pub fit : IsFitChain x.chain
    pub places : (i : ℕ) (piece : Piece) → slice_get x.chain i ≡ Some piece →
        slice_get (list_places plan) (c.first + i) ≡ Some (row_place plan x.chain i piece)
    pub alone : (i : ℕ) (piece : Piece) (r : Role) → looked (plan.looks_back x.chain) ≤ i →
        slice_get x.chain i ≡ Some piece →
        slice_get program.roles (c.first + i) ≡ Some r → RunsPlace r (row_place plan x.chain i piece)
    pub looks_back : plan.looks_back x.chain ≡ true → LooksBack c.first x.chain
    pub entry : EntryInfo
    pub entry_there : slice_get program.entries (c.entry - 1) ≡ Some entry
    pub least : entry.min_offset ≡ x.pattern.least
    pub greatest : entry.max_offset ≡ x.pattern.greatest
    pub identifier : Identifier
    pub named : slice_get program.identifiers entry.identifier ≡ Some identifier
    pub id : identifier.id.0 ≡ x.pattern.id

  -- The program has a chain for each of the plan, and its identifiers.
  pub record RunsPlan (plan : Plan) : Type 0 where
    pub is_plan : IsPlan plan
    pub spans : Each HasSpansOfChains plan.patterns
    pub count : length program.chains ≡ length (plan_rows plan)
    pub rows : (j : ℕ) (c : ChainInfo) (x : Row) → slice_get program.chains j ≡ Some c →
        slice_get (plan_rows plan) j ≡ Some x → RunsRow plan c x
    pub sizes : sizes_of program.roles ≡ map place_size (list_places plan)
    pub ids : ids_of program.identifiers ≡ plan.identifiers
    pub singles : ids_of (singles_of program.identifiers) ≡ plan.singles
    pub single : (i : ℕ) (x : Identifier) → slice_get program.identifiers i ≡ Some x →
        x.single ≡ is_single plan.patterns x.id.0

  -- The role names an engine whose regions have room.
  pub record HasWindow (r : Role) : Type 0 where
    pub value : PieceEngine
    pub there : slice_get program.engines r.number ≡ Some value
    pub narrow : (piece_meaning value).width ≤ window_room

  -- the first role of the chain looks back, and what it and the next one name is there
  pub record IsLookSound (c : ChainInfo) (r : Role) : Type 0 where
    pub within : c.first + 2 ≤ c.end
    pub engine : HasWindow r
    pub literal : List LiteralByte
    pub behind : Role
    pub behind_there : slice_get program.roles (suc c.first) ≡ Some behind
    pub behind_kind : way_of behind ≡ way.BareLiteral
    pub literal_there : slice_get program.literals behind.number ≡ Some literal
    pub some : 1 ≤ length literal
    pub short : length literal ≤ 32

  -- The chain has roles that are there, and an entry with an identifier.
  pub record IsChainSound (c : ChainInfo) : Type 0 where
    pub order : c.first ≤ c.end
    pub within : c.end ≤ length program.roles
    pub small : c.end < 2 ^ 64
    pub numbered : 1 ≤ c.entry
    pub entry : c.entry ≤ length program.entries
    pub identifier : (info : EntryInfo) → slice_get program.entries (c.entry - 1) ≡ Some info →
        info.identifier < length program.identifiers
    pub looks_back : (r : Role) → slice_get program.roles c.first ≡ Some r → c.first < c.end →
        way_of r ≡ way.LookBack →
        IsLookSound c r

  -- The program can be run: what is named is there, and the chains follow one another.
  pub record IsRunnable : Type 0 where
    pub roles : (k : ℕ) (r : Role) → slice_get program.roles k ≡ Some r →
        IsSound program r r.field_size
    pub chains : (j : ℕ) (c : ChainInfo) → slice_get program.chains j ≡ Some c → IsChainSound c
    pub begins : (c : ChainInfo) → slice_get program.chains 0 ≡ Some c → c.first ≡ 0
    pub follows : (j : ℕ) (c d : ChainInfo) → slice_get program.chains j ≡ Some c →
        slice_get program.chains (suc j) ≡ Some d → d.first ≡ c.end
    pub ends : (j : ℕ) (c : ChainInfo) → slice_get program.chains j ≡ Some c → suc j ≡ length program.chains →
        c.end ≡ length program.roles
    pub few : length program.identifiers < 2 ^ 32
    pub none : length program.chains ≡ 0 → length program.roles ≡ 0

-- the layout of the regions of a program
abbrev pub program_layout : Tables → Laid
program_layout program =
    layout_of (length (singles_of program.identifiers)) (length program.identifiers)
    (sizes_of program.roles)

-- The layout is that of the program, and its regions are small enough.
pub record FitsLayout (program : Tables) (l : Laid) : Type 0 where
  pub laid : l ≡ program_layout program
  pub small : laid_size l ≤ 2 ^ 24

-- What the node of a role runs.
use Rattle.std.specs.Prelude.{◌≡◌, ◌<◌, ℕ, suc, List, length, Option, Some, None, slice_get}
use Rattle.hs_base.specs.declared.context.Mask.{Mask}
use Rattle.hs_base.specs.Literals.{LiteralByte}
use Rattle.hs_nodes.specs.Edges.{HasEdges}
use Rattle.hs_nodes.specs.declared.table.LookBackPair.{LookBackPair}
use Rattle.hs_nodes.specs.declared.table.NodeKind.{NodeKind}
use Rattle.hs_nodes.specs.declared.table.NodeKind.TheVariants.{Engine, Literal, FirstLiteral, LookBack}
use Rattle.hs_rose.specs.declared.engine.PieceEngine.{PieceEngine}
use Rattle.hs_rose.specs.declared.kind.Kind.TheVariants as kinds
use Rattle.hs_rose.specs.declared.role.Role.{Role}
use Rattle.hs_rose.specs.Naming.{engine_of}
use Rattle.hs_rose.specs.PieceEngines.{piece_meaning}
use Rattle.hs_rose.specs.Programs.{Tables, IsEmptyMask}
use Rattle.hs_compile.specs.GraphTables.{LooksBack}

-- a mask as a node keeps it: none where it has no context
abbrev pub IsKeptMask : Option Mask → Mask → Type 0
IsKeptMask None mask = IsEmptyMask mask
IsKeptMask (Some own) mask = own ≡ mask

-- the literal of that number has so many bytes
pub record HasLength (t : Tables) (number len : ℕ) : Type 0 where
  pub literal : List LiteralByte
  pub there : slice_get t.literals number ≡ Some literal
  pub count : length literal ≡ len

-- The kind of the node of a role whose piece stands there by itself.
pub data IsKindOf (t : Tables) (r : Role) (own : NodeKind) : Type 0 where
  bare : (len : ℕ) → r.kind ≡ kinds.BareLiteral → HasLength t r.number len → own ≡ FirstLiteral r.number len →
      IsKindOf t r own
  entered : (len : ℕ) → r.kind ≡ kinds.Literal → HasLength t r.number len → own ≡ Literal r.number len →
      IsKindOf t r own
  engine : (null : Option Mask) → engine_of r ≡ Some r.number → IsKeptMask null r.null → own ≡ Engine r.number null →
      IsKindOf t r own

-- The kind of the node of a literal behind a piece that looks back.
pub record IsPairOf (t : Tables) (before r : Role) (own : NodeKind) : Type 0 where
  pub pair : LookBackPair
  pub looks_back : LooksBack before
  pub bare : r.kind ≡ kinds.BareLiteral
  pub engine : pair.engine ≡ before.number
  pub null : IsKeptMask pair.null before.null
  pub edges : (e : PieceEngine) → slice_get t.engines before.number ≡ Some e →
      HasEdges (piece_meaning e) pair.behind pair.last
  pub literal : pair.literal ≡ r.number
  pub len : HasLength t r.number pair.len
  pub is : own ≡ LookBack pair

-- The kind of the node of the role of that number, in a chain whose roles begin with `first`.
pub data IsKindAt (t : Tables) (first i : ℕ) (own : NodeKind) : Type 0 where
  by_itself : (r : Role) → slice_get t.roles i ≡ Some r →
      ((j : ℕ) (before : Role) → first < i → suc j ≡ i → slice_get t.roles j ≡ Some before → LooksBack before → ⊥) →
      IsKindOf t r own → IsKindAt t first i own
  paired : (j : ℕ) (before r : Role) → first < i → suc j ≡ i → slice_get t.roles j ≡ Some before →
      slice_get t.roles i ≡ Some r → IsPairOf t before r own → IsKindAt t first i own

-- What a cache tells of the nodes of a table over a chunk.
use Rattle.std.specs.Prelude.{◌≡◌, ℕ, false, List, Option, Some, None, slice_get}
use Rattle.hs_base.specs.declared.context.Mask.{Mask}
use Rattle.hs_base.specs.declared.context.Prev.{Prev}
use Rattle.hs_engine.specs.Engines.{Meaning}
use Rattle.hs_lazy.specs.Caches.{TellsRun, Told, told}
use Rattle.hs_lazy.specs.Tables.{AreDfasOf, engine_at}
use Rattle.hs_lazy.specs.declared.cache.Cache.{Cache}
use Rattle.hs_bits.specs.Marks.{is_marked}
use Rattle.hs_nodes.specs.Walks.{node_part}
use Rattle.hs_nodes.specs.Waking.{IsKindAsleep}
use Rattle.hs_nodes.specs.declared.table.Node.{Node}
use Rattle.hs_nodes.specs.declared.table.NodeKind.{NodeKind}
use Rattle.hs_nodes.specs.declared.table.NodeKind.TheVariants.{Engine}
use Rattle.hs_nodes.specs.declared.table.NodeTable.{NodeTable}

-- What is told of a node of that kind is what its engine does, from that part on.
abbrev pub IsToldKind : {E : Type 0} → (E → Meaning) → (engines : List E) → NodeKind → (part : List ℕ) → Prev →
    (bytes : List ℕ) → Told → Type 0
IsToldKind {E = E} meaning engines kind part prev bytes t =
    (number : ℕ) (null : Option Mask) (e : E) →
    kind ≡ Engine number null →
    slice_get engines number ≡ Some e →
    TellsRun (meaning e) part prev bytes t

module _ {E : Type 0} (meaning : E → Meaning) (table : NodeTable E) where
  -- the node of that number is one of that engine, has no parent and no empty span
  pub record IsCachedNode (k number : ℕ) : Type 0 where
    pub node : Node
    pub there : slice_get table.nodes.items k ≡ Some node
    pub kind_is : node.kind ≡ Engine number None
    pub no_parent : node.parent ≡ None

  -- The cache is one of the nodes of the table: its engines run nodes that are there, by their numbers.
  pub record IsCacheOf (cache : Cache) : Type 0 where
    pub dfas : AreDfasOf meaning table.engines.items cache.dfas
    pub nodes : (k number : ℕ) → engine_at cache.dfas k ≡ Some number → IsCachedNode k number

  -- What it tells of a node is what that does, from what a region keeps of it on.
  abbrev pub TellsNodes : Cache → (region : List ℕ) → Prev → (bytes : List ℕ) → Type 0
  TellsNodes cache region prev bytes =
      (k : ℕ) (t : Told) (node : Node) →
      told cache k ≡ Some t →
      slice_get table.nodes.items k ≡ Some node →
      IsToldKind meaning table.engines.items node.kind (node_part region node) prev bytes t

  -- The chunk wakes nothing in the nodes of which it tells and that aren't marked.
  abbrev pub AreToldAsleep : Cache → (marks : List ℕ) → Prev → (bytes : List ℕ) → Type 0
  AreToldAsleep cache marks prev bytes =
      (k : ℕ) (t : Told) (node : Node) →
      told cache k ≡ Some t →
      slice_get table.nodes.items k ≡ Some node →
      is_marked marks k ≡ false →
      IsKindAsleep meaning table.engines.items node.kind prev bytes

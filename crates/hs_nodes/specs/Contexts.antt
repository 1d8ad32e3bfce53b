-- The contexts of the places of a chunk, and where an expression has the empty span.
use Rattle.std.specs.Prelude.{◌≡◌, ◌↔◌, ℕ, ◌*◌, ◌<◌, Bool, true, false, List, length, Option, Some, None, slice_get}
use Rattle.hs_base.specs.declared.context.Mask.{Mask}
use Rattle.hs_base.specs.declared.context.Next.{Next}
use Rattle.hs_base.specs.declared.context.Prev.{Prev}
use Rattle.hs_base.specs.Contexts.{context_of, prev_at}
use Rattle.hs_base.specs.ContextSets.{has_context}
use Rattle.hs_base.specs.Leaving.{IsEmptyAt}
use Rattle.hs_base.specs.Trees.{Tree}
use Rattle.hs_bits.specs.BlockContexts.{AreContexts}
use Rattle.hs_bits.specs.declared.contexts.Contexts.{Contexts}
use Rattle.hs_nodes.specs.Blocks.{EndsBehind, block, front}
use Rattle.hs_nodes.specs.declared.contexts.ChunkContexts.{ChunkContexts}
use Rattle.hs_nodes.specs.declared.table.NodeKind.{NodeKind}
use Rattle.hs_nodes.specs.declared.table.NodeKind.TheVariants.{Engine, Literal, FirstLiteral, LookBack}

-- where an expression has the empty span: nowhere, or in the contexts of a mask
abbrev pub IsNull : Option Mask → Tree → Type 0
IsNull None tree = (u : List ℕ) (next : Next) → IsEmptyAt tree u next → ⊥
IsNull (Some mask) tree =
    (u : List ℕ) (next : Next) → (has_context mask (context_of u next) ≡ true) ↔ IsEmptyAt tree u next

-- Of each block of a chunk at that offset behind `prev`, these are the contexts.
pub record AreChunkContexts (contexts : List Contexts) (prev : Prev) (at : ℕ) (bytes : List ℕ) : Type 0 where
  pub each : (j : ℕ) → 64 * j < length bytes → (c : Contexts) × (slice_get contexts j ≡ Some c)
      × ((u : List ℕ) → EndsBehind u prev at →
      AreContexts c (prev_at (front u bytes j) (length (front u bytes j))) (block bytes j))

-- There are eight blocks, and if their contexts are made, they are those of that chunk.
pub record AreRightIfMade (contexts : ChunkContexts) (prev : Prev) (at : ℕ) (bytes : List ℕ) : Type 0 where
  pub count : length contexts.blocks ≡ 8
  pub made : contexts.are_made ≡ true → AreChunkContexts contexts.blocks prev at bytes

-- a node of that kind asks for contexts
abbrev pub NeedsContexts : NodeKind → Type 0
NeedsContexts (Engine number None) = ⊥
NeedsContexts (Engine number (Some mask)) = Unit {0}
NeedsContexts (Literal number len) = ⊥
NeedsContexts (FirstLiteral number len) = ⊥
NeedsContexts (LookBack pair) = ⊥

-- whether it does
abbrev pub asks_contexts : NodeKind → Bool
asks_contexts (Engine number None) = false
asks_contexts (Engine number (Some mask)) = true
asks_contexts (Literal number len) = false
asks_contexts (FirstLiteral number len) = false
asks_contexts (LookBack pair) = false

-- What a chunk tells, from where the nodes are left in it.
use Rattle.std.specs.Prelude.{◌≡◌, ℕ, ◌+◌, ◌*◌, ◌<◌, Bool, true, false, List, [], ◌++◌, length, take, Some, slice_get}
use Rattle.hs_base.specs.Bits.{has_word_bit}
use Rattle.hs_base.specs.Chains.{Piece}
use Rattle.hs_base.specs.Lists.{Each}
use Rattle.hs_base.specs.Literals.{LiteralByte}
use Rattle.hs_base.specs.Patterns.{Pattern}
use Rattle.hs_base.specs.Regions.{Plan}
use Rattle.hs_base.specs.Told.{Pair, IsTold, IsNew}
use Rattle.hs_engine.specs.Engines.{Meaning}
use Rattle.hs_nodes.specs.Blocks.{block, front}
use Rattle.hs_nodes.specs.Left.{AreLeftIn}
use Rattle.hs_nodes.specs.Walks.{node_ends}
use Rattle.hs_nodes.specs.declared.ends.ChunkEnds.{ChunkEnds}
use Rattle.hs_reports.specs.Identifiers.{numbers_of}
use Rattle.hs_reports.specs.Pairs.{ArePairsOf}
use Rattle.hs_reports.specs.Settlement.{AreKnown, is_spent}
use Rattle.hs_reports.specs.declared.identifier.Identifier.{Identifier}
use Rattle.hs_nodes.specs.Graphs.{RunsPlan}
use Rattle.hs_nodes.specs.declared.graph.Graph.{Graph}

-- What is known of the identifiers behind some bytes, and what was told of them.
pub record IsTelling (P : List Pattern) (u bytes : List ℕ) (pairs : List Pair) (Known : (u : List ℕ) → Type 0) : Type 0
  where
    pub known : Known (u ++ bytes)
    pub new : IsNew P u bytes pairs

-- At nodes that are spent matches of spent identifiers alone end.
abbrev pub AreOfSpent : {E : Type 0} → Graph E → (told : List ℕ) → (spent : ℕ → Bool) → Type 0
AreOfSpent graph told spent =
    Each
    (λ t. spent t.node ≡ true → (x : Identifier) → slice_get graph.identifiers.items t.identifier ≡ Some x →
    is_spent x told t.identifier ≡ true) graph.terminals.items

-- Of which identifiers a pair is told once, it stays told.
abbrev pub KeepsTold : (told told' : List ℕ) → Type 0
KeepsTold told told' = (p : ℕ) → has_word_bit told p ≡ true → has_word_bit told' p ≡ true

module _ {E : Type 0} (meaning : E → Meaning) (graph : Graph E) where
  -- The ends tell where the nodes are left in a chunk behind u that aren't spent.
  pub record AreChunkEnds (spent : ℕ → Bool) (pieces : ℕ → List Piece) (u bytes : List ℕ) (ends : List ChunkEnds)
      (all : ChunkEnds) : Type 0 where
    pub count : length ends ≡ length graph.table.nodes.items
    pub left : (k : ℕ) → k < length graph.table.nodes.items → spent k ≡ false →
        AreLeftIn (pieces k) u bytes (node_ends ends k)
    pub everywhere : AreLeftIn [] u bytes all

  -- The pairs are of the graph's identifiers, with ends in a block of the chunk. Whatever plan the graph runs, and
  -- behind whatever stream: where the rows of bits tell what is known of the identifiers before the block, the new ones
  -- tell it behind the block, and the pairs are its new reports. What is told stays so.
  pub record TellsBlock (bytes : List ℕ) (at : ℕ) (ends : List ChunkEnds) (all : ChunkEnds) (number : ℕ)
      (told here told' here' : List ℕ) (pairs : List Pair) : Type 0 where
    pub pairs_are : ArePairsOf (numbers_of graph.identifiers.items) (at + 64 * number)
        (at + 64 * number + length (block bytes number)) pairs
    pub keeps : KeepsTold told told'
    pub tells : (literals : List (List LiteralByte)) (plan : Plan)
        (runs : RunsPlan meaning graph literals plan) (u : List ℕ) (list : List Pair) (spent : ℕ → Bool) →
        at ≡ length u →
        AreOfSpent graph told spent →
        AreChunkEnds spent runs.pieces u bytes ends all →
        AreKnown plan.patterns (front u bytes number) graph.identifiers.items told here →
        IsTold plan.patterns (front u bytes number) list →
        IsTelling plan.patterns (front u bytes number) (block bytes number) pairs
        (λ v. AreKnown plan.patterns v graph.identifiers.items told' here')

  -- The pairs are of the graph's identifiers, with ends in the first blocks of the chunk. Whatever plan the graph runs,
  -- and behind whatever stream: the bits tell what is known of the identifiers behind these blocks, and the pairs are
  -- their new reports.
  pub record TellsBlocks (bytes : List ℕ) (at : ℕ) (ends : List ChunkEnds) (all : ChunkEnds)
      (told here told' here' : List ℕ) (blocks : ℕ) (pairs : List Pair) : Type 0 where
    pub pairs_are : ArePairsOf (numbers_of graph.identifiers.items) at (at + length (take (64 * blocks) bytes)) pairs
    pub keeps : KeepsTold told told'
    pub tells : (literals : List (List LiteralByte)) (plan : Plan)
        (runs : RunsPlan meaning graph literals plan) (u : List ℕ) (list : List Pair) (spent : ℕ → Bool) →
        at ≡ length u →
        AreOfSpent graph told spent →
        AreChunkEnds spent runs.pieces u bytes ends all →
        AreKnown plan.patterns u graph.identifiers.items told here →
        IsTold plan.patterns u list →
        IsTelling plan.patterns u (take (64 * blocks) bytes) pairs
        (λ v. AreKnown plan.patterns v graph.identifiers.items told' here')

  -- and so behind the whole chunk
  pub record TellsChunk (bytes : List ℕ) (at : ℕ) (ends : List ChunkEnds) (all : ChunkEnds)
      (told here told' here' : List ℕ) (pairs : List Pair) : Type 0 where
    pub pairs_are : ArePairsOf (numbers_of graph.identifiers.items) at (at + length bytes) pairs
    pub tells : (literals : List (List LiteralByte)) (plan : Plan)
        (runs : RunsPlan meaning graph literals plan) (u : List ℕ) (list : List Pair) (spent : ℕ → Bool) →
        at ≡ length u →
        AreOfSpent graph told spent →
        AreChunkEnds spent runs.pieces u bytes ends all →
        AreKnown plan.patterns u graph.identifiers.items told here →
        IsTold plan.patterns u list →
        IsTelling plan.patterns u bytes pairs (λ v. AreKnown plan.patterns v graph.identifiers.items told' here')

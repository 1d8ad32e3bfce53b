-- What bytes make of a stream that is scanned, between the beginning and the end of a write.
use Rattle.std.specs.Prelude.{◌≡◌, ◌↔◌, ℕ, ◌+◌, ◌<◌, true, List, ◌++◌, length, Some}
use Rattle.std.specs.Prelude.{slice_get, slice_range}
use Rattle.hs_base.specs.declared.context.Prev.{Prev}
use Rattle.hs_base.specs.Chains.{Piece}
use Rattle.hs_base.specs.Bits.{has_bit, has_word_bit}
use Rattle.hs_base.specs.Lists.{Each}
use Rattle.hs_base.specs.Literals.{LiteralByte}
use Rattle.hs_base.specs.Patterns.{Pattern}
use Rattle.hs_base.specs.Regions.{Plan, history_at, history_size, last_bytes, region_offset, told_at}
use Rattle.hs_base.specs.Settling.{IsLeftToEnd}
use Rattle.hs_base.specs.Told.{Pair, IsTold, IsNew}
use Rattle.hs_engine.specs.Engines.{Meaning}
use Rattle.hs_layout.specs.Layouts.{Laid, field_bytes, laid_size}
use Rattle.hs_nodes.specs.Blocks.{EndsBehind, IsPast}
use Rattle.hs_nodes.specs.Nodes.{AreHitsOf}
use Rattle.hs_nodes.specs.Walks.{AreNodesHeld, node_part}
use Rattle.hs_nodes.specs.declared.hits.ChunkHits.{ChunkHits}
use Rattle.hs_nodes.specs.declared.table.Node.{Node}
use Rattle.hs_reports.specs.Identifiers.{numbers_of}
use Rattle.hs_reports.specs.Pairs.{ArePairsOf}
use Rattle.hs_reports.specs.Settlement.{AreKnown}
use Rattle.hs_reports.specs.declared.identifier.Identifier.{Identifier}
use Rattle.hs_keeping.specs.Keeping.{AreLast, AreRead, IsSpareBit}
use Rattle.hs_nodes.specs.Graphs.{RunsPlan}
use Rattle.hs_nodes.specs.declared.graph.FieldCopy.{FieldCopy}
use Rattle.hs_nodes.specs.declared.graph.Graph.{Graph}

-- Where a scan is: at an offset behind the last bytes, with what is kept of the nodes in a region, of which nothing
-- else counts, and with what is known of the identifiers in two rows of bits.
pub record Stand : Type 0 where
  pub at : ℕ
  pub past : List ℕ
  pub region : List ℕ
  pub told : List ℕ
  pub here : List ℕ

abbrev pub stand : (at : ℕ) (past region told here : List ℕ) → Stand
stand at past region told here = record { at = at; past = past; region = region; told = told; here = here }

-- The hits are those of the literals in the bytes, behind any stream with those last bytes.
abbrev pub AreHitsBehind : (literals : List (List LiteralByte)) (at : ℕ) (past : List ℕ) (hits : List ChunkHits)
    (bytes : List ℕ) → Type 0
AreHitsBehind literals at past hits bytes =
    (u : List ℕ) → at ≡ length u → past ≡ last_bytes history_size u → AreHitsOf literals hits u bytes

module _ {E : Type 0} (meaning : E → Meaning) (graph : Graph E) (literals : List (List LiteralByte)) where
  -- That is where a scan is behind u.
  pub record IsReached (plan : Plan) (runs : RunsPlan meaning graph literals plan) (u : List ℕ) (s : Stand) : Type 0
    where
      pub offset : s.at ≡ length u
      pub past : s.past ≡ last_bytes history_size u
      pub bytes : Each (λ b. b < 256) u
      pub held : AreNodesHeld meaning graph.table runs.pieces s.region u
      pub known : AreKnown plan.patterns u graph.identifiers.items s.told s.here

  -- Behind the bytes the scan is there, and the pairs are their new reports.
  pub record IsScanned (plan : Plan) (runs : RunsPlan meaning graph literals plan) (u bytes : List ℕ) (s : Stand)
      (pairs : List Pair) : Type 0 where
    pub reached : IsReached plan runs (u ++ bytes) s
    pub new : IsNew plan.patterns u bytes pairs

  -- That holds for every plan that the graph runs, and every stream behind which the scan was where it began. Where
  -- there is none, the pairs are of the graph's identifiers all the same, with ends from the one offset to the other.
  pub record Scans (old new : Stand) (bytes : List ℕ) (pairs : List Pair) : Type 0 where
    pub pairs_are : ArePairsOf (numbers_of graph.identifiers.items) old.at new.at pairs
    pub scans : (plan : Plan) (runs : RunsPlan meaning graph literals plan) (u : List ℕ) (list : List Pair) →
        IsReached plan runs u old →
        IsTold plan.patterns u list →
        IsScanned plan runs u bytes new pairs

module _ {E : Type 0} (meaning : E → Meaning) (graph : Graph E) where
  -- What a chunk leads to behind u.
  pub record IsChunkScanned (plan : Plan) (pieces : ℕ → List Piece) (u bytes new told here : List ℕ)
      (pairs : List Pair) : Type 0 where
    pub held : AreNodesHeld meaning graph.table pieces new (u ++ bytes)
    pub known : AreKnown plan.patterns (u ++ bytes) graph.identifiers.items told here
    pub new_are : IsNew plan.patterns u bytes pairs

  -- A chunk at that offset behind `prev`, in which the literals end as the hits tell: whatever plan the graph runs,
  -- and behind whatever stream that ends there. The pairs are of the graph's identifiers, with ends in the chunk.
  pub record ScansChunk (old new : List ℕ) (prev : Prev) (at : ℕ) (past bytes : List ℕ) (hits : List ChunkHits)
      (told here told' here' : List ℕ) (pairs : List Pair) : Type 0 where
    pub pairs_are : ArePairsOf (numbers_of graph.identifiers.items) at (at + length bytes) pairs
    pub scans : (literals : List (List LiteralByte)) (plan : Plan) (runs : RunsPlan meaning graph literals plan)
        (u : List ℕ) (list : List Pair) →
        EndsBehind u prev at →
        IsPast past u →
        Each (λ b. b < 256) (u ++ bytes) →
        AreHitsOf literals hits u bytes →
        AreNodesHeld meaning graph.table runs.pieces old u →
        AreKnown plan.patterns u graph.identifiers.items told here →
        IsTold plan.patterns u list →
        IsChunkScanned plan runs.pieces u bytes new told' here' pairs

module _ {E : Type 0} (graph : Graph E) where
  -- the copied fields are those of their nodes
  abbrev pub AreCopied : Laid → (region : List ℕ) → Type 0
  AreCopied l region =
      (i : ℕ) (copy : FieldCopy) (node : Node) →
      slice_get graph.copies.items i ≡ Some copy →
      slice_get graph.table.nodes.items copy.node ≡ Some node →
      field_bytes l region copy.field ≡ node_part region node

  -- The region has all that is known where a scan is: its header and its copied fields are written.
  pub record IsWritten (l : Laid) (s : Stand) (last : List ℕ) (region : List ℕ) : Type 0 where
    pub len : length region ≡ laid_size l
    pub bytes : Each (λ b. b < 256) region
    pub offset : region_offset region ≡ s.at
    pub past : slice_range region history_at told_at ≡ s.past
    pub read : AreRead l region graph.identifiers.items s.told s.here
    pub last_is : AreLast l region graph.identifiers.items last
    pub spare : (k : ℕ) → IsSpareBit l k → has_bit region k ≡ has_bit s.region k
    pub fields : (k : ℕ) (node : Node) → slice_get graph.table.nodes.items k ≡ Some node →
        node_part region node ≡ node_part s.region node
    pub copied : AreCopied l region

  -- the row has those identifiers of which only the end would report the pair before the last byte
  abbrev pub AreLeftToEnd : List Pattern → (u last : List ℕ) → Type 0
  AreLeftToEnd P u last =
      (p : ℕ) (x : Identifier) → slice_get graph.identifiers.items p ≡ Some x →
      (has_word_bit last p ≡ true) ↔ IsLeftToEnd P u x.id.0

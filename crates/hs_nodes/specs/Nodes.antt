-- The nodes of a forest of pieces: what each runs, what is kept of it, and where it may be passed over.
use Rattle.std.specs.Prelude.{◌≡◌, ℕ, ◌*◌, ◌<◌, ◌≤◌, false, List, [], ◌∷◌, ◌++◌, length, Option}
use Rattle.std.specs.Prelude.{Some, None, slice_get, slice_index_or}
use Rattle.hs_base.specs.declared.context.Mask.{Mask}
use Rattle.hs_base.specs.declared.context.Prev.{Prev}
use Rattle.hs_base.specs.Bits.{has_bit}
use Rattle.hs_base.specs.Chains.{Piece, lit, nfa, piece_tree, IsFitChain}
use Rattle.hs_base.specs.Leaving.{IsAtMostWide}
use Rattle.hs_base.specs.Lists.{Each}
use Rattle.hs_base.specs.Literals.{LiteralByte}
use Rattle.hs_base.specs.RepeatRows.{IsRingAt}
use Rattle.hs_base.specs.Trees.{Tree}
use Rattle.hs_engine.specs.Engines.{Meaning, IsQuiet}
use Rattle.hs_nodes.specs.Blocks.{EndsBehind, IsPast}
use Rattle.hs_nodes.specs.Contexts.{IsNull}
use Rattle.hs_nodes.specs.Edges.{HasEdges}
use Rattle.hs_nodes.specs.Hits.{AreChunkHits, KeepsEntries, hit_count, is_hit_at, no_hits}
use Rattle.hs_nodes.specs.Left.{AreLeftIn}
use Rattle.hs_nodes.specs.Pieces.{IsHeld, IsHeldBy}
use Rattle.hs_nodes.specs.declared.ends.ChunkEnds.{ChunkEnds}
use Rattle.hs_nodes.specs.declared.hits.ChunkHits.{ChunkHits}
use Rattle.hs_nodes.specs.declared.table.LookBackPair.{LookBackPair}
use Rattle.hs_nodes.specs.declared.table.NodeKind.{NodeKind}
use Rattle.hs_nodes.specs.declared.table.NodeKind.TheVariants.{Engine, Literal, FirstLiteral, LookBack}
use Rattle.hs_lazy.specs.Runs.{RunsThrough}

-- the number is that of the literal of the piece, which has so many bytes
pub record IsLiteralOf (literals : List (List LiteralByte)) (number len : ℕ) (piece : Piece) : Type 0 where
  pub value : List LiteralByte
  pub there : slice_get literals number ≡ Some value
  pub is : piece ≡ lit value
  pub count : length value ≡ len

-- The hits are those of the literals in a chunk behind u, by their numbers.
abbrev pub AreHitsOf : (literals : List (List LiteralByte)) (hits : List ChunkHits) (u bytes : List ℕ) → Type 0
AreHitsOf literals hits u bytes =
    (number : ℕ) (literal : List LiteralByte) (own : ChunkHits) →
    slice_get literals number ≡ Some literal →
    slice_get hits number ≡ Some own →
    AreChunkHits own literal u bytes

-- An engine may stay as it is where nothing enters it: nothing is live, and its region may stand at any offset.
pub record IsAtRest (m : Meaning) (part : List ℕ) : Type 0 where
  pub quiet : IsQuiet m part
  pub well : (at : ℕ) → m.well part at

-- The region stays over the bytes behind `prev`, before each of which the expression is entered, and the expression is
-- left nowhere: not before a byte of them, nor behind one where nothing is known of what comes next.
abbrev pub PassesOver : Meaning → (region : List ℕ) → Prev → (bytes : List ℕ) → Type 0
PassesOver m region prev bytes = RunsThrough m region region prev bytes (λ i. false) (λ i. false)

-- And it may where it is entered before each byte of a chunk: it has no empty span, and the bytes wake nothing.
pub record IsUnwoken (m : Meaning) (null : Option Mask) (part : List ℕ) (prev : Prev) (bytes : List ℕ) : Type 0 where
  pub never_empty : null ≡ None
  pub asleep : PassesOver m part prev bytes

-- where the pieces before are left, as far as a node of that kind asks
abbrev pub IsEnteredBy : NodeKind → (pieces : List Piece) (u bytes : List ℕ) (enters : ChunkEnds) → Type 0
IsEnteredBy (Engine number null) pieces u bytes enters = AreLeftIn pieces u bytes enters
IsEnteredBy (Literal number len) pieces u bytes enters = AreLeftIn pieces u bytes enters
IsEnteredBy (FirstLiteral number len) pieces u bytes enters = AreLeftIn pieces u bytes enters
IsEnteredBy (LookBack pair) pieces u bytes enters = Unit {0}

-- the most bytes of an expression that looks back
abbrev pub window_size : ℕ
window_size = 16

-- the most bytes of the region of its engine
abbrev pub window_room : ℕ
window_room = 64

-- The most steps of a node of that kind over so many bytes: one a byte, or those of a look back where its literal ends.
abbrev pub most_ticks : NodeKind → (hits : List ChunkHits) (count : ℕ) → ℕ
most_ticks (Engine number null) hits count = count
most_ticks (Literal number len) hits count = 0
most_ticks (FirstLiteral number len) hits count = 0
most_ticks (LookBack pair) hits count = window_size * hit_count (slice_index_or hits pair.literal no_hits) count

module _ {E : Type 0} (meaning : E → Meaning) (engines : List E) where
  -- the number is that of an engine that runs the piece, and the mask tells where that has the empty span
  pub record IsEngineOf (number : ℕ) (null : Option Mask) (piece : Piece) : Type 0 where
    pub value : E
    pub there : slice_get engines number ≡ Some value
    pub runs : (meaning value).is_for (piece_tree piece)
    pub null_is : IsNull null (piece_tree piece)

  -- The pair's engine runs the one piece before, which has at most 16 bytes; its literal is the piece.
  pub record IsPairOf (literals : List (List LiteralByte)) (pair : LookBackPair) (pieces : List Piece) (piece : Piece) :
      Type 0 where
    pub tree : Tree
    pub before : pieces ≡ nfa tree ∷ []
    pub engine : IsEngineOf pair.engine pair.null (nfa tree)
    pub narrow : IsAtMostWide window_size tree
    pub literal : IsLiteralOf literals pair.literal pair.len piece

  -- A node of that kind runs the piece behind those.
  abbrev pub RunsPiece : (literals : List (List LiteralByte)) → NodeKind → List Piece → Piece → Type 0
  RunsPiece literals (Engine number null) pieces piece = IsEngineOf number null piece
  RunsPiece literals (Literal number len) pieces piece = IsLiteralOf literals number len piece
  RunsPiece literals (FirstLiteral number len) pieces piece = (pieces ≡ []) × IsLiteralOf literals number len piece
  RunsPiece literals (LookBack pair) pieces piece = IsPairOf literals pair pieces piece

  -- What is kept of the piece is that behind u.
  abbrev pub HoldsPiece : NodeKind → List Piece → Piece → (part u : List ℕ) → Type 0
  HoldsPiece (Engine number null) pieces piece part u =
      (e : E) → slice_get engines number ≡ Some e → IsHeld (meaning e) pieces piece part u
  HoldsPiece (Literal number len) pieces piece part u = IsHeldBy (KeepsEntries len part) pieces piece u
  HoldsPiece (FirstLiteral number len) pieces piece part u = Unit {0}
  HoldsPiece (LookBack pair) pieces piece part u = Unit {0}

  -- It may be what is kept at that offset.
  abbrev pub IsWellPart : NodeKind → (part : List ℕ) (at : ℕ) → Type 0
  IsWellPart (Engine number null) part at = (e : E) → slice_get engines number ≡ Some e → (meaning e).well part at
  IsWellPart (Literal number len) part at = IsRingAt len part at
  IsWellPart (FirstLiteral number len) part at = Unit {0}
  IsWellPart (LookBack pair) part at = Unit {0}

  -- the number is that of an engine whose regions have that size, and which is entered where it is told to be
  pub record IsEngineSound (number size : ℕ) : Type 0 where
    pub there : number < length engines
    pub each : (e : E) → slice_get engines number ≡ Some e → ((meaning e).width ≡ size) × ((meaning e).always ≡ false)

  -- The pair names an engine whose regions have at most 64 bytes, and which is entered where it is told to be; its
  -- matches begin and end as the pair says.
  pub record IsWindowSound (pair : LookBackPair) : Type 0 where
    pub there : pair.engine < length engines
    pub each : (e : E) → slice_get engines pair.engine ≡ Some e →
        ((meaning e).width ≤ window_room) × ((meaning e).always ≡ false)
    pub edges : (e : E) → slice_get engines pair.engine ≡ Some e → HasEdges (meaning e) pair.behind pair.last

  -- What a node of that kind names is there, for so many literals, and what is kept of it has that size.
  abbrev pub IsKindSound : (literals : ℕ) → NodeKind → (size : ℕ) → Type 0
  IsKindSound literals (Engine number null) size = IsEngineSound number size
  IsKindSound literals (Literal number len) size = (number < literals) × (1 ≤ len) × (len ≤ 32) × (size ≡ 4)
  IsKindSound literals (FirstLiteral number len) size = (number < literals) × (1 ≤ len) × (len ≤ 32)
  IsKindSound literals (LookBack pair) size =
      IsWindowSound pair × (pair.literal < literals) × (1 ≤ pair.len) × (pair.len ≤ 32)

  -- A chunk leads to what is kept of the piece behind it, and tells where the pieces up to it are left.
  pub record IsPieceRun (kind : NodeKind) (pieces : List Piece) (piece : Piece) (part u bytes : List ℕ)
      (ends : ChunkEnds) : Type 0 where
    pub held : HoldsPiece kind pieces piece part (u ++ bytes)
    pub left : AreLeftIn (pieces ++ piece ∷ []) u bytes ends

  -- A node of that kind takes a chunk, for any piece that it runs and behind any stream that ends there.
  abbrev pub TakesPiece : NodeKind → (old new : List ℕ) (prev : Prev) (at : ℕ) (past bytes : List ℕ)
      (hits : List ChunkHits) (enters ends : ChunkEnds) → Type 0
  TakesPiece kind old new prev at past bytes hits enters ends =
      (literals : List (List LiteralByte)) (pieces rest : List Piece) (piece : Piece) (u : List ℕ) →
      RunsPiece literals kind pieces piece →
      IsFitChain (pieces ++ piece ∷ rest) →
      EndsBehind u prev at →
      IsPast past u →
      Each (λ b. b < 256) (u ++ bytes) →
      AreHitsOf literals hits u bytes →
      IsEnteredBy kind pieces u bytes enters →
      HoldsPiece kind pieces piece old u →
      IsPieceRun kind pieces piece new u bytes ends

  -- A node may be passed over in a chunk, if its parent is left nowhere in it: nothing is live, and if it has no parent
  -- the bytes wake nothing and its literal ends nowhere.
  abbrev pub MayRest : NodeKind → (parent : Option ℕ) (hits : List ChunkHits) (part : List ℕ) → Prev →
      (bytes : List ℕ) → Type 0
  MayRest (Engine number null) parent hits part prev bytes =
      (e : E) →
      slice_get engines number ≡ Some e →
      IsAtRest (meaning e) part × (parent ≡ None → IsUnwoken (meaning e) null part prev bytes)
  MayRest (Literal number len) parent hits part prev bytes =
      ((k : ℕ) → has_bit part k ≡ false) × (parent ≡ None → ⊥)
  MayRest (FirstLiteral number len) parent hits part prev bytes =
      (own : ChunkHits) →
      slice_get hits number ≡ Some own →
      (i : ℕ) →
      i ≤ length bytes →
      is_hit_at own i ≡ false
  MayRest (LookBack pair) parent hits part prev bytes =
      (own : ChunkHits) →
      slice_get hits pair.literal ≡ Some own →
      (i : ℕ) →
      i ≤ length bytes →
      is_hit_at own i ≡ false

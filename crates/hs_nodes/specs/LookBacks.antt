-- An expression that looks back, and the literal behind it: where both are left in a chunk.
use Rattle.std.specs.Prelude.{◌≡◌, ◌↔◌, ℕ, ◌+◌, ◌-◌, ◌<◌, ◌≤◌, ◌⊎◌, true, Bool, List, [], ◌∷◌, ◌++◌, length, take}
use Rattle.std.specs.Prelude.{Option, false, slice_index}
use Rattle.hs_base.specs.declared.byte_set.ByteSet.{ByteSet}
use Rattle.hs_base.specs.declared.context.Mask.{Mask}
use Rattle.hs_base.specs.declared.context.Next.{Next}
use Rattle.hs_base.specs.declared.context.Prev.{Prev}
use Rattle.hs_base.specs.declared.context.Prev.TheVariants.{Start}
use Rattle.hs_base.specs.ByteSets.{has}
use Rattle.hs_base.specs.Chains.{Piece, lit, nfa, IsFitChain}
use Rattle.hs_base.specs.Contexts.{class_of, prev_at}
use Rattle.hs_base.specs.Fields.{entered_always}
use Rattle.hs_base.specs.Leaving.{IsAtMostWide, LeavesAt, entered_never}
use Rattle.hs_base.specs.Lists.{Each}
use Rattle.hs_base.specs.Literals.{LiteralByte}
use Rattle.hs_base.specs.Trees.{Tree}
use Rattle.hs_engine.specs.Engines.{Meaning}
use Rattle.hs_nodes.specs.Blocks.{IsPast}
use Rattle.hs_nodes.specs.Contexts.{IsNull}
use Rattle.hs_nodes.specs.Hits.{AreChunkHits, is_hit_at}
use Rattle.hs_nodes.specs.Left.{AreLeftIn}
use Rattle.hs_nodes.specs.Nodes.{window_size}
use Rattle.hs_nodes.specs.declared.ends.ChunkEnds.{ChunkEnds}
use Rattle.hs_nodes.specs.declared.hits.ChunkHits.{ChunkHits}
use Rattle.hs_waking.specs.PrevSets.{has_prev}
use Rattle.hs_waking.specs.declared.prev_set.PrevSet.{PrevSet}

-- The pieces are left behind just those so many bytes of the chunk that the hits tell, whatever comes next.
abbrev pub AreLeftAt : ChunkHits → List Piece → (u bytes : List ℕ) → Type 0
AreLeftAt hits pieces u bytes =
    (i : ℕ) →
    i ≤ length bytes →
    (next : Next) → (is_hit_at hits i ≡ true) ↔ LeavesAt pieces (u ++ take i bytes) next

-- The bytes are the field of the expression behind v, where it is entered at the last offsets alone: at as many as an
-- expression that looks back has bytes, or at all.
pub record IsRunBack (m : Meaning) (tree : Tree) (v part : List ℕ) : Type 0 where
  pub front : List ℕ
  pub behind : List ℕ
  pub whole : v ≡ front ++ behind
  pub enough : (window_size ≤ length behind) ⊎ (front ≡ [])
  pub field : m.field part tree (front ++ behind) (entered_never front ++ entered_always behind)

-- The stream u with a chunk behind it, at that offset, and the bytes before the chunk.
pub record IsStream (u : List ℕ) (at : ℕ) (past bytes : List ℕ) : Type 0 where
  pub offset : at ≡ length u
  pub past_is : IsPast past u
  pub small : Each (λ b. b < 256) (u ++ bytes)

-- That holds where so many of the past bytes and of the chunk have come.
abbrev pub RunsBack : Meaning → (at : ℕ) (past bytes : List ℕ) (place : ℕ) (part : List ℕ) → Prev → Type 0
RunsBack m at past bytes place part prev =
    (tree : Tree) (u : List ℕ) →
    m.is_for tree →
    IsStream u at past bytes →
    IsRunBack m tree (take (length u + place - 64) (u ++ bytes)) part
    × (prev ≡ prev_at (u ++ bytes) (length u + place - 64))

-- The expression is left there, before the next byte.
abbrev pub LeavesBack : Meaning → Option Mask → (at : ℕ) (past bytes : List ℕ) (place : ℕ) → Bool → Type 0
LeavesBack m null at past bytes place leaves =
    (tree : Tree) (rest : List Piece) (u : List ℕ) →
    m.is_for tree →
    IsNull null tree →
    IsAtMostWide window_size tree →
    IsFitChain (nfa tree ∷ rest) →
    IsStream u at past bytes →
    (leaves ≡ true) ↔ LeavesAt (nfa tree ∷ []) (take (length u + place - 64) (u ++ bytes))
    (class_of (slice_index (u ++ bytes) (length u + place - 64)))

-- Why no match ends behind so many bytes, of which that is the last one: there are none, that one ends no match, or
-- each begins where the stream does, and they are more than an expression that looks back has.
pub data EndsNowhere (behind : PrevSet) (last : ByteSet) (offset byte : ℕ) : Type 0 where
  at_start : offset ≡ 0 → EndsNowhere behind last offset byte
  by_last : has last byte ≡ false → EndsNowhere behind last offset byte
  by_start : window_size < offset → ((prev : Prev) → has_prev behind prev ≡ true → prev ≡ Start) →
      EndsNowhere behind last offset byte

-- An expression, which the engine runs, and the literal behind it, which ends where the hits tell it.
pub record IsPair (m : Meaning) (null : Option Mask) (len at : ℕ) (past bytes : List ℕ) (hits : ChunkHits)
    (tree : Tree) (literal : List LiteralByte) (u : List ℕ) : Type 0 where
  pub runs : m.is_for tree
  pub null_is : IsNull null tree
  pub narrow : IsAtMostWide window_size tree
  pub count : length literal ≡ len
  pub rest : List Piece
  pub fit : IsFitChain (nfa tree ∷ lit literal ∷ rest)
  pub stream : IsStream u at past bytes
  pub ends : AreChunkHits hits literal u bytes

-- Both are left behind so many bytes of the chunk, where the literal ends there.
abbrev pub LeavesPair : Meaning → Option Mask → (len at : ℕ) (past bytes : List ℕ) → ChunkHits → (place : ℕ) → Bool →
    Type 0
LeavesPair m null len at past bytes hits place leaves =
    (tree : Tree) (literal : List LiteralByte) (u : List ℕ) (next : Next) →
    IsPair m null len at past bytes hits tree literal u →
    is_hit_at hits place ≡ true →
    (leaves ≡ true) ↔ LeavesAt (nfa tree ∷ lit literal ∷ []) (u ++ take place bytes) next

-- And so wherever the literal ends.
abbrev pub TellsPair : Meaning → Option Mask → (len at : ℕ) (past bytes : List ℕ) → ChunkHits → (place : ℕ) → Bool →
    Type 0
TellsPair m null len at past bytes hits place leaves =
    (tree : Tree) (literal : List LiteralByte) (u : List ℕ) (next : Next) →
    IsPair m null len at past bytes hits tree literal u →
    (leaves ≡ true) ↔ LeavesAt (nfa tree ∷ lit literal ∷ []) (u ++ take place bytes) next

-- These hits tell where both are left.
abbrev pub FindsPair : Meaning → Option Mask → (len at : ℕ) (past bytes : List ℕ) → (hits left : ChunkHits) → Type 0
FindsPair m null len at past bytes hits left =
    (tree : Tree) (literal : List LiteralByte) (u : List ℕ) →
    IsPair m null len at past bytes hits tree literal u →
    AreLeftAt left (nfa tree ∷ lit literal ∷ []) u bytes

-- The ends tell where both are left.
abbrev pub TakesPair : Meaning → Option Mask → (len at : ℕ) (past bytes : List ℕ) → ChunkHits → ChunkEnds → Type 0
TakesPair m null len at past bytes hits ends =
    (tree : Tree) (literal : List LiteralByte) (u : List ℕ) →
    IsPair m null len at past bytes hits tree literal u →
    AreLeftIn (nfa tree ∷ lit literal ∷ []) u bytes ends

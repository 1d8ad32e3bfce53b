-- Where the pieces of a chain are left and entered in a stream.
use Rattle.std.specs.Prelude.{◌≡◌, ◌↔◌, ℕ, ◌+◌, ◌≤◌, Bool, true, false, List, length, map, take, Some, slice_get}
use Rattle.hs_base.specs.declared.context.Next.{Next}
use Rattle.hs_base.specs.Contexts.{class_of, then_bytes, then_ended}
use Rattle.hs_base.specs.Trees.{Tree}
use Rattle.hs_base.specs.Spans.{Spans}
use Rattle.hs_base.specs.Chains.{Piece, piece_tree, ChainSpans}

-- The pieces, one after the other, are left behind the bytes u, where `next` comes next. No pieces are left everywhere.
pub record LeavesAt (pieces : List Piece) (u : List ℕ) (next : Next) : Type 0 where
  pub from : ℕ
  pub spans : ChainSpans (then_bytes u next) (then_ended next) pieces from (length u)

-- The piece behind those is left behind u: it has a span of at least one byte that ends there, from an offset where
-- those are left and the byte there comes next.
pub record LeavesBehind (pieces : List Piece) (piece : Piece) (u : List ℕ) (next : Next) : Type 0 where
  pub from : ℕ
  pub byte : ℕ
  pub there : slice_get u from ≡ Some byte
  pub entered : LeavesAt pieces (take from u) (class_of byte)
  pub spans : Spans (then_bytes u next) (then_ended next) (piece_tree piece) from (length u)

-- the expression has the empty span behind u, where `next` comes next
abbrev pub IsEmptyAt : Tree → List ℕ → Next → Type 0
IsEmptyAt tree u next = Spans (then_bytes u next) (then_ended next) tree (length u) (length u)

-- The piece behind those is entered at just these offsets of the bytes u.
pub record AreEntered (pieces : List Piece) (u : List ℕ) (entered : List Bool) : Type 0 where
  pub count : length entered ≡ length u
  pub each : (q b : ℕ) → slice_get u q ≡ Some b →
      (slice_get entered q ≡ Some true) ↔ LeavesAt pieces (take q u) (class_of b)

-- a truth value for each context, by which the pieces are left behind u
abbrev pub TellsLeaving : (Next → Bool) → List Piece → List ℕ → Type 0
TellsLeaving set pieces u = (next : Next) → (set next ≡ true) ↔ LeavesAt pieces u next

-- the expression is entered at no offset of those bytes
abbrev pub entered_never : List ℕ → List Bool
entered_never u = map (λ b. false) u

-- no span of the expression has more than n bytes
abbrev pub IsAtMostWide : ℕ → Tree → Type 0
IsAtMostWide n tree = (w : List ℕ) (ended : Bool) (i j : ℕ) → Spans w ended tree i j → j ≤ i + n

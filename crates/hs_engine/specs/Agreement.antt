-- How the position automaton agrees with the spans of its expression.
use Rattle.std.specs.Prelude.{◌≡◌, ◌↔◌, ℕ, ◌<◌, Bool, true, false, List, [], ◌∷◌, ◌++◌, length, Some, slice_get}
use Rattle.hs_base.specs.declared.context.Next.{Next}
use Rattle.hs_base.specs.Contexts.{class_of, context_at, context_of, then_bytes, then_ended}
use Rattle.hs_base.specs.Trees.{Tree}
use Rattle.hs_base.specs.Spans.{Spans, IsByteOf}
use Rattle.hs_base.specs.EndAssertions.{has_embedded_end}
use Rattle.hs_base.specs.Fields.{Leaves}
use Rattle.hs_base.specs.WrittenOut.{Core, write_out, IsPlain, IsReachedFrom, IsReached, set_of}
use Rattle.hs_engine.specs.Positions.{null, enter, accept, follow, Path}

-- a path over the bytes u from the offset q, which more bytes may follow, ends in the position
abbrev pub HasPath : Core → List ℕ → ℕ → ℕ → Type 0
HasPath r u q x = Path (context_at u false) (λ set k. IsByteOf set u k) r q x (length u)

-- and it accepts where `next` comes next
abbrev pub IsAccepted : Core → List ℕ → ℕ → Next → Type 0
IsAccepted r u q next = (x : ℕ) × HasPath r u q x × (accept r x (context_of u next) ≡ true)

-- The paths of the automaton of an expression are where its positions are reached; those that accept are its spans of
-- at least one byte, and where it is null are its empty spans.
pub record AgreesWith (tree : Tree) (r : Core) : Type 0 where
  pub reached : (u : List ℕ) (q x : ℕ) → HasPath r u q x ↔ IsReachedFrom r u q x
  pub accepts : (u : List ℕ) (q : ℕ) (next : Next) → q < length u →
      IsAccepted r u q next ↔ Spans (then_bytes u next) (then_ended next) tree q (length u)
  pub nulls : (u : List ℕ) (next : Next) →
      (null r (context_of u next) ≡ true) ↔ Spans (then_bytes u next) (then_ended next) tree (length u) (length u)

-- So it is with each expression in which no end assertion is followed by consumption.
abbrev pub PositionsAgree : Type 0
PositionsAgree = (tree : Tree) → IsPlain tree → has_embedded_end tree false ≡ false → AgreesWith tree (write_out tree)

-- The byte b leads to the position y, which is entered there if `entering` says so, or follows one that was reached.
pub data StepsTo (r : Core) (u : List ℕ) (entered : List Bool) (b : ℕ) (entering : Bool) (y : ℕ) : Type 0 where
  steps_in : slice_get (set_of r y) b ≡ Some true → entering ≡ true → enter r y (context_of u (class_of b)) ≡ true →
      StepsTo r u entered b entering y
  steps_on : (x : ℕ) → slice_get (set_of r y) b ≡ Some true → IsReached r u entered x →
      follow r x y (context_of u (class_of b)) ≡ true → StepsTo r u entered b entering y

-- The positions that are reached behind one more byte are those that it leads to.
abbrev pub PositionsStep : Type 0
PositionsStep =
    (r : Core) (u : List ℕ) (entered : List Bool) (b : ℕ) (entering : Bool) (y : ℕ) → length entered ≡ length u →
    IsReached r (u ++ b ∷ []) (entered ++ entering ∷ []) y ↔ StepsTo r u entered b entering y

-- some position that is reached accepts where `next` comes next
pub record IsAccepting (r : Core) (u : List ℕ) (entered : List Bool) (next : Next) : Type 0 where
  pub position : ℕ
  pub reached : IsReached r u entered position
  pub accepts : accept r position (context_of u next) ≡ true

-- An expression is left exactly where a position that is reached accepts.
abbrev pub PositionsLeave : Type 0
PositionsLeave =
    (tree : Tree) (u : List ℕ) (entered : List Bool) (next : Next) → IsPlain tree →
    has_embedded_end tree false ≡ false →
    Leaves tree u entered next ↔ IsAccepting (write_out tree) u entered next

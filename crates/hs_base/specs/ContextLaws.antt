-- What holds of contexts, in every stream.
use Rattle.std.specs.Prelude.{◌≡◌, ◌↔◌, ℕ, Bool, true, List, length}
use Rattle.hs_base.specs.declared.assertion.Assertion.{Assertion}
use Rattle.hs_base.specs.declared.context.Next.{Next}
use Rattle.hs_base.specs.Assertions.{Holds}
use Rattle.hs_base.specs.Contexts.{context_at, context_of, allows, then_bytes, then_ended}

-- An assertion holds at an offset exactly where it allows the context there.
abbrev pub AssertionsSeeContexts : Type 0
AssertionsSeeContexts =
    (w : List ℕ) (ended : Bool) (a : Assertion) (p : ℕ) → Holds w ended a p ↔ (allows a (context_at w ended p) ≡ true)

-- In the stream in which a context follows u, it is the context at the end of u.
abbrev pub ContextsFollow : Type 0
ContextsFollow =
    (u : List ℕ) (next : Next) → context_at (then_bytes u next) (then_ended next) (length u) ≡ context_of u next

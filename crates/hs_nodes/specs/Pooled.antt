-- The states of single engines, as far as they are kept.
use Rattle.std.specs.Prelude.{◌≡◌, ℕ, List, Option, Some, slice_get}
use Rattle.hs_engine.specs.Engines.{Meaning}
use Rattle.hs_pool.specs.Pools.{IsPoolAt}
use Rattle.hs_pool.specs.declared.pool.StatePool.{StatePool}

-- The pool, if there is one, has of the engine of that number nothing but what it does.
abbrev pub IsPooled : (m : Meaning) (number : ℕ) → Option StatePool → Type 0
IsPooled m number pool = (own : StatePool) → pool ≡ Some own → IsPoolAt m number own

-- What it has of engines with other numbers it has still.
abbrev pub KeepsPooled : {E : Type 0} → (E → Meaning) → (number : ℕ) → (old new : Option StatePool) → Type 0
KeepsPooled {E = E} meaning number old new =
    (n : ℕ) (e : E) → (n ≡ number → ⊥) → IsPooled (meaning e) n old → IsPooled (meaning e) n new

-- It has nothing but what these engines do.
abbrev pub ArePooled : {E : Type 0} → (E → Meaning) → (engines : List E) → Option StatePool → Type 0
ArePooled {E = E} meaning engines pool = (n : ℕ) (e : E) → slice_get engines n ≡ Some e → IsPooled (meaning e) n pool

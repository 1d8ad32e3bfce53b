-- What an engine does and tells wherever its stream stands.
use Rattle.std.specs.Prelude.{◌≡◌, ◌↔◌, ℕ, Bool, true, List, [], ◌∷◌, ◌++◌, length}
use Rattle.hs_base.specs.declared.context.Next.{Next}
use Rattle.hs_base.specs.declared.context.NextSet.{NextSet}
use Rattle.hs_base.specs.declared.context.Prev.{Prev}
use Rattle.hs_base.specs.Contexts.{prev_at}
use Rattle.hs_base.specs.ContextSets.{has_next}
use Rattle.hs_base.specs.Trees.{Tree}
use Rattle.hs_base.specs.Fields.{Leaves}
use Rattle.hs_engine.specs.Engines.{Meaning}

-- The region that a byte behind `prev` leads to, before which the expression is entered or not: where the old one is
-- the field of a stream, wherever that ends, it is that of the stream with the byte.
abbrev pub TakesAnywhere : Meaning → (old new : List ℕ) (prev : Prev) (enters : Bool) (byte : ℕ) → Type 0
TakesAnywhere m old new prev enters byte =
    (tree : Tree) (u : List ℕ) (entered : List Bool) →
    m.is_for tree →
    length entered ≡ length u →
    prev ≡ prev_at u (length u) →
    m.field old tree u entered →
    m.field new tree (u ++ byte ∷ []) (entered ++ enters ∷ [])

-- Where the region is the field of a stream that ends behind `prev`, wherever that is, these are the contexts in which
-- the expression is left there.
abbrev pub TellsAnywhere : Meaning → (region : List ℕ) (prev : Prev) (contexts : NextSet) → Type 0
TellsAnywhere m region prev contexts =
    (tree : Tree) (u : List ℕ) (entered : List Bool) →
    m.is_for tree →
    length entered ≡ length u →
    prev ≡ prev_at u (length u) →
    m.field region tree u entered →
    (next : Next) → (has_next contexts next ≡ true) ↔ Leaves tree u entered next

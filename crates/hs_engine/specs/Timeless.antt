-- What one byte makes of an engine's region wherever its stream stands.
use Rattle.std.specs.Prelude.{◌≡◌, ◌↔◌, ℕ, Bool, true, List, [], ◌∷◌, ◌++◌, length}
use Rattle.hs_base.specs.declared.context.Next.TheVariants as after
use Rattle.hs_base.specs.declared.context.Prev.{Prev}
use Rattle.hs_base.specs.Contexts.{class_of, prev_at}
use Rattle.hs_base.specs.Fields.{Leaves}
use Rattle.hs_base.specs.Trees.{Tree}
use Rattle.hs_engine.specs.Engines.{Meaning}
use Rattle.hs_engine.specs.declared.ends.ByteEnds.{ByteEnds}

-- The byte behind u, before which the expression is entered or not, leads to its field behind it. It is left before the
-- byte, where that comes next, and behind it, where nothing is known of what comes next, just where that is told.
pub record IsStepTaken (Field : List ℕ → List Bool → Type 0) (tree : Tree) (u : List ℕ) (entered : List Bool)
    (enters : Bool) (byte : ℕ) (ends : ByteEnds) : Type 0 where
  pub field : Field (u ++ byte ∷ []) (entered ++ enters ∷ [])
  pub before_is : (ends.before ≡ true) ↔ Leaves tree u entered (class_of byte)
  pub behind_is : (ends.behind ≡ true) ↔ Leaves tree (u ++ byte ∷ []) (entered ++ enters ∷ []) after.Unknown

-- It does so for each history of the old region behind which `prev` stands, wherever it ends; and the new region may
-- stand at any offset.
pub record TakesStep (m : Meaning) (old new : List ℕ) (prev : Prev) (enters : Bool) (byte : ℕ) (ends : ByteEnds) :
    Type 0 where
  pub well : (at : ℕ) → m.well new at
  pub takes : (tree : Tree) (u : List ℕ) (entered : List Bool) →
      m.is_for tree →
      length entered ≡ length u →
      prev ≡ prev_at u (length u) →
      m.field old tree u entered →
      IsStepTaken (m.field new tree) tree u entered enters byte ends

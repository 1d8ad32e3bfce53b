-- What follows from the meaning of an engine.
use Rattle.std.proofs.Common.{◌≡◌, ℕ, Bool, true, false, ◌||◌, List, [], ◌∷◌, ◌++◌, length, length-append, arith, refl}
use Rattle.hs_base.specs.declared.context.Next.{Next}
use Rattle.hs_base.specs.Fields.{Leaves}
use Rattle.hs_base.specs.Trees.{Tree}
use Rattle.hs_engine.specs.Engines.{Meaning, IsAsleep}

longer : {A : Type 0} {B : Type 0} (xs : List A) (ys : List B) (x : A) (y : B) → length xs ≡ length ys → length (xs ++ x ∷ []) ≡ length (ys ++ y ∷ [])
longer xs ys x y len = omega (arith, length-append xs (x ∷ []), length-append ys (y ∷ []), len)

-- over a byte that wakes nothing the expression isn't left behind the byte either
pub nothing-behind : (m : Meaning) (region : List ℕ) (byte : ℕ) → IsAsleep m region byte → (tree : Tree) (u : List ℕ) (entered : List Bool) (enters : Bool) → m.is_for tree → length entered ≡ length u →
    m.field region tree u entered → (next : Next) → Leaves tree (u ++ byte ∷ []) (entered ++ (m.always || enters) ∷ []) next → ⊥
nothing-behind m region byte asleep tree u entered enters runs len field =
    asleep.leaves_nothing tree (u ++ byte ∷ []) (entered ++ (m.always || enters) ∷ []) runs (longer entered u (m.always || enters) byte len) (asleep.stays enters tree u entered runs len field)

-- it counts as entered where it is entered
pub entered-anyway : (always : Bool) → (always || true) ≡ true
entered-anyway true = refl
entered-anyway false = refl

-- The bytes behind which something of the engines of a graph may be live.
use Rattle.std.proofs.Common.{◌≡◌, List, [], ◌∷◌, ◌++◌, Some, length, zero, suc, subst}
use Rattle.std.specs.Prelude.{slice_get}
use Rattle.std.proofs.lemmas.Option.{same_Some}
use Rattle.hs_base.specs.declared.byte_set.ByteSet.{ByteSet}
use Rattle.hs_engine.specs.Engines.{Meaning}
use Rattle.hs_nodes.specs.Lone.{AreLiving, IsClearBehindOthers}

module _ {E : Type 0} (meaning : E → Meaning) where
  -- those of no engines
  pub living-none : (engines : List E) → AreLiving meaning engines []
  living-none engines number e set at at_set = absurd (let own : slice_get [] number ≡ Some set = at_set in cc)

  -- one set more, of the next engine
  pub living-more : (engines : List E) (sets : List ByteSet) (set : ByteSet) → AreLiving meaning engines sets →
      ((e : E) → slice_get engines (length sets) ≡ Some e → IsClearBehindOthers (meaning e) set) → AreLiving meaning engines (sets ++ set ∷ [])
  living-more [] sets set old clear number e own at at_set = absurd (let none : slice_get [] number ≡ Some e = at in cc)
  living-more (x ∷ engines) [] set old clear zero e own at at_set = subst (IsClearBehindOthers (meaning e)) (same_Some set own at_set) (clear e at)
  living-more (x ∷ engines) [] set old clear (suc number) e own at at_set = absurd (let none : slice_get [] number ≡ Some own = at_set in cc)
  living-more (x ∷ engines) (y ∷ sets) set old clear zero e own at at_set = old 0 e own at at_set
  living-more (x ∷ engines) (y ∷ sets) set old clear (suc number) e own at at_set =
      living-more engines sets set (λ k. old (suc k)) clear number e own at at_set

-- A pool that knows no step.
use Rattle.std.proofs.Common.{◌≡◌, ℕ, zero, suc, ◌<◌, Bool, List, [], ◌∷◌, replicate, slice_index, slice_index_or, refl, subst, sym, ap, arith}
use Rattle.hs_engine.specs.Engines.{Meaning}
use Rattle.hs_pool.specs.Pools.{AreStepsOf}
use Rattle.hs_pool.specs.Rows.{AreLeading, AreUnknown, next_of, step_at, step_place}
use Rattle.hs_pool.specs.declared.state.State.{State}
use Rattle.hs_pool.proofs.TableLemmas.{zeros-at}

-- each step of one row of zeros is unknown
one-row : AreUnknown (replicate 512 0 ∷ [])
one-row zero k = zeros-at 512 k
one-row (suc s) k = refl

pub sink-row : (rows : List (List ℕ)) → rows ≡ replicate 512 0 ∷ [] → AreUnknown rows
sink-row rows is = subst (λ (l : List (List ℕ)). AreUnknown l) (sym is) one-row

pub unknown-leading : (rows : List (List ℕ)) (count : ℕ) → 0 < count → AreUnknown rows → AreLeading rows count
unknown-leading rows count some unknown s k low =
    let e : next_of (slice_index (slice_index_or rows s []) k) ≡ next_of 0 = ap next_of (unknown s k) in
    let z : next_of 0 ≡ 0 = refl in
    omega (arith, e, z, some)

-- where no step is known, they are all what an engine does
pub blank-steps : (m : Meaning) (number : ℕ) (states : List State) (rows : List (List ℕ)) → ((s : ℕ) (enters : Bool) (byte : ℕ) → next_of (step_at rows s enters byte) ≡ 0) →
    AreStepsOf m number states rows
blank-steps m number states rows blank s old enters byte is of small known = absurd (known (blank s enters byte))

pub unknown-steps : (m : Meaning) (number : ℕ) (states : List State) (rows : List (List ℕ)) → AreUnknown rows → AreStepsOf m number states rows
unknown-steps m number states rows unknown = blank-steps m number states rows (λ s enters byte. ap next_of (unknown s (step_place enters byte)))

-- What a list of reports makes of what takes them.
use Rattle.std.specs.Prelude.{ℕ, List, [], ◌∷◌, ◌++◌}
use Rattle.hs_base.specs.Told.{Pair}

module _ {V : Type 0} (Tells : V → ℕ → ℕ → V → Type 0) where
  -- These pairs were reported one after the other, which led from the one to the other.
  pub data Through (start : V) : List Pair → V → Type 0 where
    still : Through start [] start
    onward : {pairs : List Pair} {between end : V} (p : Pair) →
        Through start pairs between → Tells between p.id p.to end → Through start (pairs ++ p ∷ []) end

  -- Some list of pairs was reported, of which that holds.
  pub record Takes (start end : V) (Holds : List Pair → Type 0) : Type 0 where
    pub pairs : List Pair
    pub through : Through start pairs end
    pub holds : Holds pairs

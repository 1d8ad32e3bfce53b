-- What pairs may be told of any stream of a database.
use Rattle.std.specs.Prelude.{ℕ, ◌≤◌, List}
use Rattle.hs_base.specs.Lists.{Each, IsMember, IsRising}
use Rattle.hs_base.specs.Regions.{Plan}
use Rattle.hs_base.specs.Told.{Pair}
use Rattle.hs_compile.specs.Databases.{Compiled, IsDatabaseOf}

-- The pairs name identifiers of the database's plans, and their ends lie in these bounds and don't fall.
pub record MayTell (db : Compiled) (low high : ℕ) (pairs : List Pair) : Type 0 where
  pub named : (plan : Plan) → IsDatabaseOf db plan → Each (λ pair. IsMember pair.id plan.identifiers) pairs
  pub bounded : Each (λ pair. (low ≤ pair.to) × (pair.to ≤ high)) pairs
  pub rising : IsRising (λ x y. x.to ≤ y.to) pairs

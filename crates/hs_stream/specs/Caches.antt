-- Which cache serves the streams of a database.
use Rattle.hs_compile.specs.Databases.{Compiled}
use Rattle.hs_stream.specs.Scratches.{AreStatesOf, IsScratchOf}
use Rattle.hs_stream.specs.declared.cache.Cache.{Cache}

-- Its scratch is one of the database, and its states are of the database's engines.
pub record IsCacheOf (db : Compiled) (cache : Cache) : Type 0 where
  pub scratch : IsScratchOf db cache.scratch
  pub states : AreStatesOf db cache.states

-- What the engine of an expression by its positions means.
use Rattle.hs_engine.specs.Engines.{Meaning}
use Rattle.hs_limex.specs.LimexEngines.{meaning_of_limex}
use Rattle.hs_rose.specs.declared.positions.PositionEngine.{PositionEngine}

-- what the engine means that takes its bytes
abbrev pub meaning_of_positions : PositionEngine → Meaning
meaning_of_positions e = meaning_of_limex e.limex

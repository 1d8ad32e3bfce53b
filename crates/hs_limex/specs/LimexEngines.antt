-- What the engine `Limex` means.
use Rattle.hs_engine.specs.Engines.{Meaning}
use Rattle.hs_limex.specs.Fitting.{tables_meaning}
use Rattle.hs_limex.specs.BodyMoves.{moves_of_body}
use Rattle.hs_limex.specs.PositionMoves.{PositionMoves}
use Rattle.hs_limex.specs.declared.limex.Limex.{Limex}

-- what its tables say
abbrev pub moves_of_limex : Limex → PositionMoves
moves_of_limex limex = moves_of_body limex.body

abbrev pub meaning_of_limex : Limex → Meaning
meaning_of_limex limex = tables_meaning (moves_of_limex limex)

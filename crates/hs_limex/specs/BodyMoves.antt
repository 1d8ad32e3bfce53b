-- What the tables of either body say.
use Rattle.hs_limex.specs.PositionMoves.{PositionMoves}
use Rattle.hs_limex.specs.SmallMoves.{moves_of_small}
use Rattle.hs_limex.specs.TableMoves.{moves_of_tables}
use Rattle.hs_limex.specs.declared.body.Body.{Body}
use Rattle.hs_limex.specs.declared.body.Body.TheVariants.{Small, Wide}

abbrev pub moves_of_body : Body → PositionMoves
moves_of_body (Small small) = moves_of_small small
moves_of_body (Wide tables) = moves_of_tables tables.value

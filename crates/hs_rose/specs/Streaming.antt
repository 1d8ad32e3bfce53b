-- How tables for blocks go with those of an engine of positions.
use Rattle.hs_block.specs.declared.streams.Streams.{Streams}
use Rattle.hs_block.specs.StreamTables.{Tells}
use Rattle.hs_limex.specs.PositionMoves.{PositionMoves}

-- the tables say of each position what those of the engine say
abbrev pub TellsMoves : Streams → PositionMoves → Type 0
TellsMoves s m =
    Tells s m.size (λ x b. m.reach b x) (λ x c. m.enters c x) (λ x c. m.accepts c x) (λ x y c. m.follows x y c)

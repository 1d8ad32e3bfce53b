-- A text taken in blocks, before each byte of which the expression is entered.
use Rattle.std.specs.Prelude.{ℕ, List, length}
use Rattle.hs_base.specs.declared.context.Prev.{Prev}
use Rattle.hs_bits.specs.WordBits.{AreSet}
use Rattle.hs_block.specs.Blocks.{IsBlockRun}
use Rattle.hs_engine.specs.declared.ends.BlockEnds.{BlockEnds}
use Rattle.hs_engine.specs.Engines.{Meaning}

-- The engine takes the block, entered before each of its bytes, and tells where the expression is left.
pub record IsBlockTaken (m : Meaning) (old new : List ℕ) (prev : Prev) (at : ℕ) (block : List ℕ)
    (ends : BlockEnds) : Type 0 where
  pub enters : ℕ
  pub throughout : AreSet enters (length block)
  pub ticks : ℕ
  pub run : IsBlockRun m old new prev at enters block ends ticks

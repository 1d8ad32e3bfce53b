use Rattle.std.proofs.Common.{length}
use Rattle.hs_judge_engines.proofs.EntryLemmas.{entered-anywhere}
use Rattle.hs_judge_engines.proofs.in_blocks.PieceEngineBlocked.take.Goals as goal

pub take_block-requires : goal.take_block-requires
take_block-requires g c = record {
  throughout = entered-anywhere c.args.self.now c.args.enters (length c.args.block.now);
}

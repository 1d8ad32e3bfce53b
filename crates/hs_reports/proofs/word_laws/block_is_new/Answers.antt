use Rattle.hs_reports.proofs.BlockLemmas.{block-new}
use Rattle.hs_reports.proofs.word_laws.block_is_new.Goals as goal

pub returns : goal.returns
returns c = block-new

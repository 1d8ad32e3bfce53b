use Rattle.hs_fdr_build.proofs.NoEndLemmas.{no-end-is-masked-in-blocks}
use Rattle.hs_fdr_build.proofs.laws.no_end_is_masked_in_blocks.Goals as goal

pub returns : goal.returns
returns c = no-end-is-masked-in-blocks

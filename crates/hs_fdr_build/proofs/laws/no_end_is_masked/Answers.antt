use Rattle.hs_fdr_build.proofs.NoEndLemmas.{no-end-is-masked}
use Rattle.hs_fdr_build.proofs.laws.no_end_is_masked.Goals as goal

pub returns : goal.returns
returns c = no-end-is-masked

use Rattle.hs_fdr_build.proofs.ClearLemmas.{clears-bit}
use Rattle.hs_fdr_build.proofs.clear.clear.Goals as goal

pub returns : goal.returns
returns c = clears-bit c.args.masks.now c.args.at c.args.bucket c.requires.within c.requires.bucket

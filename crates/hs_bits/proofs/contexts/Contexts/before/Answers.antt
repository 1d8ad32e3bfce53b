use Rattle.hs_bits.proofs.ContextLemmas.{before-marks}
use Rattle.hs_bits.proofs.contexts.Contexts.before.Goals as goal

pub returns : goal.returns
returns c prev u bytes are is = before-marks c.args.mask prev u bytes c.places_before.result is (c.places_before.ensures prev bytes are)

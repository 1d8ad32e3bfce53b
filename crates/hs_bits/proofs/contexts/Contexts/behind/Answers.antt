use Rattle.hs_bits.proofs.ContextLemmas.{behind-marks}
use Rattle.hs_bits.proofs.contexts.Contexts.behind.Goals as goal

pub returns : goal.returns
returns c prev u bytes are is = behind-marks c.args.mask prev u bytes c.places_behind.result (c.places_behind.ensures prev bytes are)

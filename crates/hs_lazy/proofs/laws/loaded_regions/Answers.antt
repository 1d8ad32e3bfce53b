use Rattle.hs_lazy.proofs.PutLemmas.{loaded-size}
use Rattle.hs_lazy.proofs.laws.loaded_regions.Goals as goal

pub returns : goal.returns
returns g c k n e is at = loaded-size g.E.Engine.meaning c.args.engines.now c.args.cache.now c.requires k n e is at

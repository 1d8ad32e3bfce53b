use Rattle.hs_lazy.proofs.EmptyLemmas.{no-dfas, no-engine}
use Rattle.hs_lazy.proofs.cache.Cache.new.Goals as goal

pub returns-clause-dfas : goal.returns-clause-dfas
returns-clause-dfas g c = no-dfas g.E.Engine.meaning c.args.engines.now _ c.new.ensures.items

pub returns-clause-none : goal.returns-clause-none
returns-clause-none g c k = no-engine _ k c.new.ensures.items

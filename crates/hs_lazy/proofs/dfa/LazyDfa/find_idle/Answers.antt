use Rattle.std.proofs.Common.{refl}
use Rattle.hs_lazy.proofs.IdleLemmas.{zero-idle}
use Rattle.hs_lazy.proofs.dfa.LazyDfa.find_idle.Goals as goal

pub returns-clause-found : goal.returns-clause-found
returns-clause-found c = zero-idle c.find.new.self.members.items c.find.new.self.states.items c.in-Some.number _ c.args.prev c.find.new.self.live c.in-Some.ensures.found refl

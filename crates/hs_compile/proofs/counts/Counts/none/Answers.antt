use Rattle.std.proofs.Common.{refl}
use Rattle.hs_compile.proofs.CountLemmas.{named-none}
use Rattle.hs_compile.proofs.counts.Counts.none.Goals as goal

pub returns-clause-named : goal.returns-clause-named
returns-clause-named c = named-none _ refl refl

use Rattle.std.proofs.Common.{subst}
use Rattle.hs_compile.specs.Counting.{IsKnownName}
use Rattle.hs_compile.proofs.counts.Counts.with_name.Goals as goal

pub returns-in-None-clause-named : goal.returns-in-None-clause-named
returns-in-None-clause-named c P x few named known is = c.with_new.ensures.named P x few named (subst (λ k. IsKnownName P x.id k) c.in-None.is known) is

pub returns-in-Some-clause-named : goal.returns-in-Some-clause-named
returns-in-Some-clause-named c P x few named known is = c.with_known.ensures.named P x few named (subst (λ k. IsKnownName P x.id k) c.in-Some.is known) is

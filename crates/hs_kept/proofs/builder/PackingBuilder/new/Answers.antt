use Rattle.std.proofs.Common.{[], List, refl, sym, subst}
use Rattle.hs_kept.specs.declared.builder.Candidate.{Candidate}
use Rattle.hs_kept.specs.Builders.{AreCandidates, none}
use Rattle.hs_kept.proofs.builder.PackingBuilder.new.Goals as goal

pub returns : goal.returns
returns c = record { candidates = subst (λ (cs : List Candidate). AreCandidates [] cs 0) (sym c.new.ensures.items) none; pieces = refl }

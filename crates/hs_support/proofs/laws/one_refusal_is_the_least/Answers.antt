use Rattle.hs_support.proofs.UniqueLemmas.{least-unique}
use Rattle.hs_support.proofs.laws.one_refusal_is_the_least.Goals as goal

pub returns : goal.returns
returns c flags ext tree first second one other = least-unique flags ext tree first second one other

use Rattle.std.proofs.Common.{◌≡◌, ◌∙◌, true, false, sym}
use Rattle.hs_nodes.proofs.LoneLemmas.{all-has}
use Rattle.hs_nodes.proofs.lone.LoneNodes.living.Goals as goal

pub returns-in-None : goal.returns-in-None
returns-in-None g c e there region tree u b entered runs count small other = absurd (let both : true ≡ false = sym (all-has b small) ∙ other in cc)

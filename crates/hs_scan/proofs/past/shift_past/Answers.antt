use Rattle.hs_scan.proofs.past.shift_past.Goals as goal
use Rattle.hs_scan.proofs.PastLemmas.{shifted}

pub returns-clause-front : goal.returns-clause-front
returns-clause-front c = shifted c.args.past.now c.copy_within.new.self c.args.count c.requires.within c.copy_within.ensures.len (λ k low high. c.copy_within.ensures.by_index.0 k 0 low high)

use Rattle.std.proofs.Common.{false, sym, ap, ◌∙◌, arith}
use Rattle.hs_nodes.specs.Leaving.{is_left}
use Rattle.hs_nodes.proofs.LeavingLemmas.{first-bit}
use Rattle.hs_nodes.proofs.RunLemmas.{nowhere-none}
use Rattle.hs_nodes.proofs.leaving.leave_if.Goals as goal
use Rattle.hs_reports.specs.WordBits.{word_bit}

pub returns-else-left-clause-own : goal.returns-else-left-clause-own
returns-else-left-clause-own c = ap is_left c.requires.clear ∙ (ap (λ w. word_bit w 0) (nowhere-none.before 0 (omega arith)) ∙ (first-bit false ∙ sym c.if-left.false))

use Rattle.std.proofs.Common.{sym, subst}
use Rattle.hs_engine.specs.Tables.{Runs}
use Rattle.hs_engine.proofs.AutomatonLemmas.{runs-copy}
use Rattle.hs_nfa.proofs.plain.Plain.build.Goals as goal

pub returns-clause-runs : goal.returns-clause-runs
returns-clause-runs c tree runs =
    subst (λ a. Runs a tree) (sym c.new.ensures.of) (runs-copy c.in_ok-copy.field-0 c.args.automaton.now c.in_ok-copy.ensures tree runs)

use Rattle.std.proofs.Common.{◌≡◌, subst, arith}
use Rattle.std.specs.Prelude.{IfSome, Option}
use Rattle.hs_base.specs.AssertionTests.{has_assertion}
use Rattle.hs_base.specs.Trees.{Tree}
use Rattle.hs_engine.specs.Tables.{Runs}
use Rattle.hs_states.proofs.StateLemmas.{true-false}
use Rattle.hs_states.specs.StateSets.{AreSetsOf}
use Rattle.hs_states.specs.declared.state_sets.StateSets.{StateSets}
use Rattle.hs_dfa.specs.DfaEngines.{IsDfaOf}
use Rattle.hs_dfa.specs.declared.dfa.Dfa.{Dfa}
use Rattle.hs_dfa.proofs.SetRunLemmas.{same-count, sets-clear}
use Rattle.hs_dfa.proofs.set_dfa.SetDfa.build.Goals.{then-count-state_count-via-then-count-state_count, then-count-state_count-via-else-count-state_count+then-not-are_clear}
use Rattle.hs_dfa.proofs.set_dfa.SetDfa.build.Goals as goal

pub returns-then-count-state_count-clause-none : goal.returns-then-count-state_count-clause-none
returns-then-count-state_count-clause-none c none_ tree runs flag states all few =
    let a = c.args.automaton.now in
    let numbers : IsDfaOf c.in-Some.dfa tree =
    subst (λ (o : Option Dfa). IfSome o (λ dfa. (tree : Tree) → Runs a tree → a.has_assertion ≡ has_assertion tree → IsDfaOf dfa tree)) c.in-Some.is c.in_ok-dfa.ensures.some tree runs flag in
    let sets : AreSetsOf c.in-Some-2.sets tree =
    subst (λ (o : Option StateSets). IfSome o (λ sets. (tree : Tree) → Runs a tree → a.has_assertion ≡ has_assertion tree → AreSetsOf sets tree)) c.in-Some-2.is c.in_ok-sets.ensures.some tree runs flag in
    elim c.then-count-state_count.branch [
      | then-count-state_count-via-then-count-state_count w ↦ absurd (omega (arith, same-count c.in-Some.dfa c.in-Some-2.sets tree numbers sets, w.if-count-state_count.true, c.count.ensures.count, c.state_count.ensures))
      | then-count-state_count-via-else-count-state_count+then-not-are_clear w ↦
          true-false w.are_clear.result (w.are_clear.ensures.1 (sets-clear c.in-Some-2.sets tree c.size-size.result sets (omega (arith, c.size-size.ensures.size, runs.tables.size)))) w.if-not-are_clear.true
    ]

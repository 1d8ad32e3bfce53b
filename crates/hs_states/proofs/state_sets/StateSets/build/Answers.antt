use Rattle.std.proofs.Common.{length, slice_index, sym, subst, vec_len, List, IfSome}
use Rattle.hs_base.specs.WrittenOut.{write_out}
use Rattle.hs_states.specs.DfaStates.{AreStatesOf}
use Rattle.hs_states.specs.PackedSets.{ArePrevsTo, AreSetsTo}
use Rattle.hs_states.specs.Subsets.{AllBuilt}
use Rattle.hs_states.specs.declared.footing.Footing.{Footing}
use Rattle.hs_states.proofs.SetLemmas.{sets-are}
use Rattle.hs_states.proofs.TransferLemmas.{states-by}
use Rattle.hs_states.proofs.state_sets.StateSets.build.Goals as goal

pub returns-in_default-clause-none : goal.returns-in_default-clause-none
returns-in_default-clause-none c e tree runs flag states all few =
    let a = c.args.automaton.now in
    c.in_ok-subsets.ensures.none c.in_default.is states (states-by a (write_out tree) runs.tables a.has_assertion states (subst (λ h. AreStatesOf (write_out tree) h states) (sym flag) all)) few

pub returns-clause-some : goal.returns-clause-some
returns-clause-some c tree runs flag =
    let a = c.args.automaton.now in
    let s = c.in_ok-of_states.field-0 in
    let classes = c.in_ok-classes.classes in
    let subsets = c.in-Some.subsets in
    let of = c.in_ok-of_states.ensures in
    let built : AllBuilt a classes subsets.known.items subsets.rows.items =
    subst (λ found. IfSome found (λ built. AllBuilt a classes built.known.items built.rows.items)) c.in-Some.is c.in_ok-subsets.ensures.some in
    sets-are a tree runs flag (slice_index classes.classes) (vec_len classes.footings) subsets.known.items subsets.rows.items built s of.width
    (subst (λ (xs : List Footing). AreSetsTo s.width xs (length xs) s.sets.items) c.deref.ensures.value of.sets)
    (subst (λ (xs : List Footing). ArePrevsTo xs (length xs) s.prevs.items) c.deref.ensures.value of.prevs) of.assertion

use Rattle.std.proofs.Common.{◌≤◌, List, map, sym, ap, subst, ◌∙◌}
use Rattle.hs_base.specs.declared.refusal.Refusal.{Refusal}
use Rattle.hs_base.specs.Entries.{listed}
use Rattle.hs_base.specs.Patterns.{Pattern}
use Rattle.hs_expr.specs.Meaning.{tree_of}
use Rattle.hs_pieces.specs.declared.piece.Chain.{Chain}
use Rattle.hs_pieces.specs.Meaning.{plain_chain}
use Rattle.hs_rose.specs.Plans.{chains_size}
use Rattle.hs_compile.specs.Counting.{IsSmall}
use Rattle.hs_compile.specs.Lists.{HasRefusal, IsReadTree, IsRefusalOf, greatest_count}
use Rattle.hs_compile.proofs.DoneLemmas.{entry-done, late-told}
use Rattle.hs_compile.proofs.EntryLemmas.{late-ends, late-positions}
use Rattle.hs_compile.proofs.entry.compile_entry.Goals as goal

pub runnable_chains-requires-clause-few : goal.runnable_chains-requires-clause-few
runnable_chains-requires-clause-few c = late-positions c.args.entry.now.flags c.args.entry.now.ext (tree_of c.in-Ok.expr) c.in_default.ensures.late

pub runnable_chains-requires-clause-ends_last : goal.runnable_chains-requires-clause-ends_last
runnable_chains-requires-clause-ends_last c = late-ends c.args.entry.now.flags c.args.entry.now.ext (tree_of c.in-Ok.expr) c.in_default.ensures.late

pub returns-in-Some-late_refusal-clause-refused : goal.returns-in-Some-late_refusal-clause-refused
returns-in-Some-late_refusal-clause-refused c before P stands =
    let t = tree_of c.in-Ok.expr in
    let entry = listed c.args.entry.now in
    let reads : IsReadTree c.args.entry.now.text.items c.args.entry.now.flags t = subst (λ text. IsReadTree text c.args.entry.now.flags t) c.deref.ensures.value c.in-Ok.ensures.read in
    let few : c.args.number ≤ greatest_count = c.in_default.ensures.least before stands.count reads in
    c.refused-in-Some-late_refusal.ensures before stands.count
    (late-told entry t reads c.in_default.ensures.late c.args.seen.now c.args.counts c.in-Some-counts_with.next c.args.number c.in-Some-size.size few c.in_ok-chains.chains c.in_ok-chains.ensures.chains
    (λ es Q x short kept read are own sized. c.in-Some-counts_with.ensures es Q x short kept read are own (sized ∙ ap (λ (cs : List Chain). chains_size (map plain_chain cs)) (sym c.deref-2.ensures.value)))
    c.in-Some-size.ensures before P stands (λ Q. IsRefusalOf before entry c.in-Some-late_refusal.refusal)
    (λ x kept read small own sized low late. c.in-Some-late_refusal.ensures before P x kept read small own sized low late))

pub returns-clause-compiled : goal.returns-clause-compiled
returns-clause-compiled c before P stands =
    let t = tree_of c.in-Ok.expr in
    let entry = listed c.args.entry.now in
    let reads : IsReadTree c.args.entry.now.text.items c.args.entry.now.flags t = subst (λ text. IsReadTree text c.args.entry.now.flags t) c.deref.ensures.value c.in-Ok.ensures.read in
    let few : c.args.number ≤ greatest_count = c.in_default.ensures.least before stands.count reads in
    entry-done entry t reads c.in_default.ensures.late c.args.seen.now c.args.counts c.in-Some-counts_with.next c.args.number c.in-Some-size.size few c.in_ok-chains.chains c.in_ok-chains.ensures.chains
    (λ es Q x short kept read are own sized. c.in-Some-counts_with.ensures es Q x short kept read are own (sized ∙ ap (λ (cs : List Chain). chains_size (map plain_chain cs)) (sym c.deref-2.ensures.value)))
    c.in-Some-size.ensures before P stands c.in-Ok.ensures.proper c.in-Ok.ensures.plain c.in_ok-chains.ensures.runnable
    (late-told entry t reads c.in_default.ensures.late c.args.seen.now c.args.counts c.in-Some-counts_with.next c.args.number c.in-Some-size.size few c.in_ok-chains.chains c.in_ok-chains.ensures.chains
    (λ es Q x short kept read are own sized. c.in-Some-counts_with.ensures es Q x short kept read are own (sized ∙ ap (λ (cs : List Chain). chains_size (map plain_chain cs)) (sym c.deref-2.ensures.value)))
    c.in-Some-size.ensures before P stands (λ (Q : List Pattern). ((refusal : Refusal) → HasRefusal before entry refusal → ⊥) × IsSmall Q)
    (λ x kept read small own sized low late. c.in_default-late_refusal.ensures before P x kept read small own sized low late))

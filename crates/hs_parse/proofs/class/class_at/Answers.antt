use Rattle.std.proofs.Common.{arith}
use Rattle.hs_parse.specs.Tokens.{faulty, ClassToken}
use Rattle.hs_parse.proofs.ClassLemmas.{start_within, items_within}
use Rattle.hs_parse.proofs.ReadingLemmas.{as_closed, as_unclosed, as_refused, closed_at, unclosed_at, refused_at, fault_on}
use Rattle.hs_parse.proofs.class.class_at.Goals as goal

pub items_of-requires-clause-within : goal.items_of-requires-clause-within
items_of-requires-clause-within c =
    let begun = start_within c.args.text.now c.args.at c.requires.within in omega (arith, begun.1, c.items_start.ensures)

pub returns-in_err-set : goal.returns-in_err-set
returns-in_err-set c =
    let here : ClassToken c.args.text.now c.args.mode c.args.at (faulty c.in_err-set.field-0.0) c.args.at =
    refused_at _ _ _ _ (as_refused _ _ _ _ _ c.items_start.ensures c.in_err-set.ensures) in
    fault_on _ (λ refusal. ClassToken c.args.text.now c.args.mode c.args.at (faulty refusal) c.args.at)
    c.from_residual.result _ c.from_residual.ensures here

pub returns-in_default : goal.returns-in_default
returns-in_default c =
    unclosed_at _ _ _ (as_unclosed _ _ _ _ _ c.items_start.ensures c.in_default.is c.in_ok-set.ensures)

pub overflow_add-result : goal.overflow_add-result
overflow_add-result c =
    let there = as_closed _ _ _ _ _ _ _ c.items_start.ensures c.in-Some.is c.in_ok-set.ensures in
    let begun = start_within c.args.text.now c.args.at c.requires.within in
    let far = items_within there.0.items begun.1 in
    omega (arith, far.1)

pub returns : goal.returns
returns c =
    let there = as_closed _ _ _ _ _ _ _ c.items_start.ensures c.in-Some.is c.in_ok-set.ensures in
    closed_at _ _ _ _ _ _ there.0 there.1 c.class_of.ensures

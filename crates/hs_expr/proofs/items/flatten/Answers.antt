use Rattle.hs_expr.specs.Meaning.{tree_of}
use Rattle.hs_expr.proofs.ItemLemmas.{items-have_spans, items-proper}
use Rattle.hs_expr.proofs.items.flatten.Goals as goal

pub returns-clause-spans : goal.returns-clause-spans
returns-clause-spans c =
    let same = rw c.new-items.ensures.items at c.in_ok-push_items.ensures in
    rw same (items-have_spans (tree_of c.args.expr.now))

pub returns-clause-proper : goal.returns-clause-proper
returns-clause-proper c proper =
    let same = rw c.new-items.ensures.items at c.in_ok-push_items.ensures in
    rw same (items-proper (tree_of c.args.expr.now) proper)

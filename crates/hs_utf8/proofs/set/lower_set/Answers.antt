use Rattle.std.proofs.Common.{List, map, subst}
use Rattle.hs_expr.specs.Meaning.{tree_of}
use Rattle.hs_expr.specs.declared.expr.Expr.{Expr}
use Rattle.hs_utf8.specs.Steps.{AddsAscii}
use Rattle.hs_utf8.proofs.SetLemmas.{set-lowered}
use Rattle.hs_utf8.proofs.set.lower_set.Goals as goal

pub returns : goal.returns
returns c =
    let rs = c.in_ok-class.class.ranges.items in
    let middle = map tree_of c.push_ascii.new.parts.items in
    set-lowered rs c.args.ranges.now middle (map tree_of c.push_runs.new.parts.items) (tree_of c.alternatives.result)
    c.in_ok-class.ensures
    (subst (λ (es : List Expr). AddsAscii rs (map tree_of es) middle) c.new-parts.ensures.items c.in_ok-push_ascii.ensures)
    c.in_ok-push_runs.ensures c.alternatives.ensures

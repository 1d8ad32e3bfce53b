use Rattle.std.proofs.Common.{Result, Ok, Err, IfOk}
use Rattle.hs_expr.specs.Meaning.{tree_of}
use Rattle.hs_expr.specs.declared.expr.Expr.{Expr}
use Rattle.hs_base.specs.Trees.{IsProper}
use Rattle.hs_base.specs.WrittenOut.{IsPlain}
use Rattle.hs_expr.specs.Items.{HaveSameSpans}
use Rattle.hs_utf8.specs.Lowered.{IsLowered, HasNoPoints}
use Rattle.hs_utf8.proofs.PartLemmas.{lowered-no_points, lowered-proper, proper-plain}
use Rattle.hs_utf8.proofs.SpanLemmas.{lowered-spans}
use Rattle.hs_utf8.proofs.lowering.lower.Goals as goal

-- what follows from one fact of a result follows where there is one
if_ok-map : {E : Type 0} (P Q : Expr → Type 0) (r : Result Expr E) → ((e : Expr) → P e → Q e) → IfOk r P → IfOk r Q
if_ok-map P Q (Ok e) carry is = carry e is
if_ok-map P Q (Err error) carry is = is

pub returns-clause-spans : goal.returns-clause-spans
returns-clause-spans c =
    let t = tree_of c.args.expr.now in
    if_ok-map (λ e. IsLowered t (tree_of e)) (λ e. HaveSameSpans (tree_of e) t) c.lower_node.result
    (λ e is. lowered-spans t (tree_of e) is) c.lower_node.ensures

pub returns-clause-no_points : goal.returns-clause-no_points
returns-clause-no_points c =
    let t = tree_of c.args.expr.now in
    if_ok-map (λ e. IsLowered t (tree_of e)) (λ e. HasNoPoints (tree_of e)) c.lower_node.result
    (λ e is. lowered-no_points t (tree_of e) is) c.lower_node.ensures

pub returns-clause-proper : goal.returns-clause-proper
returns-clause-proper c =
    let t = tree_of c.args.expr.now in
    if_ok-map (λ e. IsLowered t (tree_of e)) (λ e. IsProper t → IsProper (tree_of e)) c.lower_node.result
    (λ e is. lowered-proper t (tree_of e) is) c.lower_node.ensures

pub returns-clause-plain : goal.returns-clause-plain
returns-clause-plain c =
    let t = tree_of c.args.expr.now in
    if_ok-map (λ e. IsLowered t (tree_of e)) (λ e. IsProper t → IsPlain (tree_of e)) c.lower_node.result
    (λ e is proper. proper-plain (tree_of e) (lowered-no_points t (tree_of e) is) (lowered-proper t (tree_of e) is proper))
    c.lower_node.ensures

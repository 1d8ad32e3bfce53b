use Rattle.std.proofs.Common.{◌≡◌, ℕ, None, sym, subst, ◌∙◌, arith}
use Rattle.hs_base.specs.Chains.{chains_of}
use Rattle.hs_base.specs.declared.refusal.Refusal.TheVariants.{PositionLimit}
use Rattle.hs_expr.specs.Meaning.{tree_of}
use Rattle.hs_support.specs.PieceCounts.{first_excess_of}
use Rattle.hs_support.specs.Refused.{HasRefusal, IsLeast}
use Rattle.hs_support.proofs.RefusedLemmas.{unsupported-least, empty-least, end-least, limit-least, no-excess, some-excess, order-least}
use Rattle.hs_support.proofs.checking.check.Goals as goal

pub returns-in-Some : goal.returns-in-Some
returns-in-Some c = unsupported-least c.args.flags c.args.ext (tree_of c.args.expr.now) c.in-Some.refusal c.in-Some.ensures

pub returns-then-needs_leave_to_be_empty : goal.returns-then-needs_leave_to_be_empty
returns-then-needs_leave_to_be_empty c =
    let (not_allowed, spans) = c.if-needs_leave_to_be_empty.ensures in
    empty-least c.args.flags c.args.ext (tree_of c.args.expr.now) c.in_default.ensures not_allowed spans

pub returns-then-has_embedded_end : goal.returns-then-has_embedded_end
returns-then-has_embedded_end c =
    end-least c.args.flags c.args.ext (tree_of c.args.expr.now) c.in_default.ensures c.if-needs_leave_to_be_empty.ensures
    (sym c.has_embedded_end.ensures ∙ c.if-has_embedded_end.true)

pub returns-in-Some-excess_positions : goal.returns-in-Some-excess_positions
returns-in-Some-excess_positions c =
    let (count, is, told) = some-excess (first_excess_of (chains_of (tree_of c.args.expr.now))) c.in-Some-excess_positions.count (sym c.in-Some-excess_positions.is ∙ c.excess_positions.ensures) in
    subst (λ n. IsLeast (HasRefusal c.args.flags c.args.ext (tree_of c.args.expr.now)) (PositionLimit n)) (sym told)
    (limit-least c.args.flags c.args.ext (tree_of c.args.expr.now) c.in_default.ensures c.if-needs_leave_to_be_empty.ensures (sym c.has_embedded_end.ensures ∙ c.if-has_embedded_end.false) count is)

pub returns-then-ext : goal.returns-then-ext
returns-then-ext c =
    let few : first_excess_of (chains_of (tree_of c.args.expr.now)) ≡ None = no-excess (first_excess_of (chains_of (tree_of c.args.expr.now))) (sym c.in_default-excess_positions.is ∙ c.excess_positions.ensures) in
    order-least c.args.flags c.args.ext (tree_of c.args.expr.now) c.in_default.ensures c.if-needs_leave_to_be_empty.ensures (sym c.has_embedded_end.ensures ∙ c.if-has_embedded_end.false) few (omega arith)

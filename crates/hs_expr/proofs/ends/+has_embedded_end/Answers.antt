use Rattle.std.proofs.Common.{◌≡◌, ◌+◌, ◌-◌, ◌||◌, map, drop, sym, subst, ◌∙◌, arith}
use Rattle.hs_base.specs.EndAssertions.{one_may_consume}
use Rattle.hs_expr.specs.Meaning.{tree_of, trees_of}
use Rattle.hs_expr.proofs.EndLemmas.{sequence-has}
use Rattle.hs_expr.proofs.ends.+has_embedded_end.Goals as goal

pub sequence_has_embedded_end-returns-then-has_embedded_end : goal.sequence_has_embedded_end-returns-then-has_embedded_end
sequence_has_embedded_end-returns-then-has_embedded_end t c =
    let back : c.loop-left.left ≡ c.loop-left.left - 1 + 1 = omega arith in
    let consumes = subst (λ n. c.loop-left.consumed ≡ (c.args.after || one_may_consume (trees_of (map tree_of (drop n c.args.items.now))))) back c.loop-left.invariant.consumed in
    sym (sequence-has c.args.items.now (c.loop-left.left - 1) c.index-items-left.result c.args.after c.loop-left.consumed (omega arith) c.index-items-left.is consumes (sym c.has_embedded_end.ensures ∙ c.if-has_embedded_end.true))

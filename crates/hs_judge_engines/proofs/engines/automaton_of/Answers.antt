use Rattle.std.proofs.Common.{rules, ◌≡◌, arith}
use Rattle.hs_base.specs.WrittenOut.{IsPlain, count, write_out}
use Rattle.hs_expr.specs.Counts.{positions}
use Rattle.hs_expr.specs.Meaning.{tree_of}
use Rattle.hs_glushkov.proofs.CountLemmas.{count-written}
use Rattle.hs_judge_engines.proofs.engines.automaton_of.Goals as goal

pub build-requires-clause-few : goal.build-requires-clause-few
build-requires-clause-few c =
    let plain : IsPlain (tree_of c.args.expr.now) = search rules in
    let all : count (write_out (tree_of c.args.expr.now)) ≡ positions (tree_of c.args.expr.now) = count-written (tree_of c.args.expr.now) plain in
    omega (arith, all, c.positions.ensures)

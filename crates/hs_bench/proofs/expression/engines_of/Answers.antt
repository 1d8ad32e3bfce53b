use Rattle.std.proofs.Common.{rules, ◌≡◌, arith}
use Rattle.hs_base.specs.WrittenOut.{IsPlain, count, write_out}
use Rattle.hs_expr.specs.Counts.{positions}
use Rattle.hs_expr.specs.Meaning.{tree_of}
use Rattle.hs_glushkov.proofs.CountLemmas.{count-written}
use Rattle.hs_bench.proofs.expression.engines_of.Goals as goal

pub make-requires-clause-few : goal.make-requires-clause-few
make-requires-clause-few c =
    let plain : IsPlain (tree_of c.args.expr) = search rules in
    let all : count (write_out (tree_of c.args.expr)) ≡ positions (tree_of c.args.expr) = count-written (tree_of c.args.expr) plain in
    omega (arith, all, c.positions.ensures)

use Rattle.std.proofs.Common.{◌≡◌, arith}
use Rattle.hs_base.specs.WrittenOut.{count, write_out}
use Rattle.hs_expr.specs.Counts.{positions}
use Rattle.hs_expr.specs.Meaning.{tree_of}
use Rattle.hs_glushkov.proofs.CountLemmas.{count-written}
use Rattle.hs_kept.proofs.ToldLemmas.{sets-told, told-empty}
use Rattle.hs_kept.proofs.builder.sets_of.Goals as goal

pub returns-then-positions-eq0 : goal.returns-then-positions-eq0
returns-then-positions-eq0 c =
    let all : count (write_out (tree_of c.args.expr.now)) ≡ positions (tree_of c.args.expr.now) = count-written (tree_of c.args.expr.now) c.requires.plain in
    told-empty (tree_of c.args.expr.now) (omega (arith, all, c.positions.ensures, c.requires.few, c.if-positions-eq0.true))

pub returns-in_ok-automaton : goal.returns-in_ok-automaton
returns-in_ok-automaton c =
    let all : count (write_out (tree_of c.args.expr.now)) ≡ positions (tree_of c.args.expr.now) = count-written (tree_of c.args.expr.now) c.requires.plain in
    sets-told (tree_of c.args.expr.now) c.in_ok-automaton.automaton c.build-else-positions-eq0.result
    (omega (arith, all, c.positions.ensures, c.requires.few, c.if-positions-eq0.false)) c.in_ok-automaton.ensures.runs c.in_ok-automaton.ensures.assertion c.build-else-positions-eq0.ensures.some c.build-else-positions-eq0.ensures.none

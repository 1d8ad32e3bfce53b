use Rattle.std.proofs.Common.{arith}
use Rattle.std.proofs.lemmas.Option.{slice_get-get_or}
use Rattle.hs_compile.proofs.EndLemmas.{terminals-step}
use Rattle.hs_compile.proofs.graph_terminals.terminals_of.Goals as goal

pub loop-k-preserved : goal.loop-k-preserved
loop-k-preserved c =
    terminals-step c.args.program.now c.args.lasts.now c.args.count c.loop-k.k _ c.args.numbers.now c.terminal_of.result c.loop-k.terminals.items c.push.new.self.items
    (slice_get-get_or c.args.numbers.now c.loop-k.k 0 (omega (arith, c.loop-k-test.true))) c.terminal_of.ensures c.in_ok-push.ensures.items c.loop-k.invariant

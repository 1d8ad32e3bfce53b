use Rattle.std.proofs.Common.{take}
use Rattle.hs_compile.specs.GraphEnds.{AreTerminalsOf}
use Rattle.hs_compile.proofs.graph_terminals.terminals_of.Given as goal

abbrev pub invariant-loop-k : goal.invariant-loop-k
invariant-loop-k l = AreTerminalsOf l.program l.lasts l.count (take l.k l.numbers) l.terminals.items

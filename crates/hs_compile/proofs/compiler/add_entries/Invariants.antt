use Rattle.std.proofs.Common.{take}
use Rattle.hs_compile.specs.Remembered.{AreAdded}
use Rattle.hs_compile.proofs.compiler.add_entries.Given as goal

abbrev pub invariant-loop-i : goal.invariant-loop-i
invariant-loop-i l = AreAdded (take l.i l.entries) l.seen l.counts l.builder l.packing

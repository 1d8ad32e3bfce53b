use Rattle.std.proofs.Common.{◌≡◌, length, take}
use Rattle.hs_rose.specs.Identifiers.{singles_of}
use Rattle.hs_compile.proofs.laying.count_singles.Given as goal

abbrev pub invariant-loop-i : goal.invariant-loop-i
invariant-loop-i l = l.count ≡ length (singles_of (take l.i l.identifiers))

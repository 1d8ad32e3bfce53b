use Rattle.std.proofs.Common.{◌≡◌, length}
use Rattle.hs_bench.proofs.blocks.measure.Given as goal

abbrev pub invariant-loop-round : goal.invariant-loop-round
invariant-loop-round g l = l.fastest.bytes ≡ length l.text

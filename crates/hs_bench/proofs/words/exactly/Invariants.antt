use Rattle.std.proofs.Common.{◌≡◌, map, take}
use Rattle.hs_base.specs.LiteralView.{literal_byte}
use Rattle.hs_bench.specs.Words.{exact}
use Rattle.hs_bench.proofs.words.exactly.Given as goal

abbrev pub invariant-loop-byte : goal.invariant-loop-byte
invariant-loop-byte l = map literal_byte l.literal.items ≡ exact (take l.byte-index l.line)

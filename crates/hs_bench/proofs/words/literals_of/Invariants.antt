use Rattle.std.proofs.Common.{◌≡◌, map, filter}
use Rattle.hs_bench.specs.Words.{exact, is_looked_for}
use Rattle.hs_base.specs.LiteralView.{literal_bytes}
use Rattle.hs_bench.proofs.words.literals_of.Given as goal

abbrev pub invariant-loop-line : goal.invariant-loop-line
invariant-loop-line l = map literal_bytes l.literals.items ≡ map exact (filter is_looked_for (map (λ line. line.now) l.yielded))

use Rattle.std.proofs.Common.{map}
use Rattle.hs_base.specs.LiteralView.{literal_bytes}
use Rattle.hs_compile.specs.Arranging.{GivesNodes}
use Rattle.hs_compile.proofs.arranging.Numbering.take.Given as goal

abbrev pub invariant-loop-k : goal.invariant-loop-k
invariant-loop-k l = GivesNodes (map literal_bytes l.named) (map literal_bytes l.fn.self.literals.items) (map literal_bytes l.self.literals.items) l.self.numbers.items l.openings l.wanted l.k l.fn.nodes l.nodes

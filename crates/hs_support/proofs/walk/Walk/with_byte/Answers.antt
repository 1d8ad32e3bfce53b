use Rattle.std.proofs.Common.{arith}
use Rattle.hs_support.proofs.WalkLemmas.{byte-leads, full-leads}
use Rattle.hs_support.proofs.walk.Walk.with_byte.Goals as goal

pub returns-then-self-lt-MOST_LITERAL_BYTES : goal.returns-then-self-lt-MOST_LITERAL_BYTES
returns-then-self-lt-MOST_LITERAL_BYTES c x parts answer leads =
    byte-leads c.args.self.found c.args.self.count c.args.self.run x parts answer leads

pub returns : goal.returns
returns c x parts answer leads =
    full-leads c.args.self.found c.first_excess.result c.args.self.count c.args.self.run x parts answer
    (omega (arith, c.args.self.short, c.if-self-lt-MOST_LITERAL_BYTES.false)) c.first_excess.ensures leads

use Rattle.std.proofs.Common.{arith}
use Rattle.hs_expr.proofs.LiteralSetLemmas.{letter-is, one-is}
use Rattle.hs_expr.proofs.literal_set.literal_byte_of.Goals as goal

pub returns-then-eq : goal.returns-then-eq
returns-then-eq c =
    one-is c.args.set.now c.of.result c.eq.result c.one.result c.least_byte-least.result (omega arith) c.eq.ensures c.if-eq.true c.of.ensures c.one.ensures.byte c.one.ensures.case

pub returns-then-eq-2 : goal.returns-then-eq-2
returns-then-eq-2 c =
    letter-is c.args.set.now c.set.result c.eq-then-is_ascii_lowercase.result c.letter-letter.result c.eq-then-is_ascii_lowercase.ensures c.if-eq-2.true c.set.ensures c.letter-letter.ensures.case
    (c.letter-letter.result.small c.letter-letter.ensures.case)

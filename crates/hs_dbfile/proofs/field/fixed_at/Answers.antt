use Rattle.std.proofs.Common.{arith}
use Rattle.hs_dbfile.proofs.FieldLemmas.{fixed_stop}
use Rattle.hs_dbfile.proofs.field.fixed_at.Goals as goal

pub returns-in_default : goal.returns-in_default
returns-in_default c =
    fixed_stop c.args.fixed.now c.args.bytes.now c.loop-byte.rest.now c.loop-byte.byte-index c.loop-byte-test.true c.loop-byte.invariant (λ some e. let none = c.in_default.len_below in omega (arith, none, some))

pub returns-then-first-byte : goal.returns-then-first-byte
returns-then-first-byte c =
    fixed_stop c.args.fixed.now c.args.bytes.now c.loop-byte.rest.now c.loop-byte.byte-index c.loop-byte-test.true c.loop-byte.invariant (λ some e. c.if-first-byte.true e)

use Rattle.std.proofs.Common.{arith}
use Rattle.hs_dbfile.proofs.FieldLemmas.{flags_stop, flags_none}
use Rattle.hs_dbfile.proofs.parts.flags_at.Goals as goal

pub returns-in-empty : goal.returns-in-empty
returns-in-empty c = flags_none c.args.bytes.now (let short = c.in-empty.len_below in omega (arith, short))

pub returns-in-len1 : goal.returns-in-len1
returns-in-len1 c =
    let some = c.in-len1.len_at_least in
    let few = c.in-len1.len_below in
    flags_stop c.args.bytes.now (λ i. let b = c.type_inv.bytes i in omega (arith, b)) (omega (arith, some)) (λ long. omega (arith, few, long))

pub returns-else-high-lt-HIGH_FLAGS : goal.returns-else-high-lt-HIGH_FLAGS
returns-else-high-lt-HIGH_FLAGS c =
    let some = c.in-len2-up.len_at_least in
    let high = c.if-high-lt-HIGH_FLAGS.false in
    flags_stop c.args.bytes.now (λ i. let b = c.type_inv.bytes i in omega (arith, b)) (omega (arith, some)) (λ long. omega (arith, high))

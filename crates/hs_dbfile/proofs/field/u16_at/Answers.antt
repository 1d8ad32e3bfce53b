use Rattle.std.proofs.Common.{arith}
use Rattle.std.specs.Int.{w16, to_le_bytes, from_le_bytes}
use Rattle.hs_dbfile.proofs.NumberLemmas.{code_16, number_cut, number_read}
use Rattle.hs_dbfile.proofs.field.u16_at.Goals as goal

pub returns-in-None : goal.returns-in-None
returns-in-None c =
    number_cut (to_le_bytes w16) (from_le_bytes w16) 2 65536 c.args.bytes.now c.cut.result.rest.now code_16 (λ i. let b = c.type_inv.bytes i in omega (arith, b)) c.in-None.ensures.cases c.cut.ensures

pub returns-in-Some : goal.returns-in-Some
returns-in-Some c =
    let cases = c.in-Some.ensures.cases in
    let left = cases.2 in
    number_read
    (to_le_bytes w16)
    (from_le_bytes w16)
    2
    65536
    c.args.bytes.now
    c.in-Some.number.now
    c.in-Some.rest.now
    c.from_le_bytes.result
    code_16
    (λ i. let b = c.type_inv.bytes i in omega (arith, b))
    (omega (arith, left))
    cases.0
    cases.1
    c.from_le_bytes.ensures

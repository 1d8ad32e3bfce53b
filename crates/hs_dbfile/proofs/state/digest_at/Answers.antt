use Rattle.std.proofs.Common.{arith}
use Rattle.hs_dbfile.proofs.StateLemmas.{digest_cut, digest_read}
use Rattle.hs_dbfile.proofs.state.digest_at.Goals as goal

pub returns-in-None : goal.returns-in-None
returns-in-None c =
    digest_cut c.args.bytes.now c.cut.result.rest.now (λ i. let b = c.type_inv.bytes i in omega (arith, b)) c.in-None.ensures.cases c.cut.ensures

pub returns-in-Some : goal.returns-in-Some
returns-in-Some c =
    let cases = c.in-Some.ensures.cases in
    let left = cases.2 in
    digest_read c.args.bytes.now c.in-Some.digest.now c.in-Some.rest.now (λ i. let b = c.type_inv.bytes i in omega (arith, b)) (omega (arith, left)) cases.0 cases.1

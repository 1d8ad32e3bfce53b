use Rattle.std.proofs.Common.{arith}
use Rattle.hs_dbfile.proofs.CodeLemmas.{when_err}
use Rattle.hs_dbfile.proofs.StateLemmas.{region_stop_length, region_stop_cut, region_read}
use Rattle.hs_dbfile.proofs.state.region_at.Goals as goal

pub returns-in_err-length : goal.returns-in_err-length
returns-in_err-length c =
    when_err c.from_residual.result c.in_err-length.field-0.0 _ _ c.from_residual.ensures.1 (region_stop_length _ _ c.in_err-length.ensures)

pub returns-in-None : goal.returns-in-None
returns-in-None c =
    region_stop_cut c.args.bytes.now c.in_ok-length.behind.now c.cut.result.rest.now c.in_ok-length.length c.in_ok-length.ensures (λ i. let b = c.type_inv.bytes i in omega (arith, b)) c.in-None.ensures.cases c.cut.ensures

pub returns-in-Some : goal.returns-in-Some
returns-in-Some c =
    let cases = c.in-Some.ensures.cases in
    let long = cases.0 in
    region_read c.args.bytes.now c.in_ok-length.behind.now c.in-Some.region.now c.in-Some.rest.now c.in_ok-length.length c.in_ok-length.ensures (λ i. let b = c.type_inv.bytes i in omega (arith, b)) (omega (arith, long)) cases.1 cases.2

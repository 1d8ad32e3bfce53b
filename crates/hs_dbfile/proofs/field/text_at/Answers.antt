use Rattle.std.proofs.Common.{arith, subst, sym}
use Rattle.std.specs.Int.{w16, to_le_bytes}
use Rattle.hs_dbfile.specs.Reading.{IsRead}
use Rattle.hs_dbfile.proofs.CodeLemmas.{when_err}
use Rattle.hs_dbfile.proofs.NumberLemmas.{IsBelow}
use Rattle.hs_dbfile.proofs.FieldLemmas.{text_stop_length, text_stop_cut, text_read}
use Rattle.hs_dbfile.proofs.field.text_at.Goals as goal

pub returns-in_err-length : goal.returns-in_err-length
returns-in_err-length c =
    when_err c.from_residual.result c.in_err-length.field-0.0 _ _ c.from_residual.ensures.1 (text_stop_length _ _ c.in_err-length.ensures)

pub returns-in-None : goal.returns-in-None
returns-in-None c =
    let read = subst (λ n. IsRead (to_le_bytes w16) (IsBelow 65536) c.args.bytes.now n c.in_ok-length.behind.now) (sym c.from.ensures) c.in_ok-length.ensures in
    text_stop_cut c.args.bytes.now c.in_ok-length.behind.now c.cut.result.rest.now c.from.result read (λ i. let b = c.type_inv.bytes i in omega (arith, b)) c.in-None.ensures.cases c.cut.ensures

pub returns-in-Some : goal.returns-in-Some
returns-in-Some c =
    let cases = c.in-Some.ensures.cases in
    let read = subst (λ n. IsRead (to_le_bytes w16) (IsBelow 65536) c.args.bytes.now n c.in_ok-length.behind.now) (sym c.from.ensures) c.in_ok-length.ensures in
    text_read c.args.bytes.now c.in_ok-length.behind.now c.in-Some.text.now c.in-Some.rest.now c.from.result read (λ i. let b = c.type_inv.bytes i in omega (arith, b)) cases.1 cases.2 cases.3

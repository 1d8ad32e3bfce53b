use Rattle.std.proofs.Common.{arith}
use Rattle.hs_dbfile.proofs.CodeLemmas.{match_weaken, when_err}
use Rattle.hs_dbfile.proofs.FieldLemmas.{given_stop, given_read, missing_stop}
use Rattle.hs_dbfile.proofs.field.bound_at.Goals as goal

pub returns-then-given-ne0 : goal.returns-then-given-ne0
returns-then-given-ne0 c =
    match_weaken
    c.u64_at.result
    _
    _
    _
    _
    (λ read p. given_read c.args.given c.args.missing c.args.bytes.now read.0 read.1.now (λ none. let given = c.if-given-ne0.true in omega (arith, given, none)) p)
    (λ stop s. given_stop c.args.given c.args.missing c.args.bytes.now stop.rest.now (λ none. let given = c.if-given-ne0.true in omega (arith, given, none)) s)
    c.u64_at.ensures

pub returns-in_err-rest : goal.returns-in_err-rest
returns-in_err-rest c =
    when_err c.from_residual.result c.in_err-rest.field-0.0 _ _ c.from_residual.ensures.1 (missing_stop c.args.given c.args.missing c.to_le_bytes.result c.args.bytes.now c.in_err-rest.field-0.0.rest.now (let none = c.if-given-ne0.false in omega (arith, none)) (let fits = c.ranges.missing.fits in omega (arith, fits)) c.to_le_bytes.ensures c.in_err-rest.ensures)

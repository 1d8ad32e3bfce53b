use Rattle.hs_dbfile.proofs.CodeLemmas.{match_weaken, when_err}
use Rattle.hs_dbfile.proofs.FileLemmas.{start_stop_head, start_stop_count, start_read}
use Rattle.hs_dbfile.proofs.reading.start_at.Goals as goal

pub returns-in_err-behind : goal.returns-in_err-behind
returns-in_err-behind c =
    when_err c.from_residual.result c.in_err-behind.field-0.0 _ _ c.from_residual.ensures.1 (start_stop_head c.args.bytes.now c.in_err-behind.field-0.0.rest.now c.in_err-behind.ensures)

pub returns : goal.returns
returns c =
    match_weaken
    c.u32_at.result
    _
    _
    _
    _
    (λ read p. start_read c.args.bytes.now c.in_ok-behind.behind.now read.1.now read.0 c.in_ok-behind.ensures p)
    (λ stop s. start_stop_count c.args.bytes.now c.in_ok-behind.behind.now stop.rest.now c.in_ok-behind.ensures s)
    c.u32_at.ensures

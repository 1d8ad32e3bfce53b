use Rattle.std.proofs.Common.{◌∙◌, ap, map, string_bytes}
use Rattle.clap.specs.Words.{is_simple_and_free}
use Rattle.hs_request.specs.Requests.{request_of}
use Rattle.hs_request.proofs.WordLemmas.{taken, not_taken, no_request, free}
use Rattle.hs_request.proofs.request.request_of.Goals as goal

pub returns-in-Ok : goal.returns-in-Ok
returns-in-Ok c =
    let is = c.in_ok-command.ensures in
    c.chosen.ensures
    ∙ taken c.in_ok-command.command (map string_bytes c.args.words.now) c.in-Ok.matches is (c.in-Ok.ensures.kinds (ap is_simple_and_free is.shape ∙ free)) c.in-Ok.ensures.matches

pub returns-in-Err : goal.returns-in-Err
returns-in-Err c =
    let is = c.in_ok-command.ensures in
    no_request c.not_taken.result (request_of (map string_bytes c.args.words.now)) c.not_taken.ensures.none c.not_taken.ensures.kind
    (not_taken c.in_ok-command.command (map string_bytes c.args.words.now) c.in-Err.error is (c.in-Err.ensures.kinds (ap is_simple_and_free is.shape ∙ free)))

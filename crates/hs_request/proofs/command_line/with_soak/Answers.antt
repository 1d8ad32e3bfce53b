use Rattle.std.proofs.lemmas.Result.{IfOk-weaker}
use Rattle.hs_request.proofs.LineLemmas.{line-more}
use Rattle.hs_request.proofs.command_line.with_soak.Goals as goal

pub returns : goal.returns
returns c = IfOk-weaker c.subcommand.result _ _ (λ longer adds. record { more = λ before. line-more before c.in_ok-command.ensures adds }) c.subcommand.ensures

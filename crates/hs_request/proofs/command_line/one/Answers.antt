use Rattle.std.proofs.Common.{◌∙◌, ap}
use Rattle.std.proofs.lemmas.Result.{IfOk-weaker}
use Rattle.clap.specs.Words.{App, with_rule}
use Rattle.hs_request.specs.Requests.{operand}
use Rattle.hs_request.proofs.command_line.one.Goals as goal

pub returns : goal.returns
returns c =
    IfOk-weaker c.with_operand.result _ _ (λ command more. record {
      shape = more.shape ∙ ap (λ (a : App). with_rule a (operand c.args.operand.now)) c.new-command.ensures.app;
      plain = more.plain c.new-command.ensures.local;
    }) c.with_operand.ensures

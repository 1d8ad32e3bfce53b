use Rattle.std.proofs.Common.{◌∙◌, ap, codes}
use Rattle.std.proofs.lemmas.Result.{IfOk-weaker}
use Rattle.clap.specs.Words.{App, with_rule}
use Rattle.hs_request.specs.Requests.{number_operand}
use Rattle.hs_request.proofs.command_line.soak.Goals as goal

pub returns : goal.returns
returns c =
    let first = c.in_ok-command.ensures in
    IfOk-weaker c.with_number-2.result _ _ (λ command more. record {
      shape = more.shape ∙ ap (λ (a : App). with_rule a (number_operand (codes "N") 1 1000)) (first.shape ∙ ap (λ (a : App). with_rule a (number_operand (codes "SEED") 0 4294967295)) c.new-command.ensures.app);
      plain = more.plain (first.plain c.new-command.ensures.local);
    }) c.with_number-2.ensures

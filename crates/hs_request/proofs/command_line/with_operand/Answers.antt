use Rattle.std.proofs.Common.{◌≡◌, ◌||◌, ◌∙◌, ap, ap₂, true, false}
use Rattle.std.proofs.lemmas.Result.{IfOk-weaker}
use Rattle.clap.specs.Words.{Rule, app_of, rule_of, with_rule}
use Rattle.clap.specs.declared.builder.arg.Arg.{Arg}
use Rattle.hs_request.specs.Requests.{operand}
use Rattle.hs_request.proofs.command_line.with_operand.Goals as goal

pub returns : goal.returns
returns c =
    let rule_is : rule_of c.required-operand.result ≡ operand c.args.name.now = ap rule_of c.required-operand.ensures ∙ ap (λ (r : Rule). record r { required = true }) c.new.ensures.rule in
    let local : c.required-operand.result.global ≡ false = ap (λ (a : Arg). a.global) c.required-operand.ensures ∙ c.new.ensures.optional.1 in
    IfOk-weaker c.arg.result _ _ (λ more adds. record {
      shape = adds.shape local ∙ ap (with_rule (app_of c.args.command)) rule_is;
      plain = λ plain. adds.globals ∙ ap₂ (λ x y. x || y) plain local;
    }) c.arg.ensures

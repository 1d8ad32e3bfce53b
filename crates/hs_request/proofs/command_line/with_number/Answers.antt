use Rattle.std.proofs.Common.{◌≡◌, ◌||◌, ◌∙◌, ap, ap₂, true, false, Some}
use Rattle.std.proofs.lemmas.Result.{IfOk-weaker}
use Rattle.clap.specs.Words.{Rule, app_of, rule_of, with_rule}
use Rattle.clap.specs.declared.builder.arg.Arg.{Arg}
use Rattle.hs_request.specs.Requests.{operand}
use Rattle.hs_request.proofs.NumberLemmas.{numbered}
use Rattle.hs_request.proofs.command_line.with_number.Goals as goal

pub returns : goal.returns
returns c =
    let plain_is : rule_of c.required.result ≡ operand c.args.name.now = ap rule_of c.required.ensures ∙ ap (λ (r : Rule). record r { required = true }) c.new.ensures.rule in
    let given = c.value_parser-operand.ensures.given in
    let parser_is = given.1 ∙ ap Some (given.2 ∙ c.unsigned.ensures) in
    let rule_is = numbered c.required.result c.value_parser-operand.result c.args.name.now c.args.least c.args.greatest plain_is c.value_parser-operand.ensures.others parser_is in
    let local : c.value_parser-operand.result.global ≡ false = ap (λ (a : Arg). a.global) c.value_parser-operand.ensures.others ∙ (ap (λ (a : Arg). a.global) c.required.ensures ∙ c.new.ensures.optional.1) in
    IfOk-weaker c.arg.result _ _ (λ more adds. record {
      shape = adds.shape local ∙ ap (with_rule (app_of c.args.command)) rule_is;
      plain = λ plain. adds.globals ∙ ap₂ (λ x y. x || y) plain local;
    }) c.arg.ensures

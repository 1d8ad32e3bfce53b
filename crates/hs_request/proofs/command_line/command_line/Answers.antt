use Rattle.std.proofs.lemmas.Result.{IfOk-weaker}
use Rattle.hs_request.proofs.LineLemmas.{program-is}
use Rattle.hs_request.proofs.command_line.command_line.Goals as goal

pub returns : goal.returns
returns c =
    let start = program-is c.new.result c.subcommand_required.result c.disable_help_subcommand-line.result c.new.ensures.app c.new.ensures.local c.subcommand_required.ensures c.disable_help_subcommand-line.ensures in
    let first = c.in_ok-line.ensures.more start in
    let second = c.in_ok-line-2.ensures.more first in
    let third = c.in_ok-line-3.ensures.more second in
    let fourth = c.in_ok-line-4.ensures.more third in
    let fifth = c.in_ok-line-5.ensures.more fourth in
    let sixth = c.in_ok-line-6.ensures.more fifth in
    IfOk-weaker c.with_soak.result _ _ (λ line adds. adds.more sixth) c.with_soak.ensures

use Rattle.std.proofs.Common.{◌∙◌, decimal}
use Rattle.std.proofs.lemmas.Result.{IfOk-weaker}
use Rattle.hs_stream.proofs.SummaryLemmas.{regroup}
use Rattle.hs_stream.proofs.summaries.summary.Goals as goal

pub returns : goal.returns
returns c =
    IfOk-weaker c.format.result _ _ (λ text is. is ∙ regroup (decimal c.args.expressions) (decimal c.args.bytes) (decimal c.args.region) (decimal c.args.even.count) (decimal c.args.even.sum) (decimal c.args.cut.count) (decimal c.args.cut.sum))
    c.format.ensures.ok

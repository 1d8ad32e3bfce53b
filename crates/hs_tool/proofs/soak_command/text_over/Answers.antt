use Rattle.std.proofs.Common.{◌∙◌, length, refl, string_bytes}
use Rattle.std.proofs.lemmas.Result.{IfOk-weaker}
use Rattle.hs_tool.proofs.SoakLemmas.{soak-text}
use Rattle.hs_tool.proofs.soak_command.text_over.Goals as goal

pub returns : goal.returns
returns c seed entries bytes compiled =
    IfOk-weaker c.summary.result _ _ (λ text is.
    soak-text seed c.args.count c.args.database.now c.as_slice-bytes.result.now (string_bytes text) c.in_ok-even.even c.in_ok-cut.cut c.from.result (length c.as_slice-bytes.result.now) c.region_size-region.result
    c.from.ensures compiled (c.as_slice-bytes.ensures.value ∙ bytes) c.in_ok-even.ensures c.in_ok-cut.ensures refl c.region_size-region.ensures.size is
    ) c.summary.ensures

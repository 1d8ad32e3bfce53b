use Rattle.std.proofs.lemmas.Result.{IfOk-weaker}
use Rattle.hs_stream.proofs.CutRunLemmas.{swapped-region}
use Rattle.hs_stream.proofs.runs.go_on.Goals as goal

pub returns-then-is_saved-clause-region : goal.returns-then-is_saved-clause-region
returns-then-is_saved-clause-region g c = IfOk-weaker c.swap.result _ _ (λ next is. swapped-region c.args.db.now c.args.stream next c.requires is) c.swap.ensures

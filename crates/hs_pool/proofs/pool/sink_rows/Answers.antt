use Rattle.std.proofs.Common.{replicate, ◌++◌, ◌∷◌, [], List, ap, ◌∙◌}
use Rattle.hs_pool.proofs.BlankLemmas.{sink-row}
use Rattle.hs_pool.proofs.TableLemmas.{pushed}
use Rattle.hs_pool.proofs.pool.sink_rows.Goals as goal

pub returns-clause-none : goal.returns-clause-none
returns-clause-none c =
    sink-row c.push.new.self.items
    (pushed c.in_ok-rows.rows.items c.push.new.self.items (replicate 512 0) c.push.result c.in_ok-push.field-0 c.push.ensures.items c.in_ok-push.was
    ∙ ap (λ (l : List (List _)). l ++ replicate 512 0 ∷ []) c.in_ok-rows.ensures.items)

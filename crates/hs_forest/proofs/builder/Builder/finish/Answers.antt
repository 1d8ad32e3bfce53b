use Rattle.std.proofs.Common.{ℕ, List}
use Rattle.std.proofs.lemmas.Result.{IfOk-weaker}
use Rattle.hs_forest.specs.Forests.{ForestTables, IsForestOf}
use Rattle.hs_forest.specs.Growing.{IsBuilt, IsFinished}
use Rattle.hs_forest.proofs.BuilderLemmas.{built-forest}
use Rattle.hs_forest.proofs.builder.Builder.finish.Goals as goal

pub returns : goal.returns
returns c =
    IfOk-weaker c.finished.result (λ (forest : ForestTables). IsFinished c.args.self forest) (λ (forest : ForestTables). (chains : List (List ℕ)) → IsBuilt c.args.self chains → IsForestOf forest chains) (λ forest done chains built.
    built-forest c.args.self forest chains built done) c.finished.ensures

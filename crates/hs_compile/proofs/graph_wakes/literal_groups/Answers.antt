use Rattle.std.proofs.Common.{◌≡◌, sym, subst, ◌∙◌}
use Rattle.hs_compile.specs.GraphWakes.{waking_literals}
use Rattle.hs_forest.specs.Groups.{AreOwners}
use Rattle.hs_compile.proofs.WakeLemmas.{waking-owners}
use Rattle.hs_compile.proofs.graph_wakes.literal_groups.Goals as goal

pub group-requires : goal.group-requires
group-requires c =
    let are : c.deref.result.now ≡ waking_literals c.args.nodes.now = c.deref.ensures.value ∙ c.in_ok-wakers.ensures in
    subst (λ os. AreOwners os c.args.literals) (sym are) (waking-owners c.args.nodes.now c.args.literals c.requires)

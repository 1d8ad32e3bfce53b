use Rattle.std.proofs.Common.{ℕ, List, map, subst, Vec, Global}
use Rattle.std.proofs.lemmas.Result.{IfOk-weaker}
use Rattle.hs_forest.specs.declared.groups.Groups.{Groups}
use Rattle.hs_forest.specs.Groups.{AreGroups, AreJoined}
use Rattle.hs_forest.specs.Views.{numbers}
use Rattle.hs_forest.proofs.JoinLemmas.{groups-joined}
use Rattle.hs_forest.proofs.groups.group.Goals as goal

pub returns : goal.returns
returns c =
    IfOk-weaker c.joined.result (λ (groups : Groups). AreJoined (map numbers c.deref.result.now) groups.starts.items groups.list.items)
    (λ (groups : Groups). AreGroups c.args.owners.now c.args.count groups.starts.items groups.list.items) (λ groups are.
    groups-joined c.args.owners.now c.args.count (map numbers c.in_ok-lists.lists.items) groups.starts.items groups.list.items c.in_ok-lists.ensures
    (subst (λ (ls : List (Vec ℕ Global)). AreJoined (map numbers ls) groups.starts.items groups.list.items) c.deref.ensures.value are)) c.joined.ensures

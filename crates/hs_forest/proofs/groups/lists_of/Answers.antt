use Rattle.std.proofs.Common.{ℕ, None, get_or, map, subst, arith}
use Rattle.std.proofs.lemmas.Option.{slice_get-get_or}
use Rattle.hs_forest.specs.Groups.{IsNumberAdded}
use Rattle.hs_forest.specs.Views.{numbers}
use Rattle.hs_forest.proofs.GroupLemmas.{lists-step}
use Rattle.hs_forest.proofs.groups.lists_of.Goals as goal

pub loop-number-preserved : goal.loop-number-preserved
loop-number-preserved c =
    lists-step c.args.owners.now c.args.count c.loop-number.number (get_or c.args.owners.now c.loop-number.number None) (map numbers c.loop-number.lists.items) (map numbers c.add_number.new.lists.items) (omega arith)
    (slice_get-get_or c.args.owners.now c.loop-number.number None (omega arith)) c.loop-number.invariant
    (subst (λ (n : ℕ). IsNumberAdded (map numbers c.loop-number.lists.items) (get_or c.args.owners.now c.loop-number.number None) n (map numbers c.add_number.new.lists.items)) c.in_ok-node_number.ensures c.in_ok-add_number.ensures)

use Rattle.std.proofs.Common.{◌≡◌, ◌≤◌, ◌-◌}
use Rattle.hs_lists.specs.Endings.{greatest_list}
use Rattle.hs_lists.proofs.skipping.skip_rest.Given as goal

abbrev pub invariant-loop-n : goal.invariant-loop-n
invariant-loop-n g l = record {
  within : l.at ≤ greatest_list;
  told : g.S.Store.told l.store ≡ g.S.Store.told l.initial.store;
  counted : g.S.Store.faults l.store ≡ g.S.Store.faults l.initial.store;
}

abbrev pub decreases-loop-n : goal.decreases-loop-n
decreases-loop-n g l = greatest_list - l.at

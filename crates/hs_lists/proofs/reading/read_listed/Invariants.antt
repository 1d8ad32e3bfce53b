use Rattle.std.proofs.Common.{◌≡◌, ◌≤◌, ◌-◌, length}
use Rattle.hs_outside.specs.Store.{Begins}
use Rattle.hs_lists.specs.Endings.{greatest_list}
use Rattle.hs_lists.proofs.reading.read_listed.Given as goal

abbrev pub invariant-loop-bytes : goal.invariant-loop-bytes
invariant-loop-bytes g l = record {
  begins : Begins (g.S.Store.told l.initial.store l.name) l.bytes.items;
  within : length l.bytes.items ≤ greatest_list;
  told : g.S.Store.told l.store ≡ g.S.Store.told l.initial.store;
  counted : g.S.Store.faults l.store ≡ g.S.Store.faults l.initial.store;
}

abbrev pub decreases-loop-bytes : goal.decreases-loop-bytes
decreases-loop-bytes g l = greatest_list - length l.bytes.items

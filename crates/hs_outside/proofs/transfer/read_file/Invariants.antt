use Rattle.std.proofs.Common.{◌≡◌, ◌≤◌, ◌-◌, length}
use Rattle.hs_outside.specs.Store.{Begins}
use Rattle.hs_outside.proofs.transfer.read_file.Given as goal

abbrev pub invariant-loop-bytes : goal.invariant-loop-bytes
invariant-loop-bytes g l = record {
  begins : Begins (g.S.Store.told l.initial.store l.name) l.bytes.items;
  within : length l.bytes.items ≤ l.limit;
  told : g.S.Store.told l.store ≡ g.S.Store.told l.initial.store;
  counted : g.S.Store.faults l.store ≡ g.S.Store.faults l.initial.store;
}

abbrev pub decreases-loop-bytes : goal.decreases-loop-bytes
decreases-loop-bytes g l = l.limit - length l.bytes.items

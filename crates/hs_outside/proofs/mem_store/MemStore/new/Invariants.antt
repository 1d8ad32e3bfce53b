use Rattle.std.proofs.Common.{◌≡◌, All, length}
use Rattle.hs_outside.proofs.mem_store.MemStore.new.Given as goal

abbrev pub invariant-loop : goal.invariant-loop
invariant-loop l = record {
  count : length l.spare.items ≡ l.counter;
  sizes : All (λ slot. slot.room ≡ l.bytes) l.spare.items;
}

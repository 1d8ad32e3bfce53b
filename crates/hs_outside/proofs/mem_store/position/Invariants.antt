use Rattle.std.proofs.Common.{◌≢◌, ℕ, ◌<◌, get_or}
use Rattle.hs_outside.specs.MemFile.{Slot}
use Rattle.hs_outside.proofs.mem_store.position.Given as goal

abbrev pub invariant-loop-place : goal.invariant-loop-place
invariant-loop-place l = (k : ℕ) (d : Slot) → k < l.place → (get_or l.files k d).name ≢ l.name

use Rattle.std.proofs.Common.{◌≡◌, ℕ, ◌+◌, ◌-◌, ◌<◌, true, length}
use Rattle.hs_block.specs.Progress.{IsRunTo}
use Rattle.hs_block.specs.Rests.{is_busy_at}
use Rattle.hs_block.proofs.by_steps.run_by_steps.Given as goal

abbrev pub invariant-loop-progress : goal.invariant-loop-progress
invariant-loop-progress g l = record {
  ticks : ℕ;
  counted : l.steps ≡ l.fn.steps + ticks;
  len : length l.region ≡ (g.E.Engine.meaning l.engine).width;
  well : (g.E.Engine.meaning l.engine).well l.region (l.at + l.progress.place);
  busy : l.progress.place < length l.bytes → is_busy_at l.region l.enters l.progress.place ≡ true;
  run : IsRunTo (g.E.Engine.meaning l.engine) l.fn.region l.region l.fn.prev l.at l.enters l.bytes l.progress ticks;
}

abbrev pub decreases-loop-progress : goal.decreases-loop-progress
decreases-loop-progress g l = length l.bytes - l.progress.place

use Rattle.std.proofs.Common.{◌≡◌, ◌+◌, ◌*◌, ◌≤◌, length}
use Rattle.hs_run.specs.Programs.{window_room}
use Rattle.hs_run.proofs.DoneLemmas.{AreDone}
use Rattle.hs_run.proofs.TickLemmas.{IsBoundTo}
use Rattle.hs_run.proofs.moving.move_chains.Given as goal

abbrev pub invariant-loop-j : goal.invariant-loop-j
invariant-loop-j g l = record {
  ends : length l.ends ≡ length l.program.identifiers;
  window : length l.window ≡ window_room;
  ticks : IsBoundTo l.program l.j (λ n. l.steps ≤ l.fn.steps + 16 * n);
  done : AreDone l.program l.layout l.fn.region l.arrival.spot l.arrival.byte l.j l.region l.ends;
}

use Rattle.std.proofs.Common.{◌≡◌, ◌+◌, ◌*◌, ◌≤◌, length}
use Rattle.hs_run.specs.Programs.{window_room}
use Rattle.hs_run.proofs.EndedLemmas.{AreEnded}
use Rattle.hs_run.proofs.TickLemmas.{IsBoundTo}
use Rattle.hs_run.proofs.moving.end_chains.Given as goal

abbrev pub invariant-loop-j : goal.invariant-loop-j
invariant-loop-j g l = record {
  ends : length l.ends ≡ length l.program.identifiers;
  window : length l.window ≡ window_room;
  ticks : IsBoundTo l.program l.j (λ n. l.steps ≤ l.fn.steps + 8 * n);
  done : AreEnded l.program l.layout l.region l.spot l.j l.ends;
}

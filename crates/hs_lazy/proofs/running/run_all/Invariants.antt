use Rattle.std.proofs.Common.{◌≡◌, ℕ, ◌<◌, true, length, Some, slice_get}
use Rattle.hs_lazy.specs.declared.dfa.LazyDfa.{LazyDfa}
use Rattle.hs_lazy.specs.declared.parts.Run.{Run}
use Rattle.hs_lazy.specs.Caches.{AreSameImages}
use Rattle.hs_lazy.specs.Tables.{AreAllSound, member_in}
use Rattle.hs_lazy.specs.Walks.{IsChunkTaken}
use Rattle.hs_lazy.proofs.running.run_all.Given as goal

abbrev pub invariant-loop-at : goal.invariant-loop-at
invariant-loop-at g l = record {
  len : length l.list ≡ length l.fn.list;
  runs_len : length l.runs ≡ length l.fn.runs;
  sound : AreAllSound g.E.Engine.meaning l.engines l.list;
  members : (i k : ℕ) → member_in (slice_get l.list i) k ≡ member_in (slice_get l.fn.list i) k;
  images : AreSameImages l.fn.runs l.runs;
  taken : (i : ℕ) (dfa : LazyDfa) (run : Run) → i < l.at → slice_get l.list i ≡ Some dfa → slice_get l.runs i ≡ Some run →
      run.is_done ≡ true → IsChunkTaken dfa.states.items dfa.rows.items dfa.ends.items run l.prev l.bytes;
}

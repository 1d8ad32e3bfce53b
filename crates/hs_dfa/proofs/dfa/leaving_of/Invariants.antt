use Rattle.std.proofs.Common.{◌≡◌, ℕ, ◌+◌, ◌*◌, ◌<◌, false, slice_get, slice_index, vec_len}
use Rattle.hs_engine.specs.Automata.{in_set}
use Rattle.hs_dfa.proofs.dfa.leaving_of.Given as goal

abbrev pub invariant-loop-number : goal.invariant-loop-number
invariant-loop-number l = record {
  count : vec_len l.all ≡ l.number;
  each : (n b : ℕ) → n < l.number → b < 256 → in_set (slice_get l.all.items n) b ≡ false → slice_index l.rows (n * l.class_count + slice_index l.classes b) ≡ n;
}

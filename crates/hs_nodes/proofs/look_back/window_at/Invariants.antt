use Rattle.std.proofs.Common.{◌≡◌, ℕ, ◌+◌, ◌<◌, ◌++◌, length, get_or}
use Rattle.hs_nodes.proofs.look_back.window_at.Given as goal

abbrev pub invariant-loop-i : goal.invariant-loop-i
invariant-loop-i l = record {
  len : length l.window ≡ 16;
  bytes : (i : ℕ) → i < l.i → get_or l.window i 0 ≡ get_or (l.chunk.past.now ++ l.chunk.bytes.now) (l.begin + i) 0;
}

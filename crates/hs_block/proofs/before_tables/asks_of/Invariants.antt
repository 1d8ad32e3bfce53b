use Rattle.std.proofs.Common.{◌≡◌, ℕ, ◌<◌, get_or, length}
use Rattle.hs_block.proofs.OrderLemmas.{Asked}
use Rattle.hs_block.proofs.before_tables.asks_of.Given as goal

abbrev pub invariant-loop-position : goal.invariant-loop-position
invariant-loop-position l = record {
  count : length l.asks.items ≡ l.position;
  each : (x : ℕ) → x < l.position → Asked l.rests l.width x (get_or l.asks.items x 0);
}

use Rattle.std.proofs.Common.{◌≡◌, ℕ, ◌-◌, ◌<◌, ◌≤◌, true, false, length}
use Rattle.hs_base.specs.Bits.{has_word_bit}
use Rattle.hs_base.specs.Contexts.{Context}
use Rattle.hs_block.specs.StreamTables.{comes_before}
use Rattle.hs_block.proofs.streams.Streams.led_by.Given as goal

abbrev pub invariant-loop-position : goal.invariant-loop-position
invariant-loop-position g l = record {
  len : length l.todo ≡ g.row.W;
  within : l.from ≤ l.self.size;
  kept : (y : ℕ) → has_word_bit l.state y ≡ true → has_word_bit l.todo y ≡ true;
  led : (z y : ℕ) (c : Context) → z < l.self.size → y < l.from → has_word_bit l.todo z ≡ false → has_word_bit l.state y ≡ true → comes_before l.self z y c ≡ false;
}

abbrev pub decreases-loop-position : goal.decreases-loop-position
decreases-loop-position g l = l.self.size - l.from

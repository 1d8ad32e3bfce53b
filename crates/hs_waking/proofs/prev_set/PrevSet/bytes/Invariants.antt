use Rattle.std.proofs.Common.{◌≡◌, ℕ, ◌<◌, ◌≤◌, false, eqb}
use Rattle.hs_base.specs.Assertions.{line_feed, is_word_byte}
use Rattle.hs_base.specs.ByteSets.{has}
use Rattle.hs_base.specs.Contexts.{prev_by}
use Rattle.hs_waking.specs.PrevSets.{has_prev}
use Rattle.hs_waking.proofs.prev_set.PrevSet.bytes.Given as goal

abbrev pub invariant-loop-byte : goal.invariant-loop-byte
invariant-loop-byte l = record {
  done : (b : ℕ) → b < l.byte → has l.bytes b ≡ has_prev l.self (prev_by (eqb b line_feed) (is_word_byte b));
  later : (b : ℕ) → l.byte ≤ b → b < 256 → has l.bytes b ≡ false;
}

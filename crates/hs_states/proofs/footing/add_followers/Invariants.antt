use Rattle.std.proofs.Common.{◌≡◌, ℕ, ◌≤◌, ◌-◌, ◌&&◌, ◌||◌}
use Rattle.hs_base.specs.Bits.{has_word_bit}
use Rattle.hs_engine.specs.AnyBelow.{any_below}
use Rattle.hs_engine.specs.Between.{between}
use Rattle.hs_engine.specs.Rows.{in_row}
use Rattle.hs_states.proofs.footing.add_followers.Given as goal

abbrev pub invariant-loop-position : goal.invariant-loop-position
invariant-loop-position l = record {
  within : l.from ≤ l.size;
  led : (k : ℕ) →
      has_word_bit l.led k
      ≡ (any_below l.from (λ x. has_word_bit l.live x && in_row l.rows x k (between l.prev l.next)) || has_word_bit l.initial.led k);
}

abbrev pub decreases-loop-position : goal.decreases-loop-position
decreases-loop-position l = l.size - l.from

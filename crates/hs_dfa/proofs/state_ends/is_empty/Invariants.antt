use Rattle.std.proofs.Common.{◌≡◌, false}
use Rattle.hs_base.specs.Bits.{has_word_bit}
use Rattle.hs_engine.specs.AnyBelow.{any_below}
use Rattle.hs_dfa.proofs.state_ends.is_empty.Given as goal

abbrev pub invariant-loop-position : goal.invariant-loop-position
invariant-loop-position l = any_below l.position (has_word_bit l.live) ≡ false

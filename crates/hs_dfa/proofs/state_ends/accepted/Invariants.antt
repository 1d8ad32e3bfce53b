use Rattle.std.proofs.Common.{◌≡◌, ◌&&◌, slice_get}
use Rattle.hs_base.specs.declared.context.Next.{Next}
use Rattle.hs_base.specs.Bits.{has_word_bit}
use Rattle.hs_base.specs.ContextSets.{has_next}
use Rattle.hs_engine.specs.AnyBelow.{any_below}
use Rattle.hs_engine.specs.Automata.{in_mask}
use Rattle.hs_engine.specs.Between.{between}
use Rattle.hs_dfa.proofs.state_ends.accepted.Given as goal

abbrev pub invariant-loop-position : goal.invariant-loop-position
invariant-loop-position l =
    (next : Next) →
    has_next l.told next ≡ any_below l.position (λ x. has_word_bit l.live x && in_mask (slice_get l.masks x) (between l.prev next))

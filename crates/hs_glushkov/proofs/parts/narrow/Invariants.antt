use Rattle.std.proofs.Common.{◌≡◌, ℕ, length, slice_get}
use Rattle.hs_base.specs.Contexts.{Context}
use Rattle.hs_base.specs.ContextSets.{has_context}
use Rattle.hs_engine.specs.Automata.{in_mask}
use Rattle.hs_glushkov.specs.Ranges.{is_within}
use Rattle.hs_glushkov.specs.Parts.{narrowed}
use Rattle.hs_glushkov.proofs.parts.narrow.Given as goal

abbrev pub invariant-loop-position : goal.invariant-loop-position
invariant-loop-position l = record {
  len : length l.masks ≡ length l.initial.masks;
  each : (x : ℕ) (c : Context) → in_mask (slice_get l.masks x) c ≡ narrowed (is_within l.low l.position x) (has_context l.mask c) (in_mask (slice_get l.initial.masks x) c);
}

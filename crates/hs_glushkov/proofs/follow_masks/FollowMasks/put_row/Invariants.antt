use Rattle.std.proofs.Common.{◌≡◌, ℕ, ◌&&◌, ◌||◌, slice_get}
use Rattle.std.specs.Prelude.{◌==◌}
use Rattle.hs_base.specs.Contexts.{Context}
use Rattle.hs_base.specs.ContextSets.{has_context}
use Rattle.hs_engine.specs.Automata.{in_mask}
use Rattle.hs_glushkov.specs.Ranges.{is_within}
use Rattle.hs_glushkov.specs.FollowTables.{is_followed}
use Rattle.hs_glushkov.proofs.follow_masks.FollowMasks.put_row.Given as goal

abbrev pub invariant-loop-to : goal.invariant-loop-to
invariant-loop-to l = record {
  size : l.self.size ≡ l.initial.self.size;
  follows : (x y : ℕ) (c : Context) →
      is_followed l.self x y c ≡ ((is_within l.low l.to y && ((x == l.from) && (has_context l.mask c && in_mask (slice_get l.enters y) c))) || is_followed l.initial.self x y c);
}

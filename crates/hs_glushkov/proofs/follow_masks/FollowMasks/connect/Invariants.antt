use Rattle.std.proofs.Common.{◌≡◌, ℕ, ◌&&◌, ◌||◌, slice_get}
use Rattle.hs_base.specs.Contexts.{Context}
use Rattle.hs_engine.specs.Automata.{in_mask}
use Rattle.hs_glushkov.specs.Ranges.{is_within}
use Rattle.hs_glushkov.specs.FollowTables.{is_followed}
use Rattle.hs_glushkov.proofs.follow_masks.FollowMasks.connect.Given as goal

abbrev pub invariant-loop-from : goal.invariant-loop-from
invariant-loop-from l = record {
  size : l.self.size ≡ l.initial.self.size;
  follows : (x y : ℕ) (c : Context) →
      is_followed l.self x y c ≡ ((is_within l.from_low l.from x && (is_within l.to_low l.to_high y && (in_mask (slice_get l.accepts x) c && in_mask (slice_get l.enters y) c))) || is_followed l.initial.self x y c);
}

use Rattle.std.proofs.Common.{◌≡◌, ℕ, ◌<◌, slice_get}
use Rattle.hs_base.specs.Contexts.{Context}
use Rattle.hs_engine.specs.Automata.{in_mask}
use Rattle.hs_glushkov.proofs.row_filling.is_alike.Given as goal

abbrev pub invariant-loop-mask : goal.invariant-loop-mask
invariant-loop-mask l = (i : ℕ) (c d : Context) → i < l.mask-index → in_mask (slice_get l.follows.masks.items i) c ≡ in_mask (slice_get l.follows.masks.items i) d

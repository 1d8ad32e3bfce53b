use Rattle.std.proofs.Common.{◌≡◌, ℕ, ◌<◌, slice_get}
use Rattle.hs_base.specs.Contexts.{Context}
use Rattle.hs_engine.specs.Automata.{in_mask}
use Rattle.hs_block.proofs.mask_words.has_mixed.Given as goal

abbrev pub invariant-loop-position : goal.invariant-loop-position
invariant-loop-position l = (k : ℕ) (c d : Context) → k < l.position → in_mask (slice_get l.masks k) c ≡ in_mask (slice_get l.masks k) d

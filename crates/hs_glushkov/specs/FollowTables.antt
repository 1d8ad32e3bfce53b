-- What a square table of masks says.
use Rattle.std.specs.Prelude.{ℕ, ◌+◌, ◌*◌, Bool, ◌&&◌, nat_lt, slice_get}
use Rattle.hs_base.specs.Contexts.{Context}
use Rattle.hs_engine.specs.Automata.{in_mask}
use Rattle.hs_glushkov.specs.declared.follow_masks.FollowMasks.{FollowMasks}

-- behind the byte of position x may come that of position y, in that context
abbrev pub is_followed : FollowMasks → ℕ → ℕ → Context → Bool
is_followed table x y c = nat_lt y table.size && in_mask (slice_get table.masks.items (table.size * x + y)) c

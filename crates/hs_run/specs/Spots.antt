-- Where a stream stands.
use Rattle.std.specs.Prelude.{◌≡◌, ℕ, zero, suc, ◌<◌, ◌==◌, List, length}
use Rattle.hs_base.specs.declared.context.Prev.{Prev}
use Rattle.hs_base.specs.declared.context.Prev.TheVariants as before
use Rattle.hs_base.specs.Assertions.{line_feed, is_word_byte}
use Rattle.hs_base.specs.Contexts.{prev_at, prev_by}
use Rattle.hs_base.specs.Lists.{Each}
use Rattle.hs_base.specs.Regions.{history_size, last_bytes}
use Rattle.hs_run.specs.declared.spot.Spot.{Spot}

-- It stands behind the bytes u.
pub record IsSpot (u : List ℕ) (spot : Spot) : Type 0 where
  pub offset : spot.at ≡ length u
  pub behind : spot.prev ≡ prev_at u (length u)
  pub bytes : Each (λ b. b < 256) u
  pub past : spot.history ≡ last_bytes history_size u

-- behind so many bytes, of which that is the last one
abbrev pub prev_from : (at last : ℕ) → Prev
prev_from zero last = before.Start
prev_from (suc at) last = prev_by (last == line_feed) (is_word_byte last)

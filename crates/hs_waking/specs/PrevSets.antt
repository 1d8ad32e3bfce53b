-- Sets of what may stand before an offset, as contracts see them.
use Rattle.std.specs.Prelude.{◌≡◌, ℕ, ◌<◌, Bool, ◌==◌}
use Rattle.std.specs.Int.{bit_at}
use Rattle.hs_base.specs.declared.byte_set.ByteSet.{ByteSet}
use Rattle.hs_base.specs.declared.context.Prev.{Prev}
use Rattle.hs_base.specs.Assertions.{line_feed, is_word_byte}
use Rattle.hs_base.specs.ByteSets.{has}
use Rattle.hs_base.specs.Contexts.{prev_by, prev_number}
use Rattle.hs_waking.specs.declared.prev_set.PrevSet.{PrevSet}

-- that is a member of the set
unfoldable pub has_prev : PrevSet → Prev → Bool
has_prev set prev = bit_at set.bits (prev_number prev) == 1

-- all four are
unfoldable pub is_each : PrevSet → Bool
is_each set = set.bits == 15

-- The bytes behind which a member of the set stands.
abbrev pub AreBytesBehind : PrevSet → ByteSet → Type 0
AreBytesBehind set bytes =
    (b : ℕ) → b < 256 → has bytes b ≡ has_prev set (prev_by (b == line_feed) (is_word_byte b))

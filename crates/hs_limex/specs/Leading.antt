-- The positions that live ones lead to, by rows of words.
use Rattle.std.specs.Prelude.{ℕ, ◌+◌, ◌-◌, ◌*◌, Bool, ◌&&◌, nat_lt, nat_le, List}
use Rattle.hs_base.specs.Contexts.{Context}
use Rattle.hs_engine.specs.declared.follow_rows.FollowRows.{FollowRows}
use Rattle.hs_engine.specs.Rows.{in_row}
use Rattle.hs_limex.specs.declared.word_rows.WordRows.{WordRows}
use Rattle.hs_base.specs.Bits.{has_word_bit}
use Rattle.hs_limex.specs.WordTables.{in_table}

-- the position so many places before k is live, and is followed so many places on in the context of that number
abbrev pub near_leads : WordRows → List ℕ → ℕ → ℕ → ℕ → Bool
near_leads near live number k distance =
    nat_lt k (64 * near.width)
    && (nat_le distance k
    && (has_word_bit live (k - distance) && in_table near (8 * number + distance) (k - distance)))

-- the position x is live and has a bit in the row, and is followed by the position k in that context
abbrev pub far_leads : FollowRows → List ℕ → List ℕ → Context → ℕ → ℕ → Bool
far_leads follows live far c k x = has_word_bit live x && (has_word_bit far x && in_row follows x k c)

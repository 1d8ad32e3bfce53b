-- Which positions may follow each other, as rows of bits: for each context in which a byte comes next, a square of a
-- row for each position. Of following nothing is asked where no byte comes next.
use Rattle.std.specs.Prelude.{ℕ, ◌+◌, ◌*◌, Bool, true, false, ◌&&◌, nat_lt}
use Rattle.hs_base.specs.Contexts.{Context, prev_number}
use Rattle.hs_engine.specs.declared.follow_rows.FollowRows.{FollowRows}
use Rattle.hs_base.specs.Bits.{has_bit}
use Rattle.hs_engine.specs.RowSizes.{class_number, row_len}

-- the number of the square of a context: all share the first one, or each has its own
abbrev pub square_number : (by_context : Bool) → Context → ℕ
square_number false c = 0
square_number true c = 3 * prev_number c.prev + class_number c.next

-- the byte at which the row of the position x begins
abbrev pub row_start : (size square x : ℕ) → ℕ
row_start size square x = row_len size * (size * square + x)

-- in that square, the bit of y is set in the row of x
unfoldable pub in_square : FollowRows → ℕ → ℕ → ℕ → Bool
in_square rows square x y =
    nat_lt x rows.size
    && (nat_lt y (8 * row_len rows.size) && has_bit rows.bits.items (8 * row_start rows.size square x + y))

-- behind the byte of position x may come that of position y, in that context
abbrev pub in_row : FollowRows → ℕ → ℕ → Context → Bool
in_row rows x y c = in_square rows (square_number rows.by_context c) x y

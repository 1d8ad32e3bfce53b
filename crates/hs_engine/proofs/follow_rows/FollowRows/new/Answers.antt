use Rattle.std.proofs.Common.{◌*◌, nat_lt, ◌+◌}
use Rattle.hs_engine.specs.RowSizes.{row_len}
use Rattle.hs_engine.specs.Rows.{in_square, row_start}
use Rattle.hs_engine.proofs.RowLemmas.{none-in_square}
use Rattle.hs_engine.proofs.follow_rows.FollowRows.new.Goals as goal

pub returns-clause-none : goal.returns-clause-none
unfolding in_square
returns-clause-none c square x y =
    none-in_square (nat_lt x c.args.size) (nat_lt y (8 * row_len c.args.size)) c.in_ok-vec.field-0.items (c.row_len_of.result * (c.args.size * c.square_count_of.result)) (8 * row_start c.args.size square x + y) (c.in_ok-vec.ensures.items_if_clones_equal (λ y is. is))

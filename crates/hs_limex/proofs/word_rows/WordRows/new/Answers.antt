use Rattle.std.proofs.Common.{◌+◌, ◌*◌, nat_lt}
use Rattle.hs_limex.specs.WordTables.{in_table}
use Rattle.hs_limex.proofs.TableLemmas.{none-in_table}
use Rattle.hs_limex.proofs.word_rows.WordRows.new.Goals as goal

pub returns-clause-none : goal.returns-clause-none
unfolding in_table
returns-clause-none c n k =
    none-in_table (nat_lt n c.args.count) (nat_lt k (64 * c.args.width)) c.in_ok-vec.field-0.items (c.args.width * c.args.count) (64 * (c.args.width * n) + k) (c.in_ok-vec.ensures.items_if_clones_equal (λ y is. is))

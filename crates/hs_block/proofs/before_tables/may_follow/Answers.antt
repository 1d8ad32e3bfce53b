use Rattle.std.proofs.Common.{◌*◌, length, sym, ◌∙◌, arith}
use Rattle.std.proofs.lemmas.Bool.{le-ltb}
use Rattle.hs_base.proofs.BitLemmas.{bits-past}
use Rattle.hs_block.proofs.before_tables.may_follow.Goals as goal

pub returns-else-to-row : goal.returns-else-to-row
returns-else-to-row c =
    let row = c.square_row-row.result.now in
    le-ltb c.args.to (8 * length row) (omega arith) ∙ (sym (bits-past row c.args.to (omega arith)) ∙ c.square_row-row.ensures.bits c.args.to)

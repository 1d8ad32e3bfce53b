use Rattle.std.proofs.Common.{◌*◌, ◌+◌, ◌-◌, arith}
use Rattle.hs_block.proofs.TableLemmas.{part-bits}
use Rattle.hs_block.proofs.before_tables.row_at.Goals as goal

pub returns-clause-bits : goal.returns-clause-bits
returns-clause-bits c y below = part-bits c.args.rows.now (c.args.width * c.args.number) (c.args.width * c.args.number + c.args.width - c.args.width * c.args.number) y (omega (arith, below))

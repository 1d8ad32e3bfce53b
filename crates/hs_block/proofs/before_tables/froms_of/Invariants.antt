use Rattle.hs_block.proofs.TableLemmas.{AreRows}
use Rattle.hs_block.proofs.OrderLemmas.{FromBit}
use Rattle.hs_block.proofs.before_tables.froms_of.Given as goal

abbrev pub invariant-loop-position : goal.invariant-loop-position
invariant-loop-position l = AreRows (FromBit l.follows) l.width l.position l.rows.items

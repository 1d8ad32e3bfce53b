use Rattle.hs_block.proofs.TableLemmas.{AreRows}
use Rattle.hs_block.proofs.OrderLemmas.{SuccessorBit}
use Rattle.hs_block.proofs.before_tables.successors_of.Given as goal

abbrev pub invariant-loop-position : goal.invariant-loop-position
invariant-loop-position l = AreRows (SuccessorBit l.follows) l.width l.position l.rows.items

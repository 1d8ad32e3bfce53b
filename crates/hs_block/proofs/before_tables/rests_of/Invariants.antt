use Rattle.hs_block.proofs.TableLemmas.{AreRows}
use Rattle.hs_block.proofs.OrderLemmas.{RestBit}
use Rattle.hs_block.proofs.before_tables.rests_of.Given as goal

abbrev pub invariant-loop-number : goal.invariant-loop-number
invariant-loop-number l = AreRows (RestBit l.follows l.width l.froms) l.width l.number l.rows.items

use Rattle.hs_nodes.proofs.RowLemmas.{four-bits, read-bits}
use Rattle.hs_nodes.proofs.literals.read_row.Goals as goal

pub returns : goal.returns
returns c i =
    read-bits c.from_le_bytes-row.result c.turned_round.result c.args.part.now c.args.len i c.requires.some c.requires.short c.turned_round.type_inv c.turned_round.ensures (four-bits c.args.part.now c.from_le_bytes-row.result c.requires.size (λ k. (c.type_inv.part k).fits) c.from_le_bytes-row.ensures)

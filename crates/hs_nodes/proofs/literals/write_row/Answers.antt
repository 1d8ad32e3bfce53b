use Rattle.std.proofs.Common.{take, ap, ◌∙◌}
use Rattle.hs_nodes.proofs.RowLemmas.{written-bits}
use Rattle.hs_nodes.proofs.literals.write_row.Goals as goal

pub returns-clause-bits : goal.returns-clause-bits
returns-clause-bits c =
    written-bits c.args.carry c.turned_round-row.result c.copy_from_slice.new.self c.args.len c.requires.some c.requires.short (c.copy_from_slice.ensures.len ∙ c.requires.size) c.turned_round-row.type_inv c.turned_round-row.ensures
    (c.copy_from_slice.ensures.after ∙ ap (take 4) c.to_le_bytes-bytes.ensures)

use Rattle.std.proofs.Common.{◌-◌, ◌/◌, ◌∙◌, arith}
use Rattle.hs_nodes.proofs.TailLemmas.{end-bits}
use Rattle.hs_nodes.proofs.literals.last_entries.Goals as goal

pub returns : goal.returns
returns c i low =
    let last = (c.args.count - 1) / 64 in
    c.entries_from.ensures i (omega (arith, low, c.requires.short))
    ∙ end-bits c.args.enters.now.before c.args.len c.args.count last c.entries_before-carry.result i c.requires.short low c.requires.room (omega (arith, c.requires.some, c.requires.room)) (omega (arith, c.requires.some, c.requires.room)) c.entries_before-carry.ensures

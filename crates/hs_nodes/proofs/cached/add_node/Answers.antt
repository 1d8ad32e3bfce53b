use Rattle.std.proofs.Common.{◌≡◌, ◌<◌, Some, slice_get, length, sym, subst}
use Rattle.hs_nodes.proofs.LoadLemmas.{engine-sound}
use Rattle.hs_nodes.proofs.cached.add_node.Goals as goal

pub add-requires-clause-there : goal.add-requires-clause-there
add-requires-clause-there g c =
    let (literals, size, sound) = c.requires.sound in
    let own = c.in-Engine-default-None in
    subst (λ es. own.number < length es) (sym c.deref.ensures.value) (engine-sound g.E.Engine.meaning c.args.table.now literals size sound c.args.k own.number own.field-1 c.node_at-node.result c.node_at-node.ensures own.is).there

pub add-requires-clause-listed : goal.add-requires-clause-listed
add-requires-clause-listed g c e at =
    let (literals, size, sound) = c.requires.sound in
    let own = c.in-Engine-default-None in
    ((engine-sound g.E.Engine.meaning c.args.table.now literals size sound c.args.k own.number own.field-1 c.node_at-node.result c.node_at-node.ensures own.is).each e (subst (λ es. slice_get es own.number ≡ Some e) c.deref.ensures.value at)).1

use Rattle.std.proofs.Common.{◌≡◌, ◌∙◌, length, Some, slice_get, refl, sym, subst, arith}
use Rattle.std.proofs.lemmas.Option.{slice_get_read}
use Rattle.hs_nodes.specs.Nodes.{IsWellPart}
use Rattle.hs_nodes.specs.Walks.{node_part}
use Rattle.hs_nodes.specs.declared.table.NodeKind.{NodeKind}
use Rattle.hs_nodes.proofs.CatchLemmas.{engine-part, engine-sound, node-caught}
use Rattle.hs_nodes.proofs.walking.catch_up_node.Goals as goal

pub index-requires : goal.index-requires
index-requires g c =
    let table = c.args.table.now in
    let sound = engine-sound g.E.Engine.meaning table c.requires.sound.0 (length c.args.region.now) c.args.k c.in-Engine.number c.node_at-node.result c.in-Engine.field-1 c.requires.sound.1 c.node_at-node.ensures c.in-Engine.is in
    omega (arith, sound.there, table.engines.ok)

pub catch_up-requires-clause-len : goal.catch_up-requires-clause-len
catch_up-requires-clause-len g c =
    let engines = c.args.table.now.engines.items in
    let sound = engine-sound g.E.Engine.meaning c.args.table.now c.requires.sound.0 (length c.args.region.now) c.args.k c.in-Engine.number c.node_at-node.result c.in-Engine.field-1 c.requires.sound.1 c.node_at-node.ensures c.in-Engine.is in
    let there = slice_get_read engines (length engines) c.in-Engine.number c.index.result.now refl sound.there c.index.ensures in
    engine-part g.E.Engine.meaning c.args.table.now c.requires.sound.0 c.args.k c.in-Engine.number c.node_at-node.result c.in-Engine.field-1 c.index.result.now c.args.region.now c.requires.sound.1 c.node_at-node.ensures c.in-Engine.is there

pub catch_up-requires-clause-well : goal.catch_up-requires-clause-well
catch_up-requires-clause-well g c =
    let engines = c.args.table.now.engines.items in
    let sound = engine-sound g.E.Engine.meaning c.args.table.now c.requires.sound.0 (length c.args.region.now) c.args.k c.in-Engine.number c.node_at-node.result c.in-Engine.field-1 c.requires.sound.1 c.node_at-node.ensures c.in-Engine.is in
    let there = slice_get_read engines (length engines) c.in-Engine.number c.index.result.now refl sound.there c.index.ensures in
    subst (λ (k : NodeKind). IsWellPart g.E.Engine.meaning engines k (node_part c.args.region.now c.node_at-node.result) c.args.chunk.now.at) c.in-Engine.is (c.requires.well c.node_at-node.result c.node_at-node.ensures) c.index.result.now there

pub catch_up-requires-clause-listed : goal.catch_up-requires-clause-listed
catch_up-requires-clause-listed g c =
    let engines = c.args.table.now.engines.items in
    let sound = engine-sound g.E.Engine.meaning c.args.table.now c.requires.sound.0 (length c.args.region.now) c.args.k c.in-Engine.number c.node_at-node.result c.in-Engine.field-1 c.requires.sound.1 c.node_at-node.ensures c.in-Engine.is in
    (sound.each c.index.result.now (slice_get_read engines (length engines) c.in-Engine.number c.index.result.now refl sound.there c.index.ensures)).1

pub catch_up-requires-clause-idle : goal.catch_up-requires-clause-idle
catch_up-requires-clause-idle g c part len zeros =
    let engines = c.args.table.now.engines.items in
    let sound = engine-sound g.E.Engine.meaning c.args.table.now c.requires.sound.0 (length c.args.region.now) c.args.k c.in-Engine.number c.node_at-node.result c.in-Engine.field-1 c.requires.sound.1 c.node_at-node.ensures c.in-Engine.is in
    let there = slice_get_read engines (length engines) c.in-Engine.number c.index.result.now refl sound.there c.index.ensures in
    c.requires.idle c.in-Engine.number c.index.result.now part there (sound.each c.index.result.now there).1 len zeros

pub catch_up-requires-clause-clears : goal.catch_up-requires-clause-clears
catch_up-requires-clause-clears g c =
    let engines = c.args.table.now.engines.items in
    let sound = engine-sound g.E.Engine.meaning c.args.table.now c.requires.sound.0 (length c.args.region.now) c.args.k c.in-Engine.number c.node_at-node.result c.in-Engine.field-1 c.requires.sound.1 c.node_at-node.ensures c.in-Engine.is in
    let there = slice_get_read engines (length engines) c.in-Engine.number c.index.result.now refl sound.there c.index.ensures in
    c.living.ensures c.index.result.now (subst (λ es. slice_get es c.in-Engine.number ≡ Some c.index.result.now) (sym c.deref.ensures.value) there)

pub returns-in-Engine-clause-catches : goal.returns-in-Engine-clause-catches
returns-in-Engine-clause-catches g c =
    let engines = c.args.table.now.engines.items in
    let sound = engine-sound g.E.Engine.meaning c.args.table.now c.requires.sound.0 (length c.args.region.now) c.args.k c.in-Engine.number c.node_at-node.result c.in-Engine.field-1 c.requires.sound.1 c.node_at-node.ensures c.in-Engine.is in
    let there = slice_get_read engines (length engines) c.in-Engine.number c.index.result.now refl sound.there c.index.ensures in
    let sized = engine-part g.E.Engine.meaning c.args.table.now c.requires.sound.0 c.args.k c.in-Engine.number c.node_at-node.result c.in-Engine.field-1 c.index.result.now c.args.region.now c.requires.sound.1 c.node_at-node.ensures c.in-Engine.is there in
    node-caught g.E.Engine.meaning c.args.table.now c.args.k c.requires.sound.0 (length c.args.region.now) c.node_at-node.result c.args.region.now c.catch_up.new.region c.args.chunk.now.prev c.args.chunk.now.at c.args.chunk.now.bytes.now c.in-Engine.number c.in-Engine.field-1
    c.index.result.now engines c.requires.sound.1 refl c.node_at-node.ensures c.in-Engine.is refl there (c.catch_up.ensures.len ∙ sym sized) c.catch_up.ensures.well c.catch_up.ensures.catches

use Rattle.std.proofs.Common.{◌∙◌, sym}
use Rattle.hs_nodes.proofs.LoneLemmas.{lone-node, no-parent}
use Rattle.hs_nodes.proofs.lone.lone_identifier.Goals as goal

pub returns-in-Engine-clause-lone : goal.returns-in-Engine-clause-lone
returns-in-Engine-clause-lone g c =
    lone-node c.args.graph.now.table c.args.k c.in-Engine.field-0 c.in-Engine.field-1 c.index-node.result.now _ c.args.parents.now c.only_identifier.result c.requires.there c.index-node.ensures c.in-Engine.is (no-parent c.index-node.result.now.parent c.is_some.result c.is_some.ensures c.if-is_some.false) c.requires.parents
    (sym c.contains.ensures ∙ c.if-contains.false)

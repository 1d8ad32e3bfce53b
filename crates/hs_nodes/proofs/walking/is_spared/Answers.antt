use Rattle.std.proofs.Common.{◌∙◌, sym, subst}
use Rattle.std.proofs.lemmas.Bool.{not-true}
use Rattle.hs_bits.specs.Marks.{mark_room}
use Rattle.hs_nodes.specs.Sparing.{IsLiteralThere}
use Rattle.hs_nodes.specs.declared.table.NodeKind.{NodeKind}
use Rattle.hs_nodes.proofs.SpareLemmas.{spared-literal}
use Rattle.hs_nodes.proofs.walking.is_spared.Goals as goal

pub contains-requires : goal.contains-requires
contains-requires c = subst (λ (k : NodeKind). IsLiteralThere (mark_room c.args.foretold.now.ending.now) k) c.in-Literal.is c.requires

pub returns-then-len-quiet : goal.returns-then-len-quiet
returns-then-len-quiet c count enters quiet is =
    let number = c.in-Literal.number in
    let unmarked = sym c.contains.ensures ∙ not-true c.contains.result is in
    spared-literal c.args.foretold.now.hits.now c.args.kind number c.in-Literal.len c.args.quiet count enters c.in-Literal.is c.if-len-quiet.true quiet (c.args.foretold.now.unhit number unmarked)

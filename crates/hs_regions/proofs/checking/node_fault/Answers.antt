use Rattle.std.proofs.Common.{◌↔◌, ◌<◌, IsTrue, slice_range, refl, subst, arith}
use Rattle.std.proofs.lemmas.Option.{slice_get_within}
use Rattle.hs_kept.specs.Packing.{unpacked}
use Rattle.hs_nodes.specs.Nodes.{IsWellPart}
use Rattle.hs_regions.proofs.PartInLemmas.{stands-not}
use Rattle.hs_regions.proofs.checking.node_fault.Goals as goal

pub stands-requires-clause-part : goal.stands-requires-clause-part
stands-requires-clause-part g c = c.requires.parts.parts c.loop-k.k c.node_at-node.result c.node_at-node.ensures

pub returns-then-not-stands-clause-first : goal.returns-then-not-stands-clause-first
returns-then-not-stands-clause-first g c =
    let node = c.node_at-node.result in
    let bytes = slice_range (unpacked c.args.packing.now c.args.kept.now) node.start node.end in
    let law =
    subst (λ engines. IsTrue c.stands.result ↔ (node.start < c.args.bound → IsWellPart g.E.Engine.meaning engines node.kind bytes c.args.at)) c.deref.ensures.value c.stands.ensures in
    let (early, never) = stands-not node.start c.args.bound c.stands.result c.if-not-stands.true law in
    record {
      number = c.loop-k.k;
      node = node;
      there = c.node_at-node.ensures;
      begin = refl;
      before = λ k other less there low. c.loop-k.invariant k other less there (omega (arith, low, early));
      breaks = never;
    }

pub returns-clause-none : goal.returns-clause-none
returns-clause-none g c none k node there low =
    c.loop-k.invariant k node (omega (arith, slice_get_within c.args.graph.now.table.nodes.items k node there, c.loop-k-test.false, c.len-k-end.ensures, c.args.graph.now.table.nodes.ok.0)) there low

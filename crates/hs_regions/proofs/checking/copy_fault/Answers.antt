use Rattle.std.proofs.Common.{◌≡◌, ◌↔◌, ◌-◌, ◌+◌, ◌<◌, IsTrue, slice_range, sym, subst, ◌∙◌, arith}
use Rattle.std.specs.Prelude.{slice_index}
use Rattle.std.proofs.lemmas.Option.{same_Some, slice_get_within}
use Rattle.hs_kept.specs.Packing.{unpacked}
use Rattle.hs_nodes.specs.Nodes.{IsWellPart}
use Rattle.hs_nodes.specs.declared.table.Node.{Node}
use Rattle.hs_regions.specs.Checking.{IsPartSized}
use Rattle.hs_regions.proofs.PartInLemmas.{part-as, stands-not}
use Rattle.hs_regions.proofs.checking.copy_fault.Goals as goal

pub node_at-node-requires : goal.node_at-node-requires
node_at-node-requires g c =
    let own = c.requires.fits.copies c.loop-i.i c.copy_at-copy.result c.copy_at-copy.ensures in
    slice_get_within c.args.graph.now.table.nodes.items c.copy_at-copy.result.node own.node own.there

pub place-low-requires : goal.place-low-requires
place-low-requires g c = record { there = omega (arith, (c.requires.fits.copies c.loop-i.i c.copy_at-copy.result c.copy_at-copy.ensures).within) }

pub place-high-requires : goal.place-high-requires
place-high-requires g c = record { there = omega (arith, (c.requires.fits.copies c.loop-i.i c.copy_at-copy.result c.copy_at-copy.ensures).within) }

pub stands-requires-clause-part : goal.stands-requires-clause-part
stands-requires-clause-part g c some =
    let copy = c.copy_at-copy.result in
    let starts = c.args.layout.now.starts in
    part-as c.args.packing.now c.place-low.result (slice_index starts copy.field) c.place-high.result (slice_index starts (copy.field + 1)) c.place-low.ensures.at c.place-high.ensures.at
    (c.requires.copies c.loop-i.i copy c.node_at-node.result c.copy_at-copy.ensures c.node_at-node.ensures some)

pub stands-requires-clause-sized : goal.stands-requires-clause-sized
stands-requires-clause-sized g c =
    let m = g.E.Engine.meaning in
    let copy = c.copy_at-copy.result in
    let node = c.node_at-node.result in
    let starts = c.args.layout.now.starts in
    let own = c.requires.fits.copies c.loop-i.i copy c.copy_at-copy.ensures in
    let one : own.node ≡ node = same_Some own.node node (sym own.there ∙ c.node_at-node.ensures) in
    let same : node.end - node.start ≡ slice_index starts (copy.field + 1) - slice_index starts copy.field =
    subst (λ (n : Node). n.end - n.start ≡ slice_index starts (copy.field + 1) - slice_index starts copy.field) one own.same in
    let wide : node.end - node.start ≡ c.place-high.result - c.place-low.result = omega (arith, same, c.place-low.ensures.at, c.place-high.ensures.at) in
    subst (λ engines. IsPartSized m engines node.kind (c.place-high.result - c.place-low.result)) (sym c.deref.ensures.value)
    (subst (IsPartSized m c.args.graph.now.table.engines.items node.kind) wide (c.requires.parts.sized copy.node node c.node_at-node.ensures))

pub returns-then-not-stands-clause-first : goal.returns-then-not-stands-clause-first
returns-then-not-stands-clause-first g c =
    let m = g.E.Engine.meaning in
    let copy = c.copy_at-copy.result in
    let node = c.node_at-node.result in
    let engines = c.args.graph.now.table.engines.items in
    let region = unpacked c.args.packing.now c.args.kept.now in
    let low = slice_index c.args.layout.now.starts copy.field in
    let high = slice_index c.args.layout.now.starts (copy.field + 1) in
    let told =
    subst (λ es. IsTrue c.stands.result ↔ (c.place-low.result < c.args.bound → IsWellPart m es node.kind (slice_range region c.place-low.result c.place-high.result) c.args.at)) c.deref.ensures.value c.stands.ensures in
    let from = subst (λ n. IsTrue c.stands.result ↔ (n < c.args.bound → IsWellPart m engines node.kind (slice_range region n c.place-high.result) c.args.at)) c.place-low.ensures.at told in
    let law = subst (λ n. IsTrue c.stands.result ↔ (low < c.args.bound → IsWellPart m engines node.kind (slice_range region low n) c.args.at)) c.place-high.ensures.at from in
    let (early, never) = stands-not low c.args.bound c.stands.result c.if-not-stands.true law in
    record {
      number = c.loop-i.i;
      copy = copy;
      node = node;
      there = c.copy_at-copy.ensures;
      of_node = c.node_at-node.ensures;
      begin = c.place-low.ensures.at;
      before = λ i other own less there of_node lower. c.loop-i.invariant i other own less there of_node (omega (arith, lower, early, c.place-low.ensures.at));
      breaks = never;
    }

pub returns-clause-none : goal.returns-clause-none
returns-clause-none g c none i copy node there of_node low =
    c.loop-i.invariant i copy node (omega (arith, slice_get_within c.args.graph.now.copies.items i copy there, c.loop-i-test.false, c.len-i-end.ensures, c.args.graph.now.copies.ok.0)) there of_node low

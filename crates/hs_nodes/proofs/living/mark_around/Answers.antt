use Rattle.std.proofs.Common.{◌∙◌, sym, subst, arith}
use Rattle.std.proofs.lemmas.Bool.{le-leb}
use Rattle.std.proofs.lemmas.Option.{slice_get_within}
use Rattle.hs_nodes.proofs.LivingLemmas.{AreMarkedTo, marked-all, marked-end, marked-later, marked-own, marked-pass}
use Rattle.hs_nodes.proofs.living.mark_around.Goals as goal
use Rattle.hs_nodes.proofs.living.mark_around.Goals.{then-is_begun, else-is_begun}

pub returns-then-past-nodes-clause-zero : goal.returns-then-past-nodes-clause-zero
returns-then-past-nodes-clause-zero c =
    let nodes = c.args.nodes.now in
    let region = c.args.region.now in
    let l = c.loop-place in
    let some = c.in-Some.ensures in
    marked-all nodes region c.requires.turn l.marks
    (λ k node at off. marked-pass nodes region c.requires.turn l.marks l.past l.from c.in-Some.place c.node_around-past.result some.low some.least c.node_around-past.ensures l.invariant.are k node (omega (arith, slice_get_within nodes k node at, c.if-past-nodes.true)) at off)

pub returns-clause-zero : goal.returns-clause-zero
returns-clause-zero c =
    let l = c.loop-place in
    marked-all c.args.nodes.now c.args.region.now c.requires.turn l.marks (marked-end c.args.nodes.now c.args.region.now c.requires.turn l.marks l.past l.from c.in_default.ensures l.invariant.are)

pub loop-place-smaller : goal.loop-place-smaller
loop-place-smaller c =
    let some = c.in-Some.ensures in
    elim c.if-is_begun.branch [
      | then-is_begun w ↦ omega (arith, w.from-is, c.node_around-past.ensures.own c.node_in-node.result c.node_in-node.ensures, some.low, some.high)
      | else-is_begun w ↦ omega (arith, w.from-is, w.if-is_begun.false, some.low, some.high)
    ]

pub loop-place-preserved : goal.loop-place-preserved
loop-place-preserved c =
    let nodes = c.args.nodes.now in
    let region = c.args.region.now in
    let l = c.loop-place in
    let some = c.in-Some.ensures in
    let next = c.node_around-past.result in
    let new = c.mark_if.new.marks in
    let node = c.node_in-node.result in
    let put = c.mark_if.ensures in record {
      room = put.room ∙ l.invariant.room;
      are = elim c.if-is_begun.branch [
        | then-is_begun w ↦ subst (λ n. AreMarkedTo nodes region new next n) (sym w.from-is)
            (marked-own nodes region c.requires.turn l.marks new l.past l.from c.in-Some.place next node c.node_in-node.ensures some.low some.least c.node_around-past.ensures put.kept put.others l.invariant.are (put.put (le-leb node.start c.in-Some.place w.if-is_begun.true)))
        | else-is_begun w ↦ subst (λ n. AreMarkedTo nodes region new next n) (sym w.from-is)
            (marked-later nodes region c.requires.turn l.marks new l.past l.from c.in-Some.place next node c.node_in-node.ensures some.low some.least c.node_around-past.ensures put.kept put.others l.invariant.are)
      ];
    }

use Rattle.std.proofs.Common.{◌≡◌, ◌⊎◌, ◌≤◌, ◌<◌, ◌+◌, ◌-◌, length, slice_index, true, refl, suc, inl, inr, sym, subst, ◌∙◌, arith}
use Rattle.hs_nodes.specs.Cached.{IsToldKind}
use Rattle.hs_nodes.specs.Contexts.{NeedsContexts}
use Rattle.hs_nodes.specs.Left.{nowhere}
use Rattle.hs_bits.specs.Marks.{is_marked, mark_room}
use Rattle.hs_nodes.specs.Lone.{is_spent_node}
use Rattle.hs_nodes.specs.Openings.{is_passed}
use Rattle.hs_nodes.specs.Nodes.{IsWellPart}
use Rattle.hs_nodes.specs.Sparing.{IsSpared}
use Rattle.hs_nodes.specs.declared.ends.ChunkEnds.{ChunkEnds}
use Rattle.hs_nodes.specs.declared.table.Node.{Node}
use Rattle.hs_nodes.proofs.KindLemmas.{one-value, same-default}
use Rattle.hs_nodes.proofs.NodeLemmas.{marks-none, there}
use Rattle.hs_nodes.proofs.SpareLemmas.{literal-there}
use Rattle.hs_nodes.proofs.WalkLemmas.{lone-ticks, parent-asked, spent-lone, ticks-all, ticks-grow, ticks-more, walk-caught, walk-pass, walk-takes, walk-to, walk-visit, walk-well}
use Rattle.hs_nodes.proofs.walking.walk.Goals as goal

pub run_node-requires-clause-well : goal.run_node-requires-clause-well
run_node-requires-clause-well g c node at =
    subst (λ ps. IsWellPart g.E.Engine.meaning c.args.table.now.engines.items node.kind ps c.args.chunk.now.at) (sym (c.loop-k.invariant.walk.later c.in-Some.k node c.in-Some.ensures.low at).1) (c.requires.well c.in-Some.k node at)

pub run_node-requires-clause-contexts : goal.run_node-requires-clause-contexts
run_node-requires-clause-contexts g c node at needs =
    c.make_for.ensures.asked (subst (λ (n : Node). NeedsContexts n.kind) (one-value node c.node_at.result _ at c.node_at.ensures) needs)

pub run_node-requires-clause-told : goal.run_node-requires-clause-told
run_node-requires-clause-told g c node t at some =
    subst (λ ps. IsToldKind g.E.Engine.meaning c.args.table.now.engines.items node.kind ps c.args.chunk.now.prev c.args.chunk.now.bytes.now t) (sym (c.loop-k.invariant.walk.later c.in-Some.k node c.in-Some.ensures.low at).1)
    (c.requires.told c.in-Some.k t node some at)

pub mark_children-requires-clause-end : goal.mark_children-requires-clause-end
mark_children-requires-clause-end g c =
    let below : c.in-Some.k < length c.args.table.now.nodes.items = c.loop-k.invariant.walk.more.below c.in-Some.k c.in-Some.ensures.is in
    let next : suc c.in-Some.k ≡ c.in-Some.k + 1 = omega arith in
    subst (λ n. slice_index c.args.table.now.child_starts.items n ≤ length c.args.table.now.children.items) next (c.requires.sound.1.starts_end c.in-Some.k below)

pub mark_children-requires-clause-literals : goal.mark_children-requires-clause-literals
mark_children-requires-clause-literals g c child node at =
    let table = c.args.table.now in
    literal-there g.E.Engine.meaning table.engines.items node.kind c.requires.sound.0 (node.end - node.start) (mark_room c.args.foretold.now.ending.now) c.requires.sound.2 (c.requires.sound.1.kinds child node at)

pub loop-k-preserved-then-not-is_nowhere : goal.loop-k-preserved-then-not-is_nowhere
loop-k-preserved-then-not-is_nowhere g c =
    let m = g.E.Engine.meaning in
    let table = c.args.table.now in
    let chunk = c.args.chunk.now in
    let hits = c.args.foretold.now.hits.now in
    let k = c.in-Some.k in
    let inv = c.loop-k.invariant in
    let below : k < length table.nodes.items = inv.walk.more.below k c.in-Some.ensures.is in
    let own = there table.nodes.items k below in
    let pass = is_passed c.args.foretold.now.are_over c.args.foretold.now.openings.now in
    let lone = c.args.foretold.now.spent.lone.now in
    let told = c.args.foretold.now.spent.told.now in
    let spent = is_spent_node lone told in
    let asked = parent-asked m table lone told c.requires.lone in
    let here = walk-to m table c.args.region.now c.args.marks.now chunk.prev chunk.at chunk.past.now chunk.bytes.now hits c.requires.sound.0 c.requires.sound.1 chunk.few pass spent asked c.requires.rests c.requires.others c.requires.passed c.loop-k.region c.loop-k.ends c.loop-k.marks c.loop-k.from (k - c.loop-k.from) k
    (omega (arith, c.in-Some.ensures.low)) (omega (arith, below)) c.in-Some.ensures.least inv.walk in record {
      len = c.run_node.ensures.len ∙ inv.len;
      ends = c.run_node.ensures.ends ∙ inv.ends;
      contexts = c.make_for.ensures.right;
      steps =
          let more = ticks-more table.nodes.items k hits (length chunk.bytes.now) own.0 own.1 in
          let up = ticks-grow table.nodes.items c.loop-k.from k hits (length chunk.bytes.now) c.in-Some.ensures.low in
          let here = c.run_node.ensures.ticks own.0 own.1 in
          omega (arith, more, up, here, inv.steps);
      pool = c.run_node.ensures.pool;
      walk =
          walk-visit m table c.args.region.now c.args.marks.now chunk.prev chunk.at chunk.past.now chunk.bytes.now hits c.requires.sound.0 c.requires.sound.1 chunk.few pass spent asked c.everywhere-all.result c.everywhere-all.ensures c.loop-k.region c.run_node.new.region c.loop-k.ends c.run_node.new.ends c.loop-k.marks c.mark_children.new.marks
          k (k + 1) refl own.0 own.1 c.in-Some.ensures.is (sym c.passes.ensures ∙ c.if-not-passes.true) (c.run_node.ensures.runs own.0 own.1) c.run_node.ensures.len c.mark_children.ensures.more (inr (λ j node among at.
          subst (λ (e : ChunkEnds). (is_marked c.mark_children.new.marks j ≡ true) ⊎ IsSpared node.kind hits (length chunk.bytes.now) e) (same-default c.run_node.new.ends k _ nowhere (omega (arith, below, c.run_node.ensures.ends, inv.ends))) (c.mark_children.ensures.needed j node among at))) here;
    }

pub loop-k-preserved-else-not-is_nowhere : goal.loop-k-preserved-else-not-is_nowhere
loop-k-preserved-else-not-is_nowhere g c =
    let m = g.E.Engine.meaning in
    let table = c.args.table.now in
    let chunk = c.args.chunk.now in
    let hits = c.args.foretold.now.hits.now in
    let k = c.in-Some.k in
    let inv = c.loop-k.invariant in
    let below : k < length table.nodes.items = inv.walk.more.below k c.in-Some.ensures.is in
    let own = there table.nodes.items k below in
    let pass = is_passed c.args.foretold.now.are_over c.args.foretold.now.openings.now in
    let lone = c.args.foretold.now.spent.lone.now in
    let told = c.args.foretold.now.spent.told.now in
    let spent = is_spent_node lone told in
    let asked = parent-asked m table lone told c.requires.lone in
    let here = walk-to m table c.args.region.now c.args.marks.now chunk.prev chunk.at chunk.past.now chunk.bytes.now hits c.requires.sound.0 c.requires.sound.1 chunk.few pass spent asked c.requires.rests c.requires.others c.requires.passed c.loop-k.region c.loop-k.ends c.loop-k.marks c.loop-k.from (k - c.loop-k.from) k
    (omega (arith, c.in-Some.ensures.low)) (omega (arith, below)) c.in-Some.ensures.least inv.walk in record {
      len = c.run_node.ensures.len ∙ inv.len;
      ends = c.run_node.ensures.ends ∙ inv.ends;
      contexts = c.make_for.ensures.right;
      steps =
          let more = ticks-more table.nodes.items k hits (length chunk.bytes.now) own.0 own.1 in
          let up = ticks-grow table.nodes.items c.loop-k.from k hits (length chunk.bytes.now) c.in-Some.ensures.low in
          let here = c.run_node.ensures.ticks own.0 own.1 in
          omega (arith, more, up, here, inv.steps);
      pool = c.run_node.ensures.pool;
      walk =
          walk-visit m table c.args.region.now c.args.marks.now chunk.prev chunk.at chunk.past.now chunk.bytes.now hits c.requires.sound.0 c.requires.sound.1 chunk.few pass spent asked c.everywhere-all.result c.everywhere-all.ensures c.loop-k.region c.run_node.new.region c.loop-k.ends c.run_node.new.ends c.loop-k.marks c.loop-k.marks
          k (k + 1) refl own.0 own.1 c.in-Some.ensures.is (sym c.passes.ensures ∙ c.if-not-passes.true) (c.run_node.ensures.runs own.0 own.1) c.run_node.ensures.len (marks-none (length table.nodes.items) c.loop-k.marks inv.walk.more.below) (inl (same-default c.run_node.new.ends k nowhere _ (omega (arith, below, c.run_node.ensures.ends, inv.ends)) ∙ c.is_nowhere.ensures.0 c.if-not-is_nowhere.false)) here;
    }

pub loop-k-preserved : goal.loop-k-preserved
loop-k-preserved g c =
    let m = g.E.Engine.meaning in
    let table = c.args.table.now in
    let chunk = c.args.chunk.now in
    let hits = c.args.foretold.now.hits.now in
    let k = c.in-Some.k in
    let inv = c.loop-k.invariant in
    let below : k < length table.nodes.items = inv.walk.more.below k c.in-Some.ensures.is in
    let pass = is_passed c.args.foretold.now.are_over c.args.foretold.now.openings.now in
    let lone = c.args.foretold.now.spent.lone.now in
    let told = c.args.foretold.now.spent.told.now in
    let spent = is_spent_node lone told in
    let asked = parent-asked m table lone told c.requires.lone in
    let here = walk-to m table c.args.region.now c.args.marks.now chunk.prev chunk.at chunk.past.now chunk.bytes.now hits c.requires.sound.0 c.requires.sound.1 chunk.few pass spent asked c.requires.rests c.requires.others c.requires.passed c.loop-k.region c.loop-k.ends c.loop-k.marks c.loop-k.from (k - c.loop-k.from) k
    (omega (arith, c.in-Some.ensures.low)) (omega (arith, below)) c.in-Some.ensures.least inv.walk in record {
      len = inv.len;
      ends = inv.ends;
      contexts = inv.contexts;
      steps =
          let up = ticks-grow table.nodes.items c.loop-k.from (k + 1) hits (length chunk.bytes.now) (omega (arith, c.in-Some.ensures.low)) in
          omega (arith, up, inv.steps);
      pool = inv.pool;
      walk =
          walk-pass m table c.args.region.now c.args.marks.now chunk.prev chunk.at chunk.past.now chunk.bytes.now hits c.requires.sound.0 c.requires.sound.1 chunk.few pass spent asked c.requires.rests c.requires.others c.requires.passed c.loop-k.region c.loop-k.ends c.loop-k.marks
          k (k + 1) refl below (inr (sym c.passes.ensures ∙ c.if-not-passes.false)) here;
    }

pub returns-clause-ticks : goal.returns-clause-ticks
returns-clause-ticks g c =
    let up = ticks-all c.args.table.now.nodes.items c.loop-k.from c.args.foretold.now.hits.now (length c.args.chunk.now.bytes.now) in
    omega (arith, up, c.loop-k.invariant.steps)

pub returns-clause-well : goal.returns-clause-well
returns-clause-well g c =
    let table = c.args.table.now in
    let chunk = c.args.chunk.now in
    let inv = c.loop-k.invariant in
    let room = inv.walk.more.room in
    walk-well g.E.Engine.meaning table c.args.region.now c.args.marks.now chunk.prev chunk.at chunk.past.now chunk.bytes.now c.args.foretold.now.hits.now c.requires.sound.0 c.requires.sound.1 chunk.few (is_passed c.args.foretold.now.are_over c.args.foretold.now.openings.now) (is_spent_node c.args.foretold.now.spent.lone.now c.args.foretold.now.spent.told.now) (parent-asked g.E.Engine.meaning table c.args.foretold.now.spent.lone.now c.args.foretold.now.spent.told.now c.requires.lone) c.loop-k.region c.loop-k.ends c.loop-k.marks
    (walk-to g.E.Engine.meaning table c.args.region.now c.args.marks.now chunk.prev chunk.at chunk.past.now chunk.bytes.now c.args.foretold.now.hits.now c.requires.sound.0 c.requires.sound.1 chunk.few (is_passed c.args.foretold.now.are_over c.args.foretold.now.openings.now) (is_spent_node c.args.foretold.now.spent.lone.now c.args.foretold.now.spent.told.now) (parent-asked g.E.Engine.meaning table c.args.foretold.now.spent.lone.now c.args.foretold.now.spent.told.now c.requires.lone) c.requires.rests c.requires.others c.requires.passed c.loop-k.region c.loop-k.ends c.loop-k.marks c.loop-k.from (length table.nodes.items - c.loop-k.from) (length table.nodes.items)
    (omega (arith, inv.walk.within)) (omega arith) (λ j low high. c.in_default.ensures j low (omega (arith, room, c.requires.room))) inv.walk)

pub returns-clause-takes : goal.returns-clause-takes
returns-clause-takes g c =
    let table = c.args.table.now in
    let chunk = c.args.chunk.now in
    let inv = c.loop-k.invariant in
    let room = inv.walk.more.room in
    walk-takes g.E.Engine.meaning table c.args.region.now c.args.marks.now chunk.prev chunk.at chunk.past.now chunk.bytes.now c.args.foretold.now.hits.now c.requires.sound.0 c.requires.sound.1 chunk.few (is_passed c.args.foretold.now.are_over c.args.foretold.now.openings.now) (is_spent_node c.args.foretold.now.spent.lone.now c.args.foretold.now.spent.told.now) (parent-asked g.E.Engine.meaning table c.args.foretold.now.spent.lone.now c.args.foretold.now.spent.told.now c.requires.lone) c.loop-k.region c.loop-k.ends c.loop-k.marks
    (walk-to g.E.Engine.meaning table c.args.region.now c.args.marks.now chunk.prev chunk.at chunk.past.now chunk.bytes.now c.args.foretold.now.hits.now c.requires.sound.0 c.requires.sound.1 chunk.few (is_passed c.args.foretold.now.are_over c.args.foretold.now.openings.now) (is_spent_node c.args.foretold.now.spent.lone.now c.args.foretold.now.spent.told.now) (parent-asked g.E.Engine.meaning table c.args.foretold.now.spent.lone.now c.args.foretold.now.spent.told.now c.requires.lone) c.requires.rests c.requires.others c.requires.passed c.loop-k.region c.loop-k.ends c.loop-k.marks c.loop-k.from (length table.nodes.items - c.loop-k.from) (length table.nodes.items)
    (omega (arith, inv.walk.within)) (omega arith) (λ j low high. c.in_default.ensures j low (omega (arith, room, c.requires.room))) inv.walk)

pub catch_up_node-requires-clause-own : goal.catch_up_node-requires-clause-own
catch_up_node-requires-clause-own g c = spent-lone g.E.Engine.meaning c.args.table.now c.args.foretold.now.spent.lone.now c.args.foretold.now.spent.told.now c.requires.lone c.in-Some.k (c.is_left_behind.ensures c.if-is_left_behind.true)

pub catch_up_node-requires-clause-well : goal.catch_up_node-requires-clause-well
catch_up_node-requires-clause-well g c node at =
    subst (λ ps. IsWellPart g.E.Engine.meaning c.args.table.now.engines.items node.kind ps c.args.chunk.now.at) (sym (c.loop-k.invariant.walk.later c.in-Some.k node c.in-Some.ensures.low at).1) (c.requires.well c.in-Some.k node at)

pub loop-k-preserved-then-is_left_behind : goal.loop-k-preserved-then-is_left_behind
loop-k-preserved-then-is_left_behind g c =
    let m = g.E.Engine.meaning in
    let table = c.args.table.now in
    let chunk = c.args.chunk.now in
    let hits = c.args.foretold.now.hits.now in
    let k = c.in-Some.k in
    let inv = c.loop-k.invariant in
    let below : k < length table.nodes.items = inv.walk.more.below k c.in-Some.ensures.is in
    let own = there table.nodes.items k below in
    let pass = is_passed c.args.foretold.now.are_over c.args.foretold.now.openings.now in
    let lone = c.args.foretold.now.spent.lone.now in
    let told = c.args.foretold.now.spent.told.now in
    let spent = is_spent_node lone told in
    let asked = parent-asked m table lone told c.requires.lone in
    let over = c.is_left_behind.ensures c.if-is_left_behind.true in
    let here = walk-to m table c.args.region.now c.args.marks.now chunk.prev chunk.at chunk.past.now chunk.bytes.now hits c.requires.sound.0 c.requires.sound.1 chunk.few pass spent asked c.requires.rests c.requires.others c.requires.passed c.loop-k.region c.loop-k.ends c.loop-k.marks c.loop-k.from (k - c.loop-k.from) k
    (omega (arith, c.in-Some.ensures.low)) (omega (arith, below)) c.in-Some.ensures.least inv.walk in record {
      len = c.catch_up_node.ensures.len ∙ inv.len;
      ends = inv.ends;
      contexts = inv.contexts;
      steps =
          let more = ticks-more table.nodes.items k hits (length chunk.bytes.now) own.0 own.1 in
          let up = ticks-grow table.nodes.items c.loop-k.from k hits (length chunk.bytes.now) c.in-Some.ensures.low in
          let own_ticks = lone-ticks table k own.0 own.1 (spent-lone m table lone told c.requires.lone k over) hits (length chunk.bytes.now) in
          omega (arith, more, up, own_ticks, c.catch_up_node.ensures.ticks, inv.steps);
      pool = inv.pool;
      walk =
          walk-caught m table c.args.region.now c.args.marks.now chunk.prev chunk.at chunk.past.now chunk.bytes.now hits c.requires.sound.0 c.requires.sound.1 chunk.few pass spent asked c.loop-k.region c.catch_up_node.new.region c.loop-k.ends c.loop-k.marks
          k (k + 1) refl own.0 own.1 c.in-Some.ensures.is over (spent-lone m table lone told c.requires.lone k over) (c.catch_up_node.ensures.catches own.0 own.1) c.catch_up_node.ensures.len here;
    }

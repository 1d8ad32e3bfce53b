use Rattle.std.proofs.Common.{◌+◌, refl, arith}
use Rattle.hs_nodes.proofs.NodeLemmas.{unmarked-before}
use Rattle.hs_nodes.proofs.StartingLemmas.{starts-all, starts-more, starts-none}
use Rattle.hs_nodes.proofs.WakeLemmas.{engines-unwoken, looked-all, looked-more, looked-none}
use Rattle.hs_nodes.proofs.waking.wake_engines.Goals as goal

pub returns-clause-asleep : goal.returns-clause-asleep
returns-clause-asleep g c =
    let graph = c.args.graph.now in
    let (literals, sound) = c.requires.wakes in
    let listed = graph.wakes.first_engines in
    engines-unwoken g.E.Engine.meaning graph.table graph.wakes literals c.loop-i.marks c.args.spent.now.chunk.now.prev c.args.spent.now.chunk.now.bytes.now sound
    (looked-all g.E.Engine.meaning graph.table listed.items c.args.spent.now.chunk.now.prev c.args.spent.now.chunk.now.bytes.now c.args.marks.now c.loop-i.marks c.loop-i.i (omega (arith, c.loop-i-test.false, c.len-i-end.ensures, listed.ok.0)) c.loop-i.invariant.looked)

pub returns-clause-starts : goal.returns-clause-starts
returns-clause-starts g c =
    let graph = c.args.graph.now in
    let (literals, sound) = c.requires.wakes in
    let listed = graph.wakes.first_engines in
    starts-all g.E.Engine.meaning graph.table c.args.cache.now listed.items c.args.spent.now.chunk.now.prev c.args.spent.now.chunk.now.bytes.now graph.wakes literals c.loop-i.starts c.loop-i.i sound refl (omega (arith, c.loop-i-test.false, c.len-i-end.ensures, listed.ok.0)) c.loop-i.invariant.starts

pub loop-i-init : goal.loop-i-init
loop-i-init g c =
    let graph = c.args.graph.now in
    let m = g.E.Engine.meaning in
    let list = graph.wakes.first_engines.items in
    record {
      looked = looked-none m graph.table list c.args.spent.now.chunk.now.prev c.args.spent.now.chunk.now.bytes.now c.args.marks.now c.requires.below;
      chunk = c.begin.ensures.forgotten graph.wakes.sets.items c.args.spent.now.chunk.now.bytes.now;
      levels = c.new-stack.ensures graph.wakes.sets.items c.args.spent.now.chunk.now.prev c.args.spent.now.chunk.now.bytes.now;
      starts = starts-none m graph.table c.args.cache.now list c.args.spent.now.chunk.now.prev c.args.spent.now.chunk.now.bytes.now c.args.starts.now;
    }

pub loop-i-preserved : goal.loop-i-preserved
loop-i-preserved g c =
    let graph = c.args.graph.now in
    let m = g.E.Engine.meaning in
    let list = graph.wakes.first_engines.items in
    let i = c.loop-i.i in
    record {
      looked = looked-more m graph.table list c.args.spent.now.chunk.now.prev c.args.spent.now.chunk.now.bytes.now c.args.marks.now c.loop-i.marks c.wake_engine.new.marks i (i + 1) refl c.wake_engine.ensures.more c.wake_engine.ensures.asleep c.loop-i.invariant.looked;
      chunk = c.wake_engine.ensures.chunk;
      levels = c.wake_engine.ensures.levels;
      starts = starts-more m graph.table c.args.cache.now list c.args.spent.now.chunk.now.prev c.args.spent.now.chunk.now.bytes.now c.loop-i.starts c.wake_engine.new.starts i (i + 1) refl c.args.spent.now.chunk.now.few c.wake_engine.ensures.others c.wake_engine.ensures.starts c.loop-i.invariant.starts;
    }

pub wake_engine-requires-clause-told : goal.wake_engine-requires-clause-told
wake_engine-requires-clause-told g c k t node is there none =
    c.requires.told k t node is there (unmarked-before c.args.marks.now c.loop-i.marks k c.loop-i.invariant.looked.more.kept none)

use Rattle.std.proofs.Common.{◌+◌, ℕ, refl, arith}
use Rattle.hs_scan.specs.Telling.{TellsBlock, TellsBlocks, TellsChunk}
use Rattle.hs_scan.proofs.BlockLemmas.{takes-as, takes-none, takes-then, tells-all, tells-more, tells-none}
use Rattle.hs_scan.proofs.telling.tell_chunk.Goals as goal

pub loop-j-init : goal.loop-j-init
loop-j-init g c =
    let chunk = c.args.chunk.now in
    let known = c.args.known.now in
    let m = g.E.Engine.meaning in
    let graph = c.args.graph.now in
    record {
      fits = c.requires.fits;
      pending = c.requires.pending;
      told =
          takes-none g.V.Events.tells c.args.events.now
          (TellsBlocks m graph chunk.bytes.now chunk.at c.args.ends.now c.args.all.now known.told.items known.here.items known.told.items known.here.items 0)
          (tells-none m graph c.requires.sound chunk.bytes.now chunk.at c.args.ends.now c.args.all.now known.told.items known.here.items);
    }

pub loop-j-preserved : goal.loop-j-preserved
loop-j-preserved g c =
    let chunk = c.args.chunk.now in
    let known = c.args.known.now in
    let here = c.loop-j.known in
    let then = c.tell_known.new.known in
    let m = g.E.Engine.meaning in
    let graph = c.args.graph.now in
    let j : ℕ = c.loop-j.j in
    record {
      fits = c.tell_known.ensures.fits;
      pending = c.tell_known.ensures.pending;
      told =
          takes-then g.V.Events.tells c.args.events.now c.loop-j.events c.tell_known.new.events
          (TellsBlocks m graph chunk.bytes.now chunk.at c.args.ends.now c.args.all.now known.told.items known.here.items here.told.items here.here.items j)
          (TellsBlock m graph chunk.bytes.now chunk.at c.args.ends.now c.args.all.now j here.told.items here.here.items then.told.items then.here.items)
          (TellsBlocks m graph chunk.bytes.now chunk.at c.args.ends.now c.args.all.now known.told.items known.here.items then.told.items then.here.items (j + 1))
          (λ ps qs. tells-more m graph c.requires.sound chunk.bytes.now chunk.at c.args.ends.now c.args.all.now known.told.items known.here.items here.told.items here.here.items then.told.items then.here.items j (j + 1) ps qs refl (omega (arith, c.blocks-j-end.ensures.count, c.loop-j-test.true)))
          c.loop-j.invariant.told c.tell_known.ensures.told;
    }

pub returns-clause-told : goal.returns-clause-told
returns-clause-told g c =
    let chunk = c.args.chunk.now in
    let known = c.args.known.now in
    let here = c.loop-j.known in
    let m = g.E.Engine.meaning in
    let graph = c.args.graph.now in
    let n : ℕ = c.loop-j.j in
    let told =
    takes-as g.V.Events.tells c.args.events.now c.loop-j.events
    (TellsBlocks m graph chunk.bytes.now chunk.at c.args.ends.now c.args.all.now known.told.items known.here.items here.told.items here.here.items n)
    (TellsChunk m graph chunk.bytes.now chunk.at c.args.ends.now c.args.all.now known.told.items known.here.items here.told.items here.here.items)
    (λ ps. tells-all m graph c.requires.sound chunk.bytes.now chunk.at c.args.ends.now c.args.all.now known.told.items known.here.items here.told.items here.here.items n ps (omega (arith, c.blocks-j-end.ensures.count))) in
    told c.loop-j.invariant.told

use Rattle.std.proofs.Common.{length, ◌∙◌, arith, refl}
use Rattle.hs_nodes.proofs.PairLemmas.{found-all, found-none, found-pass, found-visit, hits-grow, pair-ticks}
use Rattle.hs_nodes.proofs.look_back.find_pair.Goals as goal

pub loop-k-init : goal.loop-k-init
loop-k-init g c =
    let chunk = c.args.chunk.now in
    let pair = c.args.pair.now in
    record {
      window = c.leaves_at_start-at_start.ensures.window;
      room = refl;
      within = omega arith;
      steps = c.leaves_at_start-at_start.ensures.ticks;
      found = found-none (g.E.Engine.meaning c.args.engine.now) pair.null pair.len chunk.at chunk.past.now chunk.bytes.now c.args.hits.now c.requires.some;
    }

pub loop-k-preserved : goal.loop-k-preserved
loop-k-preserved g c =
    let m = g.E.Engine.meaning c.args.engine.now in
    let chunk = c.args.chunk.now in
    let pair = c.args.pair.now in
    let hits = c.args.hits.now in
    let k = c.in-Some.k in
    let inv = c.loop-k.invariant in
    let here = found-pass m pair.null pair.len chunk.at chunk.past.now chunk.bytes.now hits c.requires.some c.loop-k.behind c.loop-k.from k c.in-Some.ensures.least c.in-Some.ensures.low inv.found in
    record {
      window = c.leaves_pair-leaves.ensures.window ∙ inv.window;
      room = c.write_word_bit.ensures.len ∙ inv.room;
      within = omega (arith, c.in-Some.ensures.high);
      steps =
          pair-ticks m pair.null pair.len chunk.at chunk.past.now chunk.bytes.now hits c.requires.some c.loop-k.from k c.loop-k.steps c.leaves_pair-leaves.new.steps c.args.steps.now c.in-Some.ensures.low c.in-Some.ensures.is inv.steps c.leaves_pair-leaves.ensures.ticks;
      found = found-visit m pair.null pair.len chunk.at chunk.past.now chunk.bytes.now hits c.requires.some c.loop-k.behind c.write_word_bit.new.words k c.leaves_pair-leaves.result c.in-Some.ensures.is (c.leaves_pair-leaves.ensures.leaves hits) c.write_word_bit.ensures.put c.write_word_bit.ensures.others here;
    }

pub returns-clause-finds : goal.returns-clause-finds
returns-clause-finds g c =
    let m = g.E.Engine.meaning c.args.engine.now in
    let chunk = c.args.chunk.now in
    let pair = c.args.pair.now in
    let hits = c.args.hits.now in
    let inv = c.loop-k.invariant in
    found-all m pair.null pair.len chunk.at chunk.past.now chunk.bytes.now hits c.requires.some c.leaves_at_start-at_start.result c.loop-k.behind (length chunk.bytes.now) (omega arith) c.leaves_at_start-at_start.ensures.tells
    (found-pass m pair.null pair.len chunk.at chunk.past.now chunk.bytes.now hits c.requires.some c.loop-k.behind c.loop-k.from (length chunk.bytes.now) c.in_default.ensures inv.within inv.found)

pub returns-clause-ticks : goal.returns-clause-ticks
returns-clause-ticks g c =
    let inv = c.loop-k.invariant in
    let grow = hits-grow c.args.hits.now c.loop-k.from (length c.args.chunk.now.bytes.now) inv.within in
    omega (arith, grow, inv.steps)

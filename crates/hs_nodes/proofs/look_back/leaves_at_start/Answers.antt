use Rattle.std.proofs.Common.{refl, arith}
use Rattle.hs_nodes.proofs.PairLemmas.{hits-start, pair-hit, pair-unhit}
use Rattle.hs_nodes.proofs.look_back.leaves_at_start.Goals as goal

pub returns-then-not-hits-clause-tells : goal.returns-then-not-hits-clause-tells
returns-then-not-hits-clause-tells g c =
    let chunk = c.args.chunk.now in
    pair-unhit (g.E.Engine.meaning c.args.engine.now) c.args.pair.now.null c.args.pair.now.len chunk.at chunk.past.now chunk.bytes.now c.args.hits.now c.requires.some 0 _ (omega arith) c.if-not-hits.true refl

pub returns-clause-tells : goal.returns-clause-tells
returns-clause-tells g c =
    let chunk = c.args.chunk.now in
    pair-hit (g.E.Engine.meaning c.args.engine.now) c.args.pair.now.null c.args.pair.now.len chunk.at chunk.past.now chunk.bytes.now c.args.hits.now c.requires.some 0 c.leaves_pair.result c.if-not-hits.false (c.leaves_pair.ensures.leaves c.args.hits.now)

pub returns-clause-ticks : goal.returns-clause-ticks
returns-clause-ticks g c = let once = hits-start c.args.hits.now c.if-not-hits.false in omega (arith, once, c.leaves_pair.ensures.ticks)

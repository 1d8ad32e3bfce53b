use Rattle.std.proofs.Common.{◌+◌, ◌-◌, arith}
use Rattle.hs_nodes.proofs.PairLemmas.{pair-early, pair-left}
use Rattle.hs_nodes.proofs.look_back.leaves_pair.Goals as goal

pub returns-then-chunk-place-clause-leaves : goal.returns-then-chunk-place-clause-leaves
returns-then-chunk-place-clause-leaves g c hits =
    let chunk = c.args.chunk.now in
    pair-early (g.E.Engine.meaning c.args.engine.now) c.args.pair.now.null c.args.pair.now.len chunk.at chunk.past.now chunk.bytes.now hits c.requires.some c.args.place c.requires.within c.if-chunk-place.true

pub returns-clause-leaves : goal.returns-clause-leaves
returns-clause-leaves g c hits =
    let chunk = c.args.chunk.now in
    pair-left (g.E.Engine.meaning c.args.engine.now) c.args.pair.now.null c.args.pair.now.len chunk.at chunk.past.now chunk.bytes.now hits c.requires.some c.args.place (64 + c.args.place - c.args.pair.now.len) c.leaves_back.result c.requires.within (omega (arith, c.requires.short)) c.leaves_back.ensures.leaves

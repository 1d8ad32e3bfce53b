use Rattle.std.proofs.Common.{◌<◌, length, arith}
use Rattle.hs_nodes.proofs.GatherLemmas.{busy-all, busy-begins, busy-next}
use Rattle.hs_nodes.proofs.gathering.busy_words.Goals as goal

pub loop-k-init : goal.loop-k-init
loop-k-init g c = busy-begins c.args.graph.now c.args.ends.now _

pub loop-k-preserved : goal.loop-k-preserved
loop-k-preserved g c =
    let ends = c.args.ends.now in
    let k = c.in-Some.k in
    let below : k < length ends = c.requires.known k c.in-Some.ensures.is in
    busy-next c.args.graph.now ends c.ends_at.result.now c.loop-k.busy c.add_told.new.busy c.loop-k.from k below c.ends_at.ensures
    (λ j low high. c.requires.rest j (omega (arith, high, below)) (c.in-Some.ensures.least j low high)) c.add_told.ensures c.loop-k.invariant

pub returns : goal.returns
returns g c =
    busy-all c.args.graph.now c.args.ends.now c.loop-k.busy c.loop-k.from
    (λ j low high. c.requires.rest j high (c.in_default.ensures j low (omega (arith, high, c.requires.room)))) c.loop-k.invariant

use Rattle.std.proofs.Common.{length, refl, arith}
use Rattle.std.proofs.lemmas.Option.{slice_get_read, slice_get_within}
use Rattle.hs_nodes.proofs.LivingLemmas.{idle-more}
use Rattle.hs_nodes.proofs.living.idle_engines.Goals as goal

pub loop-k-init : goal.loop-k-init
loop-k-init g c number e part low = absurd (omega (arith, low))

pub loop-k-preserved : goal.loop-k-preserved
loop-k-preserved g c =
    let engines = c.args.engines.now in
    let own = slice_get_read engines (length engines) c.loop-k.k c.index-engines-k.result refl (omega arith) c.index-engines-k.is in
    idle-more g.E.Engine.meaning engines c.loop-k.k c.index-engines-k.result own c.in_ok-idle_engine.ensures c.loop-k.invariant

pub returns : goal.returns
returns g c number e part there = c.loop-k.invariant number e part (omega (arith, slice_get_within c.args.engines.now number e there, c.loop-k-test.false)) there

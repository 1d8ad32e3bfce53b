use Rattle.std.proofs.Common.{arith}
use Rattle.std.proofs.lemmas.Option.{slice_get-get_or}
use Rattle.hs_compile.proofs.NumberingLemmas.{one-marked}
use Rattle.hs_compile.proofs.arranging.opening_nodes.Goals as goal

pub loop-k-preserved : goal.loop-k-preserved
loop-k-preserved c =
    let nodes = c.args.nodes.now in
    let k = c.loop-k.k in
    one-marked nodes k c.loop-k.openings c.write.new.self c.is_opening-opens.result _ c.requires.earlier c.loop-k.invariant (slice_get-get_or nodes k _ (omega (arith, c.loop-k-test.true))) c.is_opening-opens.ensures c.write.ensures.room c.write.ensures.put c.write.ensures.others

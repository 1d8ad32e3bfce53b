use Rattle.std.proofs.Common.{◌∙◌, ◌*◌, ◌+◌, arith}
use Rattle.std.proofs.lemmas.List.{length-set}
use Rattle.hs_base.specs.ByteSets.{has}
use Rattle.hs_waking.proofs.WordLemmas.{filled, filled-others}
use Rattle.hs_waking.proofs.class_words.fill.Goals as goal

pub loop-block-preserved : goal.loop-block-preserved
loop-block-preserved c =
    let words = c.loop-block.words in
    let n = c.args.number in
    let block = c.loop-block.block in
    record {
      len = length-set words (9 * n + block) c.open_places.result ∙ c.loop-block.invariant.len;
      places = filled words c.args.bytes.now (has c.args.set.now) n block c.open_places.result (omega (arith, c.requires.room, c.loop-block.invariant.len)) (omega arith) c.loop-block.invariant.places c.open_places.ensures;
      others = λ b apart. filled-others words n block c.open_places.result b (omega arith) apart ∙ c.loop-block.invariant.others b apart;
    }

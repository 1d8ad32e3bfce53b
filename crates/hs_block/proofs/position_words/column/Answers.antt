use Rattle.std.proofs.Common.{◌∙◌, arith}
use Rattle.std.proofs.lemmas.List.{length-replicate, length-set}
use Rattle.hs_block.proofs.ColumnLemmas.{column-all, column-part}
use Rattle.hs_block.proofs.PositionWordLemmas.{slice-places}
use Rattle.hs_block.proofs.position_words.column.Goals as goal

pub loop-at-init : goal.loop-at-init
loop-at-init g c = record {
  len = length-replicate g.row.W 0;
  bits = λ x below. absurd (omega (arith, below));
}

pub loop-at-preserved : goal.loop-at-preserved
loop-at-preserved g c =
    let p = c.loop-at.at in
    let inv = c.loop-at.invariant in
    record {
      len = length-set c.loop-at.row p c.column_word.result ∙ inv.len;
      bits = column-part c.loop-at.row c.args.live.now c.args.words.now _ p c.column_word.result c.args.place (omega (arith, inv.len)) (λ y small. slice-places c.args.words.now p y _ (omega (arith, small))) c.requires.dark c.column_word.ensures inv.bits;
    }

pub returns-clause-bits : goal.returns-clause-bits
returns-clause-bits g c =
    let inv = c.loop-at.invariant in
    column-all c.loop-at.row c.args.live.now c.args.words.now c.args.place (omega (arith, inv.len, c.requires.live)) c.requires.dark (λ x below. inv.bits x (omega (arith, below, inv.len)))

use Rattle.std.proofs.Common.{◌∙◌, ◌-◌, get_or, inl, inr, arith, refl}
use Rattle.std.proofs.lemmas.List.{length-set}
use Rattle.hs_waking.proofs.WordLemmas.{later-first, later-more}
use Rattle.hs_waking.proofs.chunk_places.one_later.Goals.{then-first, else-first}
use Rattle.hs_waking.proofs.chunk_places.one_later.Goals as goal

pub loop-word-init : goal.loop-word-init
loop-word-init c = record {
  len = refl;
  done = λ p low. elim c.if-first.branch [
    | then-first w ↦ later-first c.if-first.words c.args.first c.args.class.now p low (inl (w.if-first.true, w.words-is))
    | else-first w ↦ later-first c.if-first.words c.args.first c.args.class.now p low (inr (w.if-first.false, w.words-is))
  ];
}

pub loop-word-preserved : goal.loop-word-preserved
loop-word-preserved c =
    let words = c.loop-word.words in
    let word = c.loop-word.word in
    record {
      len = length-set words word (get_or c.args.class.now (word - 1) 0) ∙ c.loop-word.invariant.len;
      done = later-more words c.args.class.now c.args.first word (omega arith) (omega (arith, c.loop-word.invariant.len)) c.loop-word.invariant.done;
    }

use Rattle.std.proofs.Common.{refl, sym, ◌∙◌, arith}
use Rattle.std.proofs.lemmas.Bool.{false≢true}
use Rattle.hs_pieces.proofs.SameLemmas.{sets-same, word-same, words-more}
use Rattle.hs_pieces.proofs.same.same_set.Goals as goal

pub returns-then-not-same_word : goal.returns-then-not-same_word
returns-then-not-same_word c = (
  λ is. absurd (false≢true is),
  λ same. absurd (false≢true (sym c.if-not-same_word.true ∙ c.same_word.ensures.1 (word-same c.args.x.now c.args.y.now c.words-xs.result c.words-ys.result c.loop-k.k c.words-xs.ensures c.words-ys.ensures (omega arith) same))),
)

pub loop-k-preserved : goal.loop-k-preserved
loop-k-preserved c =
    words-more c.args.x.now c.args.y.now c.words-xs.result c.words-ys.result c.loop-k.k c.words-xs.ensures c.words-ys.ensures c.loop-k.invariant (c.same_word.ensures.0 c.if-not-same_word.false)

pub returns : goal.returns
returns c = (λ is. sets-same c.args.x.now c.args.y.now (λ b below. c.loop-k.invariant b (omega arith)), λ same. refl)

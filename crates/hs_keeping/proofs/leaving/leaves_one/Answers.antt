use Rattle.std.proofs.Common.{ap, ◌∙◌}
use Rattle.hs_base.specs.Bits.{has_word_bit}
use Rattle.hs_reports.specs.WordBits.{word_bit}
use Rattle.hs_reports.specs.declared.end_words.EndWords.{EndWords}
use Rattle.hs_keeping.proofs.LeavingLemmas.{asked-first}
use Rattle.hs_keeping.proofs.LeavingLemmas.{same-left}
use Rattle.hs_keeping.proofs.leaving.leaves_one.Goals as goal

pub returns : goal.returns
returns c =
    c.is_left_to_end.ensures
    ∙ same-left c.args.identifier.single (c.contains_word_bit.ensures ∙ ap (λ ws. has_word_bit ws c.args.p) c.deref.ensures.value) (c.contains_word_bit-2.ensures ∙ ap (λ ws. has_word_bit ws c.args.p) c.deref-2.ensures.value)
    (asked-first c.words-words.result.before ∙ ap (λ (w : EndWords). word_bit w.before 0) c.words-words.ensures) (asked-first c.words-words.result.behind ∙ ap (λ (w : EndWords). word_bit w.behind 0) c.words-words.ensures) c.is_final.ensures

use Rattle.std.proofs.Common.{ap, ◌∙◌}
use Rattle.hs_reports.specs.WordBits.{word_bit}
use Rattle.hs_reports.specs.declared.end_words.EndWords.{EndWords}
use Rattle.hs_keeping.proofs.LeavingLemmas.{asked-first}
use Rattle.hs_keeping.proofs.leaving.is_final.Goals as goal

pub returns : goal.returns
returns c = asked-first c.words-words.result.before ∙ ap (λ (w : EndWords). word_bit w.before 0) c.words-words.ensures

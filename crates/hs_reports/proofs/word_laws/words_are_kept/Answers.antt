use Rattle.hs_reports.proofs.TellingLemmas.{words-kept}
use Rattle.hs_reports.proofs.word_laws.words_are_kept.Goals as goal

pub returns : goal.returns
returns c = words-kept

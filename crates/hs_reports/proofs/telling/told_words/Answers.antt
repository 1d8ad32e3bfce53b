use Rattle.std.proofs.Common.{sym, subst, ◌∙◌}
use Rattle.hs_reports.specs.Telling.{AreTellingWords}
use Rattle.hs_reports.proofs.TellingLemmas.{words-many, words-told}
use Rattle.hs_reports.proofs.telling.told_words.Goals as goal

pub returns-then-not-single : goal.returns-then-not-single
returns-then-not-single c kept ends told here are =
    subst (λ s. AreTellingWords s kept ends c.not_told_behind.result c.args.behind) (sym c.if-not-single.true)
    (words-many kept ends c.args.here c.args.before c.args.behind c.not_told_behind.result here are c.not_told_behind.ensures)

pub returns-then-told : goal.returns-then-told
returns-then-told c kept ends told here are =
    subst (λ s. AreTellingWords s kept ends 0 0) (sym c.if-not-single.false) (words-told kept ends (told ∙ c.if-told.true))

pub returns : goal.returns
returns c kept ends told here are =
    subst (λ s. AreTellingWords s kept ends c.first_words.result.late c.first_words.result.early) (sym c.if-not-single.false)
    (c.first_words.ensures c.args.here kept ends (told ∙ c.if-told.false) here are)

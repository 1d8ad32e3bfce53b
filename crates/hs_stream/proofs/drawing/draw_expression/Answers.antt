use Rattle.std.proofs.Common.{◌∙◌, rules}
use Rattle.std.proofs.lemmas.Result.{IfOk-weaker}
use Rattle.hs_stream.proofs.DrawingLemmas.{last-way}
use Rattle.hs_stream.proofs.drawing.draw_expression.Goals as goal

pub returns-in_default-clause-drawn : goal.returns-in_default-clause-drawn
returns-in_default-clause-drawn c =
    IfOk-weaker c.draw_two_words-in_default.result _ _ (λ text is. is ∙ last-way c.args.made c.args.generator.now.number (search rules) (search rules) (search rules)) c.draw_two_words-in_default.ensures.drawn

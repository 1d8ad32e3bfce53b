use Rattle.std.proofs.Common.{◌&&◌, ap, ◌∙◌}
use Rattle.hs_base.proofs.ContextSetLemmas.{bit-and}
use Rattle.hs_limex.specs.SingleWords.{is_set}
use Rattle.hs_limex.proofs.region_words.shared.Goals as goal

pub returns-else-word-eq0 : goal.returns-else-word-eq0
returns-else-word-eq0 c i small = bit-and c.args.word c.word_of.result i ∙ ap (λ b. is_set c.args.word i && b) (c.word_of.ensures i small)

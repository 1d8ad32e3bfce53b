use Rattle.hs_text.proofs.LineLemmas.{comment_is}
use Rattle.hs_text.proofs.line.is_skipped.Goals as goal

pub returns-in-len1-up : goal.returns-in-len1-up
returns-in-len1-up c = comment_is c.args.line.now c.in-len1-up.len_at_least

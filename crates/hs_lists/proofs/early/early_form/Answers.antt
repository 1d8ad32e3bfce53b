use Rattle.std.proofs.Common.{arith}
use Rattle.hs_lists.proofs.EarlyLemmas.{form_cause-early}
use Rattle.hs_lists.proofs.early.early_form.Goals as goal

pub returns-then-at-len : goal.returns-then-at-len
returns-then-at-len c bytes rest long place = form_cause-early bytes rest c.args.at (omega (arith, long, c.if-at-len.true)) place

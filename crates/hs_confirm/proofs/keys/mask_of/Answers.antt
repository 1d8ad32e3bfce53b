use Rattle.std.proofs.Common.{arith}
use Rattle.hs_confirm.proofs.KeyLemmas.{mask-all, mask-some}
use Rattle.hs_confirm.proofs.keys.mask_of.Goals as goal

pub returns-then-width-ge-KEY_LEN : goal.returns-then-width-ge-KEY_LEN
returns-then-width-ge-KEY_LEN c = λ full fits. mask-all c.args.width full (omega arith) fits

pub returns-else-width-ge-KEY_LEN : goal.returns-else-width-ge-KEY_LEN
returns-else-width-ge-KEY_LEN c = λ full fits. mask-some c.args.width full (omega arith)

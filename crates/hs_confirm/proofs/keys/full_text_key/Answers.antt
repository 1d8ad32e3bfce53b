use Rattle.std.proofs.Common.{arith}
use Rattle.hs_confirm.proofs.KeyLemmas.{eight-behind}
use Rattle.hs_confirm.proofs.keys.full_text_key.Goals as goal

pub returns : goal.returns
returns c = eight-behind c.args.history.now c.args.bytes.now c.args.at _ _ (omega arith) (omega arith) c.eight_bytes.ensures

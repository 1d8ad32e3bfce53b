use Rattle.std.proofs.Common.{arith}
use Rattle.hs_confirm.proofs.KeyLemmas.{eight-reversed}
use Rattle.hs_confirm.proofs.keys.eight_bytes.Goals as goal

pub returns : goal.returns
returns c = eight-reversed c.args.bytes.now c.args.from (omega arith) (λ k. let b = c.type_inv.bytes k in omega (arith, b))

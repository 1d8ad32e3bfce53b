use Rattle.std.proofs.Common.{arith}
use Rattle.std.proofs.lemmas.Bool.{eq-eqb, eqb-true}
use Rattle.hs_limex.proofs.SingleLemmas.{clear-word, word-clear}
use Rattle.hs_limex.proofs.single.is_clear.Goals as goal

pub returns : goal.returns
returns c =
    let bytes = c.args.bytes.now in
    let word = c.load.result in (
      λ is. word-clear bytes word (λ i. let b = c.type_inv.bytes i in omega (arith, b)) c.load.ensures (eqb-true word 0 is),
      λ zeros. eq-eqb word 0 (clear-word bytes word c.load.type_inv (λ i. let b = c.type_inv.bytes i in omega (arith, b)) c.load.ensures zeros),
    )

use Rattle.std.proofs.Common.{◌/◌, ◌-◌, ◌∙◌, length, inl, inr, arith}
use Rattle.std.proofs.lemmas.Bool.{cases_eq}
use Rattle.hs_limex.proofs.SingleLemmas.{bytes-stored}
use Rattle.hs_limex.proofs.single.store_few.Goals as goal

pub returns-clause-bits : goal.returns-clause-bits
returns-clause-bits c k =
    let count = length c.args.bytes.now in
    let p = k / 8 in
    bytes-stored c.put_byte-3.new.bytes c.args.word count k (c.put_byte-3.ensures.len ∙ (c.put_byte-2.ensures.len ∙ c.put_byte.ensures.len)) (λ below.
    elim (cases_eq p (count - 1)) [
      | inl last ↦ c.put_byte-3.ensures.here k last
      | inr a ↦ c.put_byte-3.ensures.kept k (elim (cases_eq p 1) [
        | inl second ↦ c.put_byte-2.ensures.here k second
        | inr b ↦ c.put_byte-2.ensures.kept k (c.put_byte.ensures.here k (omega (arith, a, b, below, c.requires.few)))
      ])
    ])

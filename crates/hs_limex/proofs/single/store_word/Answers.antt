use Rattle.std.proofs.Common.{◌∙◌, length, refl, arith}
use Rattle.hs_limex.proofs.SingleLemmas.{bytes-stored, eight-stored}
use Rattle.hs_limex.proofs.single.store_word.Goals as goal

pub returns-in-0-clause-bits : goal.returns-in-0-clause-bits
returns-in-0-clause-bits c k = bytes-stored c.args.bytes.now c.args.word (length c.args.bytes.now) k refl (λ below. absurd (omega (arith, below, c.in-0.is)))

pub returns-in-1-clause-bits : goal.returns-in-1-clause-bits
returns-in-1-clause-bits c k =
    bytes-stored c.put_byte.new.bytes c.args.word (length c.args.bytes.now) k c.put_byte.ensures.len (λ below. c.put_byte.ensures.here k (omega (arith, below, c.in-1.is)))

pub returns-in-8-clause-bits : goal.returns-in-8-clause-bits
returns-in-8-clause-bits c k =
    let new = c.copy_from_slice.new.self in
    eight-stored new c.args.word (length c.args.bytes.now) k (omega arith) (c.copy_from_slice.ensures.after ∙ c.to_le_bytes.ensures) c.in-8.is (c.copy_from_slice.ensures.len ∙ c.in-8.is)
    (λ i. let b = c.type_inv.bytes i in omega (arith, b))

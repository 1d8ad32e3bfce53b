use Rattle.std.proofs.Common.{◌/◌, ◌-◌, ◌∙◌, length, inl, inr, arith}
use Rattle.std.proofs.lemmas.Bool.{cases_eq}
use Rattle.hs_limex.proofs.SingleLemmas.{bytes-stored}
use Rattle.hs_limex.proofs.single.store_many.Goals as goal

pub returns-clause-bits : goal.returns-clause-bits
returns-clause-bits c k =
    let count = length c.args.bytes.now in
    let p = k / 8 in
    let len =
    c.put_byte-7.ensures.len ∙ (c.put_byte-6.ensures.len ∙ (c.put_byte-5.ensures.len ∙ (c.put_byte-4.ensures.len ∙ (c.put_byte-3.ensures.len ∙ (c.put_byte-2.ensures.len ∙ c.put_byte.ensures.len))))) in
    bytes-stored c.put_byte-7.new.bytes c.args.word count k len (λ below.
    elim (cases_eq p (count - 1)) [
      | inl seventh ↦ c.put_byte-7.ensures.here k seventh
      | inr a ↦ c.put_byte-7.ensures.kept k (elim (cases_eq p (count - 2)) [
        | inl sixth ↦ c.put_byte-6.ensures.here k sixth
        | inr b ↦ c.put_byte-6.ensures.kept k (elim (cases_eq p (count - 3)) [
          | inl fifth ↦ c.put_byte-5.ensures.here k fifth
          | inr d ↦ c.put_byte-5.ensures.kept k (elim (cases_eq p 3) [
            | inl fourth ↦ c.put_byte-4.ensures.here k fourth
            | inr e ↦ c.put_byte-4.ensures.kept k (elim (cases_eq p 2) [
              | inl third ↦ c.put_byte-3.ensures.here k third
              | inr f ↦ c.put_byte-3.ensures.kept k (elim (cases_eq p 1) [
                | inl second ↦ c.put_byte-2.ensures.here k second
                | inr h ↦ c.put_byte-2.ensures.kept k (c.put_byte.ensures.here k (omega (arith, a, b, d, e, f, h, below, c.requires.few)))
              ])
            ])
          ])
        ])
      ])
    ])

use Rattle.std.proofs.Common.{ℕ, subst}
use Rattle.hs_support.specs.Support.{supported_flags, supported_parameters, IsOutside, IsLeastOutside}
use Rattle.hs_support.proofs.RefusedLemmas.{flag-least, parameter-least}
use Rattle.hs_support.proofs.fault.flags_fault.Goals as goal

pub returns-in-Some : goal.returns-in-Some
returns-in-Some c =
    let found = subst (λ supported. IsLeastOutside supported c.from-2.result c.in-Some.bit) c.from.ensures c.in-Some.ensures in
    flag-least c.args.flags c.args.ext c.in-Some.bit (subst (λ bits. IsLeastOutside supported_flags bits c.in-Some.bit) c.from-2.ensures found)

pub returns-in-Some-least_outside : goal.returns-in-Some-least_outside
returns-in-Some-least_outside c =
    let found = subst (λ supported. IsLeastOutside supported c.from-4.result c.in-Some-least_outside.bit) c.from-3.ensures c.in-Some-least_outside.ensures in
    let none = subst (λ supported. (place : ℕ) → IsOutside supported c.from-2.result place → ⊥) c.from.ensures c.in_default.ensures in
    parameter-least c.args.flags c.args.ext c.in-Some-least_outside.bit
    (subst (λ bits. (place : ℕ) → IsOutside supported_flags bits place → ⊥) c.from-2.ensures none)
    (subst (λ bits. IsLeastOutside supported_parameters bits c.in-Some-least_outside.bit) c.from-4.ensures found)

use Rattle.std.proofs.Common.{◌≡◌, ◌∙◌, ℕ, ◌+◌, ◌%◌, ◌<◌, true, false, [], ◌∷◌, ◌++◌, length, sym, ap, subst, arith}
use Rattle.hs_base.specs.ByteSets.{has, members}
use Rattle.hs_base.specs.Contexts.{class_of}
use Rattle.hs_base.specs.ContextSets.{has_next}
use Rattle.hs_base.specs.RepeatRows.{IsRingRow}
use Rattle.hs_base.proofs.BitLemmas.{zero-bits}
use Rattle.hs_repeat.proofs.RingLemmas.{IsWritten, ring-in, ring-out, zero-ring}
use Rattle.hs_repeat.proofs.ring.RingEngine.step.Goals as goal

pub returns-then-not-contains-clause-well : goal.returns-then-not-contains-clause-well
returns-then-not-contains-clause-well g c = zero-ring c.args.self.now.greatest c.clear_live.new.bytes (c.args.at + 1) c.clear_live.ensures.zero

pub returns-then-not-contains-clause-takes : goal.returns-then-not-contains-clause-takes
returns-then-not-contains-clause-takes g c tree u entered runs len at prev row =
    let b : ℕ = c.args.byte in
    let byte : b < 256 = omega arith in
    let outside : has c.args.self.now.set b ≡ false = sym c.contains.ensures ∙ c.if-not-contains.true in
    ring-out c.args.self.now.set c.args.self.now.greatest u entered len b byte (has_next c.args.enter (class_of b)) outside c.clear_live.new.bytes (zero-bits c.clear_live.new.bytes c.clear_live.ensures.zero)

pub returns-clause-takes : goal.returns-clause-takes
returns-clause-takes g c tree u entered runs len at prev row =
    let b : ℕ = c.args.byte in
    let byte : b < 256 = omega arith in
    let m : ℕ = c.args.self.now.greatest in
    let set = c.args.self.now.set in
    let some : 0 < m = omega (arith, c.args.self.now.some) in
    let inside : has set b ≡ true = sym c.contains.ensures ∙ c.if-not-contains.false in
    let place : c.args.at % c.from.result ≡ length u % m = ap (λ n. n % c.from.result) at ∙ ap (λ n. length u % n) c.from.ensures in
    let entering : c.contains-2.result ≡ has_next c.args.enter (class_of b) = c.contains-2.ensures ∙ ap (has_next c.args.enter) c.class_of.ensures in
    subst (λ i. IsRingRow m (members set) c.write_bit.new.bytes (u ++ b ∷ []) (entered ++ i ∷ [])) entering
    (ring-in set m some u entered len b byte c.contains-2.result inside c.args.region.now c.write_bit.new.bytes row
    (subst (λ p. IsWritten c.args.region.now c.write_bit.new.bytes p c.contains-2.result) place c.write_bit.ensures.bits))

pub returns-clause-stays : goal.returns-clause-stays
returns-clause-stays g c never zeros outside =
    let entering : c.contains-2.result ≡ false = c.contains-2.ensures ∙ (ap (has_next c.args.enter) c.class_of.ensures ∙ outside) in
    c.write_bit.ensures.same (zero-bits c.args.region.now zeros (c.args.at % c.from.result) ∙ sym entering)

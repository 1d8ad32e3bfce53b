use Rattle.std.proofs.Common.{◌≡◌, ℕ, ◌*◌, ◌<◌, false, List, [], ◌∷◌, ◌++◌, length, sym, ap, subst, ◌∙◌, arith}
use Rattle.hs_base.specs.Contexts.{Context, class_of, context_of, prev_at}
use Rattle.hs_base.specs.ContextSets.{has_next}
use Rattle.hs_base.specs.WrittenOut.{write_out}
use Rattle.hs_base.proofs.StreamContexts.{same-context}
use Rattle.hs_base.specs.Bits.{has_bit}
use Rattle.hs_engine.specs.AnyBelow.{any_below}
use Rattle.hs_engine.specs.Tables.{leads_to, is_moved}
use Rattle.hs_base.specs.PositionRows.{IsField}
use Rattle.hs_limex.proofs.PlainLemmas.{field-rests, field-step_in, none-moved, led-from_zeros}
use Rattle.hs_base.proofs.BitLemmas.{same-zero, zero-bits}
use Rattle.hs_nfa.proofs.plain.PlainEngine.step.Goals as goal

pub returns-then-stays_at_rest-clause-takes : goal.returns-then-stays_at_rest-clause-takes
returns-then-stays_at_rest-clause-takes g c tree u entered runs len at prev field =
    let a = c.args.self.now.automaton in
    let b : ℕ = c.args.byte in
    let byte : b < 256 = omega arith in
    let entering : c.contains-entering.result ≡ has_next c.args.enter (class_of b) = c.contains-entering.ensures ∙ ap (has_next c.args.enter) c.class_of-next.ensures in
    subst (λ i. IsField c.args.region.now (write_out tree) (u ++ b ∷ []) (entered ++ i ∷ [])) entering
    (field-rests a (write_out tree) c.args.self.now.first runs.tables c.args.self.now.begins u entered len c.args.region.now field (zero-bits c.args.region.now (c.stays_at_rest.ensures.zero c.if-stays_at_rest.true)) b byte c.contains-entering.result
    (c.stays_at_rest.ensures.outside c.if-stays_at_rest.true))

pub returns-clause-takes : goal.returns-clause-takes
returns-clause-takes g c tree u entered runs len at prev field =
    let a = c.args.self.now.automaton in
    let here : Context = record { prev = c.args.prev; next = c.class_of-next.result } in
    let b : ℕ = c.args.byte in
    let led : List ℕ = c.follow.new.led in
    let byte : b < 256 = omega arith in
    let same : context_of u (class_of b) ≡ here = same-context (prev_at u (length u)) c.args.prev (class_of b) c.class_of-next.result (sym prev) (sym c.class_of-next.ensures) in
    let entering : c.contains-entering.result ≡ has_next c.args.enter (class_of b) = c.contains-entering.ensures ∙ ap (has_next c.args.enter) c.class_of-next.ensures in
    let all_led : (k : ℕ) → has_bit led k ≡ any_below (8 * length c.args.region.now) (leads_to a.follows c.args.region.now here k) =
    λ k.
    led-from_zeros led 64 k (any_below (8 * length c.args.region.now) (leads_to c.follows.result.now c.args.region.now here k)) (c.follow.ensures.bits k)
    ∙ ap (λ rows. any_below (8 * length c.args.region.now) (leads_to rows c.args.region.now here k)) c.follows.ensures in
    subst (λ i. IsField c.settle.new.region (write_out tree) (u ++ b ∷ []) (entered ++ i ∷ [])) entering
    (field-step_in a (write_out tree) runs.tables u entered len c.args.region.now field b byte c.contains-entering.result led here same all_led c.settle.new.region c.settle.ensures.bits)

pub returns-clause-stays : goal.returns-clause-stays
returns-clause-stays g c never zeros outside =
    let a = c.args.self.now.automaton in
    let here : Context = record { prev = c.args.prev; next = c.class_of-next.result } in
    let b : ℕ = c.args.byte in
    let led : List ℕ = c.follow.new.led in
    let entering : c.contains-entering.result ≡ false = c.contains-entering.ensures ∙ (ap (has_next c.args.enter) c.class_of-next.ensures ∙ outside) in
    let all_led : (k : ℕ) → has_bit led k ≡ any_below (8 * length c.args.region.now) (leads_to a.follows c.args.region.now here k) =
    λ k.
    led-from_zeros led 64 k (any_below (8 * length c.args.region.now) (leads_to c.follows.result.now c.args.region.now here k)) (c.follow.ensures.bits k)
    ∙ ap (λ rows. any_below (8 * length c.args.region.now) (leads_to rows c.args.region.now here k)) c.follows.ensures in
    c.settle.ensures.stays (λ k. subst (λ i. is_moved a led here i b k ≡ false) (sym entering) (none-moved a c.args.region.now zeros led here b all_led k))
    ∙ same-zero c.clear_bits.new.bytes c.args.region.now c.clear_bits.ensures.len c.clear_bits.ensures.zero zeros

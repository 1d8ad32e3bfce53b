-- What states say of ends, made state by state.
use Rattle.std.proofs.Common.{◌≡◌, ℕ, suc, ◌+◌, Bool, false, ◌||◌, List, [], ◌∷◌, ◌++◌, Some, slice_get, sym, ap, subst, ◌∙◌, arith, length-append}
use Rattle.hs_bits.proofs.WordLemmas.{or-turned}
use Rattle.hs_engine.specs.declared.automaton.Automaton.{Automaton}
use Rattle.hs_engine.specs.AnyBelow.{any_below}
use Rattle.hs_dfa.specs.StateEnds.{AreEndsOf, IsEndOf}
use Rattle.hs_states.specs.declared.footing.Footing.{Footing}
use Rattle.hs_dfa.specs.declared.state_ends.StateEnd.{StateEnd}
use Rattle.hs_states.proofs.SoFarLemmas.{IsEntry, entry-of, new_entry, old_entry}
use Rattle.std.proofs.lemmas.Option.{same_Some}

pub any-next : (n : ℕ) (test : ℕ → Bool) → any_below (n + 1) test ≡ (test n || any_below n test)
any-next n test = let e : n + 1 ≡ suc n = omega arith in ap (λ m. any_below m test) e

pub any-more : (n : ℕ) (test : ℕ → Bool) (before here now : Bool) → before ≡ any_below n test → here ≡ test n → now ≡ (before || here) → now ≡ any_below (n + 1) test
any-more n test before here now known is both =
    both ∙ (or-turned before here ∙ (ap (λ b. b || before) is ∙ (ap (λ b. test n || b) known ∙ sym (any-next n test))))

pub none-more : (n : ℕ) (test : ℕ → Bool) → any_below n test ≡ false → test n ≡ false → any_below (n + 1) test ≡ false
none-more n test known isnt = any-next n test ∙ (ap (λ b. b || any_below n test) isnt ∙ known)

more-end : (a : Automaton) (states : List Footing) (count : ℕ) (ends : List StateEnd) (here : Footing) (last : StateEnd) → AreEndsOf a states count ends → slice_get states count ≡ Some here → IsEndOf a here last →
    (k : ℕ) (state : Footing) (end : StateEnd) → slice_get states k ≡ Some state → IsEntry ends last k end → IsEndOf a state end
more-end a states count ends here last are at is k state end there (old_entry before) = are.each k state end there before
more-end a states count ends here last are at is k state end there (new_entry place same) =
    let number : k ≡ count = place ∙ are.len in
    let own : state ≡ here = same_Some state here (sym there ∙ (ap (slice_get states) number ∙ at)) in
    subst (λ e. IsEndOf a state e) (sym same) (subst (λ s. IsEndOf a s last) (sym own) is)

pub ends-more : (a : Automaton) (states : List Footing) (count : ℕ) (ends : List StateEnd) (here : Footing) (last : StateEnd) → AreEndsOf a states count ends → slice_get states count ≡ Some here → IsEndOf a here last →
    AreEndsOf a states (count + 1) (ends ++ last ∷ [])
ends-more a states count ends here last are at is = record {
  len = omega (arith, length-append ends (last ∷ []), are.len);
  each = λ k state end there other. more-end a states count ends here last are at is k state end there (entry-of ends last k end other);
}

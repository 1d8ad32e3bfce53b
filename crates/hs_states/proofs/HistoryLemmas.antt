-- Each stream has its state among those that are discovered.
use Rattle.std.proofs.Common.{◌≡◌, ℕ, suc, ◌<◌, Bool, true, false, List, [], ◌∷◌, ◌++◌, length, Some, refl, sym, ap, subst, ◌∙◌, arith, EachIndex, slice_index}
use Rattle.std.proofs.lemmas.List.{map-append}
use Rattle.std.proofs.lemmas.Option.{slice_get_within, same_Some}
use Rattle.hs_base.specs.Fields.{entered_always}
use Rattle.hs_base.specs.WrittenOut.{Core}
use Rattle.hs_states.specs.Discovery.{LeadsBelow}
use Rattle.hs_states.specs.DfaStates.{DfaState, AreStatesOf, tests_of, move_by, first_state}
use Rattle.hs_states.specs.DfaHistories.{IsStateOf}
use Rattle.hs_states.proofs.BlindLemmas.{IsBlind}
use Rattle.hs_states.specs.DfaLaws.{HasStateOf}
use Rattle.hs_states.proofs.StateLemmas.{state-start, state-step}

always-count : (u : List ℕ) → length (entered_always u) ≡ length u
always-count [] = refl
always-count (b ∷ u) = ap suc (always-count u)

joined : (u : List ℕ) (b : ℕ) (v : List ℕ) → (u ++ b ∷ []) ++ v ≡ u ++ b ∷ v
joined [] b v = refl
joined (a ∷ u) b v = ap (λ z. a ∷ z) (joined u b v)

none-behind : (u : List ℕ) → u ++ [] ≡ u
none-behind [] = refl
none-behind (a ∷ u) = ap (λ z. a ∷ z) (none-behind u)

module _ (r : Core) (h : Bool) (blind : h ≡ false → IsBlind r) (states : List DfaState) (all : AreStatesOf r h states) where
  start-has : HasStateOf r h [] states
  start-has = record { number = 0; state = first_state (tests_of r) h; at = all.so_far.begins; is = state-start r h }

  step-has : (u : List ℕ) (b : ℕ) → b < 256 → HasStateOf r h u states → HasStateOf r h (u ++ b ∷ []) states
  step-has u b small has =
      let leads : LeadsBelow (move_by (tests_of r) h) states (length states) has.number b = all.closed has.number b (slice_get_within states has.number has.state has.at) small in
      let same : leads.is.source ≡ has.state = same_Some leads.is.source has.state (sym leads.is.at ∙ has.at) in
      record {
        number = leads.to;
        state = move_by (tests_of r) h has.state b;
        at = leads.is.leads ∙ ap (λ z. Some (move_by (tests_of r) h z b)) same;
        is = subst (λ e. IsStateOf r h (u ++ b ∷ []) e (move_by (tests_of r) h has.state b)) (sym (map-append (λ x. true) u (b ∷ [])))
            (state-step r h blind u (entered_always u) (always-count u) has.state has.is b);
      }

  has-behind : (v u : List ℕ) → EachIndex v (λ k. slice_index v k < 256) → HasStateOf r h u states → HasStateOf r h (u ++ v) states
  has-behind [] u small has = subst (λ w. HasStateOf r h w states) (sym (none-behind u)) has
  has-behind (b ∷ v) u small has =
      subst (λ w. HasStateOf r h w states) (joined u b v)
      (has-behind v (u ++ b ∷ []) (λ k below. small (suc k) (omega arith)) (step-has u b (small 0 (omega arith)) has))

  pub stream-has : (u : List ℕ) → EachIndex u (λ k. slice_index u k < 256) → HasStateOf r h u states
  stream-has u small = has-behind u [] small start-has

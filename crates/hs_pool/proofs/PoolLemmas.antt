-- What a pool owes stays so while it grows.
use Rattle.std.proofs.Common.{◌≡◌, ◌⊎◌, ℕ, ◌<◌, inl, inr, Bool, true, false, List, length, take, Some, slice_get, refl, sym, ap, subst, ◌∙◌, arith}
use Rattle.std.proofs.lemmas.Bool.{cases_eq, cases_lt}
use Rattle.std.proofs.lemmas.Option.{slice_get-get_or}
use Rattle.std.specs.Prelude.{slice_index_or}
use Rattle.hs_base.specs.Contexts.{prev_behind}
use Rattle.hs_engine.specs.Engines.{Meaning}
use Rattle.hs_pool.specs.Growing.{Grows, IsAlike, IsAlikeOrBlank, IsStepPut}
use Rattle.hs_pool.specs.Growing.IsAlikeOrBlank.{alike, blank}
use Rattle.hs_pool.specs.Pools.{AreStepsOf, IsPoolAt, IsStep, KeepsOthers}
use Rattle.hs_pool.specs.Rows.{next_of, step_at}
use Rattle.hs_pool.specs.Running.{AreStatesKept, IsStateFor}
use Rattle.hs_engine.specs.Timeless.{TakesStep}
use Rattle.hs_engine.specs.declared.ends.ByteEnds.{ByteEnds}
use Rattle.hs_pool.specs.declared.pool.StatePool.{StatePool}
use Rattle.hs_pool.specs.declared.state.State.{State}
use Rattle.hs_pool.proofs.BlankLemmas.{blank-steps}
use Rattle.hs_pool.proofs.TableLemmas.{same-got}

-- a step that was one is one still where the states are
step-kept : (m : Meaning) (states states' : List State) (old : State) (enters : Bool) (byte step : ℕ) → ((s : ℕ) (state : State) → slice_get states s ≡ Some state → slice_get states' s ≡ Some state) →
    IsStep m states old enters byte step → IsStep m states' old enters byte step
step-kept m states states' old enters byte step still is = record {
  next = is.next;
  is = still (next_of step) is.next is.is;
  engine_is = is.engine_is;
  prev_is = is.prev_is;
  takes = is.takes;
}

pub alike-at : (m : Meaning) (n : ℕ) (old new : StatePool) → IsAlike old new → IsPoolAt m n old → IsPoolAt m n new
alike-at m n old new same pool =
    subst (λ states. AreStepsOf m n states.items new.rows.items) (sym same.states) (subst (λ rows. AreStepsOf m n old.states.items rows.items) (sym same.rows) pool)

pub alike-or-blank-at : (m : Meaning) (n : ℕ) (old new : StatePool) → IsAlikeOrBlank old new → IsPoolAt m n old → IsPoolAt m n new
alike-or-blank-at m n old new (alike same) pool = alike-at m n old new same pool
alike-or-blank-at m n old new (blank none) pool = blank-steps m n new.states.items new.rows.items none

pub grown-at : (m : Meaning) (n : ℕ) (old new : StatePool) → Grows old new → IsPoolAt m n old → IsPoolAt m n new
grown-at m n old new grows pool s state enters byte is of small known = elim (cases_lt s (length old.states.items)) [
  | inl low ↦
      let there : (x : State) × (slice_get old.states.items s ≡ Some x) = (slice_index_or old.states.items s state, slice_get-get_or old.states.items s state low) in
      let same : there.0 ≡ state = same-got new.states.items s there.0 state (grows.still s there.0 there.1) is in
      let was : slice_get old.states.items s ≡ Some state = there.1 ∙ ap Some same in
      let kept : step_at new.rows.items s enters byte ≡ step_at old.rows.items s enters byte = grows.kept s enters byte low in
      subst (λ step. IsStep m new.states.items state enters byte step) (sym kept)
      (step-kept m old.states.items new.states.items state enters byte (step_at old.rows.items s enters byte) grows.still
      (pool s state enters byte was of small (λ none. known (ap next_of kept ∙ none))))
  | inr high ↦ absurd (known (grows.fresh s enters byte (λ low. omega (arith, low, high))))
]

-- the step that was put is what the engine does, and all others are as before
module _ (m : Meaning) (n state next : ℕ) (enters : Bool) (byte : ℕ) (ends : ByteEnds) (old new : StatePool)
    (put : IsStepPut state enters byte next ends old new) where
  states-are : new.states.items ≡ old.states.items
  states-are = ap (λ v. v.items) put.states

  still : (s : ℕ) (x : State) → slice_get old.states.items s ≡ Some x → slice_get new.states.items s ≡ Some x
  still s x is = subst (λ (l : List State). slice_get l s ≡ Some x) (sym states-are) is

  back : (s : ℕ) (x : State) → slice_get new.states.items s ≡ Some x → slice_get old.states.items s ≡ Some x
  back s x is = subst (λ (l : List State). slice_get l s ≡ Some x) states-are is

  other-step : IsPoolAt m n old → (s : ℕ) (x : State) (e : Bool) (b : ℕ) → slice_get new.states.items s ≡ Some x → x.engine ≡ n → b < 256 → (s ≡ state → e ≡ enters → b ≡ byte → ⊥) →
      (next_of (step_at new.rows.items s e b) ≡ 0 → ⊥) → IsStep m new.states.items x e b (step_at new.rows.items s e b)
  other-step pool s x e b is of small apart known =
      let kept : step_at new.rows.items s e b ≡ step_at old.rows.items s e b = put.others s e b small apart in
      subst (λ step. IsStep m new.states.items x e b step) (sym kept)
      (step-kept m old.states.items new.states.items x e b (step_at old.rows.items s e b) still
      (pool s x e b (back s x is) of small (λ none. known (ap next_of kept ∙ none))))

  -- of an engine with another number
  pub put-other : (own : State) → slice_get old.states.items state ≡ Some own → (own.engine ≡ n → ⊥) → IsPoolAt m n old → IsPoolAt m n new
  put-other own there apart pool s x e b is of small known =
      other-step pool s x e b is of small (λ same _ _. apart (
      let one : own ≡ x = same-got old.states.items s own x (subst (λ k. slice_get old.states.items k ≡ Some own) (sym same) there) (back s x is) in
      ap (λ (y : State). y.engine) one ∙ of)) known

  same-bool : (a b : Bool) → (a ≡ b) ⊎ (a ≡ b → ⊥)
  same-bool true true = inl refl
  same-bool false false = inl refl
  same-bool true false = inr (λ e. absurd (cc))
  same-bool false true = inr (λ e. absurd (cc))

  -- of the engine itself
  pub put-own : (own next_state : State) → slice_get old.states.items state ≡ Some own → slice_get old.states.items next ≡ Some next_state → next_state.engine ≡ own.engine →
      next_state.prev ≡ prev_behind (Some byte) → TakesStep m (take m.width own.region) (take m.width next_state.region) own.prev enters byte ends →
      IsPoolAt m n old → IsPoolAt m n new
  put-own own next_state there there' engine prev takes pool s x e b is of small known = elim (cases_eq s state) [
    | inr apart ↦ other-step pool s x e b is of small (λ same _ _. apart same) known
    | inl same ↦ elim (same-bool e enters) [
      | inr apart ↦ other-step pool s x e b is of small (λ _ one _. apart one) known
      | inl same' ↦ elim (cases_eq b byte) [
        | inr apart ↦ other-step pool s x e b is of small (λ _ _ one. apart one) known
        | inl same'' ↦ here s x e b is same same' same''
      ]
    ]
  ]
    where
      step : ℕ
      step = step_at new.rows.items state enters byte

      one : IsStep m new.states.items own enters byte step
      one = record {
        next = next_state;
        is = subst (λ k. slice_get new.states.items k ≡ Some next_state) (sym put.put.next_is) (still next next_state there');
        engine_is = engine;
        prev_is = prev;
        takes = subst (λ es. TakesStep m (take m.width own.region) (take m.width next_state.region) own.prev enters byte es) (sym put.put.ends_are) takes;
      }

      here : (s : ℕ) (x : State) (e : Bool) (b : ℕ) → slice_get new.states.items s ≡ Some x → s ≡ state → e ≡ enters → b ≡ byte → IsStep m new.states.items x e b (step_at new.rows.items s e b)
      here s x e b is same same' same'' =
          let mine : own ≡ x = same-got old.states.items s own x (subst (λ k. slice_get old.states.items k ≡ Some own) (sym same) there) (back s x is) in
          subst (λ k. IsStep m new.states.items x e b (step_at new.rows.items k e b)) (sym same)
          (subst (λ k. IsStep m new.states.items x k b (step_at new.rows.items state k b)) (sym same')
          (subst (λ k. IsStep m new.states.items x enters k (step_at new.rows.items state enters k)) (sym same'')
          (subst (λ (y : State). IsStep m new.states.items y enters byte step) mine one)))

-- others are kept one after the other
pub others-more : {E : Type 0} (meaning : E → Meaning) (n : ℕ) (a b c : StatePool) → KeepsOthers meaning n a b → KeepsOthers meaning n b c → KeepsOthers meaning n a c
others-more meaning n a b c one two k e apart pool = two k e apart (one k e apart pool)

pub others-same : {E : Type 0} (meaning : E → Meaning) (n : ℕ) (a : StatePool) → KeepsOthers meaning n a a
others-same meaning n a k e apart pool = pool

pub others-alike : {E : Type 0} (meaning : E → Meaning) (n : ℕ) (a b : StatePool) → IsAlike a b → KeepsOthers meaning n a b
others-alike meaning n a b same k e apart pool = alike-at (meaning e) k a b same pool

pub others-alike-or-blank : {E : Type 0} (meaning : E → Meaning) (n : ℕ) (a b : StatePool) → IsAlikeOrBlank a b → KeepsOthers meaning n a b
others-alike-or-blank meaning n a b same k e apart pool = alike-or-blank-at (meaning e) k a b same pool

pub others-grown : {E : Type 0} (meaning : E → Meaning) (n : ℕ) (a b : StatePool) → Grows a b → KeepsOthers meaning n a b
others-grown meaning n a b grows k e apart pool = grown-at (meaning e) k a b grows pool

pub one-kept : (s n : ℕ) (old new : StatePool) → AreStatesKept old new → IsStateFor old.states.items s n → IsStateFor new.states.items s n
one-kept s n old new kept one = record { state = one.state; is = kept s one.state one.is; engine_is = one.engine_is; some = one.some }

pub kept-alike : (old new : StatePool) → IsAlike old new → AreStatesKept old new
kept-alike old new same s x is = subst (λ states. slice_get states.items s ≡ Some x) (sym same.states) is

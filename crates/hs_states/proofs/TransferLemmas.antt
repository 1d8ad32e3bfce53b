-- The states of an automaton are those of its expression.
use Rattle.std.proofs.Common.{◌≡◌, ℕ, ◌<◌, Bool, true, false, ◌&&◌, ◌||◌, List, get_or, eqb, refl, sym, ap, subst, ◌∙◌, vec_len}
use Rattle.std.proofs.lemmas.Option.{get_or_from_slice_get}
use Rattle.hs_base.specs.declared.context.Prev.{Prev}
use Rattle.hs_base.specs.declared.context.Prev.TheVariants as stands
use Rattle.hs_base.specs.declared.context.Next.{Next}
use Rattle.hs_base.specs.Assertions.{line_feed, is_word_byte}
use Rattle.hs_base.specs.Contexts.{Context, class_of, prev_by}
use Rattle.hs_base.specs.WrittenOut.{Core, count, set_of}
use Rattle.hs_engine.specs.declared.automaton.Automaton.{Automaton}
use Rattle.hs_engine.specs.AnyBelow.{any_below}
use Rattle.hs_engine.specs.Automata.{accepts, enters, follows, takes}
use Rattle.hs_engine.specs.Between.{between}
use Rattle.hs_engine.specs.Positions.{accept, enter, follow}
use Rattle.hs_engine.specs.Tables.{IsFor}
use Rattle.hs_states.specs.AutomatonStates.{tests_by}
use Rattle.hs_states.specs.DfaStates.{AreStatesBy, AreStatesOf, DfaState, first_state, is_led_to, is_live, kept_prev, move_by, state_where, tests_of}
use Rattle.hs_states.specs.Discovery.{AreAllDiscovered}
use Rattle.hs_states.proofs.DiscoveryLemmas.{all-as}
use Rattle.hs_states.proofs.StateLemmas.{any-same, member-of, same-truth, same-where}

module _ (a : Automaton) (r : Core) (is : IsFor a r) (h : Bool) where
  takes-same : (x b : ℕ) → b < 256 → takes a x b ≡ get_or (set_of r x) b false
  takes-same x b small =
      same-truth (takes a x b) (get_or (set_of r x) b false)
      (λ told. get_or_from_slice_get (set_of r x) b true false ((is.sets x b small).0 told))
      (λ told. (is.sets x b small).1 (member-of (set_of r x) b told))

  led-same : (s : DfaState) (b : ℕ) → b < 256 → (y : ℕ) → is_led_to (tests_by a) s b y ≡ is_led_to (tests_of r) s b y
  led-same s b small y =
      let c : Context = between s.prev (class_of b) in
      ap (λ t. t && (enters a y c || any_below (vec_len a.sets) (λ x. is_live s x && follows a x y c))) (takes-same y b small)
      ∙ (ap (λ t. get_or (set_of r y) b false && (t || any_below (vec_len a.sets) (λ x. is_live s x && follows a x y c))) (is.enters y c)
      ∙ (ap (λ n. get_or (set_of r y) b false && (enter r y c || any_below n (λ x. is_live s x && follows a x y c))) is.size
      ∙ ap (λ t. get_or (set_of r y) b false && (enter r y c || t))
      (any-same (count r) (λ x. is_live s x && follows a x y c) (λ x. is_live s x && follow r x y c) (λ x below. ap (λ t. is_live s x && t) (is.follows x y s.prev b)))))

  pub move-same : (s : DfaState) (b : ℕ) → b < 256 → move_by (tests_by a) h s b ≡ move_by (tests_of r) h s b
  move-same s b small =
      let p : Prev = kept_prev h (prev_by (eqb b line_feed) (is_word_byte b)) in
      ap (λ n. state_where n (is_led_to (tests_by a) s b) p) is.size
      ∙ same-where (count r) (is_led_to (tests_by a) s b) (is_led_to (tests_of r) s b) p p (λ y below. led-same s b small y) refl

  pub first-same : first_state (tests_by a) h ≡ first_state (tests_of r) h
  first-same = ap (λ n. state_where n (λ x. false) (kept_prev h stands.Start)) is.size

  pub states-of : (states : List DfaState) → AreStatesBy (tests_by a) h states → AreStatesOf r h states
  states-of states all =
      all-as (move_by (tests_by a) h) (move_by (tests_of r) h) move-same states (first_state (tests_of r) h)
      (subst (λ s. AreAllDiscovered s (move_by (tests_by a) h) states) first-same all)

  pub states-by : (states : List DfaState) → AreStatesOf r h states → AreStatesBy (tests_by a) h states
  states-by states all =
      all-as (move_by (tests_of r) h) (move_by (tests_by a) h) (λ s b small. sym (move-same s b small)) states (first_state (tests_by a) h)
      (subst (λ s. AreAllDiscovered s (move_by (tests_of r) h) states) (sym first-same) all)

  pub accepting-same : (s : DfaState) (next : Next) → any_below (vec_len a.sets) (λ x. is_live s x && accepts a x (between s.prev next)) ≡ any_below (count r) (λ x. is_live s x && accept r x (between s.prev next))
  accepting-same s next =
      ap (λ n. any_below n (λ x. is_live s x && accepts a x (between s.prev next))) is.size
      ∙ any-same (count r) (λ x. is_live s x && accepts a x (between s.prev next)) (λ x. is_live s x && accept r x (between s.prev next))
      (λ x below. ap (λ t. is_live s x && t) (is.accepts x (between s.prev next)))

-- The state behind a stream: the first one, one more byte, and what it tells of accepting.
use Rattle.std.proofs.Common.{◌≡◌, ◌↔◌, ℕ, zero, suc, ◌<◌, ◌≤◌, Bool, true, false, ◌&&◌, ◌||◌, List, [], ◌∷◌, ◌++◌, length, get_or, eqb, Some, slice_get, refl, sym, ap, subst, ◌∙◌, inl, inr, arith, length-append}
use Rattle.std.proofs.lemmas.Bool.{cases_lt}
use Rattle.std.proofs.lemmas.List.{get_or_past}
use Rattle.std.proofs.lemmas.List.FromFn.{length-map-range_with_len, get_or-map-range_with_len, fill_by_all}
use Rattle.std.proofs.lemmas.Option.{slice_get-get_or, get_or_from_slice_get, none-some}
use Rattle.hs_base.specs.declared.context.Prev.{Prev}
use Rattle.hs_base.specs.declared.context.Prev.TheVariants as stands
use Rattle.hs_base.specs.declared.context.Next.{Next}
use Rattle.hs_base.specs.Assertions.{line_feed, is_word_byte}
use Rattle.hs_base.specs.Contexts.{Context, class_of, context_at, prev_at, prev_behind, prev_by}
use Rattle.hs_base.specs.EndAssertions.{has_embedded_end}
use Rattle.hs_base.specs.Fields.{Leaves}
use Rattle.hs_base.specs.Spans.{IsByteOf}
use Rattle.hs_base.specs.Trees.{Tree}
use Rattle.hs_base.specs.WrittenOut.{Core, write_out, IsPlain, IsReached, count, set_of}
use Rattle.hs_base.proofs.ContextLemmas.{first_of_both, second_of_both, of_both, of_either, left_of_either, right_of_either}
use Rattle.hs_base.proofs.StreamContexts.{slice_get-seam}
use Rattle.hs_engine.specs.AnyBelow.{any_below}
use Rattle.hs_engine.specs.Between.{between}
use Rattle.hs_engine.specs.Positions.{accept, enter, follow}
use Rattle.hs_engine.specs.Agreement.{StepsTo, steps_in, steps_on, IsAccepting}
use Rattle.hs_engine.proofs.PositionLemmas.{reach-below}
use Rattle.hs_engine.proofs.AgreementLemmas.{reached-steps, steps-reached, leaves-accepting, accepting-leaves}
use Rattle.hs_states.specs.DfaStates.{DfaState, PositionTests, is_live, state_where, kept_prev, tests_of, is_led_to, move_by, first_state, is_accepting, IsEmptyState}
use Rattle.hs_states.specs.DfaHistories.{IsStateOf}
use Rattle.hs_states.proofs.BlindLemmas.{IsBlind}

pub true-false : {A : Type 0} (b : Bool) → b ≡ true → b ≡ false → A
true-false b is isnt = absurd (let e : true ≡ false = sym is ∙ isnt in cc)

pub same-truth : (a b : Bool) → (a ≡ true → b ≡ true) → (b ≡ true → a ≡ true) → a ≡ b
same-truth true b one other = sym (one refl)
same-truth false true one other = other refl
same-truth false false one other = refl

pub not-true : (b : Bool) → (b ≡ true → ⊥) → b ≡ false
not-true true isnt = absurd (isnt refl)
not-true false isnt = refl

-- one of the numbers below passes the test
pub any-some : (n : ℕ) (test : ℕ → Bool) → any_below n test ≡ true → (x : ℕ) × (x < n) × (test x ≡ true)
any-some zero test any = absurd (let e : false ≡ true = any in cc)
any-some (suc n) test any =
    elim (of_either (test n) (any_below n test) any) [
      | inl here ↦ (n, omega arith, here)
      | inr before ↦ let (x, below, is) = any-some n test before in (x, omega arith, is)
    ]

pub some-any : (n : ℕ) (test : ℕ → Bool) (x : ℕ) → x < n → test x ≡ true → any_below n test ≡ true
some-any zero test x below is = absurd (omega arith)
some-any (suc n) test x below is =
    elim (cases_lt x n) [
      | inl less ↦ right_of_either (test n) (any_below n test) (some-any n test x less is)
      | inr above ↦
          let same : x ≡ n = omega arith in
          left_of_either (test n) (any_below n test) (subst (λ k. test k ≡ true) same is)
    ]

-- tests that are the same
pub any-same : (n : ℕ) (f g : ℕ → Bool) → ((x : ℕ) → x < n → f x ≡ g x) → any_below n f ≡ any_below n g
any-same zero f g same = refl
any-same (suc n) f g same = ap (λ b. b || any_below n f) (same n (omega arith)) ∙ ap (λ b. g n || b) (any-same n f g (λ x below. same x (omega arith)))

-- states by their positions

pub live-where : (n : ℕ) (test : ℕ → Bool) (p : Prev) (x : ℕ) → x < n → is_live (state_where n test p) x ≡ test x
live-where n test p x below = get_or-map-range_with_len test 0 n x x false below (omega arith)

pub live-past : (s : DfaState) (n x : ℕ) → length s.live ≡ n → n ≤ x → is_live s x ≡ false
live-past s n x len past = get_or_past s.live x false (omega arith)

pub where-size : (n : ℕ) (test : ℕ → Bool) (p : Prev) → length (state_where n test p).live ≡ n
where-size n test p = length-map-range_with_len test 0 n

pub same-state : (a b : List Bool) (p q : Prev) → a ≡ b → p ≡ q → ◌≡◌ {A = DfaState} (record { live = a; prev = p }) (record { live = b; prev = q })
same-state a b p q lists prevs =
    ap (λ z. let s : DfaState = record { live = z; prev = p } in s) lists ∙ ap (λ z. let s : DfaState = record { live = b; prev = z } in s) prevs

pub same-live : (n : ℕ) (s t : DfaState) → length s.live ≡ n → length t.live ≡ n → ((x : ℕ) → x < n → is_live s x ≡ is_live t x) → s.prev ≡ t.prev → s ≡ t
same-live n s t len len' same prevs =
    same-state s.live t.live s.prev t.prev
    (fill_by_all (is_live t) s.live n false len same ∙ sym (fill_by_all (is_live t) t.live n false len' (λ x below. refl))) prevs

pub same-where : (n : ℕ) (f g : ℕ → Bool) (p q : Prev) → ((x : ℕ) → x < n → f x ≡ g x) → p ≡ q → state_where n f p ≡ state_where n g q
same-where n f g p q same prevs =
    same-live n (state_where n f p) (state_where n g q) (where-size n f p) (where-size n g q)
    (λ x below. live-where n f p x below ∙ (same x below ∙ sym (live-where n g q x below))) prevs

-- a stream has one state
pub one-state : (r : Core) (h : Bool) (u : List ℕ) (entered : List Bool) (s t : DfaState) → IsStateOf r h u entered s → IsStateOf r h u entered t → s ≡ t
one-state r h u entered s t one other =
    same-live (count r) s t one.size other.size
    (λ x below. same-truth (is_live s x) (is_live t x) (λ is. (other.live x).1 ((one.live x).0 is)) (λ is. (one.live x).1 ((other.live x).0 is)))
    (one.prev ∙ sym other.prev)

none-live : (n : ℕ) (p : Prev) (x : ℕ) → is_live (state_where n (λ y. false) p) x ≡ false
none-live n p x =
    elim (cases_lt x n) [
      | inl below ↦ live-where n (λ y. false) p x below
      | inr above ↦ live-past (state_where n (λ y. false) p) n x (where-size n (λ y. false) p) above
    ]

pub first-empty : (t : PositionTests) (h : Bool) → any_below t.size (is_live (first_state t h)) ≡ false
first-empty t h =
    not-true (any_below t.size (is_live (first_state t h))) (λ any.
    let (x, below, is) = any-some t.size (is_live (first_state t h)) any in
    true-false (is_live (first_state t h) x) is (none-live t.size (kept_prev h stands.Start) x))

start-prev : (h : Bool) → kept_prev h stands.Start ≡ kept_prev h (prev_at [] 0)
unfolding prev_at
start-prev h = refl

pub state-start : (r : Core) (h : Bool) → IsStateOf r h [] [] (first_state (tests_of r) h)
state-start r h = record {
  size = where-size (count r) (λ x. false) (kept_prev h stands.Start);
  live = λ x. (
    λ is. true-false (is_live (first_state (tests_of r) h) x) is (none-live (count r) (kept_prev h stands.Start) x),
    λ reached. absurd (none-some true reached.is_entered),
  );
  prev = start-prev h;
}

-- What stands before matters where it is kept.

enters-here : (r : Core) (h : Bool) (p q : Prev) (next : Next) → p ≡ kept_prev h q → (h ≡ false → IsBlind r) → (y : ℕ) → enter r y (between p next) ≡ enter r y (between q next)
enters-here r true p q next same blind y = ap (λ z. enter r y (between z next)) same
enters-here r false p q next same blind y = (blind refl).enters y (between p next) (between q next)

follows-here : (r : Core) (h : Bool) (p q : Prev) (next : Next) → p ≡ kept_prev h q → (h ≡ false → IsBlind r) → (x y : ℕ) → follow r x y (between p next) ≡ follow r x y (between q next)
follows-here r true p q next same blind x y = ap (λ z. follow r x y (between z next)) same
follows-here r false p q next same blind x y = (blind refl).follows x y (between p next) (between q next)

accepts-here : (r : Core) (h : Bool) (p q : Prev) (next : Next) → p ≡ kept_prev h q → (h ≡ false → IsBlind r) → (x : ℕ) → accept r x (between p next) ≡ accept r x (between q next)
accepts-here r true p q next same blind x = ap (λ z. accept r x (between z next)) same
accepts-here r false p q next same blind x = (blind refl).accepts x (between p next) (between q next)

pub member-of : (set : List Bool) (b : ℕ) → get_or set b false ≡ true → slice_get set b ≡ Some true
member-of set b is =
    elim (cases_lt b (length set)) [
      | inl below ↦ slice_get-get_or set b false below ∙ ap (λ z. Some z) is
      | inr above ↦ true-false (get_or set b false) is (get_or_past set b false above)
    ]

reached-below : (r : Core) (u : List ℕ) (entered : List Bool) (x : ℕ) → IsReached r u entered x → x < count r
reached-below r u entered x reached = reach-below (context_at u false) (λ set i. IsByteOf set u i) r x reached.from (length u) reached.reached

prev-last : (u : List ℕ) (b : ℕ) → prev_at (u ++ b ∷ []) (suc (length u)) ≡ prev_by (eqb b line_feed) (is_word_byte b)
unfolding prev_at
prev-last u b = ap prev_behind (slice_get-seam u b [])

pub prev-step : (u : List ℕ) (b : ℕ) → prev_at (u ++ b ∷ []) (length (u ++ b ∷ [])) ≡ prev_by (eqb b line_feed) (is_word_byte b)
prev-step u b =
    let len : length (u ++ b ∷ []) ≡ suc (length u) = omega (arith, length-append u (b ∷ [])) in
    ap (prev_at (u ++ b ∷ [])) len ∙ prev-last u b

module _ (r : Core) (h : Bool) (blind : h ≡ false → IsBlind r) (u : List ℕ) (entered : List Bool) (len : length entered ≡ length u) (s : DfaState) (is : IsStateOf r h u entered s) where
  module _ (b : ℕ) where
    abbrev Here : Context
    Here = between s.prev (class_of b)

    abbrev Goes : ℕ → ℕ → Bool
    Goes y x = is_live s x && follow r x y Here

    led-steps : (y : ℕ) → is_led_to (tests_of r) s b y ≡ true → StepsTo r u entered b true y
    led-steps y led =
        let member = member-of (set_of r y) b (first_of_both (get_or (set_of r y) b false) (enter r y Here || any_below (count r) (Goes y)) led) in
        elim (of_either (enter r y Here) (any_below (count r) (Goes y)) (second_of_both (get_or (set_of r y) b false) (enter r y Here || any_below (count r) (Goes y)) led)) [
          | inl begins ↦ steps_in member refl (sym (enters-here r h s.prev (prev_at u (length u)) (class_of b) is.prev blind y) ∙ begins)
          | inr any ↦
              let (x, below, goes) = any-some (count r) (Goes y) any in
              steps_on x member ((is.live x).0 (first_of_both (is_live s x) (follow r x y Here) goes))
              (sym (follows-here r h s.prev (prev_at u (length u)) (class_of b) is.prev blind x y) ∙ second_of_both (is_live s x) (follow r x y Here) goes)
        ]

    steps-led : (y : ℕ) → StepsTo r u entered b true y → is_led_to (tests_of r) s b y ≡ true
    steps-led y (steps_in member enters begins) =
        of_both (get_or (set_of r y) b false) (enter r y Here || any_below (count r) (Goes y)) (get_or_from_slice_get (set_of r y) b true false member)
        (left_of_either (enter r y Here) (any_below (count r) (Goes y)) (enters-here r h s.prev (prev_at u (length u)) (class_of b) is.prev blind y ∙ begins))
    steps-led y (steps_on x member reached follows) =
        of_both (get_or (set_of r y) b false) (enter r y Here || any_below (count r) (Goes y)) (get_or_from_slice_get (set_of r y) b true false member)
        (right_of_either (enter r y Here) (any_below (count r) (Goes y))
        (some-any (count r) (Goes y) x (reached-below r u entered x reached)
        (of_both (is_live s x) (follow r x y Here) ((is.live x).1 reached) (follows-here r h s.prev (prev_at u (length u)) (class_of b) is.prev blind x y ∙ follows))))

    abbrev After : DfaState
    After = move_by (tests_of r) h s b

    live-reached : (y : ℕ) → is_live After y ≡ true → IsReached r (u ++ b ∷ []) (entered ++ true ∷ []) y
    live-reached y live =
        elim (cases_lt y (count r)) [
          | inl below ↦
              steps-reached r u entered b true y len
              (led-steps y (sym (live-where (count r) (is_led_to (tests_of r) s b) (kept_prev h (prev_by (eqb b line_feed) (is_word_byte b))) y below) ∙ live))
          | inr above ↦
              true-false (is_live After y) live
              (live-past After (count r) y (where-size (count r) (is_led_to (tests_of r) s b) (kept_prev h (prev_by (eqb b line_feed) (is_word_byte b)))) above)
        ]

    reached-live : (y : ℕ) → IsReached r (u ++ b ∷ []) (entered ++ true ∷ []) y → is_live After y ≡ true
    reached-live y reached =
        live-where (count r) (is_led_to (tests_of r) s b) (kept_prev h (prev_by (eqb b line_feed) (is_word_byte b))) y (reached-below r (u ++ b ∷ []) (entered ++ true ∷ []) y reached)
        ∙ steps-led y (reached-steps r u entered b true y len reached)

    pub state-step : IsStateOf r h (u ++ b ∷ []) (entered ++ true ∷ []) After
    state-step = record {
      size = where-size (count r) (is_led_to (tests_of r) s b) (kept_prev h (prev_by (eqb b line_feed) (is_word_byte b)));
      live = λ y. (live-reached y, reached-live y);
      prev = ap (kept_prev h) (sym (prev-step u b));
    }

  pub accepting-reached : (next : Next) → is_accepting (tests_of r) s next ≡ true → IsAccepting r u entered next
  accepting-reached next any =
      let (x, below, both) = any-some (count r) (λ x. is_live s x && accept r x (between s.prev next)) any in
      record {
        position = x;
        reached = (is.live x).0 (first_of_both (is_live s x) (accept r x (between s.prev next)) both);
        accepts = sym (accepts-here r h s.prev (prev_at u (length u)) next is.prev blind x) ∙ second_of_both (is_live s x) (accept r x (between s.prev next)) both;
      }

  pub reached-accepting : (next : Next) → IsAccepting r u entered next → is_accepting (tests_of r) s next ≡ true
  reached-accepting next accepting =
      let x : ℕ = accepting.position in
      some-any (count r) (λ x. is_live s x && accept r x (between s.prev next)) x (reached-below r u entered x accepting.reached)
      (of_both (is_live s x) (accept r x (between s.prev next)) ((is.live x).1 accepting.reached)
      (accepts-here r h s.prev (prev_at u (length u)) next is.prev blind x ∙ accepting.accepts))

pub accepting-is-leaving : (tree : Tree) → IsPlain tree → has_embedded_end tree false ≡ false → (h : Bool) → (h ≡ false → IsBlind (write_out tree)) → (u : List ℕ) (entered : List Bool) → length entered ≡ length u →
    (s : DfaState) → IsStateOf (write_out tree) h u entered s → (next : Next) → (is_accepting (tests_of (write_out tree)) s next ≡ true) ↔ Leaves tree u entered next
accepting-is-leaving tree plain free h blind u entered len s is next = (
  λ any. accepting-leaves tree u entered next plain free (accepting-reached (write_out tree) h blind u entered len s is next any),
  λ leaves. reached-accepting (write_out tree) h blind u entered len s is next (leaves-accepting tree u entered next plain free leaves),
)

-- nothing is left where no position is live
pub empty-leaves-nothing : (tree : Tree) → IsPlain tree → has_embedded_end tree false ≡ false → (h : Bool) (u : List ℕ) (entered : List Bool) (s : DfaState) → IsStateOf (write_out tree) h u entered s →
    IsEmptyState (tests_of (write_out tree)) s → (next : Next) → Leaves tree u entered next → ⊥
empty-leaves-nothing tree plain free h u entered s is none next leaves =
    let accepting = leaves-accepting tree u entered next plain free leaves in
    let x : ℕ = accepting.position in
    true-false (any_below (count (write_out tree)) (is_live s))
    (some-any (count (write_out tree)) (is_live s) x (reached-below (write_out tree) u entered x accepting.reached) ((is.live x).1 accepting.reached)) none

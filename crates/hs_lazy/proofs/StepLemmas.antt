-- Members that take a byte, one after the other.
use Rattle.std.proofs.Common.{◌≡◌, ◌||◌, refl, ℕ, ◌+◌, ◌-◌, ◌<◌, ◌≤◌, inl, inr, Bool, true, false, List, [], ◌∷◌, ◌++◌, length, Option, None, Some, slice_get, sym, ap, subst, ◌∙◌, arith, length-append}
use Rattle.std.specs.Prelude.{if◌then◌else◌, IfSome}
use Rattle.std.proofs.lemmas.Bool.{cases_eq, cases_lt}
use Rattle.std.proofs.lemmas.Option.{slice_get_within}
use Rattle.hs_base.specs.declared.context.Prev.{Prev}
use Rattle.hs_base.specs.Bits.{AreZero, has_word_bit}
use Rattle.hs_base.specs.ByteSets.{has}
use Rattle.hs_base.specs.Contexts.{prev_behind}
use Rattle.hs_engine.specs.Engines.{Meaning}
use Rattle.hs_engine.specs.declared.ends.ByteEnds.{ByteEnds}
use Rattle.hs_lazy.specs.declared.parts.Member.{Member}
use Rattle.hs_lazy.specs.declared.parts.State.{State}
use Rattle.hs_lazy.specs.declared.parts.EndSet.{EndSet}
use Rattle.hs_lazy.specs.Images.{IsSameSets}
use Rattle.hs_lazy.specs.Parts.{AreMembersApart, AreLeading, AreLive, IsBeside, IsIdleState, IsState, IsStepMade, IsStepTo, IsStateWhole, before_of, behind_of, ends_of, entry, next_of, part, set_of}
use Rattle.hs_lazy.specs.Runs.{AreZerosBlank, IsBlankRegion, TakesEntered}
use Rattle.hs_lazy.specs.Sound.{AreMembersOf, HaveTaken, IsDfaSound, IsIdleStep, IsStep, TakeEntered}
use Rattle.hs_lazy.proofs.PartLemmas.{beside, beside-back, same-parts, size-part}
use Rattle.hs_lazy.proofs.RunLemmas.{asleep-takes}
use Rattle.hs_lazy.proofs.TableLemmas.{get-either, same-got}

neither-left : (x y : Bool) → (x || y) ≡ false → x ≡ false
neither-left true y none = absurd (cc)
neither-left false y none = refl

neither-right : (x y : Bool) → (x || y) ≡ false → y ≡ false
neither-right true y none = absurd (cc)
neither-right false y none = none

-- only what is told counts
pub takes-ends : (m : Meaning) (old new : List ℕ) (prev : Prev) (byte : ℕ) (ends : ByteEnds) (before behind : Bool) →
    before ≡ ends.before → behind ≡ ends.behind → TakesEntered m old new prev byte ends → TakesEntered m old new prev byte (record { before = before; behind = behind })
takes-ends m old new prev byte ends before behind befores behinds takes =
    subst (λ b. TakesEntered m old new prev byte (record { before = b; behind = behind })) (sym befores)
    (subst (λ b. TakesEntered m old new prev byte (record { before = ends.before; behind = b })) (sym behinds) takes)

module _ {E : Type 0} (meaning : E → Meaning) (engines : List E) (members : List Member) (old : State) (byte : ℕ) where
  -- the members that aren't asked have taken the byte, and those that are before a place
  abbrev pub AreDone : (image before behind asked : List ℕ) (from : ℕ) → Type 0
  AreDone image before behind asked from =
      (j : ℕ) (m : Member) (e : E) → slice_get members j ≡ Some m → slice_get engines m.engine ≡ Some e → m.is_dropped ≡ false → (from ≤ j → has_word_bit asked j ≡ false) →
      TakesEntered (meaning e) (part old.image m) (part image m) old.prev byte (record { before = has_word_bit before j; behind = has_word_bit behind j })

  -- one more does
  pub done-more : (image image' before before' behind behind' asked : List ℕ) (from k : ℕ) (m : Member) (e : E) (own : ByteEnds) →
      AreMembersApart members → slice_get members k ≡ Some m → slice_get engines m.engine ≡ Some e →
      ((other : Member) → IsBeside m other → part image' other ≡ part image other) →
      ((j : ℕ) → from ≤ j → j < k → has_word_bit asked j ≡ false) →
      TakesEntered (meaning e) (part old.image m) (part image' m) old.prev byte own →
      has_word_bit before' k ≡ own.before → has_word_bit behind' k ≡ own.behind →
      ((j : ℕ) → (j ≡ k → ⊥) → has_word_bit before' j ≡ has_word_bit before j) →
      ((j : ℕ) → (j ≡ k → ⊥) → has_word_bit behind' j ≡ has_word_bit behind j) →
      AreDone image before behind asked from → AreDone image' before' behind' asked (k + 1)
  done-more image image' before before' behind behind' asked from k m e own apart is there others least takes put-before put-behind befores behinds done j m' e' is' there' kept unasked = elim (cases_eq j k) [
    | inl same ↦ here same
    | inr other ↦
        takes-ends (meaning e') (part old.image m') (part image' m') old.prev byte (record { before = has_word_bit before j; behind = has_word_bit behind j }) (has_word_bit before' j) (has_word_bit behind' j)
        (befores j other) (behinds j other)
        (subst (λ p. TakesEntered (meaning e') (part old.image m') p old.prev byte (record { before = has_word_bit before j; behind = has_word_bit behind j }))
        (sym (others m' (side other)))
        (done j m' e' is' there' kept (quiet other)))
  ]
    where
      quiet : (j ≡ k → ⊥) → from ≤ j → has_word_bit asked j ≡ false
      quiet other high = elim (cases_lt j k) [
        | inl less ↦ least j high less
        | inr more ↦ unasked (omega (arith, more, other))
      ]

      side : (j ≡ k → ⊥) → IsBeside m m'
      side other = elim (cases_lt j k) [
        | inl less ↦ beside members j k m' m apart is' is less
        | inr more ↦ beside-back members k j m m' apart is is' (omega (arith, more, other))
      ]

      here : j ≡ k → TakesEntered (meaning e') (part old.image m') (part image' m') old.prev byte (record { before = has_word_bit before' j; behind = has_word_bit behind' j })
      here same =
          let mine : m ≡ m' = same-got members k m m' is (subst (λ n. slice_get members n ≡ Some m') same is') in
          let its : e ≡ e' = same-got engines m.engine e e' there (subst (λ (x : Member). slice_get engines x.engine ≡ Some e') (sym mine) there') in
          subst (λ x. TakesEntered (meaning x) (part old.image m') (part image' m') old.prev byte (record { before = has_word_bit before' j; behind = has_word_bit behind' j })) its
          (subst (λ (x : Member). TakesEntered (meaning e) (part old.image x) (part image' x) old.prev byte (record { before = has_word_bit before' j; behind = has_word_bit behind' j })) mine
          (takes-ends (meaning e) (part old.image m) (part image' m) old.prev byte own (has_word_bit before' j) (has_word_bit behind' j)
          (ap (has_word_bit before') same ∙ put-before) (ap (has_word_bit behind') same ∙ put-behind) takes))

  -- a member without its bit is blank
  blank-part : (k : ℕ) (m : Member) (e : E) → AreZerosBlank meaning engines → AreMembersOf meaning engines members → AreMembersApart members →
      length old.image ≡ 512 → slice_get members k ≡ Some m → slice_get engines m.engine ≡ Some e → AreZero (part old.image m) → IsBlankRegion (meaning e) (part old.image m)
  blank-part k m e blank of apart long is there zero =
      blank m.engine e (part old.image m) there (of.listed k m e is there)
      (let size : length (part old.image m) ≡ m.end - m.start = size-part old.image m (apart.rising k m is) (let w : m.end ≤ 512 = apart.within k m is in omega (arith, w, long)) in
      let wide : m.start + (meaning e).width ≡ m.end = of.sized k m e is there in omega (arith, size, wide))
      zero

  -- members in which nothing is live, and which the byte doesn't wake, take it as they are
  pub others-asleep : (asked : List ℕ) (ends : EndSet) → AreZerosBlank meaning engines → AreMembersOf meaning engines members → AreMembersApart members →
      IsStateWhole members old → byte < 256 →
      ((j : ℕ) (m : Member) → slice_get members j ≡ Some m → m.is_dropped ≡ false → has_word_bit asked j ≡ (has_word_bit old.live j || has m.wakers byte)) →
      ((j : ℕ) → has_word_bit ends.before j ≡ false) → ((j : ℕ) → has_word_bit ends.behind j ≡ false) →
      HaveTaken meaning engines members old old.image byte asked ends
  others-asleep asked ends blank of apart whole small asks none-before none-behind k m e is there kept unasked =
      let none : (has_word_bit old.live k || has m.wakers byte) ≡ false = sym (asks k m is kept) ∙ unasked in
      let own : IsBlankRegion (meaning e) (part old.image m) = blank-part k m e blank of apart whole.image_len is there (whole.live k m is (neither-left (has_word_bit old.live k) (has m.wakers byte) none)) in
      asleep-takes (meaning e) (part old.image m) old.prev byte _ (of.woken k m e is there (part old.image m) byte own.starts small (neither-right (has_word_bit old.live k) (has m.wakers byte) none)) own (none-before k) (none-behind k)

  -- members in which nothing is live do what they do where nothing is live at all
  pub others-idle : (states : List State) (sets : List EndSet) (step : ℕ) (image : List ℕ) (ends : EndSet) →
      IsIdleStep meaning engines members states sets old.prev byte step → IsStateWhole members old →
      ((next : State) → slice_get states (next_of step) ≡ Some next → image ≡ next.image) → IsSameSets (set_of sets (ends_of step)) ends →
      HaveTaken meaning engines members old image byte old.live ends
  others-idle states sets step image ends idle whole image-is same k m e is there kept unasked =
      let it : IsStep meaning engines members states sets idle.idle byte step = idle.is in
      let parts : part idle.idle.image m ≡ part old.image m = same-parts idle.idle.image old.image m (idle.long ∙ sym whole.image_len) (idle.zero k m is) (whole.live k m is unasked) in
      let told : ByteEnds = record { before = before_of (set_of sets (ends_of step)) k; behind = behind_of (set_of sets (ends_of step)) k } in
      takes-ends (meaning e) (part old.image m) (part image m) old.prev byte told (has_word_bit ends.before k) (has_word_bit ends.behind k) (sym (same.before k)) (sym (same.behind k))
      (subst (λ i. TakesEntered (meaning e) (part old.image m) (part i m) old.prev byte told) (sym (image-is it.next it.next_is))
      (subst (λ p. TakesEntered (meaning e) (part old.image m) (part it.next.image m) p byte told) idle.prev_is
      (subst (λ p. TakesEntered (meaning e) p (part it.next.image m) idle.idle.prev byte told) parts (it.takes k m e is there kept))))

  -- the step that was made is what the engines do
  pub step-made : (states : List State) (ends : List EndSet) (image before behind : List ℕ) (next number step : ℕ) →
      TakeEntered meaning engines members old image byte (has_word_bit before) (has_word_bit behind) →
      IsState states next image (prev_behind (Some byte)) → IsSameSets (set_of ends number) (record { before = before; behind = behind }) → number ≤ length ends →
      IsStepTo step next number → IsStep meaning engines members states ends old byte step
  step-made states ends image before behind next number step takes state sets within to = record {
    next = state.state;
    next_is = subst (λ n. slice_get states n ≡ Some state.state) (sym to.next_is) state.is;
    prev_is = state.prev_is;
    ends_within = subst (λ n. n ≤ length ends) (sym to.ends_is) within;
    takes = λ k m e is there kept.
        subst (λ n. TakesEntered (meaning e) (part old.image m) (part state.state.image m) old.prev byte (record { before = before_of (set_of ends n) k; behind = behind_of (set_of ends n) k })) (sym to.ends_is)
        (takes-ends (meaning e) (part old.image m) (part state.state.image m) old.prev byte (record { before = has_word_bit before k; behind = has_word_bit behind k }) _ _ (sets.before k) (sets.behind k)
        (subst (λ i. TakesEntered (meaning e) (part old.image m) (part i m) old.prev byte (record { before = has_word_bit before k; behind = has_word_bit behind k })) (sym state.image_is) (takes k m e is there kept)));
  }

-- the step by a byte of a state in which nothing is live
pub idle-step : {E : Type 0} (meaning : E → Meaning) (engines : List E) (members : List Member) (states : List State) (rows : List ℕ) (ends : List EndSet) (s : ℕ) (prev : Prev) (byte step : ℕ) →
    IsDfaSound meaning engines members states rows ends → IsIdleState members states s prev → byte < 256 →
    step ≡ entry rows s byte → (step ≡ 0 → ⊥) → IsIdleStep meaning engines members states ends prev byte step
idle-step meaning engines members states rows ends s prev byte step sound state small is known = record {
  idle = state.state;
  zero = state.zero;
  long = state.whole.image_len;
  prev_is = state.prev_is;
  is = subst (IsStep meaning engines members states ends state.state byte) (sym is) (sound.steps s byte state.state state.is small (λ none. known (is ∙ none)));
}

-- the same of a step that may have been made
pub idle-made : {E : Type 0} (meaning : E → Meaning) (engines : List E) (members : List Member) (states : List State) (rows : List ℕ) (ends : List EndSet) (s : ℕ) (prev : Prev) (byte : ℕ) (step : Option ℕ) →
    IsDfaSound meaning engines members states rows ends → IsIdleState members states s prev → byte < 256 →
    IfSome step (IsStepMade rows s byte) → IfSome step (IsIdleStep meaning engines members states ends prev byte)
idle-made meaning engines members states rows ends s prev byte None sound state small made = made
idle-made meaning engines members states rows ends s prev byte (Some step) sound state small made =
    idle-step meaning engines members states rows ends s prev byte step sound state small made.is made.known

-- states where one may have been put behind
pub live-pushed : (members : List Member) (old new : List State) (st : State) (b : Bool) → new ≡ (if b then old ++ st ∷ [] else old) →
    AreLive members old → IsStateWhole members st → AreLive members new
live-pushed members old new st true same live whole s x is = elim (get-either old st s x (subst (λ (l : List State). slice_get l s ≡ Some x) same is)) [
  | inl there ↦ live s x there
  | inr here ↦ subst (IsStateWhole members) (sym here.1) whole
]
live-pushed members old new st false same live whole s x is = live s x (subst (λ (l : List State). slice_get l s ≡ Some x) same is)

pub leading-more : (rows : List ℕ) (few more : ℕ) → few ≤ more → AreLeading rows few → AreLeading rows more
leading-more rows few more low leading k known =
    let one = leading k known in (one.0, omega (arith, low, one.1))

-- members where one may have been put behind
pub apart-pushed : (old new : List Member) (m : Member) (b : Bool) → new ≡ (if b then old ++ m ∷ [] else old) → AreMembersApart old →
    ((k : ℕ) (x : Member) → slice_get old k ≡ Some x → x.end ≤ m.start) → m.start ≤ m.end → m.end ≤ 512 → AreMembersApart new
apart-pushed old new m false same apart behind order within = subst AreMembersApart (sym same) apart
apart-pushed old new m true same apart behind order within = subst AreMembersApart (sym same) (record {
  rising = λ k x is. elim (get-either old m k x is) [ inl there ↦ apart.rising k x there | inr here ↦ subst (λ (y : Member). y.start ≤ y.end) (sym here.1) order ];
  within = λ k x is. elim (get-either old m k x is) [ inl there ↦ apart.within k x there | inr here ↦ subst (λ (y : Member). y.end ≤ 512) (sym here.1) within ];
  in_turn = λ j k a c low is-a is-c. elim (get-either old m j a is-a) [
    | inl there ↦ elim (get-either old m k c is-c) [
      | inl there' ↦ apart.in_turn j k a c low there there'
      | inr here' ↦ subst (λ (y : Member). a.end ≤ y.start) (sym here'.1) (behind j a there)
    ]
    | inr here ↦ elim (get-either old m k c is-c) [
      | inl there' ↦ absurd (omega (arith, low, here.0, slice_get_within old k c there'))
      | inr here' ↦ absurd (omega (arith, low, here.0, here'.0))
    ]
  ];
})

pub few-pushed : {A : Type 0} (old new : List A) (x : A) (b : Bool) (n : ℕ) → new ≡ (if b then old ++ x ∷ [] else old) → length old < n → length new ≤ n
few-pushed old new x true n is low = omega (arith, ap length is, length-append old (x ∷ []), low)
few-pushed old new x false n is low = omega (arith, ap length is, low)

-- What is told of a number, by the tables.
use Rattle.std.proofs.Common.{◌≡◌, ℕ, ◌<◌, ◌≤◌, inl, inr, Bool, true, false, not, ◌&&◌, nat_lt, List, [], ◌∷◌, length, Option, Some, None, slice_get, slice_index, get_or, EachIndex, refl, sym, ap, subst, ◌∙◌, arith, tests}
use Rattle.std.specs.Prelude.{MatchBool, if◌then◌else◌}
use Rattle.std.proofs.Math.ListN.{set}
use Rattle.std.proofs.lemmas.Bool.{cases_eq, cases_lt, ne_eqb}
use Rattle.hs_base.specs.Bits.{AreZero}
use Rattle.hs_lazy.specs.Parts.{IsBeside}
use Rattle.hs_lazy.proofs.PartLemmas.{beside, beside-back, same-range, zero-range}
use Rattle.std.proofs.lemmas.Option.{slice_get_past, slice_get-get_or}
use Rattle.hs_lazy.specs.declared.cache.Cache.{Cache}
use Rattle.hs_lazy.specs.declared.cache.Dfas.{Dfas}
use Rattle.hs_lazy.specs.declared.cache.Place.{Place}
use Rattle.hs_lazy.specs.declared.dfa.LazyDfa.{LazyDfa}
use Rattle.hs_lazy.specs.declared.parts.Member.{Member}
use Rattle.hs_lazy.specs.declared.parts.Run.{Run}
use Rattle.hs_lazy.specs.declared.parts.State.{State}
use Rattle.hs_lazy.specs.Caches.{AreSameImages, AreTaken, IsSilent, TellsRun, Told, befores_of, behinds_of, loaded, done_by, is_done_at, loaded_by, run_at, told, told_at, told_by, told_if, told_of}
use Rattle.hs_lazy.specs.Images.{part_at, part_in}
use Rattle.hs_lazy.specs.Members.{IsAsleepIn}
use Rattle.hs_lazy.specs.Parts.{part}
use Rattle.hs_base.specs.declared.context.Prev.{Prev}
use Rattle.hs_engine.specs.Engines.{Meaning}
use Rattle.hs_lazy.specs.Sound.{IsDfaSound}
use Rattle.hs_lazy.specs.Tables.{AreAllSound, AreDfasOf, engine_at, engine_in, member_by, member_in, member_of, own_member, place_in, place_for}
use Rattle.hs_lazy.proofs.ListLemmas.{get-set, set-got, set-others}
use Rattle.hs_lazy.proofs.ChunkLemmas.{IsTold, member-at, own-is, own-kept, taken-tells, told-inside}

-- members stay where an automaton is replaced by one with the same
pub members-set : (list : List LazyDfa) (at : ℕ) (old new : LazyDfa) → at < length list → slice_get list at ≡ Some old → new.members ≡ old.members →
    (i k : ℕ) → member_in (slice_get (set list at new) i) k ≡ member_in (slice_get list i) k
members-set list at old new low is same i k = elim (cases_eq i at) [
  | inl here ↦
      ap (λ n. member_in (slice_get (set list at new) n) k) here ∙
      (ap (λ o. member_in o k) (set-got list at new low) ∙
      (ap (λ v. slice_get v.items k) same ∙
      (sym (ap (λ o. member_in o k) is) ∙ ap (λ n. member_in (slice_get list n) k) (sym here))))
  | inr other ↦ ap (λ o. member_in o k) (set-others list at new i other)
]

pub told-open : (cache : Cache) (k : ℕ) (t : Told) → told cache k ≡ Some t → IsTold (member_of cache.dfas k) cache.dfas.list.items cache.runs.items (place_for cache.dfas k) t
unfolding told
told-open cache k t is = told-inside (member_of cache.dfas k) cache.dfas.list.items cache.runs.items (place_for cache.dfas k) t is

some-same : {A : Type 0} (x y : A) → Some x ≡ Some y → x ≡ y
some-same x y same = cc

-- What is told by a place.
pub record IsToldBy (t : Told) (dfa : LazyDfa) (run : Run) (k : ℕ) : Type 0 where
  pub of : Member
  pub state : State
  pub of_is : slice_get dfa.members.items k ≡ Some of
  pub state_is : slice_get dfa.states.items run.state ≡ Some state
  pub part_is : t.part ≡ part state.image of
  pub before_is : t.before ≡ befores_of run k
  pub behind_is : t.behind ≡ behinds_of run k
  pub done : run.is_done ≡ true

pub told-by-place : (member : Option Member) (list : List LazyDfa) (runs : List Run) (place : Option Place) (t : Told) (p : Place) (dfa : LazyDfa) (run : Run) →
    ((m : Member) → member ≡ Some m → member_by list place ≡ Some m) →
    IsTold member list runs place t → place ≡ Some p → slice_get list p.dfa ≡ Some dfa → slice_get runs p.dfa ≡ Some run → IsToldBy t dfa run p.member
told-by-place member list runs place t p dfa run own it spot d r =
    let at : it.at ≡ p = some-same it.at p (sym it.at_is ∙ spot) in
    let ds : it.dfa ≡ dfa = some-same it.dfa dfa (sym it.dfa_is ∙ (ap (λ (q : Place). slice_get list q.dfa) at ∙ d)) in
    let rs : it.run ≡ run = some-same it.run run (sym it.run_is ∙ (ap (λ (q : Place). slice_get runs q.dfa) at ∙ r)) in
    let there : member_by list (Some p) ≡ Some it.of = subst (λ o. member_by list o ≡ Some it.of) spot (own it.of it.of_is) in
    record {
      of = it.of;
      state = it.state;
      of_is = member-at list p dfa it.of d there;
      state_is = subst (λ (x : LazyDfa). slice_get x.states.items run.state ≡ Some it.state) ds (subst (λ (x : Run). slice_get it.dfa.states.items x.state ≡ Some it.state) rs it.state_is);
      part_is = ap (λ (x : Told). x.part) (sym it.told_is);
      before_is = ap (λ (x : Told). x.before) (sym it.told_is) ∙ ((ap (λ (x : Run). befores_of x it.at.member) rs ∙ ap (λ (q : Place). befores_of run q.member) at));
      behind_is = ap (λ (x : Told). x.behind) (sym it.told_is) ∙ ((ap (λ (x : Run). behinds_of x it.at.member) rs ∙ ap (λ (q : Place). behinds_of run q.member) at));
      done = subst (λ (x : Run). x.is_done ≡ true) rs it.done;
    }

pub told-place : (cache : Cache) (k : ℕ) (t : Told) (p : Place) (dfa : LazyDfa) (run : Run) → told cache k ≡ Some t → place_for cache.dfas k ≡ Some p →
    slice_get cache.dfas.list.items p.dfa ≡ Some dfa → slice_get cache.runs.items p.dfa ≡ Some run → IsToldBy t dfa run p.member
told-place cache k t p dfa run is spot d r =
    told-by-place (member_of cache.dfas k) cache.dfas.list.items cache.runs.items (place_for cache.dfas k) t p dfa run
    (λ m own. own-is k (member_by cache.dfas.list.items (place_for cache.dfas k)) m own) (told-open cache k t is) spot d r

pub told-run : (cache : Cache) (k : ℕ) (t : Told) (p : Place) (run : Run) → told cache k ≡ Some t → place_for cache.dfas k ≡ Some p →
    slice_get cache.runs.items p.dfa ≡ Some run → (dfa : LazyDfa) × IsToldBy t dfa run p.member
told-run cache k t p run is spot r =
    let it : IsTold (member_of cache.dfas k) cache.dfas.list.items cache.runs.items (place_for cache.dfas k) t = told-open cache k t is in
    let at : it.at ≡ p = some-same it.at p (sym it.at_is ∙ spot) in
    (it.dfa, told-place cache k t p it.dfa run is spot (subst (λ (q : Place). slice_get cache.dfas.list.items q.dfa ≡ Some it.dfa) at it.dfa_is) r)

pub told-part : (t : Told) (dfa : LazyDfa) (run : Run) (k : ℕ) → IsToldBy t dfa run k → part_at dfa.states.items dfa.members.items run.state k ≡ t.part
told-part t dfa run k it =
    ap (λ o. part_in o (slice_get dfa.members.items k)) it.state_is ∙ (ap (λ o. part_in (Some it.state) o) it.of_is ∙ sym it.part_is)

-- the members, and so the engines, of all numbers stay where those of all places do
pub same-members : (d d' : Dfas) → d'.places ≡ d.places → ((i k : ℕ) → member_in (slice_get d'.list.items i) k ≡ member_in (slice_get d.list.items i) k) →
    (k : ℕ) → member_of d' k ≡ member_of d k
same-members d d' places members k =
    let items : d'.places.items ≡ d.places.items = ap (λ v. v.items) places in
    ap (own_member k) (by (place_for d' k) ∙ ap (λ l. member_by d.list.items (place_in (slice_get l k))) items)
  where
    by : (p : Option Place) → member_by d'.list.items p ≡ member_by d.list.items p
    by None = refl
    by (Some p) = members p.dfa p.member

pub same-engines : (d d' : Dfas) → ((k : ℕ) → member_of d' k ≡ member_of d k) → (k : ℕ) → engine_at d' k ≡ engine_at d k
unfolding engine_at
same-engines d d' same k = ap engine_in (same k)

pub engine-of : (d : Dfas) (k : ℕ) (m : Member) → member_of d k ≡ Some m → engine_at d k ≡ Some m.engine
unfolding engine_at
engine-of d k m is = ap engine_in is

-- the region that is loaded
pub loaded-is : (cache : Cache) (k : ℕ) (m : Member) (p : Place) (run : Run) → member_of cache.dfas k ≡ Some m → place_for cache.dfas k ≡ Some p →
    slice_get cache.runs.items p.dfa ≡ Some run → loaded cache k ≡ part run.image m
unfolding loaded
loaded-is cache k m p run own spot r =
    ap (λ o. loaded_by o (run_at cache.runs.items (place_for cache.dfas k))) own ∙
    (ap (λ o. loaded_by (Some m) (run_at cache.runs.items o)) spot ∙ ap (λ o. loaded_by (Some m) o) r)

pub no-place : {A : Type 0} (cache : Cache) (k : ℕ) (t : Told) → told cache k ≡ Some t → place_for cache.dfas k ≡ None → A
no-place cache k t is none = absurd (let it : IsTold _ _ _ _ t = told-open cache k t is in by (place_for cache.dfas k) it.at none it.at_is)
  where
    by : (o : Option Place) (p : Place) → o ≡ None → o ≡ Some p → ⊥
    by o p n s = absurd (cc)

pub no-run : {A : Type 0} (cache : Cache) (k : ℕ) (t : Told) (p : Place) → told cache k ≡ Some t → place_for cache.dfas k ≡ Some p → slice_get cache.runs.items p.dfa ≡ None → A
no-run cache k t p is spot none =
    let it : IsTold (member_of cache.dfas k) cache.dfas.list.items cache.runs.items (place_for cache.dfas k) t = told-open cache k t is in
    let at : it.at ≡ p = some-same it.at p (sym it.at_is ∙ spot) in
    let there : slice_get cache.runs.items p.dfa ≡ Some it.run = subst (λ (q : Place). slice_get cache.runs.items q.dfa ≡ Some it.run) at it.run_is in
    absurd (by (slice_get cache.runs.items p.dfa) it.run none there)
  where
    by : (o : Option Run) (x : Run) → o ≡ None → o ≡ Some x → ⊥
    by o x n s = absurd (cc)

pub no-dfa : {A : Type 0} (cache : Cache) (k : ℕ) (t : Told) (p : Place) → told cache k ≡ Some t → place_for cache.dfas k ≡ Some p → slice_get cache.dfas.list.items p.dfa ≡ None → A
no-dfa cache k t p is spot none =
    let it : IsTold (member_of cache.dfas k) cache.dfas.list.items cache.runs.items (place_for cache.dfas k) t = told-open cache k t is in
    let at : it.at ≡ p = some-same it.at p (sym it.at_is ∙ spot) in
    let there : slice_get cache.dfas.list.items p.dfa ≡ Some it.dfa = subst (λ (q : Place). slice_get cache.dfas.list.items q.dfa ≡ Some it.dfa) at it.dfa_is in
    absurd (by (slice_get cache.dfas.list.items p.dfa) it.dfa none there)
  where
    by : (o : Option LazyDfa) (x : LazyDfa) → o ≡ None → o ≡ Some x → ⊥
    by o x n s = absurd (cc)

pub images-set : (fn runs : List Run) (at : ℕ) (old new : Run) → at < length runs → slice_get runs at ≡ Some old → new.image ≡ old.image →
    AreSameImages fn runs → AreSameImages fn (set runs at new)
images-set fn runs at old new low is image same i run there = elim (get-set runs at new i run low there) [
  | inl (here, what) ↦
      let prior : (before : Run) × (slice_get fn at ≡ Some before) × (old.image ≡ before.image) = same at old is in
      (prior.0, subst (λ n. slice_get fn n ≡ Some prior.0) (sym here) prior.1, ap (λ (x : Run). x.image) what ∙ (image ∙ prior.2))
  | inr (other, was) ↦ same i run was
]

module _ {E : Type 0} (meaning : E → Meaning) (engines : List E) where
  pub sound-set : (list : List LazyDfa) (at : ℕ) (new : LazyDfa) → at < length list →
      IsDfaSound meaning engines new.members.items new.states.items new.rows.items new.ends.items → AreAllSound meaning engines list → AreAllSound meaning engines (set list at new)
  sound-set list at new low one all i dfa is = elim (get-set list at new i dfa low is) [
    | inl (here, what) ↦ subst (λ (x : LazyDfa). IsDfaSound meaning engines x.members.items x.states.items x.rows.items x.ends.items) (sym what) one
    | inr (other, was) ↦ all i dfa was
  ]

  pub dfas-run : (d d' : Dfas) → ((k : ℕ) → engine_at d' k ≡ engine_at d k) → AreAllSound meaning engines d'.list.items → AreDfasOf meaning engines d → AreDfasOf meaning engines d'
  dfas-run d d' same sound of = record {
    there = λ k n is. of.there k n (sym (same k) ∙ is);
    listed = λ k n e is there. of.listed k n e (sym (same k) ∙ is) there;
    sound = sound;
  }

  pub run-told : (cache cache' : Cache) (prev : Prev) (bytes : List ℕ) → cache'.dfas.places ≡ cache.dfas.places → ((k : ℕ) → member_of cache'.dfas k ≡ member_of cache.dfas k) →
      AreAllSound meaning engines cache'.dfas.list.items → AreSameImages cache.runs.items cache'.runs.items → AreTaken cache'.dfas.list.items cache'.runs.items prev bytes →
      EachIndex bytes (λ i. slice_index bytes i < 256) → (k : ℕ) (t : Told) (e : E) → told cache' k ≡ Some t → slice_get engines t.engine ≡ Some e → TellsRun (meaning e) (loaded cache k) prev bytes t
  run-told cache cache' prev bytes places same sound images taken small k t e is there =
      let it : IsTold (member_of cache'.dfas k) cache'.dfas.list.items cache'.runs.items (place_for cache'.dfas k) t = told-open cache' k t is in
      let by : member_by cache'.dfas.list.items (place_for cache'.dfas k) ≡ Some it.of = own-is k (member_by cache'.dfas.list.items (place_for cache'.dfas k)) it.of it.of_is in
      let of : slice_get it.dfa.members.items it.at.member ≡ Some it.of = member-at cache'.dfas.list.items it.at it.dfa it.of it.dfa_is (subst (λ o. member_by cache'.dfas.list.items o ≡ Some it.of) it.at_is by) in
      let engine : it.of.engine ≡ t.engine = ap (λ (x : Told). x.engine) it.told_is in
      let prior : (before : Run) × (slice_get cache.runs.items it.at.dfa ≡ Some before) × (it.run.image ≡ before.image) = images it.at.dfa it.run it.run_is in
      let items : cache'.dfas.places.items ≡ cache.dfas.places.items = ap (λ v. v.items) places in
      let spot : place_for cache.dfas k ≡ Some it.at = sym (ap (λ l. place_in (slice_get l k)) items) ∙ it.at_is in
      let from : loaded cache k ≡ part it.run.image it.of = loaded-is cache k it.of it.at prior.0 (sym (same k) ∙ it.of_is) spot prior.1 ∙ ap (λ i. part i it.of) (sym prior.2) in
      subst (λ old. TellsRun (meaning e) old prev bytes t) (sym from)
      (subst (λ (x : Told). TellsRun (meaning e) (part it.run.image it.of) prev bytes x) it.told_is
      (taken-tells meaning engines it.dfa it.run prev bytes it.at.member it.of e it.state (sound it.at.dfa it.dfa it.dfa_is) (taken it.at.dfa it.dfa it.run it.dfa_is it.run_is it.done) small of
      (subst (λ n. slice_get engines n ≡ Some e) (sym engine) there) (own-kept k (member_by cache'.dfas.list.items (place_for cache'.dfas k)) it.of it.of_is) it.state_is))

pub run-of : (cache cache' : Cache) → ((k : ℕ) → member_of cache'.dfas k ≡ member_of cache.dfas k) → (k : ℕ) (t : Told) → told cache' k ≡ Some t → engine_at cache.dfas k ≡ Some t.engine
run-of cache cache' same k t is =
    let it : IsTold (member_of cache'.dfas k) cache'.dfas.list.items cache'.runs.items (place_for cache'.dfas k) t = told-open cache' k t is in
    engine-of cache.dfas k it.of (sym (same k) ∙ it.of_is) ∙ ap Some (ap (λ (x : Told). x.engine) it.told_is)

decide-by : (d : Option LazyDfa) (r : Option Run) (m : Member) (n : ℕ) (b : Bool) → b ≡ done_by d r →
    MatchBool b ((t : Told) × (told_by (Some m) d r n ≡ Some t)) (told_by (Some m) d r n ≡ None)
decide-by None r m n true is = absurd (cc)
decide-by None r m n false is = refl
decide-by (Some dfa) None m n true is = absurd (cc)
decide-by (Some dfa) None m n false is = refl
decide-by (Some dfa) (Some run) m n b is = elim (cases_lt run.state (length dfa.states.items)) [
  | inl low ↦ low-by b low is
  | inr high ↦ high-by b high is
]
  where
    done-by : (st : State) (b d : Bool) → b ≡ d → run.is_done ≡ d → MatchBool b ((t : Told) × (told_of (Some st) run n m ≡ Some t)) (told_of (Some st) run n m ≡ None)
    done-by st true true is done = (_, ap (λ x. told_if x (record { engine = m.engine; part = part st.image m; before = befores_of run n; behind = behinds_of run n })) done)
    done-by st true false is done = absurd (cc)
    done-by st false true is done = absurd (cc)
    done-by st false false is done = ap (λ x. told_if x (record { engine = m.engine; part = part st.image m; before = befores_of run n; behind = behinds_of run n })) done

    and-low : (x : Bool) → run.state < length dfa.states.items → (x && nat_lt run.state (length dfa.states.items)) ≡ x
    and-low x low = grind (arith, tests)

    and-high : (x : Bool) → length dfa.states.items ≤ run.state → (x && nat_lt run.state (length dfa.states.items)) ≡ false
    and-high x high = grind (arith, tests)

    some-at : (xs : List State) (i : ℕ) → i < length xs → (x : State) × (slice_get xs i ≡ Some x)
    some-at [] i low = absurd (omega (arith, low))
    some-at (x ∷ xs) i low = (get_or (x ∷ xs) i x, slice_get-get_or (x ∷ xs) i x low)

    low-by : (b : Bool) → run.state < length dfa.states.items → b ≡ (run.is_done && nat_lt run.state (length dfa.states.items)) →
        MatchBool b ((t : Told) × (told_of (slice_get dfa.states.items run.state) run n m ≡ Some t)) (told_of (slice_get dfa.states.items run.state) run n m ≡ None)
    low-by b low is =
        let st : (x : State) × (slice_get dfa.states.items run.state ≡ Some x) = some-at dfa.states.items run.state low in
        subst (λ o. MatchBool b ((t : Told) × (told_of o run n m ≡ Some t)) (told_of o run n m ≡ None)) (sym st.1)
        (done-by st.0 b run.is_done (is ∙ and-low run.is_done low) refl)

    high-by : (b : Bool) → length dfa.states.items ≤ run.state → b ≡ (run.is_done && nat_lt run.state (length dfa.states.items)) →
        MatchBool b ((t : Told) × (told_of (slice_get dfa.states.items run.state) run n m ≡ Some t)) (told_of (slice_get dfa.states.items run.state) run n m ≡ None)
    high-by true high is = absurd (cc-by (and-high run.is_done high) is)
      where
        cc-by : {x : Bool} → x ≡ false → true ≡ x → ⊥
        cc-by e f = absurd (cc)
    high-by false high is = ap (λ o. told_of o run n m) (slice_get_past dfa.states.items run.state high)

pub told-decides : (cache : Cache) (k : ℕ) (m : Member) (p : Place) (b : Bool) → member_of cache.dfas k ≡ Some m → place_for cache.dfas k ≡ Some p →
    b ≡ is_done_at cache.dfas.list.items cache.runs.items p → MatchBool b ((t : Told) × (told cache k ≡ Some t)) (told cache k ≡ None)
unfolding told
told-decides cache k m p b own spot is =
    subst (λ o. MatchBool b ((t : Told) × (told_at (member_of cache.dfas k) cache.dfas.list.items cache.runs.items o ≡ Some t)) (told_at (member_of cache.dfas k) cache.dfas.list.items cache.runs.items o ≡ None)) (sym spot)
    (subst (λ o. MatchBool b ((t : Told) × (told_by o (slice_get cache.dfas.list.items p.dfa) (slice_get cache.runs.items p.dfa) p.member ≡ Some t)) (told_by o (slice_get cache.dfas.list.items p.dfa) (slice_get cache.runs.items p.dfa) p.member ≡ None)) (sym own)
    (decide-by (slice_get cache.dfas.list.items p.dfa) (slice_get cache.runs.items p.dfa) m p.member b is))

pub told-nowhere : (cache : Cache) (k : ℕ) → place_for cache.dfas k ≡ None → told cache k ≡ None
unfolding told
told-nowhere cache k none = ap (λ o. told_at (member_of cache.dfas k) cache.dfas.list.items cache.runs.items o) none

pub told-nobody : (cache : Cache) (k : ℕ) (p : Place) → place_for cache.dfas k ≡ Some p → member_of cache.dfas k ≡ None → told cache k ≡ None
unfolding told
told-nobody cache k p spot none =
    ap (λ o. told_at (member_of cache.dfas k) cache.dfas.list.items cache.runs.items o) spot ∙
    ap (λ o. told_by o (slice_get cache.dfas.list.items p.dfa) (slice_get cache.runs.items p.dfa) p.member) none

pub loaded-zero : (cache : Cache) → ((i : ℕ) (run : Run) → slice_get cache.runs.items i ≡ Some run → AreZero run.image) → (k : ℕ) → AreZero (loaded cache k)
unfolding loaded
loaded-zero cache zeros k = by (member_of cache.dfas k) (place_for cache.dfas k)
  where
    by-run : (m : Member) (i : ℕ) (o : Option Run) → slice_get cache.runs.items i ≡ o → AreZero (loaded_by (Some m) o)
    by-run m i None is = λ j low. absurd (omega (arith, low))
    by-run m i (Some run) is = zero-range run.image m.start m.end (zeros i run is)

    by : (m : Option Member) (p : Option Place) → AreZero (loaded_by m (run_at cache.runs.items p))
    by None p = λ j low. absurd (omega (arith, low))
    by (Some m) None = λ j low. absurd (omega (arith, low))
    by (Some m) (Some p) = by-run m p.dfa (slice_get cache.runs.items p.dfa) refl

pub loaded-sized : (cache cache' : Cache) → cache'.dfas ≡ cache.dfas → length cache'.runs.items ≡ length cache.runs.items →
    ((i : ℕ) (run : Run) → slice_get cache'.runs.items i ≡ Some run → (old : Run) × (slice_get cache.runs.items i ≡ Some old) × (length run.image ≡ length old.image)) →
    (k : ℕ) → length (loaded cache' k) ≡ length (loaded cache k)
unfolding loaded
loaded-sized cache cache' same count sized k =
    ap (λ (d : Dfas). length (loaded_by (member_of d k) (run_at cache'.runs.items (place_for d k)))) same ∙ by (member_of cache.dfas k) (place_for cache.dfas k)
  where
    by-run : (m : Member) (i : ℕ) (o : Option Run) → slice_get cache'.runs.items i ≡ o → length (loaded_by (Some m) o) ≡ length (loaded_by (Some m) (slice_get cache.runs.items i))
    by-run m i (Some run) is =
        let old : (before : Run) × (slice_get cache.runs.items i ≡ Some before) × (length run.image ≡ length before.image) = sized i run is in
        same-range run.image old.0.image m.start m.end old.2 ∙ ap (λ o. length (loaded_by (Some m) o)) (sym old.1)
    by-run m i None is = elim (cases_lt i (length cache'.runs.items)) [
      | inl low ↦ absurd (none-some (slice_get cache'.runs.items i) is (some-run cache'.runs.items i low))
      | inr high ↦ ap (λ o. length (loaded_by (Some m) o)) (sym (slice_get_past cache.runs.items i (omega (arith, high, count))))
    ]
      where
        some-run : (xs : List Run) (i : ℕ) → i < length xs → (x : Run) × (slice_get xs i ≡ Some x)
        some-run [] i low = absurd (omega (arith, low))
        some-run (x ∷ xs) i low = (get_or (x ∷ xs) i x, slice_get-get_or (x ∷ xs) i x low)

        none-some : (o : Option Run) → o ≡ None → ((x : Run) × (o ≡ Some x)) → ⊥
        none-some o n s = let e : o ≡ Some s.0 = s.1 in absurd (cc)

    by : (m : Option Member) (p : Option Place) → length (loaded_by m (run_at cache'.runs.items p)) ≡ length (loaded_by m (run_at cache.runs.items p))
    by None p = refl
    by (Some m) None = refl
    by (Some m) (Some p) = by-run m p.dfa (slice_get cache'.runs.items p.dfa) refl

pub engine-nowhere : (d : Dfas) (k : ℕ) → place_for d k ≡ None → engine_at d k ≡ None
unfolding engine_at
engine-nowhere d k none = ap (λ o. engine_in (own_member k (member_by d.list.items o))) none

pub engine-nobody : (d : Dfas) (k : ℕ) → member_of d k ≡ None → engine_at d k ≡ None
unfolding engine_at
engine-nobody d k none = ap engine_in none

pub own-number : (k : ℕ) (o : Option Member) (m : Member) → own_member k o ≡ Some m → m.number ≡ k
own-number k None m is = absurd (cc)
own-number k (Some x) m is = elim (cases_eq x.number k) [
  | inl same ↦ sym (ap (λ (y : Member). y.number) (some-same x m (own-is k (Some x) m is))) ∙ same
  | inr other ↦ absurd (none-some (sym (no-own other) ∙ is))
]
  where
    no-own : (x.number ≡ k → ⊥) → own_member k (Some x) ≡ None
    no-own other = ap (λ (b : Bool). if b && not x.is_dropped then Some x else None) (ne_eqb x.number k other)

    none-some : None ≡ Some m → ⊥
    none-some e = absurd (cc)

pub member-dfa : (list : List LazyDfa) (p : Place) (m : Member) → member_by list (Some p) ≡ Some m → (dfa : LazyDfa) × (slice_get list p.dfa ≡ Some dfa) × (slice_get dfa.members.items p.member ≡ Some m)
member-dfa list p m is = by (slice_get list p.dfa) refl is
  where
    by : (o : Option LazyDfa) → slice_get list p.dfa ≡ o → member_in o p.member ≡ Some m → (dfa : LazyDfa) × (slice_get list p.dfa ≡ Some dfa) × (slice_get dfa.members.items p.member ≡ Some m)
    by None d own = absurd (cc)
    by (Some dfa) d own = (dfa, d, own)

pub told-member : (cache : Cache) (k : ℕ) (t : Told) (p : Place) (dfa : LazyDfa) (m : Member) → told cache k ≡ Some t → place_for cache.dfas k ≡ Some p →
    slice_get cache.dfas.list.items p.dfa ≡ Some dfa → slice_get dfa.members.items p.member ≡ Some m → member_of cache.dfas k ≡ Some m
told-member cache k t p dfa m is spot d there =
    let it : IsTold (member_of cache.dfas k) cache.dfas.list.items cache.runs.items (place_for cache.dfas k) t = told-open cache k t is in
    let by : member_by cache.dfas.list.items (place_for cache.dfas k) ≡ Some it.of = own-is k (member_by cache.dfas.list.items (place_for cache.dfas k)) it.of it.of_is in
    let of : slice_get dfa.members.items p.member ≡ Some it.of = member-at cache.dfas.list.items p dfa it.of d (subst (λ o. member_by cache.dfas.list.items o ≡ Some it.of) spot by) in
    it.of_is ∙ (sym of ∙ there)

lt-none : (i n : ℕ) (x : Bool) → (i < n → x ≡ false) → (nat_lt i n && x) ≡ false
lt-none i n x none = elim (cases_lt i n) [
  | inl low ↦ (let e : x ≡ false = none low in grind (arith, tests))
  | inr high ↦ grind (arith, tests)
]

-- what isn't woken is silent
pub asleep-silent : (t : Told) (dfa : LazyDfa) (run : Run) (k : ℕ) (it : IsToldBy t dfa run k) → IsAsleepIn run it.state k → IsSilent t
asleep-silent t dfa run k it asleep = record {
  zero = subst (λ p. AreZero p) (sym it.part_is) ((dfa.live run.state it.state it.state_is).live k it.of it.of_is asleep.live);
  before = λ i. ap (λ f. f i) it.before_is ∙ run.ends.silent_before k i asleep.ended;
  behind = λ i. ap (λ f. f i) it.behind_is ∙ run.ends.silent_behind k i asleep.ended;
}

-- the regions of the other numbers stay where one is loaded
module _ (cache cache' : Cache) (n : ℕ) (m : Member) (p : Place) (old new : Run) (same : cache'.dfas ≡ cache.dfas)
    (own : member_of cache.dfas n ≡ Some m) (spot : place_for cache.dfas n ≡ Some p) (low : p.dfa < length cache.runs.items)
    (was : slice_get cache.runs.items p.dfa ≡ Some old) (now : cache'.runs.items ≡ set cache.runs.items p.dfa new)
    (others : (other : Member) → IsBeside m other → part new.image other ≡ part old.image other) where
  other-beside : (k : ℕ) (m' : Member) (p' : Place) → (k ≡ n → ⊥) → member_of cache.dfas k ≡ Some m' → place_for cache.dfas k ≡ Some p' → p'.dfa ≡ p.dfa → IsBeside m m'
  other-beside k m' p' away own' spot' here =
      let a : (dfa : LazyDfa) × (slice_get cache.dfas.list.items p.dfa ≡ Some dfa) × (slice_get dfa.members.items p.member ≡ Some m) =
      member-dfa cache.dfas.list.items p m (subst (λ o. member_by cache.dfas.list.items o ≡ Some m) spot (own-is n (member_by cache.dfas.list.items (place_for cache.dfas n)) m own)) in
      let b : (dfa : LazyDfa) × (slice_get cache.dfas.list.items p'.dfa ≡ Some dfa) × (slice_get dfa.members.items p'.member ≡ Some m') =
      member-dfa cache.dfas.list.items p' m' (subst (λ o. member_by cache.dfas.list.items o ≡ Some m') spot' (own-is k (member_by cache.dfas.list.items (place_for cache.dfas k)) m' own')) in
      let one : b.0 ≡ a.0 = some-same b.0 a.0 (sym b.1 ∙ (ap (slice_get cache.dfas.list.items) here ∙ a.1)) in
      let there : slice_get a.0.members.items p'.member ≡ Some m' = subst (λ (d : LazyDfa). slice_get d.members.items p'.member ≡ Some m') one b.2 in
      elim (cases_lt p'.member p.member) [
        | inl less ↦ beside a.0.members.items p'.member p.member m' m a.0.apart there a.2 less
        | inr more ↦ elim (cases_eq p'.member p.member) [
          | inl equal ↦
              let alike : m' ≡ m = some-same m' m (sym there ∙ (ap (slice_get a.0.members.items) equal ∙ a.2)) in
              absurd (away (sym (own-number k (member_by cache.dfas.list.items (place_for cache.dfas k)) m' own') ∙ (ap (λ (x : Member). x.number) alike ∙ own-number n (member_by cache.dfas.list.items (place_for cache.dfas n)) m own)))
          | inr other ↦ beside-back a.0.members.items p.member p'.member m m' a.0.apart a.2 there (omega (arith, more, other))
        ]
      ]

  pub loaded-others : (k : ℕ) → (k ≡ n → ⊥) → loaded cache' k ≡ loaded cache k
  unfolding loaded
  loaded-others k away =
      ap (λ (d : Dfas). loaded_by (member_of d k) (run_at cache'.runs.items (place_for d k))) same ∙ by (member_of cache.dfas k) (place_for cache.dfas k) refl refl
    where
      by : (o : Option Member) (q : Option Place) → member_of cache.dfas k ≡ o → place_for cache.dfas k ≡ q → loaded_by o (run_at cache'.runs.items q) ≡ loaded_by o (run_at cache.runs.items q)
      by None q a b = refl
      by (Some m') None a b = refl
      by (Some m') (Some p') a b = elim (cases_eq p'.dfa p.dfa) [
        | inl here ↦
            ap (λ (l : List Run). loaded_by (Some m') (slice_get l p'.dfa)) now ∙
            (ap (λ i. loaded_by (Some m') (slice_get (set cache.runs.items p.dfa new) i)) here ∙
            (ap (λ o. loaded_by (Some m') o) (set-got cache.runs.items p.dfa new low) ∙
            (others m' (other-beside k m' p' away a b here) ∙
            (sym (ap (λ o. loaded_by (Some m') o) was) ∙ ap (λ i. loaded_by (Some m') (slice_get cache.runs.items i)) (sym here)))))
        | inr other ↦
            ap (λ (l : List Run). loaded_by (Some m') (slice_get l p'.dfa)) now ∙ ap (λ o. loaded_by (Some m') o) (set-others cache.runs.items p.dfa new p'.dfa other)
      ]

pub loaded-none : (cache : Cache) (k : ℕ) (p : Place) → place_for cache.dfas k ≡ Some p → slice_get cache.runs.items p.dfa ≡ None → loaded cache k ≡ []
unfolding loaded
loaded-none cache k p spot r =
    ap (λ o. loaded_by (member_of cache.dfas k) (run_at cache.runs.items o)) spot ∙ (ap (λ o. loaded_by (member_of cache.dfas k) o) r ∙ by (member_of cache.dfas k))
  where
    by : (o : Option Member) → loaded_by o None ≡ []
    by None = refl
    by (Some m) = refl

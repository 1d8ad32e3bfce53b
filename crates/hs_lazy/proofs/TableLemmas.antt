-- The tables of an automaton: what is kept in them while they grow.
use Rattle.std.proofs.Common.{◌≡◌, ℕ, ◌%◌, zero, suc, ◌+◌, ◌*◌, ◌<◌, ◌≤◌, ◌⊎◌, inl, inr, Bool, true, false, List, [], ◌∷◌, ◌++◌, length, Some, None, slice_get, slice_index, get_or, refl, sym, ap, subst, ◌∙◌, arith, rules, tests, ltb, length-append}
use Rattle.std.specs.Prelude.{Result, Ok, is_ok, if◌then◌else◌}
use Rattle.std.proofs.Math.ListN.{set}
use Rattle.std.proofs.lemmas.List.{get_or_append_left, get_or-append-add, get_or-set_same, get_or-set_other}
use Rattle.std.proofs.lemmas.Option.{slice_get_within, slice_get_past, slice_get_read, slice_get-get_or, get_or_from_slice_get}
use Rattle.std.proofs.lemmas.Bool.{cases_eq, cases_lt}
use Rattle.hs_engine.specs.Engines.{Meaning}
use Rattle.hs_lazy.specs.declared.parts.Member.{Member}
use Rattle.hs_lazy.specs.declared.parts.State.{State}
use Rattle.hs_lazy.specs.declared.parts.EndSet.{EndSet}
use Rattle.hs_lazy.specs.Parts.{AreSetsWhole, AreStillThere, AreStepsKept, AreUnknownFrom, AreLeading, IsSetWhole, before_of, behind_of, ends_of, entry, next_of, set_of}
use Rattle.hs_lazy.specs.Sound.{AreMembersOf, IsDfaSound, IsStep, TakeEntered}
use Rattle.hs_lazy.specs.Walks.{IsWalk, state_before}

pub pushed : {A T E : Type 0} (old new : List A) (x : A) (r : Result T E) (t : T) → new ≡ (if is_ok r then old ++ x ∷ [] else old) → r ≡ Ok t →
    new ≡ old ++ x ∷ []
pushed {T = T} {E = E} old new x r t is ok = is ∙ ap (λ (q : Result T E). if is_ok q then old ++ x ∷ [] else old) ok

pub more-pushed : {A : Type 0} (old new : List A) (x : A) (b : Bool) → new ≡ (if b then old ++ x ∷ [] else old) → length old ≤ length new
more-pushed old new x true is = omega (arith, ap length is, length-append old (x ∷ []))
more-pushed old new x false is = omega (arith, ap length is)

-- what a lookup answers
pub got : {A : Type 0} (xs ys : List A) (i : ℕ) (x : A) → ys ≡ xs → i < length ys → x ≡ get_or ys i x → slice_get xs i ≡ Some x
got xs ys i x same low is = subst (λ (l : List _). slice_get l i ≡ Some x) same (slice_get_read ys (length ys) i x refl low is)

pub got-none : {A : Type 0} (xs ys : List A) (i : ℕ) → ys ≡ xs → false ≡ ltb i (length ys) → slice_get xs i ≡ None
got-none xs ys i same high =
    let past : length ys ≤ i = search (rules, tests) in
    subst (λ (l : List _). slice_get l i ≡ None) same (slice_get_past ys i past)

-- what stands in a list still does behind a push
pub get-pushed : {A : Type 0} (xs : List A) (y : A) (i : ℕ) (x : A) → slice_get xs i ≡ Some x → slice_get (xs ++ y ∷ []) i ≡ Some x
get-pushed xs y i x is =
    let low : i < length xs = slice_get_within xs i x is in
    slice_get-get_or (xs ++ y ∷ []) i x (omega (arith, length-append xs (y ∷ []))) ∙
    ap Some (get_or_append_left xs (y ∷ []) x i low ∙ get_or_from_slice_get xs i x x is)

pub kept-pushed : {A : Type 0} (xs : List A) (y : A) → AreStillThere xs (xs ++ y ∷ [])
kept-pushed xs y i x is = get-pushed xs y i x is

pub kept-same : {A : Type 0} (xs ys : List A) → ys ≡ xs → AreStillThere xs ys
kept-same xs ys same i x is = subst (λ (l : List _). slice_get l i ≡ Some x) (sym same) is

pub get-last : {A : Type 0} (xs : List A) (y : A) → slice_get (xs ++ y ∷ []) (length xs) ≡ Some y
get-last xs y =
    slice_get-get_or (xs ++ y ∷ []) (length xs) y (omega (arith, length-append xs (y ∷ []))) ∙
    ap Some (ap (λ n. get_or (xs ++ y ∷ []) n y) (omega arith) ∙ get_or-append-add xs (y ∷ []) 0 y)

some-same : {A : Type 0} (x y : A) → Some x ≡ Some y → x ≡ y
some-same x y same = cc

-- what stands there behind a push stood there before it, or was pushed
pub get-either : {A : Type 0} (xs : List A) (y : A) (i : ℕ) (x : A) → slice_get (xs ++ y ∷ []) i ≡ Some x →
    (slice_get xs i ≡ Some x) ⊎ ((i ≡ length xs) × (x ≡ y))
get-either xs y i x is =
    let low : i < length (xs ++ y ∷ []) = slice_get_within (xs ++ y ∷ []) i x is in
    elim (cases_lt i (length xs)) [
      | inl less ↦ inl (slice_get-get_or xs i x less ∙ ap Some (sym (get_or_append_left xs (y ∷ []) x i less) ∙ get_or_from_slice_get (xs ++ y ∷ []) i x x is))
      | inr more ↦
          let here : i ≡ length xs = omega (arith, low, more, length-append xs (y ∷ [])) in
          inr (here, some-same x y (sym is ∙ (ap (slice_get (xs ++ y ∷ [])) here ∙ get-last xs y)))
    ]

-- each set of ends is whole still behind a push
pub whole-pushed : (old new : List EndSet) (set : EndSet) (b : Bool) → new ≡ (if b then old ++ set ∷ [] else old) → IsSetWhole set →
    AreSetsWhole old → AreSetsWhole new
whole-pushed old new set true is one all n x there = elim (get-either old set n x (subst (λ (l : List _). slice_get l n ≡ Some x) is there)) [
  | inl was ↦ all n x was
  | inr (here, same) ↦ subst (λ s. IsSetWhole s) (sym same) one
]
whole-pushed old new set false is one all n x there = all n x (subst (λ (l : List _). slice_get l n ≡ Some x) is there)

pub same-got : {A : Type 0} (xs : List A) (i : ℕ) (x y : A) → slice_get xs i ≡ Some x → slice_get xs i ≡ Some y → x ≡ y
same-got xs i x y one other = some-same x y (sym one ∙ other)

-- a list has no more behind a push
pub kept-length : {A : Type 0} (old new : List A) → AreStillThere old new → length old ≤ length new
kept-length [] new kept = omega arith
kept-length (x ∷ xs) new kept =
    let last : slice_get (x ∷ xs) (length xs) ≡ Some (get_or (x ∷ xs) (length xs) x) = slice_get-get_or (x ∷ xs) (length xs) x (omega arith) in
    let there : length xs < length new = slice_get_within new (length xs) _ (kept (length xs) (get_or (x ∷ xs) (length xs) x) last) in
    omega (arith, there)

module _ {E : Type 0} (meaning : E → Meaning) (engines : List E) (members : List Member) where
  -- no state has a step that isn't sound
  pub sound-none : (states : List State) (rows : List ℕ) (ends : List EndSet) → states ≡ [] → AreMembersOf meaning engines members →
      IsDfaSound meaning engines members states rows ends
  sound-none states rows ends none of = record {
    of = of;
    steps = λ s b old is small known. absurd (omega (arith, slice_get_within states s old is, ap length none));
  }

  pub sound-grown : (states states' : List State) (rows : List ℕ) (ends : List EndSet) →
      AreUnknownFrom rows (length states) → AreStillThere states states' →
      IsDfaSound meaning engines members states rows ends → IsDfaSound meaning engines members states' rows ends
  sound-grown states states' rows ends unknown kept sound = record {
    of = sound.of;
    steps = λ s b old is small known. elim (cases_lt s (length states)) [
      | inl less ↦ step s b old is small known less
      | inr more ↦ absurd (known (unknown (256 * s + b) (omega (arith, more))))
    ];
  }
    where
      step : (s b : ℕ) (old : State) → slice_get states' s ≡ Some old → b < 256 → (entry rows s b ≡ 0 → ⊥) → s < length states →
          IsStep meaning engines members states' ends old b (entry rows s b)
      step s b old is small known less =
          let was : slice_get states s ≡ Some old =
          (let there : slice_get states s ≡ Some (get_or states s old) = slice_get-get_or states s old less in
          there ∙ ap Some (same-got states' s (get_or states s old) old (kept s (get_or states s old) there) is)) in
          let one : IsStep meaning engines members states ends old b (entry rows s b) = sound.steps s b old was small known in
          record {
            next = one.next;
            next_is = kept (next_of (entry rows s b)) one.next one.next_is;
            prev_is = one.prev_is;
            ends_within = one.ends_within;
            takes = one.takes;
          }

  set-kept : (ends ends' : List EndSet) (n : ℕ) → AreStillThere ends ends' → n ≤ length ends → set_of ends' n ≡ set_of ends n
  set-kept ends ends' zero kept within = refl
  set-kept [] ends' (suc n) kept within = absurd (omega (arith, within))
  set-kept (e ∷ es) ends' (suc n) kept within =
      let there : slice_get (e ∷ es) n ≡ Some (get_or (e ∷ es) n e) = slice_get-get_or (e ∷ es) n e (omega (arith, within)) in
      kept n (get_or (e ∷ es) n e) there ∙ sym there

  pub sound-ends : (states : List State) (rows : List ℕ) (ends ends' : List EndSet) → AreStillThere ends ends' →
      IsDfaSound meaning engines members states rows ends → IsDfaSound meaning engines members states rows ends'
  sound-ends states rows ends ends' kept sound = record {
    of = sound.of;
    steps = λ s b old is small known. step s b old (sound.steps s b old is small known);
  }
    where
      step : (s b : ℕ) (old : State) → IsStep meaning engines members states ends old b (entry rows s b) →
          IsStep meaning engines members states ends' old b (entry rows s b)
      step s b old one =
          let same : set_of ends' (ends_of (entry rows s b)) ≡ set_of ends (ends_of (entry rows s b)) =
          set-kept ends ends' (ends_of (entry rows s b)) kept one.ends_within in
          record {
            next = one.next;
            next_is = one.next_is;
            prev_is = one.prev_is;
            ends_within = (let more : length ends ≤ length ends' = kept-length ends ends' kept in omega (arith, more, one.ends_within));
            takes = subst (λ kept. TakeEntered meaning engines members old one.next.image b (before_of kept) (behind_of kept)) (sym same) one.takes;
          }

  pub sound-written : (states : List State) (rows : List ℕ) (ends : List EndSet) (s b step : ℕ) (old : State) →
      slice_get states s ≡ Some old → b < 256 → 256 * s + b < length rows →
      IsStep meaning engines members states ends old b step →
      IsDfaSound meaning engines members states rows ends →
      IsDfaSound meaning engines members states (set rows (256 * s + b) step) ends
  sound-written states rows ends s b step old is small within one sound = record {
    of = sound.of;
    steps = λ s' b' old' is' small' known. elim (cases_eq (256 * s' + b') (256 * s + b)) [
      | inl same ↦
          let at : s' ≡ s = omega (arith, same, small, small') in
          let byte : b' ≡ b = omega (arith, same, small, small') in
          let what : entry (set rows (256 * s + b) step) s' b' ≡ step = ap (slice_index (set rows (256 * s + b) step)) same ∙ get_or-set_same rows (256 * s + b) step 0 within in
          let from : old ≡ old' = same-got states s old old' is (subst (λ n. slice_get states n ≡ Some old') at is') in
          subst (λ e. IsStep meaning engines members states ends old' b' e) (sym what)
          (subst (λ o. IsStep meaning engines members states ends o b' step) from
          (subst (λ n. IsStep meaning engines members states ends old n step) (sym byte) one))
      | inr apart ↦
          let what : entry (set rows (256 * s + b) step) s' b' ≡ entry rows s' b' = get_or-set_other rows (256 * s + b) (256 * s' + b') step 0 apart in
          subst (λ e. IsStep meaning engines members states ends old' b' e) (sym what) (sound.steps s' b' old' is' small' (λ none. known (what ∙ none)))
    ];
  }

-- the steps that are known stay where one that isn't is written
pub steps-written : (rows : List ℕ) (k step : ℕ) → slice_index rows k ≡ 0 → AreStepsKept rows (set rows k step)
steps-written rows k step none i known =
    get_or-set_other rows k i step 0 (λ same. known (ap (slice_index rows) same ∙ none))

-- a walk is one over rows in which the known steps are the same
pub walk-kept : (rows rows' : List ℕ) (first : ℕ) (bytes trace : List ℕ) (n : ℕ) → AreStepsKept rows rows' → IsWalk rows first bytes trace n → IsWalk rows' first bytes trace n
walk-kept rows rows' first bytes trace n kept walk = record {
  is = λ i low. walk.is i low ∙ sym (kept (256 * state_before first trace i + slice_index bytes i) (λ none. walk.known i low (walk.is i low ∙ none)));
  known = walk.known;
}

pub walk-none : (rows : List ℕ) (first : ℕ) (bytes trace : List ℕ) → IsWalk rows first bytes trace 0
walk-none rows first bytes trace = record { is = λ i low. absurd (omega (arith, low)); known = λ i low _. absurd (omega (arith, low)) }

before-same : (first : ℕ) (trace : List ℕ) (n step i : ℕ) → i ≤ n → state_before first (set trace n step) i ≡ state_before first trace i
before-same first trace n step zero low = refl
before-same first trace n step (suc i) low = ap next_of (get_or-set_other trace n i step 0 (λ same. absurd (omega (arith, same, low))))

pub walk-more : (rows : List ℕ) (first : ℕ) (bytes trace : List ℕ) (n step : ℕ) → n < length trace →
    step ≡ entry rows (state_before first trace n) (slice_index bytes n) → (step ≡ 0 → ⊥) →
    IsWalk rows first bytes trace n → IsWalk rows first bytes (set trace n step) (n + 1)
walk-more rows first bytes trace n step within is known walk = record {
  is = λ i low. elim (cases_eq i n) [
    | inl same ↦ here i same
    | inr apart ↦ there i low apart
  ];
  known = λ i low none. elim (cases_eq i n) [
    | inl same ↦ known (sym (get_or-set_same trace n step 0 within) ∙ (ap (slice_index (set trace n step)) (sym same) ∙ none))
    | inr apart ↦ walk.known i (omega (arith, low, apart)) (sym (get_or-set_other trace n i step 0 apart) ∙ none)
  ];
}
  where
    here : (i : ℕ) → i ≡ n → slice_index (set trace n step) i ≡ entry rows (state_before first (set trace n step) i) (slice_index bytes i)
    here i same = subst (λ k. slice_index (set trace n step) k ≡ entry rows (state_before first (set trace n step) k) (slice_index bytes k)) (sym same)
        (get_or-set_same trace n step 0 within ∙ (is ∙ ap (λ s. entry rows s (slice_index bytes n)) (sym (before-same first trace n step n (omega arith)))))

    there : (i : ℕ) → i < n + 1 → (i ≡ n → ⊥) → slice_index (set trace n step) i ≡ entry rows (state_before first (set trace n step) i) (slice_index bytes i)
    there i low apart =
        get_or-set_other trace n i step 0 apart ∙ (walk.is i (omega (arith, low, apart)) ∙ ap (λ s. entry rows s (slice_index bytes i)) (sym (before-same first trace n step i (omega (arith, low)))))

-- each state of a walk is there
pub before-within : (rows : List ℕ) (count first : ℕ) (bytes trace : List ℕ) (n : ℕ) → AreLeading rows count → first < count →
    IsWalk rows first bytes trace n → (i : ℕ) → i ≤ n → state_before first trace i < count
before-within rows count first bytes trace n leading low walk zero within = low
before-within rows count first bytes trace n leading low walk (suc i) within =
    let is : slice_index trace i ≡ entry rows (state_before first trace i) (slice_index bytes i) = walk.is i (omega (arith, within)) in
    let at = leading (256 * state_before first trace i + slice_index bytes i) (λ none. walk.known i (omega (arith, within)) (is ∙ none)) in
    next-within (slice_index trace i) count (subst (λ e. 0 < e % 65536) (sym is) at.0) (subst (λ e. e % 65536 ≤ count) (sym is) at.1)
  where
    next-within : (e count : ℕ) → 0 < e % 65536 → e % 65536 ≤ count → next_of e < count
    next-within e count some few = omega (arith, some, few)

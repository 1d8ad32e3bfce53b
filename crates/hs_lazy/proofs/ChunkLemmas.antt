-- What a chunk made of the members of an automaton, and what is told of it.
use Rattle.std.proofs.Common.{◌≡◌, ℕ, zero, suc, ◌+◌, ◌-◌, ◌<◌, ◌≤◌, Bool, true, false, not, ◌&&◌, ◌==◌, nat_lt, List, [], ◌∷◌, ◌++◌, length, take, Option, Some, None, slice_get, slice_index, EachIndex, refl, sym, ap, subst, ◌∙◌, arith, tests}
use Rattle.std.specs.Prelude.{if◌then◌else◌}
use Rattle.std.proofs.lemmas.Option.{slice_get_within}
use Rattle.std.proofs.lemmas.List.{take_all, length-take-le}
use Rattle.hs_base.specs.declared.context.Prev.{Prev}
use Rattle.hs_engine.specs.Engines.{Meaning}
use Rattle.hs_lazy.specs.declared.cache.Place.{Place}
use Rattle.hs_lazy.specs.declared.dfa.LazyDfa.{LazyDfa}
use Rattle.hs_lazy.specs.declared.parts.EndSet.{EndSet}
use Rattle.hs_lazy.specs.declared.parts.Member.{Member}
use Rattle.hs_lazy.specs.declared.parts.Run.{Run}
use Rattle.hs_lazy.specs.declared.parts.State.{State}
use Rattle.hs_lazy.specs.Caches.{TellsRun, Told, befores_of, behinds_of, told_at, told_by, told_if, told_of}
use Rattle.hs_lazy.specs.Parts.{IsState, before_of, behind_of, ends_of, entry, part, set_of}
use Rattle.hs_lazy.specs.Runs.{RunsThrough}
use Rattle.hs_lazy.specs.Sound.{IsDfaSound, IsStep}
use Rattle.hs_lazy.specs.Tables.{member_by, member_in, own_member}
use Rattle.hs_lazy.specs.Walks.{IsChunkTaken, IsWalk, state_before}
use Rattle.hs_lazy.proofs.PartLemmas.{size-part}
use Rattle.hs_lazy.proofs.RunLemmas.{StandsBehind, run-more, run-none, run-one, run-same, stands-more, stands-none}

take-next : (xs : List ℕ) (i : ℕ) → i < length xs → take i xs ++ slice_index xs i ∷ [] ≡ take (suc i) xs
take-next [] i low = absurd (omega (arith, low))
take-next (x ∷ xs) zero low = refl
take-next (x ∷ xs) (suc i) low = ap (λ l. x ∷ l) (take-next xs i (omega (arith, low)))

module _ {E : Type 0} (meaning : E → Meaning) (engines : List E) (members : List Member) (states : List State) (rows : List ℕ) (ends : List EndSet)
    (sound : IsDfaSound meaning engines members states rows ends) (first : ℕ) (image : List ℕ) (prev : Prev) (bytes trace : List ℕ)
    (starts : IsState states first image prev) (walk : IsWalk rows first bytes trace (length bytes))
    (small : EachIndex bytes (λ i. slice_index bytes i < 256)) where
  abbrev before-by : (k i : ℕ) → Bool
  before-by k i = before_of (set_of ends (ends_of (slice_index trace i))) k

  abbrev behind-by : (k i : ℕ) → Bool
  behind-by k i = behind_of (set_of ends (ends_of (slice_index trace i))) k

  -- behind so many bytes
  pub record IsRunTo (i : ℕ) : Type 0 where
    pub state : State
    pub is : slice_get states (state_before first trace i) ≡ Some state
    pub stands : StandsBehind prev (take i bytes) state.prev
    pub runs : (k : ℕ) (m : Member) (e : E) → slice_get members k ≡ Some m → slice_get engines m.engine ≡ Some e → m.is_dropped ≡ false →
        RunsThrough (meaning e) (part image m) (part state.image m) prev (take i bytes) (before-by k) (behind-by k)
    pub well : 0 < i → (k : ℕ) (m : Member) (e : E) → slice_get members k ≡ Some m → slice_get engines m.engine ≡ Some e → m.is_dropped ≡ false → (at : ℕ) → (meaning e).well (part state.image m) at

  run-first : IsRunTo 0
  run-first = record {
    state = starts.state;
    is = starts.is;
    stands = subst (λ p. StandsBehind prev [] p) (sym starts.prev_is) (stands-none prev);
    runs = λ k m e is there kept. subst (λ x. RunsThrough (meaning e) (part image m) (part x m) prev [] (before-by k) (behind-by k)) (sym starts.image_is) (run-none (meaning e) (part image m) prev (before-by k) (behind-by k));
    well = λ some k m e is there kept at. absurd (omega (arith, some));
  }

  module _ (i : ℕ) (low : i < length bytes) (prior : IsRunTo i) where
    byte : ℕ
    byte = slice_index bytes i

    step-is : slice_index trace i ≡ entry rows (state_before first trace i) (slice_index bytes i)
    step-is = walk.is i low

    one : IsStep meaning engines members states ends prior.state (slice_index bytes i) (slice_index trace i)
    one = subst (λ s. IsStep meaning engines members states ends prior.state (slice_index bytes i) s) (sym step-is)
        (sound.steps (state_before first trace i) (slice_index bytes i) prior.state prior.is (small i low) (λ none. walk.known i low (step-is ∙ none)))

    count : length (take i bytes) ≡ i
    count = length-take-le i bytes (omega (arith, low))

    run-next : IsRunTo (suc i)
    run-next = record {
      state = one.next;
      is = one.next_is;
      stands = subst (λ xs. StandsBehind prev xs one.next.prev) (take-next bytes i low) (subst (λ p. StandsBehind prev (take i bytes ++ slice_index bytes i ∷ []) p) (sym one.prev_is) (stands-more prev (take i bytes) (slice_index bytes i)));
      runs = λ k m e is there kept. subst (λ xs. RunsThrough (meaning e) (part image m) (part one.next.image m) prev xs (before-by k) (behind-by k)) (take-next bytes i low)
          (run-more (meaning e) (part image m) (part prior.state.image m) (part one.next.image m) prev prior.state.prev (take i bytes) (slice_index bytes i) (before-by k) (behind-by k)
          (prior.runs k m e is there kept)
          (subst (λ n. RunsThrough (meaning e) (part prior.state.image m) (part one.next.image m) prior.state.prev (slice_index bytes i ∷ []) (λ j. before-by k n) (λ j. behind-by k n)) (sym count)
          (run-one (meaning e) (part prior.state.image m) (part one.next.image m) prior.state.prev (slice_index bytes i) (record { before = before-by k i; behind = behind-by k i }) (one.takes k m e is there kept)))
          prior.stands);
      well = λ some k m e is there kept at. (one.takes k m e is there kept).well at;
    }

  pub run-to : (i : ℕ) → i ≤ length bytes → IsRunTo i
  run-to zero low = run-first
  run-to (suc i) low = run-next i (omega (arith, low)) (run-to i (omega (arith, low)))

-- what is told, taken apart
pub record IsTold (member : Option Member) (list : List LazyDfa) (runs : List Run) (place : Option Place) (t : Told) : Type 0 where
  pub of : Member
  pub of_is : member ≡ Some of
  pub at : Place
  pub at_is : place ≡ Some at
  pub dfa : LazyDfa
  pub dfa_is : slice_get list at.dfa ≡ Some dfa
  pub run : Run
  pub run_is : slice_get runs at.dfa ≡ Some run
  pub state : State
  pub state_is : slice_get dfa.states.items run.state ≡ Some state
  pub done : run.is_done ≡ true
  pub told_is : (record { engine = of.engine; part = part state.image of; before = befores_of run at.member; behind = behinds_of run at.member }) ≡ t

if-told : (b : Bool) (x t : Told) → told_if b x ≡ Some t → (b ≡ true) × (x ≡ t)
if-told true x t is = (refl, cc)
if-told false x t is = absurd (cc)

pub told-inside : (member : Option Member) (list : List LazyDfa) (runs : List Run) (place : Option Place) (t : Told) → told_at member list runs place ≡ Some t → IsTold member list runs place t
told-inside member list runs None t is = absurd (cc)
told-inside None list runs (Some p) t is = absurd (cc)
told-inside (Some m) list runs (Some p) t is = with-dfa (slice_get list p.dfa) refl is
  where
    with-state : (dfa : LazyDfa) (run : Run) → slice_get list p.dfa ≡ Some dfa → slice_get runs p.dfa ≡ Some run → (o : Option State) → slice_get dfa.states.items run.state ≡ o →
        told_of o run p.member m ≡ Some t → IsTold (Some m) list runs (Some p) t
    with-state dfa run d r None s is = absurd (cc)
    with-state dfa run d r (Some st) s is =
        let x = if-told run.is_done _ t is in
        record { of = m; of_is = refl; at = p; at_is = refl; dfa = dfa; dfa_is = d; run = run; run_is = r; state = st; state_is = s; done = x.0; told_is = x.1 }

    with-run : (dfa : LazyDfa) → slice_get list p.dfa ≡ Some dfa → (o : Option Run) → slice_get runs p.dfa ≡ o → told_by (Some m) (Some dfa) o p.member ≡ Some t → IsTold (Some m) list runs (Some p) t
    with-run dfa d None r is = absurd (cc)
    with-run dfa d (Some run) r is = with-state dfa run d r (slice_get dfa.states.items run.state) refl is

    with-dfa : (o : Option LazyDfa) → slice_get list p.dfa ≡ o → told_by (Some m) o (slice_get runs p.dfa) p.member ≡ Some t → IsTold (Some m) list runs (Some p) t
    with-dfa None d is = absurd (cc)
    with-dfa (Some dfa) d is = with-run dfa d (slice_get runs p.dfa) refl is

-- a member of a number is the one at its place
pub own-is : (k : ℕ) (o : Option Member) (m : Member) → own_member k o ≡ Some m → o ≡ Some m
own-is k None m is = absurd (cc)
own-is k (Some x) m is = by ((x.number == k) && not x.is_dropped) is
  where
    by : (b : Bool) → (if b then Some x else None) ≡ Some m → Some x ≡ Some m
    by true is = is
    by false is = absurd (cc)

-- it wasn't given up
pub own-kept : (k : ℕ) (o : Option Member) (m : Member) → own_member k o ≡ Some m → m.is_dropped ≡ false
own-kept k None m is = absurd (cc)
own-kept k (Some x) m is = by (x.number == k) x.is_dropped refl is
  where
    by : (a b : Bool) → x.is_dropped ≡ b → (if a && not b then Some x else None) ≡ Some m → m.is_dropped ≡ false
    by true false dropped e = (let same : x ≡ m = cc in ap (λ (y : Member). y.is_dropped) (sym same) ∙ dropped)
    by true true dropped e = absurd (cc)
    by false b dropped e = absurd (cc)

pub member-at : (list : List LazyDfa) (p : Place) (dfa : LazyDfa) (m : Member) → slice_get list p.dfa ≡ Some dfa → member_by list (Some p) ≡ Some m → slice_get dfa.members.items p.member ≡ Some m
member-at list p dfa m is there = ap (λ o. member_in o p.member) (sym is) ∙ there

lt-and : (i n : ℕ) (x : Bool) → i < n → (nat_lt i n && x) ≡ x
lt-and i n x low = grind (arith, tests)

-- a bit of the table, which is that of the step
told-bit : {k : ℕ} {left by : Bool} (i count : ℕ) → k < 256 → (k < 256 → left ≡ (nat_lt i count && by)) → {n : ℕ} → i < n → count ≡ n → left ≡ by
told-bit {by = by} i count few is low same = is few ∙ lt-and i count by (omega (arith, low, same))

-- what an automaton tells of a member is what its engine does
pub taken-tells : {E : Type 0} (meaning : E → Meaning) (engines : List E) (dfa : LazyDfa) (run : Run) (prev : Prev) (bytes : List ℕ) (k : ℕ) (m : Member) (e : E) (st : State) →
    IsDfaSound meaning engines dfa.members.items dfa.states.items dfa.rows.items dfa.ends.items →
    IsChunkTaken dfa.states.items dfa.rows.items dfa.ends.items run prev bytes → EachIndex bytes (λ i. slice_index bytes i < 256) →
    slice_get dfa.members.items k ≡ Some m → slice_get engines m.engine ≡ Some e → m.is_dropped ≡ false → slice_get dfa.states.items run.state ≡ Some st →
    TellsRun (meaning e) (part run.image m) prev bytes (record { engine = m.engine; part = part st.image m; before = befores_of run k; behind = behinds_of run k })
taken-tells meaning engines dfa run prev bytes k m e st sound taken small is there kept state =
    let all : IsRunTo meaning engines dfa.members.items dfa.states.items dfa.rows.items dfa.ends.items sound taken.first run.image prev bytes run.trace taken.starts taken.walk small (length bytes) =
    run-to meaning engines dfa.members.items dfa.states.items dfa.rows.items dfa.ends.items sound taken.first run.image prev bytes run.trace taken.starts taken.walk small (length bytes) (omega arith) in
    let few : k < 256 = omega (arith, slice_get_within dfa.members.items k m is, dfa.few) in
    let same : all.state ≡ st = some-state (sym (subst (λ s. slice_get dfa.states.items s ≡ Some all.state) (sym taken.state_is) all.is) ∙ state) in
    let runs : RunsThrough (meaning e) (part run.image m) (part st.image m) prev (take (length bytes) bytes) (λ i. before_of (set_of dfa.ends.items (ends_of (slice_index run.trace i))) k) (λ i. behind_of (set_of dfa.ends.items (ends_of (slice_index run.trace i))) k) =
    subst (λ (s : State). RunsThrough (meaning e) (part run.image m) (part s.image m) prev (take (length bytes) bytes) (λ i. before_of (set_of dfa.ends.items (ends_of (slice_index run.trace i))) k) (λ i. behind_of (set_of dfa.ends.items (ends_of (slice_index run.trace i))) k)) same (all.runs k m e is there kept) in
    record {
      sized =
          let size : length (part st.image m) ≡ m.end - m.start = size-part st.image m (dfa.apart.rising k m is) (let w : m.end ≤ 512 = dfa.apart.within k m is in omega (arith, w, (dfa.live run.state st state).image_len)) in
          let wide : m.start + (meaning e).width ≡ m.end = sound.of.sized k m e is there in
          omega (arith, size, wide);
      well = λ at. subst (λ (s : State). (meaning e).well (part s.image m) at) same (all.well taken.some k m e is there kept at);
      runs = run-same (meaning e) (part run.image m) (part st.image m) prev bytes (λ i. before_of (set_of dfa.ends.items (ends_of (slice_index run.trace i))) k) (λ i. behind_of (set_of dfa.ends.items (ends_of (slice_index run.trace i))) k) (befores_of run k) (behinds_of run k)
          (λ i low. told-bit i run.count few (taken.ended.before k i) low taken.count_is)
          (λ i low. told-bit i run.count few (taken.ended.behind k i) low taken.count_is)
          (subst (λ xs. RunsThrough (meaning e) (part run.image m) (part st.image m) prev xs (λ i. before_of (set_of dfa.ends.items (ends_of (slice_index run.trace i))) k) (λ i. behind_of (set_of dfa.ends.items (ends_of (slice_index run.trace i))) k)) (take_all (length bytes) bytes (omega arith)) runs);
    }
  where
    some-state : {x y : State} → Some x ≡ Some y → x ≡ y
    some-state same = cc

-- A piece that is kept by state: its set, and the number of it.
use Rattle.std.proofs.Common.{◌≡◌, ℕ, zero, suc, ◌<◌, ◌↔◌, Bool, false, List, [], ◌∷◌, length, get_or, Some, slice_get, refl, sym, ap, subst, ◌∙◌, inl, inr, arith, EachIndex, slice_index}
use Rattle.std.proofs.lemmas.Bool.{cases_lt}
use Rattle.std.proofs.lemmas.List.FromFn.{length-map-range_with_len}
use Rattle.std.proofs.lemmas.Option.{slice_get_within, same_Some}
use Rattle.hs_base.specs.AssertionTests.{has_assertion}
use Rattle.hs_base.specs.Bits.{has_bit}
use Rattle.hs_base.specs.Contexts.{prev_at}
use Rattle.hs_base.specs.Fields.{entered_always}
use Rattle.hs_base.specs.KeptPieces.{AreBytes, form_size, IsFieldAt, IsKeptAs, positions}
use Rattle.hs_base.specs.PositionRows.{IsField}
use Rattle.hs_base.specs.Regions.{Place}
use Rattle.hs_base.specs.Trees.{Tree}
use Rattle.hs_base.specs.WrittenOut.{Core, IsReached, count, write_out}
use Rattle.hs_base.specs.declared.context.Prev.{Prev}
use Rattle.hs_base.proofs.EntryLemmas.{entries-once, first-entered}
use Rattle.hs_base.proofs.KeptLemmas.{bits-once_by}
use Rattle.hs_states.specs.DfaHistories.{IsStateOf}
use Rattle.hs_states.specs.DfaLaws.{HasStateOf}
use Rattle.hs_states.specs.DfaStates.{AreStatesOf, DfaState, first_state, is_led_to, is_live, kept_prev, move_by, tests_of}
use Rattle.hs_states.specs.StateSets.{AreSetsOf, IsSetOf, prev_of, set_bytes, set_width, state_count}
use Rattle.hs_states.specs.declared.state_sets.StateSets.{StateSets}
use Rattle.hs_states.proofs.BlindLemmas.{written-blind}
use Rattle.hs_states.proofs.DiscoveryLemmas.{one-order}
use Rattle.hs_states.proofs.HistoryLemmas.{stream-has}
use Rattle.hs_states.proofs.StateLemmas.{live-past, same-truth}
use Rattle.hs_kept.specs.KeptRegions.{AreFewStates, IsKeptByState, IsSomeStateByte, IsStateByte}
use Rattle.hs_kept.specs.Packing.{IsNumberFor, known, unknown}

pub get-there : {A : Type 0} (xs : List A) (k : ℕ) → k < length xs → (x : A) × (slice_get xs k ≡ Some x)
get-there [] k below = absurd (omega arith)
get-there (x ∷ xs) zero below = (x, refl)
get-there (x ∷ xs) (suc k) below = get-there xs k (omega arith)

-- The states of an expression.

pub states-once : (tree : Tree) (xs ys : List DfaState) → AreStatesOf (write_out tree) (has_assertion tree) xs → AreStatesOf (write_out tree) (has_assertion tree) ys → xs ≡ ys
states-once tree xs ys all other =
    one-order (first_state (tests_of (write_out tree)) (has_assertion tree)) (move_by (tests_of (write_out tree)) (has_assertion tree)) xs ys all other

pub some-states : (tree : Tree) (states : List DfaState) → AreStatesOf (write_out tree) (has_assertion tree) states → 0 < length states
some-states tree states all = slice_get_within states 0 (first_state (tests_of (write_out tree)) (has_assertion tree)) all.so_far.begins

-- each state has its positions
pub state-size : (r : Core) (h : Bool) (states : List DfaState) → AreStatesOf r h states → (n : ℕ) (s : DfaState) → slice_get states n ≡ Some s → length s.live ≡ count r
state-size r h states all n s at = elim (cases_lt 0 n) [
  | inl positive ↦
      let d = all.so_far.discovered n positive (slice_get_within states n s at) in
      let e : move_by (tests_of r) h d.is.source d.byte ≡ s = same_Some (move_by (tests_of r) h d.is.source d.byte) s (sym d.is.leads ∙ at) in
      ap (λ (z : DfaState). length z.live) (sym e) ∙ length-map-range_with_len (is_led_to (tests_of r) d.is.source d.byte) 0 (count r)
  | inr none_before ↦
      let e : n ≡ 0 = omega arith in
      let e' : first_state (tests_of r) h ≡ s = same_Some (first_state (tests_of r) h) s (sym all.so_far.begins ∙ (ap (slice_get states) (sym e) ∙ at)) in
      ap (λ (z : DfaState). length z.live) (sym e') ∙ length-map-range_with_len (λ x. false) 0 (count r)
]

pub state-once : (r : Core) (h : Bool) (u : List ℕ) (s t : DfaState) → IsStateOf r h u (entered_always u) s → IsStateOf r h u (entered_always u) t → s ≡ t
state-once r h u s t is other =
    ap (λ live. record { live = live; prev = s.prev }) (same-lives (is.size ∙ sym other.size))
    ∙ ap (λ prev. record { live = t.live; prev = prev }) (is.prev ∙ sym other.prev)
  where
    same-lives : length s.live ≡ length t.live → s.live ≡ t.live
    same-lives len = live-lists s.live t.live len (λ x. same-truth (is_live s x) (is_live t x) (λ l. (other.live x).1 ((is.live x).0 l)) (λ l. (is.live x).1 ((other.live x).0 l)))
      where
        live-lists : (xs ys : List Bool) → length xs ≡ length ys → ((x : ℕ) → get_or xs x false ≡ get_or ys x false) → xs ≡ ys
        live-lists [] [] len same = refl
        live-lists [] (y ∷ ys) len same = absurd (omega arith)
        live-lists (x ∷ xs) [] len same = absurd (omega arith)
        live-lists (x ∷ xs) (y ∷ ys) len same =
            ap (λ z. z ∷ xs) (same 0) ∙ ap (λ zs. y ∷ zs) (live-lists xs ys (omega arith) (λ i. same (suc i)))

module _ (sets : StateSets) (tree : Tree) (is : AreSetsOf sets tree) where
  -- the states are as few as any that are all
  pub few-states : (states : List DfaState) → AreFewStates tree states → AreFewStates tree is.states
  few-states states few = subst (AreFewStates tree) (states-once tree states is.states few.all is.all) few

  pub number-within : (n : ℕ) → n < length is.states → n < state_count sets
  number-within n below = omega (arith, is.count)

  pub first-within : 0 < state_count sets
  first-within = number-within 0 (some-states tree is.states is.all)

  pub some-byte : (states : List DfaState) → AreFewStates tree states → (bytes : List ℕ) (n : ℕ) → bytes ≡ n ∷ [] → n < state_count sets → IsSomeStateByte tree bytes
  some-byte states few bytes n byte below =
      record { number = n; byte = byte; states = is.states; few = few-states states few; within = omega (arith, is.count) }

  pub byte-within : (bytes : List ℕ) (n : ℕ) → bytes ≡ n ∷ [] → IsSomeStateByte tree bytes → n < state_count sets
  byte-within bytes n byte some =
      let e : some.number ≡ n = ap (λ zs. get_or zs 0 0) (sym some.byte ∙ byte) in
      let e' : length some.states ≡ length is.states = ap length (states-once tree some.states is.states some.few.all is.all) in
      omega (arith, some.within, is.count)

  module _ (n : ℕ) (s : DfaState) (at : slice_get is.states n ≡ Some s) where
    set-is : IsSetOf (set_width sets) (set_bytes sets n) s
    set-is = (is.each n s at).0

    pub set-are : AreBytes (form_size (positions tree)) (set_bytes sets n)
    set-are = record { count = set-is.size ∙ is.width; each = set-is.small }

    -- the set of the state is the field behind u
    pub set-field : (u : List ℕ) → IsStateOf (write_out tree) (has_assertion tree) u (entered_always u) s → IsField (set_bytes sets n) (write_out tree) u (entered_always u)
    set-field u behind x = (λ set. (behind.live x).0 (sym (set-is.bits x) ∙ set), λ reached. set-is.bits x ∙ (behind.live x).1 reached)

    pub set-kept : (u : List ℕ) → IsStateOf (write_out tree) (has_assertion tree) u (entered_always u) s → IsKeptAs (positions tree) [] (set_bytes sets n) u
    set-kept u behind = record { entered = entered_always u; are = first-entered u; sized = set-are; says = set-field u behind }

  pub set-bytes_are : (n : ℕ) → n < state_count sets → AreBytes (form_size (positions tree)) (set_bytes sets n)
  set-bytes_are n below =
      let (s, at) = get-there is.states n (omega (arith, is.count)) in
      set-are n s at

  pub set-may_stand : (n offset : ℕ) → n < state_count sets → IsFieldAt (positions tree) (set_bytes sets n) offset
  set-may_stand n offset below k above =
      let (s, at) = get-there is.states n (omega (arith, is.count)) in
      (set-is n s at).bits k ∙ live-past s (count (write_out tree)) k (state-size (write_out tree) (has_assertion tree) is.states is.all n s at) above

  -- from the number behind u to the field
  pub byte-field : (bytes u : List ℕ) (n : ℕ) → bytes ≡ n ∷ [] → IsStateByte tree bytes u → IsKeptAs (positions tree) [] (set_bytes sets n) u
  byte-field bytes u n byte state =
      let e : state.number ≡ n = ap (λ zs. get_or zs 0 0) (sym state.byte ∙ byte) in
      let e' : state.states ≡ is.states = states-once tree state.states is.states state.few.all is.all in
      let at : slice_get is.states n ≡ Some state.own = ap (slice_get is.states) (sym e) ∙ (ap (λ zs. slice_get zs state.number) (sym e') ∙ state.at) in
      set-kept n state.own at u state.behind

  -- and back
  module _ (u wide : List ℕ) (small : EachIndex u (λ k. slice_index u k < 256)) (kept : IsKeptAs (positions tree) [] wide u) where
    says : IsField wide (write_out tree) u (entered_always u)
    says = subst (IsField wide (write_out tree) u) (entries-once [] u kept.entered (entered_always u) kept.are (first-entered u)) kept.says

    has : HasStateOf (write_out tree) (has_assertion tree) u is.states
    has = stream-has (write_out tree) (has_assertion tree) (written-blind tree) is.states is.all u small

    has-set : set_bytes sets has.number ≡ wide
    has-set =
        bits-once_by (IsReached (write_out tree) u (entered_always u)) (form_size (positions tree)) (set_bytes sets has.number) wide
        (set-are has.number has.state has.at) kept.sized (set-field has.number has.state has.at u has.is) says

    has-prev : prev_of sets has.number ≡ kept_prev sets.has_assertion (prev_at u (length u))
    has-prev = (is.each has.number has.state has.at).1 ∙ (has.is.prev ∙ ap (λ h. kept_prev h (prev_at u (length u))) (sym is.keeps))

    known-byte : (states : List DfaState) → AreFewStates tree states → (bytes : List ℕ) (n : ℕ) → bytes ≡ n ∷ [] → n < state_count sets → set_bytes sets n ≡ wide →
        prev_of sets n ≡ kept_prev sets.has_assertion (prev_at u (length u)) → IsStateByte tree bytes u
    known-byte states few bytes n byte below set prev =
        let (s, at) = get-there is.states n (omega (arith, is.count)) in
        let e : (x : ℕ) → has_bit wide x ≡ is_live s x = λ x. ap (λ zs. has_bit zs x) (sym set) ∙ (set-is n s at).bits x in
        record {
          number = n;
          byte = byte;
          states = is.states;
          few = few-states states few;
          own = s;
          at = at;
          behind = record {
            size = state-size (write_out tree) (has_assertion tree) is.states is.all n s at;
            live = λ x. (λ live. (says x).0 (e x ∙ live), λ reached. sym (e x) ∙ (says x).1 reached);
            prev = sym (is.each n s at).1 ∙ (prev ∙ ap (λ h. kept_prev h (prev_at u (length u))) is.keeps);
          };
        }

    pub field-byte : (states : List DfaState) → AreFewStates tree states → (bytes : List ℕ) (n : ℕ) (prev : Prev) → bytes ≡ n ∷ [] → prev ≡ prev_at u (length u) →
        IsNumberFor sets wide prev n → IsStateByte tree bytes u
    field-byte states few bytes n prev byte is_prev (known below set same) =
        known-byte states few bytes n byte below set (same ∙ ap (kept_prev sets.has_assertion) is_prev)
    field-byte states few bytes n prev byte is_prev (unknown never is_first) =
        absurd (never has.number (number-within has.number (slice_get_within is.states has.number has.state has.at)) has-set
        (has-prev ∙ ap (kept_prev sets.has_assertion) (sym is_prev)))

-- the byte is the number of a state just where it is below their count
pub state-byte : (p : Place) (tree : Tree) (sets : StateSets) → IsKeptByState p tree → AreSetsOf sets tree → (number : ℕ) → IsSomeStateByte tree (number ∷ []) ↔ number < state_count sets
state-byte p tree sets kept is number =
    (byte-within sets tree is (number ∷ []) number refl, some-byte sets tree is kept.states kept.few (number ∷ []) number refl)

-- the set of a state may stand anywhere
pub set-fits : (tree : Tree) (sets : StateSets) → AreSetsOf sets tree → (number at : ℕ) → number < state_count sets → IsFieldAt (positions tree) (set_bytes sets number) at
set-fits tree sets is number at below = set-may_stand sets tree is number at below

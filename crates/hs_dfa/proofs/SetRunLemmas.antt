-- A block by states over regions that are sets.
use Rattle.std.proofs.Common.{◌≡◌, ℕ, zero, suc, ◌+◌, ◌*◌, ◌<◌, ◌≤◌, Bool, true, false, not, ◌||◌, List, [], ◌∷◌, ◌++◌, length, get_or, take, drop, vec_len, Some, slice_get, refl, sym, ap, subst, ◌∙◌, arith}
use Rattle.std.specs.Prelude.{if◌then◌else◌, slice_index}
use Rattle.std.proofs.lemmas.List.{length-drop, length-take-le, take_all}
use Rattle.std.proofs.lemmas.Option.{slice_get_within, slice_get-get_or, same_Some}
use Rattle.hs_base.specs.declared.context.Prev.{Prev}
use Rattle.hs_base.specs.AssertionTests.{has_assertion}
use Rattle.hs_base.specs.Bits.{has_bit}
use Rattle.hs_base.specs.Contexts.{prev_at}
use Rattle.hs_base.specs.PositionRows.{IsField}
use Rattle.hs_base.specs.Trees.{Tree}
use Rattle.hs_base.specs.WrittenOut.{Core, count, write_out}
use Rattle.hs_base.proofs.ContextSetLemmas.{bit-all}
use Rattle.hs_bits.specs.WordBits.{bits_of, count_below, word_bit}
use Rattle.hs_bits.proofs.BlockLemmas.{count-more}
use Rattle.hs_engine.specs.declared.ends.BlockEnds.{BlockEnds}
use Rattle.hs_block.specs.Blocks.{IsFieldOf, TakesBlock, is_blank, is_busy}
use Rattle.hs_states.specs.DfaHistories.{IsStateOf}
use Rattle.hs_states.specs.DfaStates.{AreStatesOf, DfaState, first_state, is_led_to, is_live, kept_prev, move_by, tests_of}
use Rattle.hs_engine.specs.Engines.{Meaning}
use Rattle.hs_block.proofs.TableLemmas.{row-room}
use Rattle.hs_states.specs.StateSets.{AreSetsOf, IsStateNumber, set_bytes, set_width, state_count}
use Rattle.hs_states.proofs.DiscoveryLemmas.{one-order}
use Rattle.hs_states.specs.declared.state_sets.StateSets.{StateSets}
use Rattle.hs_states.proofs.StateLemmas.{live-past, one-state, true-false, where-size}
use Rattle.hs_dfa.specs.ClearSets.{AreClear}
use Rattle.hs_dfa.specs.declared.dfa.Dfa.{Dfa}
use Rattle.hs_dfa.specs.DfaEngines.{IsDfaOf, IsNumberOf, meaning_of_dfa}
use Rattle.hs_dfa.specs.declared.set_dfa.SetDfa.{SetDfa}
use Rattle.hs_dfa.specs.SetRuns.{IsSetBehind, IsSetDfaOf, IsSetRun, RunsSets, everywhere}

-- the expression is entered before each byte of a block
pub everywhere-set : (i : ℕ) → i < 64 → word_bit everywhere i ≡ true
unfolding word_bit
everywhere-set i below = bit-all 64 i below

all-counted : (n : ℕ) (f : ℕ → Bool) → ((i : ℕ) → i < n → f i ≡ true) → count_below n f ≡ n
all-counted zero f all = refl
all-counted (suc n) f all =
    let one : ◌≡◌ {A = ℕ} (if f n then 1 else 0) 1 = ap (λ b. if b then 1 else 0) (all n (omega arith)) in
    let e : count_below (suc n) f ≡ count_below (n + 1) f = ap (λ k. count_below k f) (let e : suc n ≡ n + 1 = omega arith in e) in
    omega (arith, e, one, count-more n f, all-counted n f (λ i below. all i (omega arith)))

module _ (d : SetDfa) (tree : Tree) (is : IsSetDfaOf d tree) where
  abbrev Written : Core
  Written = write_out tree

  abbrev Keeps : Bool
  Keeps = d.dfa.has_assertion

  all : AreStatesOf Written Keeps is.sets.states
  all = subst (λ h. AreStatesOf Written h is.sets.states) (sym is.numbers.keeps) is.sets.all

  state-size : (i : ℕ) (s : DfaState) → slice_get is.sets.states i ≡ Some s → length s.live ≡ count Written
  state-size zero s at =
      let first : DfaState = first_state (tests_of Written) Keeps in
      subst (λ (z : DfaState). length z.live ≡ count Written) (same_Some first s (sym all.so_far.begins ∙ at)) (where-size (count Written) (λ x. false) first.prev)
  state-size (suc n) s at =
      let step = all.so_far.discovered (suc n) (omega arith) (slice_get_within is.sets.states (suc n) s at) in
      let moved : DfaState = move_by (tests_of Written) Keeps step.is.source step.byte in
      subst (λ (z : DfaState). length z.live ≡ count Written) (same_Some moved s (sym step.is.leads ∙ at)) (where-size (count Written) (is_led_to (tests_of Written) step.is.source step.byte) moved.prev)

  -- from the field to the number
  pub set-number : (region : List ℕ) (prev : Prev) (at : ℕ) (u : List ℕ) (entered : List Bool) (n : ℕ) → IsSetBehind d region prev at tree u entered → IsStateNumber d.sets region prev n →
      IsNumberOf Written Keeps u entered (n ∷ [])
  set-number region prev at u entered n behind numbered =
      let s : DfaState = get_or is.sets.states n (first_state (tests_of Written) Keeps) in
      let there : slice_get is.sets.states n ≡ Some s = slice_get-get_or is.sets.states n _ (omega (arith, numbered.within, is.sets.count)) in
      let own = is.sets.each n s there in
      let same : (x : ℕ) → has_bit region x ≡ is_live s x = λ x. ap (λ zs. has_bit zs x) (sym numbered.set) ∙ own.0.bits x in
      let state_is : IsStateOf Written Keeps u entered s =
      record {
        size = state-size n s there;
        live = λ x. (λ live. (behind.field x).0 (same x ∙ live), λ reached. sym (same x) ∙ (behind.field x).1 reached);
        prev =
            sym own.1
            ∙ (numbered.prev
            ∙ (ap (λ p. kept_prev d.sets.has_assertion p) behind.behind ∙ ap (λ h. kept_prev h (prev_at u (length u))) (is.sets.keeps ∙ sym is.numbers.keeps)));
      } in
      record {
        number = n;
        region_is = refl;
        state = s;
        is = state_is;
        numbered = λ states other every other_is.
            ap (λ xs. slice_get xs n) (one-order (first_state (tests_of Written) Keeps) (move_by (tests_of Written) Keeps) states is.sets.states every all)
            ∙ (there ∙ ap (λ z. Some z) (one-state Written Keeps u entered s other state_is other_is));
      }

  -- and back
  pub number-set : (u : List ℕ) (entered : List Bool) (region : List ℕ) → IsNumberOf Written Keeps u entered region → IsField (set_bytes d.sets (slice_index region 0)) Written u entered
  number-set u entered region field =
      let n : ℕ = slice_index region 0 in
      let number_is : n ≡ field.number = ap (λ z. slice_index z 0) field.region_is in
      let there : slice_get is.sets.states n ≡ Some field.state = ap (slice_get is.sets.states) number_is ∙ field.numbered is.sets.states field.state all field.is in
      let own = is.sets.each n field.state there in
      λ x. (λ set. (field.is.live x).0 (sym (own.0.bits x) ∙ set), λ reached. own.0.bits x ∙ (field.is.live x).1 reached)

-- a block that the engine over numbers has taken
pub taken-set : (d : SetDfa) (old new state' : List ℕ) (prev : Prev) (at n : ℕ) (bytes : List ℕ) (ends : BlockEnds) (steps_old steps_new : ℕ) → length bytes ≤ 64 → IsStateNumber d.sets old prev n →
    TakesBlock (meaning_of_dfa d.dfa) (n ∷ []) state' prev at everywhere bytes ends steps_old steps_new → new ≡ set_bytes d.sets (slice_index state' 0) →
    IsSetRun d old new prev at bytes ends steps_old steps_new
taken-set d old new state' prev at n bytes ends steps_old steps_new few numbered taken kept = record {
  ticks =
      let busy : (i : ℕ) → i < length bytes → is_busy everywhere taken.run.parts i ≡ true = λ i below. ap (λ b. b || not (is_blank (taken.run.parts i))) (everywhere-set i (omega (arith, few))) in
      omega (arith, taken.counted, taken.run.ticks_are, all-counted (length bytes) (is_busy everywhere taken.run.parts) busy);
  numbers = Number;
  within = λ i inside. omega (arith, taken.run.well i inside, d.same);
  first = ap (λ z. set_bytes d.sets (slice_index z 0)) taken.run.first ∙ numbered.set;
  last = ends-set;
  fields = λ tree u entered behind i within. parts-set tree u entered behind i within;
  scans = λ tree u entered behind.
      let scanned = taken.run.scans tree u entered (field-of tree u entered behind) in
      record {
        field =
            subst (λ z. IsField z (write_out tree) (u ++ bytes) (entered ++ bits_of everywhere (length bytes))) ends-set
            (subst (λ w. IsField (set_bytes d.sets (Number (length bytes))) (write_out tree) (u ++ w) (entered ++ bits_of everywhere (length bytes))) (take_all (length bytes) bytes (omega arith))
            (parts-set tree u entered behind (length bytes) (omega arith)));
        before_is = scanned.before_is;
        behind_is = scanned.behind_is;
      };
}
  where
    Number : ℕ → ℕ
    Number i = slice_index (taken.run.parts i) 0

    field-of : (tree : Tree) (u : List ℕ) (entered : List Bool) → IsSetBehind d old prev at tree u entered → IsFieldOf (meaning_of_dfa d.dfa) (n ∷ []) prev at tree u entered
    field-of tree u entered behind = record {
      runs = behind.runs.numbers;
      count = behind.count;
      offset = behind.offset;
      behind = behind.behind;
      field = set-number d tree behind.runs old prev at u entered n behind numbered;
    }

    parts-set : (tree : Tree) (u : List ℕ) (entered : List Bool) → IsSetBehind d old prev at tree u entered → (i : ℕ) → i ≤ length bytes →
        IsField (set_bytes d.sets (Number i)) (write_out tree) (u ++ take i bytes) (entered ++ bits_of everywhere i)
    parts-set tree u entered behind i within =
        number-set d tree behind.runs (u ++ take i bytes) (entered ++ bits_of everywhere i) (taken.run.parts i) (taken.run.fields tree u entered (field-of tree u entered behind) i within)

    ends-set : set_bytes d.sets (Number (length bytes)) ≡ new
    ends-set = ap (λ z. set_bytes d.sets (slice_index z 0)) taken.run.last ∙ sym kept

-- a set has its bytes
set-len : (sets : StateSets) (n : ℕ) → n < state_count sets → length (set_bytes sets n) ≡ set_width sets
set-len sets n below =
    let room : sets.width * n + sets.width ≤ sets.width * state_count sets = row-room sets.width n (state_count sets) below in
    length-take-le sets.width (drop (sets.width * n) sets.sets.items) (omega (arith, length-drop (sets.width * n) sets.sets.items, room, sets.whole, sets.sets.ok.0))

-- the engine whose regions are sets takes the block
pub set-takes : (m : Meaning) (d : SetDfa) (old new : List ℕ) (prev : Prev) (at : ℕ) (bytes : List ℕ) (ends : BlockEnds) (steps_old steps_new : ℕ) → RunsSets m d → length bytes ≤ 64 →
    IsSetRun d old new prev at bytes ends steps_old steps_new → TakesBlock m old new prev at everywhere bytes ends steps_old steps_new
set-takes m d old new prev at bytes ends steps_old steps_new runs few run = record {
  ticks = length bytes;
  counted = run.ticks;
  run = record {
    parts = Part;
    first = run.first;
    last = run.last;
    sized = λ i within. sized i within;
    well = λ i within. runs.well (Part i) (at + i) (sized i within) (d.clear.each (run.numbers i) (run.within i within));
    ticks_are = sym (all-counted (length bytes) (is_busy everywhere Part) busy);
    idle = λ i below rests. true-false (is_busy everywhere Part i) (busy i below) rests;
    fields = λ tree u entered is i within. (runs.field (Part i) tree (u ++ take i bytes) (entered ++ bits_of everywhere i)).1 (run.fields tree u entered (behind tree u entered is) i within);
    scans = λ tree u entered is.
        let scanned = run.scans tree u entered (behind tree u entered is) in
        record {
          field = (runs.field new tree (u ++ bytes) (entered ++ bits_of everywhere (length bytes))).1 scanned.field;
          before_is = scanned.before_is;
          behind_is = scanned.behind_is;
        };
  };
}
  where
    Part : ℕ → List ℕ
    Part i = set_bytes d.sets (run.numbers i)

    sized : (i : ℕ) → i ≤ length bytes → length (Part i) ≡ m.width
    sized i within = set-len d.sets (run.numbers i) (run.within i within) ∙ sym runs.width

    busy : (i : ℕ) → i < length bytes → is_busy everywhere Part i ≡ true
    busy i below = ap (λ b. b || not (is_blank (Part i))) (everywhere-set i (omega (arith, few)))

    behind : (tree : Tree) (u : List ℕ) (entered : List Bool) → IsFieldOf m old prev at tree u entered → IsSetBehind d old prev at tree u entered
    behind tree u entered is = record {
      runs = runs.told tree is.runs;
      count = is.count;
      offset = is.offset;
      behind = is.behind;
      field = (runs.field old tree u entered).0 is.field;
    }

-- the numbers and the sets are of as many states
pub same-count : (dfa : Dfa) (sets : StateSets) (tree : Tree) → IsDfaOf dfa tree → AreSetsOf sets tree → state_count sets ≡ vec_len dfa.ends
same-count dfa sets tree numbers are =
    let all : AreStatesOf (write_out tree) (has_assertion tree) numbers.states = subst (λ h. AreStatesOf (write_out tree) h numbers.states) numbers.keeps numbers.all in
    let same : are.states ≡ numbers.states =
    one-order (first_state (tests_of (write_out tree)) (has_assertion tree)) (move_by (tests_of (write_out tree)) (has_assertion tree)) are.states numbers.states are.all all in
    omega (arith, are.count, numbers.count, ap (λ (xs : List DfaState). length xs) same)

-- no set has a bit behind the positions
pub sets-clear : (sets : StateSets) (tree : Tree) (size : ℕ) → AreSetsOf sets tree → size ≡ count (write_out tree) → AreClear sets size
sets-clear sets tree size are is = record {
  room = omega (arith, is, are.width);
  each = λ n below k past.
      let first : DfaState = first_state (tests_of (write_out tree)) (has_assertion tree) in
      let s : DfaState = get_or are.states n first in
      let there : slice_get are.states n ≡ Some s = slice_get-get_or are.states n _ (omega (arith, below, are.count)) in
      (are.each n s there).0.bits k ∙ live-past s (count (write_out tree)) k (sized n s there) (omega (arith, past, is));
}
  where
    sized : (i : ℕ) (s : DfaState) → slice_get are.states i ≡ Some s → length s.live ≡ count (write_out tree)
    sized zero s at =
        let first : DfaState = first_state (tests_of (write_out tree)) (has_assertion tree) in
        subst (λ (z : DfaState). length z.live ≡ count (write_out tree)) (same_Some first s (sym are.all.so_far.begins ∙ at)) (where-size (count (write_out tree)) (λ x. false) first.prev)
    sized (suc n) s at =
        let step = are.all.so_far.discovered (suc n) (omega arith) (slice_get_within are.states (suc n) s at) in
        let moved : DfaState = move_by (tests_of (write_out tree)) (has_assertion tree) step.is.source step.byte in
        subst (λ (z : DfaState). length z.live ≡ count (write_out tree)) (same_Some moved s (sym step.is.leads ∙ at)) (where-size (count (write_out tree)) (is_led_to (tests_of (write_out tree)) step.is.source step.byte) moved.prev)

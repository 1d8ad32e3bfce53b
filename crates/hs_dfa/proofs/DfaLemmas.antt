-- What the tables of a `Dfa` say, and what its region does.
use Rattle.std.proofs.Common.{◌≡◌, ◌↔◌, ℕ, ◌+◌, ◌*◌, ◌<◌, Bool, true, false, ◌&&◌, List, [], ◌∷◌, ◌++◌, map, length, set, slice_index, Some, slice_get, refl, sym, ap, subst, ◌∙◌, arith, vec_len}
use Rattle.std.proofs.lemmas.Nat.{mul-add-lt}
use Rattle.std.proofs.lemmas.Option.{slice_get_within, same_Some}
use Rattle.hs_base.specs.declared.context.Next.{Next}
use Rattle.hs_base.specs.Bits.{has_word_bit}
use Rattle.hs_base.specs.ByteSets.{has}
use Rattle.hs_base.specs.ContextSets.{has_next}
use Rattle.hs_base.specs.Fields.{Leaves}
use Rattle.hs_base.specs.Trees.{Tree}
use Rattle.hs_base.specs.WrittenOut.{Core, count, write_out}
use Rattle.hs_engine.specs.declared.automaton.Automaton.{Automaton}
use Rattle.hs_engine.specs.AnyBelow.{any_below}
use Rattle.hs_engine.specs.Automata.{accepts}
use Rattle.hs_engine.specs.Between.{between}
use Rattle.hs_engine.specs.Engines.{AreWakers, IsQuiet}
use Rattle.hs_engine.specs.Tables.{Runs}
use Rattle.hs_states.specs.AutomatonStates.{AreBuilt, state_of, tests_by}
use Rattle.hs_states.specs.DfaBuilding.{done_number}
use Rattle.hs_dfa.specs.DfaClauses.{IsEmptyAt}
use Rattle.hs_base.specs.AssertionTests.{has_assertion}
use Rattle.hs_dfa.specs.DfaEngines.{IsDfaOf, IsNumberOf, TellsEnd, meaning_of_dfa, next_number}
use Rattle.hs_states.specs.DfaHistories.{IsStateOf}
use Rattle.hs_states.proofs.BlindLemmas.{IsBlind, written-blind}
use Rattle.hs_states.specs.DfaStates.{AreStatesOf, DfaState, first_state, is_live, move_by, tests_of}
use Rattle.hs_states.specs.Discovery.{IsMove}
use Rattle.hs_dfa.specs.StateEnds.{AreEndsOf}
use Rattle.hs_dfa.specs.declared.dfa.Dfa.{Dfa}
use Rattle.hs_states.specs.declared.footing.Footing.{Footing}
use Rattle.hs_dfa.specs.declared.state_ends.StateEnd.{StateEnd}
use Rattle.hs_states.proofs.BuildLemmas.{built-all, map-length}
use Rattle.hs_states.proofs.DiscoveryLemmas.{move-as, one-order}
use Rattle.hs_states.proofs.FootingLemmas.{IsStateAt, state-at}
use Rattle.hs_states.proofs.StateLemmas.{accepting-is-leaving, any-same, empty-leaves-nothing, first-empty, live-where, one-state, state-start, state-step}
use Rattle.hs_states.proofs.TransferLemmas.{accepting-same, move-same, states-of}

-- the tables that are built

module _ (a : Automaton) (tree : Tree) (runs : Runs a tree) where
  abbrev Size : ℕ
  Size = vec_len a.sets

  abbrev Written : Core
  Written = write_out tree

  live-same : (f : Footing) (test : ℕ → Bool) → any_below Size (λ x. has_word_bit f.positions x && test x) ≡ any_below Size (λ x. is_live (state_of Size f) x && test x)
  live-same f test =
      any-same Size (λ x. has_word_bit f.positions x && test x) (λ x. is_live (state_of Size f) x && test x)
      (λ x below. ap (λ t. t && test x) (sym (live-where Size (has_word_bit f.positions) f.prev x below)))

  live-count : (f : Footing) → any_below Size (has_word_bit f.positions) ≡ any_below (count Written) (is_live (state_of Size f))
  live-count f =
      any-same Size (has_word_bit f.positions) (is_live (state_of Size f)) (λ x below. sym (live-where Size (has_word_bit f.positions) f.prev x below))
      ∙ ap (λ m. any_below m (is_live (state_of Size f))) runs.tables.size

  end-tells : (known : List Footing) (ends : List StateEnd) → AreEndsOf a known (length known) ends → (i : ℕ) (s : DfaState) (end : StateEnd) → slice_get (map (state_of Size) known) i ≡ Some s → slice_get ends i ≡ Some end → TellsEnd Written s end
  end-tells known ends are i s end at there =
      let place : IsStateAt Size known i s = state-at Size known i s at in
      let f = place.footing in
      let is = are.each i f end place.at there in
      subst (λ z. TellsEnd Written z end) place.is
      (record {
        accepts = λ next.
            is.accepts next
            ∙ (live-same f (λ x. accepts a x (between f.prev next)) ∙ accepting-same a Written runs.tables a.has_assertion (state_of Size f) next);
        is_empty = (λ told. sym (live-count f) ∙ is.is_empty.0 told, λ none. is.is_empty.1 (live-count f ∙ none));
      })

  pub dfa-is : a.has_assertion ≡ has_assertion tree → (d : Dfa) (known : List Footing) → d.has_assertion ≡ a.has_assertion →
      AreBuilt a (slice_index d.classes) d.class_count known d.rows.items (length known) 0 → AreEndsOf a known (length known) d.ends.items → IsDfaOf d tree
  dfa-is flag d known keeps built are =
      let states : List DfaState = map (state_of Size) known in
      let all : AreStatesOf Written a.has_assertion states = states-of a Written runs.tables a.has_assertion states (built-all a (slice_index d.classes) d.class_count known d.rows.items built) in
      record {
        plain = runs.plain;
        ends_last = runs.ends_last;
        keeps = keeps ∙ flag;
        states = states;
        all = subst (λ h. AreStatesOf Written h states) (sym keeps) all;
        count = omega (arith, map-length (state_of Size) known, are.len, d.ends.ok.0);
        moves = λ i b within small.
            subst (λ h. IsMove (move_by (tests_of Written) h) states i b (next_number d i b)) (sym keeps)
            (move-as (move_by (tests_by a) a.has_assertion) (move_by (tests_of Written) a.has_assertion) (move-same a Written runs.tables a.has_assertion) states i b (next_number d i b) small
            (built.so.moves i b small within (done_number (omega (arith, within, map-length (state_of Size) known)))));
        ends = λ i s end at there. end-tells known d.ends.items are i s end at there;
      }

-- a region of one byte

pub one-set : (region : List ℕ) (v : ℕ) → length region ≡ 1 → set region 0 v ≡ v ∷ []
one-set [] v len = absurd (omega arith)
one-set (x ∷ []) v len = refl
one-set (x ∷ y ∷ region) v len = absurd (omega arith)

module _ (d : Dfa) (tree : Tree) (is : IsDfaOf d tree) where
  abbrev Expression : Core
  Expression = write_out tree

  pub start-number : IsNumberOf (write_out tree) d.has_assertion [] [] (0 ∷ [])
  start-number = record {
    number = 0;
    region_is = refl;
    state = first_state (tests_of Expression) d.has_assertion;
    is = state-start Expression d.has_assertion;
    numbered = λ states own all own_is.
        all.so_far.begins
        ∙ ap (λ s. Some s) (one-state Expression d.has_assertion [] [] (first_state (tests_of Expression) d.has_assertion) own (state-start Expression d.has_assertion) own_is);
  }

  blind : d.has_assertion ≡ false → IsBlind (write_out tree)
  blind none = written-blind tree (sym is.keeps ∙ none)

  module _ (u : List ℕ) (entered : List Bool) (len : length entered ≡ length u) (region : List ℕ) (field : IsNumberOf (write_out tree) d.has_assertion u entered region) where
    number-is : slice_index region 0 ≡ field.number
    number-is = ap (λ z. slice_index z 0) field.region_is

    pub state-there : slice_get is.states (slice_index region 0) ≡ Some field.state
    state-there = ap (slice_get is.states) number-is ∙ field.numbered is.states field.state is.all field.is

    pub step-number : (b : ℕ) → b < 256 → IsNumberOf (write_out tree) d.has_assertion (u ++ b ∷ []) (entered ++ true ∷ []) (next_number d (slice_index region 0) b ∷ [])
    step-number b small =
        let n : ℕ = slice_index region 0 in
        let after : DfaState = move_by (tests_of Expression) d.has_assertion field.state b in
        let move = is.moves n b (slice_get_within is.states n field.state state-there) small in
        let source : move.source ≡ field.state = same_Some move.source field.state (sym move.at ∙ state-there) in
        let there : slice_get is.states (next_number d n b) ≡ Some after = move.leads ∙ ap (λ s. Some (move_by (tests_of Expression) d.has_assertion s b)) source in
        let after_is : IsStateOf Expression d.has_assertion (u ++ b ∷ []) (entered ++ true ∷ []) after = state-step Expression d.has_assertion blind u entered len field.state field.is b in
        record {
          number = next_number d n b;
          region_is = refl;
          state = after;
          is = after_is;
          numbered = λ states own all own_is.
              ap (λ xs. slice_get xs (next_number d n b)) (one-order (first_state (tests_of Expression) d.has_assertion) (move_by (tests_of Expression) d.has_assertion) states is.states all is.all)
              ∙ (there ∙ ap (λ s. Some s) (one-state Expression d.has_assertion (u ++ b ∷ []) (entered ++ true ∷ []) after own after_is own_is));
        }

    pub end-leaves : (end : StateEnd) → slice_get d.ends.items (slice_index region 0) ≡ Some end → (next : Next) → (has_next end.accepts next ≡ true) ↔ Leaves tree u entered next
    end-leaves end there next =
        let tells = is.ends (slice_index region 0) field.state end state-there there in
        let leaves = accepting-is-leaving tree is.plain is.ends_last d.has_assertion blind u entered len field.state field.is next in (
          λ told. leaves.0 (sym (tells.accepts next) ∙ told),
          λ left. tells.accepts next ∙ leaves.1 left,
        )

    -- where the region is that of the empty stream
    module _ (start : IsNumberOf (write_out tree) d.has_assertion [] [] region) where
      first-number : start.number ≡ 0
      first-number =
          let first : DfaState = first_state (tests_of Expression) d.has_assertion in
          let own = start.numbered is.states first is.all (state-start Expression d.has_assertion) in
          is.all.so_far.once start.number 0 first own is.all.so_far.begins

      pub region-zero : slice_index region 0 ≡ 0
      region-zero = ap (λ z. slice_index z 0) start.region_is ∙ first-number

      region-first : region ≡ 0 ∷ []
      region-first = start.region_is ∙ ap (λ n. n ∷ []) first-number

      state-first : field.state ≡ first_state (tests_of (write_out tree)) d.has_assertion
      state-first = same_Some field.state (first_state (tests_of Expression) d.has_assertion) (sym state-there ∙ (ap (slice_get is.states) region-zero ∙ is.all.so_far.begins))

      pub start-nothing : (next : Next) → Leaves tree u entered next → ⊥
      start-nothing =
          empty-leaves-nothing tree is.plain is.ends_last d.has_assertion u entered field.state field.is
          (ap (λ s. any_below (count Expression) (is_live s)) state-first ∙ first-empty (tests_of Expression) d.has_assertion)

      pub start-stays : (b : ℕ) → b < 256 → has d.wakers b ≡ false → IsNumberOf (write_out tree) d.has_assertion (u ++ b ∷ []) (entered ++ true ∷ []) region
      start-stays b small outside =
          let class : ℕ = slice_index d.classes b in
          let place : 0 * d.class_count + class ≡ class = omega arith in
          let next : next_number d (slice_index region 0) b ≡ 0 = ap (λ n. next_number d n b) region-zero ∙ (ap (slice_index d.rows.items) place ∙ d.wakers_are b small outside) in
          subst (IsNumberOf Expression d.has_assertion (u ++ b ∷ []) (entered ++ true ∷ [])) (ap (λ n. n ∷ []) next ∙ sym region-first) (step-number b small)

pub dfa-asleep : (d : Dfa) → AreWakers (meaning_of_dfa d) d.wakers
dfa-asleep d region b start small outside = record {
  stays = λ enters tree u entered is len field. start-stays d tree is u entered len region field (start tree is) b small outside;
  leaves_nothing = λ tree u entered is len field. start-nothing d tree is u entered len region field (start tree is);
}

pub dfa-quiet : (d : Dfa) (region : List ℕ) (told : Bool) → IsEmptyAt d region told → told ≡ true → IsQuiet (meaning_of_dfa d) region
dfa-quiet d region told empty true_told = record {
  stays = λ never b small. absurd (let e : true ≡ false = never in cc);
  leaves_nothing = λ tree u entered is len field.
      empty-leaves-nothing tree is.plain is.ends_last d.has_assertion u entered field.state field.is
      ((empty tree is.states field.state is is.all (state-there d tree is u entered len region field)).0 true_told);
}

pub empty-at : (d : Dfa) (region : List ℕ) (end : StateEnd) → slice_get d.ends.items (slice_index region 0) ≡ Some end → IsEmptyAt d region end.is_empty
empty-at d region end there tree states state is all at =
    let same : states ≡ is.states = one-order (first_state (tests_of (write_out tree)) d.has_assertion) (move_by (tests_of (write_out tree)) d.has_assertion) states is.states all is.all in
    (is.ends (slice_index region 0) state end (ap (λ xs. slice_get xs (slice_index region 0)) (sym same) ∙ at) there).is_empty

-- the sizes of what is built

pub known-some : (a : Automaton) (class : ℕ → ℕ) (n : ℕ) (known : List Footing) (rows : List ℕ) (i c : ℕ) → AreBuilt a class n known rows i c → 0 < length known
known-some a class n known rows i c built =
    omega (arith, map-length (state_of (vec_len a.sets)) known, slice_get_within (map (state_of (vec_len a.sets)) known) 0 (first_state (tests_by a) a.has_assertion) built.so.so_far.begins)

pub class-in_rows : (a : Automaton) (class : ℕ → ℕ) (n : ℕ) (known : List Footing) (rows : List ℕ) → AreBuilt a class n known rows (length known) 0 → (b : ℕ) → class b < n → class b < length rows
class-in_rows a class n known rows built b below =
    let bound : 0 * n + class b < n * length known = mul-add-lt 0 n (class b) (length known) (known-some a class n known rows (length known) 0 built) below in
    let turned : n * length known ≡ length known * n = omega arith in
    omega (arith, bound, turned, built.len)

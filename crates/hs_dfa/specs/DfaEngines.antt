-- What the engine `Dfa` means: its region is one byte, the number of a state.
use Rattle.std.proofs.Common.{sym, ap, subst, ◌∙◌}
use Rattle.std.proofs.lemmas.Option.{slice_get_within}
use Rattle.std.specs.Prelude.{◌≡◌, ◌↔◌, ℕ, ◌<◌, Bool, true, false, List, [], ◌∷◌, length}
use Rattle.std.specs.Prelude.{Some, slice_get, slice_index, vec_len}
use Rattle.hs_base.specs.declared.context.Next.{Next}
use Rattle.hs_base.specs.ContextSets.{has_next}
use Rattle.hs_base.specs.EndAssertions.{has_embedded_end}
use Rattle.hs_base.specs.Trees.{Tree}
use Rattle.hs_base.specs.WrittenOut.{Core, IsPlain, write_out}
use Rattle.hs_engine.specs.Engines.{Meaning}
use Rattle.hs_base.specs.AssertionTests.{has_assertion}
use Rattle.hs_states.specs.DfaBuilding.{table_number}
use Rattle.hs_states.specs.Discovery.{IsMove}
use Rattle.hs_states.specs.DfaHistories.{IsStateOf}
use Rattle.hs_states.specs.DfaStates.{AreStatesOf, DfaState, IsEmptyState, is_accepting, move_by, tests_of}
use Rattle.hs_dfa.specs.declared.dfa.Dfa.{Dfa}
use Rattle.hs_dfa.specs.declared.state_ends.StateEnd.{StateEnd}

-- the number of the state to which the byte leads from that of a number
abbrev pub next_number : Dfa → (number byte : ℕ) → ℕ
next_number d number byte = table_number (slice_index d.classes) d.class_count d.rows.items number byte

-- what is said of the end of a match where the state has positions that accept
pub record TellsEnd (r : Core) (state : DfaState) (end : StateEnd) : Type 0 where
  pub accepts : (next : Next) → has_next end.accepts next ≡ is_accepting (tests_of r) state next
  pub is_empty : (end.is_empty ≡ true) ↔ IsEmptyState (tests_of r) state

-- The tables are those of an expression: they say of each of its states where bytes lead, and what it says of ends.
pub record IsDfaOf (d : Dfa) (tree : Tree) : Type 0 where
  pub plain : IsPlain tree
  pub ends_last : has_embedded_end tree false ≡ false
  pub keeps : d.has_assertion ≡ has_assertion tree
  pub states : List DfaState
  pub all : AreStatesOf (write_out tree) d.has_assertion states
  pub count : length states ≡ vec_len d.ends
  pub moves : (i b : ℕ) → i < length states → b < 256 →
      IsMove (move_by (tests_of (write_out tree)) d.has_assertion) states i b (next_number d i b)
  pub ends : (i : ℕ) (state : DfaState) (end : StateEnd) → slice_get states i ≡ Some state →
      slice_get d.ends.items i ≡ Some end → TellsEnd (write_out tree) state end

-- The region is one byte, the number of the state behind u among all states.
pub record IsNumberOf (r : Core) (keeps : Bool) (u : List ℕ) (entered : List Bool) (region : List ℕ) : Type 0
  where
    pub number : ℕ
    pub region_is : region ≡ number ∷ []
    pub state : DfaState
    pub is : IsStateOf r keeps u entered state
    pub numbered : (states : List DfaState) (own : DfaState) → AreStatesOf r keeps states →
        IsStateOf r keeps u entered own → slice_get states number ≡ Some own

-- the region is the number of a state
abbrev pub IsNumberIn : Dfa → List ℕ → Type 0
IsNumberIn d region = slice_index region 0 < vec_len d.ends

pub same-region : (d : Dfa) (tree : Tree) (u : List ℕ) (entered : List Bool) (region other : List ℕ) → IsDfaOf d tree →
    IsNumberOf (write_out tree) d.has_assertion u entered region →
    IsNumberOf (write_out tree) d.has_assertion u entered other → region ≡ other
same-region d tree u entered region other is one two =
    one.region_is
    ∙ (ap (λ n. n ∷ [])
    (is.all.so_far.once one.number two.number one.state (one.numbered is.states one.state is.all one.is)
    (two.numbered is.states one.state is.all one.is))
    ∙ sym two.region_is)

pub region-within : (d : Dfa) (tree : Tree) (u : List ℕ) (entered : List Bool) (region : List ℕ) → IsDfaOf d tree →
    IsNumberOf (write_out tree) d.has_assertion u entered region → IsNumberIn d region
region-within d tree u entered region is one =
    subst (λ z. slice_index z 0 < vec_len d.ends) (sym one.region_is)
    (subst (λ n. one.number < n) is.count
    (slice_get_within is.states one.number one.state (one.numbered is.states one.state is.all one.is)))

abbrev pub meaning_of_dfa : Dfa → Meaning
meaning_of_dfa d = record {
  width = 1;
  is_for = IsDfaOf d;
  field = λ region tree u entered. IsNumberOf (write_out tree) d.has_assertion u entered region;
  well = λ region at. IsNumberIn d region;
  always = true;
  one_field = λ tree u entered region other is len bytes other_bytes. same-region d tree u entered region other is;
  well_formed = λ tree u entered region is len bytes. region-within d tree u entered region is;
}

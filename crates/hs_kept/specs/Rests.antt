-- What is kept of regions of zeros, so that many fields whose sets have no position are taken at once.
use Rattle.std.specs.Prelude.{◌≡◌, ℕ, zero, suc, ◌<◌, ◌≤◌, List, [], ◌∷◌, Some, length, replicate}
use Rattle.std.specs.Prelude.{slice_get, slice_index}
use Rattle.std.specs.Coded.{Coded, code_by, coded_list, coded_ℕ, Π_prop, ×_prop, Unit-prop, le_prop}
use Rattle.std.proofs.Math.Nat.{ℕ_set}
use mathlib.Core.Path.{refl}
use denote.Struct.Props.{≡_prop}
use Rattle.hs_base.specs.Contexts.{prev_number}
use Rattle.hs_base.specs.declared.context.Prev.{Prev}
use Rattle.hs_base.specs.declared.context.Prev.TheVariants as before
use Rattle.hs_bits.specs.Zeros.{IsZeroBetween}
use Rattle.hs_states.specs.DfaStates.{kept_prev}
use Rattle.hs_states.specs.StateSets.{prev_of, set_bytes, set_width, state_count}
use Rattle.hs_states.specs.declared.state_sets.StateSets.{StateSets}
use Rattle.hs_kept.specs.declared.packing.StateField.{StateField}
use Rattle.hs_kept.specs.declared.rests.Rest.{Rest}

-- the state of that number keeps that what stands before
abbrev pub StandsBefore : StateSets → Prev → (number : ℕ) → Type 0
StandsBefore sets prev number = prev_of sets number ≡ kept_prev sets.has_assertion prev

-- the set of the state of that number has no position
abbrev pub HasNoPosition : StateSets → (number : ℕ) → Type 0
HasNoPosition sets number = set_bytes sets number ≡ replicate (set_width sets) 0

-- the number is that of a state of no position, of the one where that stands before if there is one, and else 0
abbrev pub IsRestNumber : StateSets → Prev → (number : ℕ) → Type 0
IsRestNumber sets prev number =
    (number < state_count sets)
    × (HasNoPosition sets number
    × (((n : ℕ) → n < state_count sets → HasNoPosition sets n → StandsBefore sets prev n →
    StandsBefore sets prev number)
    × ((StandsBefore sets prev number → ⊥) → number ≡ 0)))

-- From byte `place` on the row has for those fields the numbers of rest, and 0 before each.
abbrev pub IsAtRest : List StateField → (place : ℕ) → Prev → (row : List ℕ) → Type 0
IsAtRest [] place prev row = Unit {0}
IsAtRest (f ∷ fs) place prev row =
    IsZeroBetween row place f.place
    × (IsRestNumber f.sets prev (slice_index row f.place) × IsAtRest fs (suc f.place) prev row)

-- the row is what is kept of a region of zeros, but behind the last field
abbrev pub IsRestOf : List StateField → (size : ℕ) → Prev → (row : List ℕ) → Type 0
IsRestOf fields size prev row = (length row ≡ size) × IsAtRest fields 0 prev row

-- each is such a row
abbrev pub AreRests : List StateField → (size : ℕ) → List Rest → Type 0
AreRests fields size rests =
    (k : ℕ) (rest : Rest) → slice_get rests k ≡ Some rest → IsRestOf fields size rest.prev rest.bytes.items

-- ---- of which there is one proof at most

abbrev pub prev_by_number : ℕ → Prev
prev_by_number zero = before.Start
prev_by_number (suc zero) = before.Word
prev_by_number (suc (suc zero)) = before.Newline
prev_by_number (suc (suc (suc n))) = before.Other

pub prev-back : (prev : Prev) → prev_by_number (prev_number prev) ≡ prev
prev-back before.Start = refl
prev-back before.Word = refl
prev-back before.Newline = refl
prev-back before.Other = refl

abbrev coded_prev : Coded Prev
coded_prev = code_by ℕ coded_ℕ prev_number prev_by_number prev-back

rest_number-prop : (sets : StateSets) (prev : Prev) (number : ℕ) → IsProp (IsRestNumber sets prev number)
rest_number-prop sets prev number =
    ×_prop le_prop
    (×_prop (≡_prop (coded_list coded_ℕ) _ _)
    (×_prop (Π_prop λ n. Π_prop λ _. Π_prop λ _. Π_prop λ _. ≡_prop coded_prev _ _) (Π_prop λ _. ℕ_set number 0)))

at_rest-prop : (fs : List StateField) (place : ℕ) (prev : Prev) (row : List ℕ) → IsProp (IsAtRest fs place prev row)
at_rest-prop [] place prev row = Unit-prop
at_rest-prop (f ∷ fs) place prev row =
    ×_prop (Π_prop λ k. Π_prop λ _. Π_prop λ _. ℕ_set (slice_index row k) 0)
    (×_prop (rest_number-prop f.sets prev (slice_index row f.place)) (at_rest-prop fs (suc f.place) prev row))

pub rests-prop : (fs : List StateField) (size : ℕ) (rests : List Rest) → IsProp (AreRests fs size rests)
rests-prop fs size rests =
    Π_prop λ k. Π_prop λ rest. Π_prop λ _.
    ×_prop (ℕ_set (length rest.bytes.items) size) (at_rest-prop fs 0 rest.prev rest.bytes.items)

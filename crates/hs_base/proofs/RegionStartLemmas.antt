-- The region of the empty stream: no byte of it is set.
use Rattle.std.proofs.Common.{◌≡◌, ℕ, zero, suc, ◌+◌, ◌-◌, ◌*◌, ◌<◌, ◌≤◌, ◌↔◌, Bool, true, false, List, [], ◌∷◌, length, take, drop, replicate, get_or, Some, slice_get, slice_range, refl, sym, ◌∙◌, inl, inr, arith}
use Rattle.std.proofs.lemmas.Bool.{cases_lt}
use Rattle.std.proofs.lemmas.Option.{slice_get_within}
use Rattle.std.proofs.lemmas.Grind.{same_number_lists}
use Rattle.std.proofs.lemmas.List.{get_or-take, get_or-replicate, get_or_past, get_or_append_left, length-replicate, length-take-le, nil_from_length}
use Rattle.hs_base.specs.Lists.{Each}
use Rattle.hs_base.specs.Bits.{has_bit}
use Rattle.hs_base.specs.Chains.{Piece}
use Rattle.hs_base.specs.Leaving.{AreEntered}
use Rattle.hs_base.specs.RepeatRows as rows
use Rattle.hs_base.specs.RepeatRows.{IsAway, IsHeld, distance_of}
use Rattle.hs_base.specs.WrittenOut.{write_out, IsReached}
use Rattle.hs_base.specs.LiteralRows.{IsEnteredBack}
use Rattle.hs_base.specs.Reports.{IsReport}
use Rattle.hs_base.specs.Settling.{IsLeftToEnd}
use Rattle.hs_base.specs.KeptPieces.{Form, nothing, positions, literal, first, last, ring, form_size, AreBytes, IsKeptAs}
use Rattle.hs_base.specs.Regions.{Place, Plan, place_form, place_size, told_at, region_offset, last_bytes, AreBitsOf, plan_size, plan_here_at, plan_last_at, plan_fields_at, IsPlaced, IsRegion}
use Rattle.hs_base.proofs.BitLemmas.{bits-zero}
use Rattle.hs_base.proofs.ReportLemmas.{no-reports_yet}
use Rattle.hs_base.proofs.RegionLemmas.{fields-within, get-range, placed-end, range-size, size-above}

abbrev zeros : ℕ → List ℕ
zeros n = replicate n 0

-- each byte is 0, and so is what stands beyond
abbrev AllZero : List ℕ → Type 0
AllZero bytes = (i : ℕ) → get_or bytes i 0 ≡ 0

zeros-zero : (n : ℕ) → AllZero (zeros n)
zeros-zero n i = elim (cases_lt i n) [
  | inl below ↦ get_or-replicate n i 0 0 below
  | inr past ↦ get_or_past (zeros n) i 0 (omega (arith, length-replicate {A = ℕ} n 0))
]

zeros-small : (n : ℕ) → Each (λ b. b < 256) (zeros n)
zeros-small zero = tt
zeros-small (suc n) = (omega arith, zeros-small n)

each-range : (xs : List ℕ) (low high : ℕ) → Each (λ b. b < 256) xs → Each (λ b. b < 256) (slice_range xs low high)
each-range xs low high each = each-take (high - low) (drop low xs) (each-drop low xs each)
  where
    each-drop : (n : ℕ) (xs : List ℕ) → Each (λ b. b < 256) xs → Each (λ b. b < 256) (drop n xs)
    each-drop zero xs each = each
    each-drop (suc n) [] each = tt
    each-drop (suc n) (x ∷ xs) each = each-drop n xs each.1

    each-take : (n : ℕ) (xs : List ℕ) → Each (λ b. b < 256) xs → Each (λ b. b < 256) (take n xs)
    each-take zero xs each = tt
    each-take (suc n) [] each = tt
    each-take (suc n) (x ∷ xs) each = (each.0, each-take n xs each.1)

-- of no bytes nothing holds that asks for an entry
no-entry : {A : Type 0} (q : ℕ) (x : Bool) → slice_get [] q ≡ Some x → A
no-entry q x there = absurd (let e : q < 0 = slice_get_within [] q x there in omega arith)

never-set : (P : Type 0) (b : Bool) → b ≡ false → (P → ⊥) → (b ≡ true) ↔ P
never-set P b unset never = (λ is. absurd (let e : true ≡ false = sym is ∙ unset in cc), λ p. absurd (never p))

no-bytes-entered : (pieces : List Piece) → AreEntered pieces [] []
no-bytes-entered pieces = record {
  count = refl;
  each = λ q b there. absurd (let e : q < 0 = slice_get_within [] q b there in omega arith);
}

distance-zero : (bytes : List ℕ) → AllZero bytes → distance_of bytes ≡ 0
distance-zero bytes zeros = omega (arith, zeros 0, zeros 1)

none-away : (set : List Bool) (d : ℕ) → IsAway set [] [] d → ⊥
none-away set d away = let e : away.from < 0 = away.unbroken.before in omega arith

kept-start : (form : Form) (pieces : List Piece) (bytes : List ℕ) → AreBytes (form_size form) bytes → AllZero bytes → IsKeptAs form pieces bytes []
kept-start nothing pieces bytes are zeros = nil_from_length bytes are.count
kept-start (positions tree) pieces bytes are zeros = record {
  entered = [];
  are = no-bytes-entered pieces;
  sized = are;
  says = λ x. never-set (IsReached (write_out tree) [] [] x) (has_bit bytes x) (bits-zero bytes zeros x) (λ reached. no-entry reached.from true reached.is_entered);
}
kept-start (literal n) pieces bytes are zeros = record {
  entered = [];
  are = no-bytes-entered pieces;
  sized = are;
  says = λ k. never-set (IsEnteredBack n [] [] k) (has_bit bytes k) (bits-zero bytes zeros k) (λ back. no-entry back.from true back.is_entered);
}
kept-start (first set n) pieces bytes are zeros = record {
  entered = [];
  are = no-bytes-entered pieces;
  sized = are;
  says = rows.IsFirstDistance.none (distance-zero bytes zeros) (none-away set);
}
kept-start (last set m) pieces bytes are zeros = record {
  entered = [];
  are = no-bytes-entered pieces;
  sized = are;
  says = rows.IsLastDistance.none (distance-zero bytes zeros) (λ d away _. none-away set d away);
}
kept-start (ring set m) pieces bytes are zeros = record {
  entered = [];
  are = no-bytes-entered pieces;
  sized = are;
  says = λ k. never-set (IsHeld m set [] [] k) (has_bit bytes k) (bits-zero bytes zeros k) (λ held. let e : held.from < 0 = held.unbroken.before in omega arith);
}

module _ (plan : Plan) where
  bits-start : (from end : ℕ) (ids : List ℕ) (Has : ℕ → Type 0) → ((id : ℕ) → Has id → ⊥) → AreBitsOf (zeros (plan_size plan)) from end ids Has
  bits-start from end ids Has never = record {
    each = λ i id there. never-set (Has id) (has_bit (zeros (plan_size plan)) (8 * from + i)) (bits-zero (zeros (plan_size plan)) (zeros-zero (plan_size plan)) (8 * from + i)) (never id);
    spare = λ k past below. bits-zero (zeros (plan_size plan)) (zeros-zero (plan_size plan)) k;
  }

  header-size : 72 ≤ plan_size plan
  header-size = let e : plan_fields_at plan ≤ plan_size plan = fields-within plan in omega arith

  offset-start : region_offset (zeros (plan_size plan)) ≡ 0
  offset-start =
      let z : AllZero (take 8 (zeros (plan_size plan))) = λ i. taken-zero i in
      omega (arith, z 0, z 1, z 2, z 3, z 4, z 5, z 6, z 7)
    where
      taken-zero : AllZero (take 8 (zeros (plan_size plan)))
      taken-zero i = elim (cases_lt i 8) [
        | inl below ↦ get_or-take 8 (zeros (plan_size plan)) i 0 below ∙ zeros-zero (plan_size plan) i
        | inr past ↦ get_or_past (take 8 (zeros (plan_size plan))) i 0 (omega (arith, length-take-le 8 (zeros (plan_size plan)) (omega (arith, header-size, length-replicate {A = ℕ} (plan_size plan) 0))))
      ]

  history-start : slice_range (zeros (plan_size plan)) 8 72 ≡ last_bytes 64 []
  history-start =
      let size : length (slice_range (zeros (plan_size plan)) 8 72) ≡ 72 - 8 =
      range-size (zeros (plan_size plan)) 8 72 (omega arith) (omega (arith, header-size, length-replicate {A = ℕ} (plan_size plan) 0)) in
      same_number_lists (slice_range (zeros (plan_size plan)) 8 72) (last_bytes 64 [])
      (omega (arith, size))
      (λ k below.
      let inner : k < 72 - 8 = omega (arith, size) in
      get-range (zeros (plan_size plan)) 8 72 k inner ∙ (zeros-zero (plan_size plan) (8 + k) ∙ sym (last-zero k (omega arith))))
    where
      last-zero : (k : ℕ) → k < 64 → get_or (last_bytes 64 []) k 0 ≡ 0
      last-zero k below =
          get_or_append_left (replicate 64 0) [] 0 k (omega (arith, length-replicate {A = ℕ} 64 0)) ∙ get_or-replicate 64 k 0 0 below

  field-start : (k low high : ℕ) (p : Place) → IsPlaced plan k p low high →
      IsKeptAs (place_form p) p.pieces (slice_range (zeros (plan_size plan)) low high) []
  field-start k low high p placed =
      let wide : high ≡ low + place_size p = placed-end plan k low high p placed in
      let inside : high ≤ plan_size plan = size-above plan (suc k) high placed.end in
      kept-start (place_form p) p.pieces (slice_range (zeros (plan_size plan)) low high)
      (record {
        count = range-size (zeros (plan_size plan)) low high (omega arith) (omega (arith, length-replicate {A = ℕ} (plan_size plan) 0)) ∙ (let e : high - low ≡ place_size p = omega arith in e);
        each = each-range (zeros (plan_size plan)) low high (zeros-small (plan_size plan));
      })
      (λ i. part-zero i)
    where
      part-zero : AllZero (slice_range (zeros (plan_size plan)) low high)
      part-zero i = elim (cases_lt i (high - low)) [
        | inl below ↦ get-range (zeros (plan_size plan)) low high i below ∙ zeros-zero (plan_size plan) (low + i)
        | inr past ↦ get_or_past (slice_range (zeros (plan_size plan)) low high) i 0 (short past)
      ]
        where
          short : high - low ≤ i → length (slice_range (zeros (plan_size plan)) low high) ≤ i
          short past =
              let wide : high ≡ low + place_size p = placed-end plan k low high p placed in
              let inside : high ≤ plan_size plan = size-above plan (suc k) high placed.end in
              omega (arith, range-size (zeros (plan_size plan)) low high (omega arith) (omega (arith, length-replicate {A = ℕ} (plan_size plan) 0)))

  pub regions-begin : IsRegion plan [] (zeros (plan_size plan))
  regions-begin = record {
    within = omega arith;
    len = length-replicate {A = ℕ} (plan_size plan) 0;
    bytes = zeros-small (plan_size plan);
    offset = offset-start;
    history = history-start;
    told = bits-start told_at (plan_here_at plan) plan.singles (λ id. (to : ℕ) × IsReport plan.patterns [] false id to) (λ id (to, report). no-reports_yet plan.patterns id to report);
    here = bits-start (plan_here_at plan) (plan_last_at plan) plan.identifiers (λ id. IsReport plan.patterns [] false id 0) (λ id report. no-reports_yet plan.patterns id 0 report);
    last = bits-start (plan_last_at plan) (plan_fields_at plan) plan.identifiers (IsLeftToEnd plan.patterns []) (λ id left. let e : suc left.to ≡ 0 = left.before in omega arith);
    fields = field-start;
  }

-- How a row of rest is made, and what is seen of zeros.
use Rattle.std.proofs.Common.{◌≡◌, ℕ, zero, suc, ◌+◌, ◌-◌, ◌<◌, ◌≤◌, List, [], ◌∷◌, length, take, drop, replicate, get_or, slice_range, refl, sym, ap, subst, ◌∙◌, inl, inr, arith}
use Rattle.std.specs.Prelude.{slice_index}
use Rattle.std.specs.Int.{from_le_bytes, to_le_bytes, w64}
use Rattle.std.specs.Int.Bits.{bit_or}
use Rattle.std.proofs.Math.ListN.{set}
use Rattle.std.proofs.lemmas.Bool.{cases_lt}
use Rattle.std.proofs.lemmas.Grind.{same_number_lists}
use Rattle.std.proofs.lemmas.List.{drop_all, get_or-drop, get_or-set_other, get_or-set_same, get_or-take, length-drop, length-replicate, length-set, length-take-le, take-set}
use Rattle.std.proofs.lemmas.Nat.{le_bytes_8, le_or_l, le_or_r}
use Rattle.hs_base.specs.declared.context.Prev.{Prev}
use Rattle.hs_base.proofs.RegionLemmas.{get-range, range-size}
use Rattle.hs_states.specs.StateSets.{state_count}
use Rattle.hs_states.specs.declared.state_sets.StateSets.{StateSets}
use Rattle.hs_kept.specs.StateFields.{IsNextField, end_of}
use Rattle.hs_kept.specs.Rests.{IsAtRest, IsRestNumber, IsRestOf}
use Rattle.hs_bits.specs.Zeros.{IsZeroBetween}
use Rattle.hs_kept.specs.Packing.{IsNumberFor, known, unknown}
use Rattle.hs_kept.specs.Groups.{AreLeftFrom}
use Rattle.hs_kept.specs.declared.packing.Packing.{Packing}
use Rattle.hs_kept.specs.declared.packing.StateField.{StateField}
use Rattle.hs_kept.proofs.FieldLemmas.{left-item}
use Rattle.hs_kept.proofs.GroupLemmas.{left-more, left-next, left-none}
use Rattle.hs_kept.proofs.HeaderLemmas.{index-front}
use Rattle.hs_kept.proofs.WritingLemmas.{shorter-front}

pub get-zeros : (n i : ℕ) → get_or (replicate {A = ℕ} n 0) i 0 ≡ 0
get-zeros zero i = refl
get-zeros (suc n) zero = refl
get-zeros (suc n) (suc i) = get-zeros n i

-- bytes that are all 0
pub zeros-all : (xs : List ℕ) (n : ℕ) → length xs ≡ n → ((k : ℕ) → k < length xs → slice_index xs k ≡ 0) → xs ≡ replicate n 0
zeros-all xs n size zeros = same_number_lists xs (replicate n 0) (size ∙ sym (length-replicate {A = ℕ} n 0)) (λ k below. zeros k below ∙ sym (get-zeros n k))

pub take-zeros : (w n : ℕ) → w ≤ n → take w (replicate {A = ℕ} n 0) ≡ replicate w 0
take-zeros w n within =
    let size : length (take w (replicate {A = ℕ} n 0)) ≡ w = length-take-le w (replicate {A = ℕ} n 0) (omega (arith, within, length-replicate {A = ℕ} n 0)) in
    zeros-all (take w (replicate n 0)) w size (λ k below. get_or-take w (replicate n 0) k 0 (omega (arith, below, size)) ∙ get-zeros n k)

-- a number that is kept for a set is that of a state
pub number-within : (sets : StateSets) (xs : List ℕ) (prev : Prev) (n : ℕ) → 0 < state_count sets → IsNumberFor sets xs prev n → n < state_count sets
number-within sets xs prev n some (known below set stands) = below
number-within sets xs prev n some (unknown never first) = omega (arith, some, first)

-- The row has the numbers of rest for the fields before number `i`, and 0 behind them.
pub record IsRestTo (packing : Packing) (prev : Prev) (i : ℕ) (row : List ℕ) : Type 0 where
  pub at : ℕ
  pub place : ℕ
  pub left : AreLeftFrom packing i at place
  pub size : length row ≡ packing.size
  pub behind : (k : ℕ) → place ≤ k → slice_index row k ≡ 0
  pub filled : (whole : List ℕ) → take place whole ≡ take place row → IsAtRest (drop i packing.fields.items) place prev whole → IsAtRest packing.fields.items 0 prev whole

module _ (packing : Packing) (prev : Prev) where
  pub rest-none : (row : List ℕ) → row ≡ replicate packing.size 0 → IsRestTo packing prev 0 row
  rest-none row is = record {
    at = 0;
    place = 0;
    left = left-none packing;
    size = ap (λ (l : List ℕ). length l) is ∙ length-replicate {A = ℕ} packing.size 0;
    behind = λ k low. ap (λ l. get_or l k 0) is ∙ get-zeros packing.size k;
    filled = λ whole front rests. rests;
  }

  pub rest-place : (i : ℕ) (f : StateField) (row : List ℕ) → i < length packing.fields.items → f ≡ get_or packing.fields.items i f → IsRestTo packing prev i row → f.place < length row
  rest-place i f row below is so_far =
      let next : IsNextField f so_far.at so_far.place packing.region_size packing.size = left-next packing i f so_far.at so_far.place below is so_far.left in
      omega (arith, next.place_within, so_far.size)

  pub rest-more : (i : ℕ) (f : StateField) (old new : List ℕ) (n : ℕ) → i < length packing.fields.items → f ≡ get_or packing.fields.items i f → IsRestNumber f.sets prev n → new ≡ set old f.place n →
      IsRestTo packing prev i old → IsRestTo packing prev (i + 1) new
  rest-more i f old new n below is number written so_far =
      let place : ℕ = so_far.place in
      let next : IsNextField f so_far.at place packing.region_size packing.size = left-next packing i f so_far.at place below is so_far.left in
      let within : f.place < length old = rest-place i f old below is so_far in
      let other : (k : ℕ) → (k ≡ f.place → ⊥) → get_or new k 0 ≡ get_or old k 0 =
      λ k apart. ap (λ l. get_or l k 0) written ∙ get_or-set_other old f.place k n 0 apart in
      let own : get_or new f.place 0 ≡ n = ap (λ l. get_or l f.place 0) written ∙ get_or-set_same old f.place n 0 within in
      let before : take place new ≡ take place old =
      shorter-front new old place f.place next.place_behind (ap (λ l. take f.place l) written ∙ take-set old f.place n) in
      record {
        at = end_of f;
        place = f.place + 1;
        left = left-more packing i f so_far.at place (end_of f) (f.place + 1) below is refl refl so_far.left;
        size = ap (λ (l : List ℕ). length l) written ∙ (length-set old f.place n ∙ so_far.size);
        behind = λ k low. other k (λ e. absurd (omega (arith, e, low))) ∙ so_far.behind k (omega (arith, low, next.place_behind));
        filled = λ whole front rests.
            let each : (k : ℕ) → k < f.place + 1 → get_or whole k 0 ≡ get_or new k 0 = λ k low. index-front (f.place + 1) whole new front k low in
            let gap : IsZeroBetween whole place f.place =
            λ k low high. each k (omega (arith, high)) ∙ (other k (λ e. absurd (omega (arith, e, high))) ∙ so_far.behind k low) in
            let first : IsRestNumber f.sets prev (slice_index whole f.place) = subst (λ m. IsRestNumber f.sets prev m) (sym (each f.place (omega arith) ∙ own)) number in
            let e : f.place + 1 ≡ suc f.place = omega arith in
            so_far.filled whole (shorter-front whole new place (f.place + 1) (omega (arith, next.place_behind)) front ∙ before)
            (subst (λ l. IsAtRest l place prev whole) (sym (left-item packing.fields.items packing.fields.items i f refl below is))
            (gap, (first, subst (λ m. IsAtRest (drop (i + 1) packing.fields.items) m prev whole) e rests)));
      }

  pub rest-all : (i : ℕ) (row : List ℕ) → length packing.fields.items ≤ i → IsRestTo packing prev i row → IsRestOf packing.fields.items packing.size prev row
  rest-all i row all so_far =
      (so_far.size, so_far.filled row refl (subst (λ l. IsAtRest l so_far.place prev row) (sym (drop_all i packing.fields.items all)) tt))

pub zero-range : (bytes : List ℕ) (a b : ℕ) → a ≤ b → b ≤ length bytes → ((k : ℕ) → k < length (slice_range bytes a b) → slice_index (slice_range bytes a b) k ≡ 0) → IsZeroBetween bytes a b
zero-range bytes a b order within zeros k low high =
    let e : a + (k - a) ≡ k = omega (arith, low) in
    let size : length (slice_range bytes a b) ≡ b - a = range-size bytes a b order within in
    ap (λ n. get_or bytes n 0) (sym e) ∙ (sym (get-range bytes a b (k - a) (omega (arith, low, high))) ∙ zeros (k - a) (omega (arith, low, high, size)))

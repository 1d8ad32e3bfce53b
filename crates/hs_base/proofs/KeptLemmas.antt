-- A history has one field, which may stand where it ends.
use Rattle.std.proofs.Common.{◌≡◌, ℕ, zero, suc, ◌+◌, ◌-◌, ◌<◌, ◌≤◌, ◌↔◌, Bool, true, false, nat_lt, List, length, refl, sym, ap, subst, ◌∙◌, arith}
use Rattle.std.proofs.lemmas.Bool.Decides.{nat_tests}
use Rattle.std.proofs.lemmas.Grind.{same_number_lists}
use Rattle.hs_base.specs.Lists.{Each}
use Rattle.hs_base.specs.Trees.{Tree}
use Rattle.hs_base.specs.WrittenOut.{Core, fail, empty, class, assert, cat, alt, plus, write_out, count, pick, front, IsReached, StreamSpans}
use Rattle.hs_base.specs.Chains.{Piece}
use Rattle.hs_base.specs.Bits.{has_bit}
use Rattle.hs_base.specs.LiteralRows.{TellsEntries, IsEnteredBack}
use Rattle.hs_base.specs.RepeatRows.{IsAway, IsHeld, IsRingAt, distance_of}
use Rattle.hs_base.specs.KeptPieces.{Form, nothing, positions, literal, first, last, ring, form_size, Says, AreBytes, IsKeptBy, IsKeptAs, IsFieldAt}
use Rattle.hs_base.proofs.BitOnceLemmas.{bits-once, each-below}
use Rattle.hs_base.proofs.EntryLemmas.{entries-once}
use Rattle.hs_base.proofs.RepeatRowLemmas.{first-once, first-within, last-once, last-within, ring-within, same-distance}

pub bits-once_by : (P : ℕ → Type 0) (size : ℕ) (xs ys : List ℕ) → AreBytes size xs → AreBytes size ys →
    ((k : ℕ) → (has_bit xs k ≡ true) ↔ P k) → ((k : ℕ) → (has_bit ys k ≡ true) ↔ P k) → xs ≡ ys
bits-once_by P size xs ys are are' tells tells' =
    bits-once xs ys (are.count ∙ sym are'.count) are.each are'.each
    (λ k. (λ is. (tells' k).1 ((tells k).0 is), λ is. (tells k).1 ((tells' k).0 is)))

-- Two bytes by their number.
distance-once : (xs ys : List ℕ) → AreBytes 2 xs → AreBytes 2 ys → distance_of xs ≡ distance_of ys → xs ≡ ys
distance-once xs ys are are' same =
    same-distance xs ys are.count are'.count (λ i _. each-below xs are.each i) (λ i _. each-below ys are'.each i) same

-- What is said of one list of entries is said by one field.

says-once : (form : Form) (xs ys u : List ℕ) (entered : List Bool) → AreBytes (form_size form) xs → AreBytes (form_size form) ys →
    Says form xs u entered → Says form ys u entered → xs ≡ ys
says-once nothing xs ys u entered are are' says says' =
    same_number_lists xs ys (are.count ∙ sym are'.count) (λ k below. absurd (omega (arith, are.count)))
says-once (positions tree) xs ys u entered are are' says says' =
    bits-once_by (IsReached (write_out tree) u entered) (form_size (positions tree)) xs ys are are' says says'
says-once (literal n) xs ys u entered are are' says says' = bits-once_by (IsEnteredBack n u entered) 4 xs ys are are' says says'
says-once (first set n) xs ys u entered are are' says says' =
    distance-once xs ys are are' (first-once n (IsAway set u entered) (distance_of xs) (distance_of ys) says says')
says-once (last set m) xs ys u entered are are' says says' =
    distance-once xs ys are are' (last-once m (IsAway set u entered) (distance_of xs) (distance_of ys) says says')
says-once (ring set m) xs ys u entered are are' says says' =
    bits-once_by (IsHeld m set u entered) (form_size (ring set m)) xs ys are are' says says'

kept-once : (form : Form) (pieces : List Piece) (xs ys u : List ℕ) → IsKeptBy form pieces xs u → IsKeptBy form pieces ys u → xs ≡ ys
kept-once form pieces xs ys u kept kept' =
    let same : kept'.entered ≡ kept.entered = entries-once pieces u kept'.entered kept.entered kept'.are kept.are in
    says-once form xs ys u kept.entered kept.sized kept'.sized kept.says (subst (Says form ys u) same kept'.says)

pub fields-once : (form : Form) (pieces : List Piece) (xs ys u : List ℕ) → IsKeptAs form pieces xs u → IsKeptAs form pieces ys u → xs ≡ ys
fields-once nothing pieces xs ys u kept kept' = kept ∙ sym kept'
fields-once (positions tree) pieces xs ys u kept kept' = kept-once (positions tree) pieces xs ys u kept kept'
fields-once (literal n) pieces xs ys u kept kept' = kept-once (literal n) pieces xs ys u kept kept'
fields-once (first set n) pieces xs ys u kept kept' = kept-once (first set n) pieces xs ys u kept kept'
fields-once (last set m) pieces xs ys u kept kept' = kept-once (last set m) pieces xs ys u kept kept'
fields-once (ring set m) pieces xs ys u kept kept' = kept-once (ring set m) pieces xs ys u kept kept'

-- What may stand at an offset.

clear : (P : Type 0) (b : Bool) → ((b ≡ true) ↔ P) → (P → ⊥) → b ≡ false
clear P true tells never = absurd (never (tells.0 refl))
clear P false tells never = refl

pick-above : {A : Type 0} (n : ℕ) (f g : ℕ → A) (x : ℕ) → n ≤ x → pick n f g x ≡ g (x - n)
unfolding pick
pick-above n f g x above = let e : nat_lt x n ≡ false = grind (arith, nat_tests) in rw e refl

-- of a number that no position has, nothing is reached
module _ (w : List ℕ) (ended : Bool) where
  front-none : (r : Core) (x i j : ℕ) → count r ≤ x → StreamSpans w ended (front r x) i j → ⊥
  front-none fail x i j above span = span
  front-none empty x i j above span = span
  front-none (class set) zero i j above span = omega arith
  front-none (class set) (suc x) i j above span = span
  front-none (assert a) x i j above span = span
  front-none (cat a b) x i j above span =
      let (m, before, here) = subst (λ r. StreamSpans w ended r i j) (pick-above (count a) (front a) (λ y. cat a (front b y)) x (omega arith)) span in
      front-none b (x - count a) m j (omega arith) here
  front-none (alt a b) x i j above span =
      front-none b (x - count a) i j (omega arith)
      (subst (λ r. StreamSpans w ended r i j) (pick-above (count a) (front a) (front b) x (omega arith)) span)
  front-none (plus a) x i j above (m, before, here) = front-none a x m j above here

positions-at : (tree : Tree) (bytes u : List ℕ) (entered : List Bool) → Says (positions tree) bytes u entered → IsFieldAt (positions tree) bytes (length u)
positions-at tree bytes u entered says k above =
    clear (IsReached (write_out tree) u entered k) (has_bit bytes k) (says k)
    (λ reached. front-none u false (write_out tree) k reached.from (length u) above reached.reached)

literal-at : (n : ℕ) (bytes u : List ℕ) (entered : List Bool) → TellsEntries n (has_bit bytes) u entered → IsRingAt n bytes (length u)
literal-at n bytes u entered says = record {
  spare = λ k above. clear (IsEnteredBack n u entered k) (has_bit bytes k) (says k) (λ back. let e : k < n = back.below in omega arith);
  early = λ k late. clear (IsEnteredBack n u entered k) (has_bit bytes k) (says k) (λ back. let e : back.from + suc k ≡ length u = back.ends in omega arith);
}

pub fields-at : (form : Form) (pieces : List Piece) (bytes u : List ℕ) → IsKeptAs form pieces bytes u → AreBytes (form_size form) bytes × IsFieldAt form bytes (length u)
fields-at nothing pieces bytes u kept = (record { count = ap length kept; each = subst (Each (λ b. b < 256)) (sym kept) tt }, tt)
fields-at (positions tree) pieces bytes u kept = (kept.sized, positions-at tree bytes u kept.entered kept.says)
fields-at (literal n) pieces bytes u kept = (kept.sized, literal-at n bytes u kept.entered kept.says)
fields-at (first set n) pieces bytes u kept = (kept.sized, first-within n set u kept.entered (distance_of bytes) kept.says)
fields-at (last set m) pieces bytes u kept = (kept.sized, last-within m set u kept.entered (distance_of bytes) kept.says)
fields-at (ring set m) pieces bytes u kept = (kept.sized, ring-within m set u kept.entered bytes kept.says)

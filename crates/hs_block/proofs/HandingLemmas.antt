-- How blocks follow each other.
use Rattle.std.proofs.Common.{◌≡◌, ◌↔◌, ℕ, zero, suc, ◌+◌, ◌-◌, ◌<◌, ◌≤◌, Bool, true, Some, List, [], ◌∷◌, ◌++◌, length, take, slice_get, refl, sym, ap, subst, ◌∙◌, inl, inr, arith, length-append}
use Rattle.std.specs.Prelude.{unwrap_or}
use Rattle.std.proofs.lemmas.Bool.{cases_lt}
use Rattle.std.proofs.lemmas.List.{take-append-le, take_all}
use Rattle.std.proofs.lemmas.Option.{slice_get_within, get_or_from_slice_get}
use Rattle.std.proofs.Math.Seq.{take-append-add}
use Rattle.hs_base.specs.declared.context.Prev.{Prev}
use Rattle.hs_base.specs.Contexts.{class_of, prev_at}
use Rattle.hs_base.specs.Fields.{Leaves}
use Rattle.hs_base.specs.Trees.{Tree}
use Rattle.hs_engine.specs.Engines.{Meaning}
use Rattle.hs_engine.specs.declared.ends.BlockEnds.{BlockEnds}
use Rattle.hs_bits.specs.WordBits.{word_bit, bits_of, Marks}
use Rattle.hs_block.specs.Scans.{HandsOn, IsLeftBefore}
use Rattle.hs_block.specs.Blocks.{IsFieldOf, IsBlockRun}
use Rattle.hs_bits.proofs.BlockLemmas.{length-bits}

pub get-left : {A : Type 0} (xs ys : List A) (i : ℕ) → i < length xs → slice_get (xs ++ ys) i ≡ slice_get xs i
get-left [] ys i below = absurd (omega arith)
get-left (x ∷ xs) ys zero below = refl
get-left (x ∷ xs) ys (suc i) below = get-left xs ys i (omega arith)

pub get-right : {A : Type 0} (xs ys : List A) (k : ℕ) → slice_get (xs ++ ys) (length xs + k) ≡ slice_get ys k
get-right [] ys k = ap (λ n. slice_get ys n) (let e : 0 + k ≡ k = omega arith in e)
get-right (x ∷ xs) ys k = ap (λ n. slice_get (x ∷ (xs ++ ys)) n) (let e : suc (length xs) + k ≡ suc (length xs + k) = omega arith in e) ∙ get-right xs ys k

-- the first bits of a word
pub take-bits : (word n k : ℕ) → k ≤ n → take k (bits_of word n) ≡ bits_of word k
take-bits word zero k low = ap (λ m. take m []) (let e : k ≡ 0 = omega arith in e) ∙ ap (bits_of word) (let e : 0 ≡ k = omega arith in e)
take-bits word (suc n) k low =
    elim (cases_lt n k) [
      | inl all ↦ take_all k (bits_of word (suc n)) (omega (arith, length-bits word (suc n))) ∙ ap (bits_of word) (let e : suc n ≡ k = omega arith in e)
      | inr below ↦ take-append-le k (bits_of word n) (word_bit word n ∷ []) (omega (arith, length-bits word n)) ∙ take-bits word n k below
    ]

pub get-bits : (word n k : ℕ) → k < n → slice_get (bits_of word n) k ≡ Some (word_bit word k)
get-bits word zero k below = absurd (omega arith)
get-bits word (suc n) k below =
    elim (cases_lt k n) [
      | inl low ↦ get-left (bits_of word n) (word_bit word n ∷ []) k (omega (arith, length-bits word n)) ∙ get-bits word n k low
      | inr high ↦
          let e : k ≡ n = omega arith in
          subst (λ m. slice_get (bits_of word (suc n)) m ≡ Some (word_bit word m)) (sym e)
          (ap (λ m. slice_get (bits_of word (suc n)) m) (let f : n ≡ length (bits_of word n) + 0 = omega (arith, length-bits word n) in f) ∙ get-right (bits_of word n) (word_bit word n ∷ []) 0)
    ]

take-right : {A : Type 0} (xs ys : List A) (n k : ℕ) → length xs ≡ n → take (n + k) (xs ++ ys) ≡ xs ++ take k ys
take-right xs ys n k is = ap (λ m. take (m + k) (xs ++ ys)) (sym is) ∙ take-append-add xs ys k

some-same : (a : Bool) (P : Type 0) → (a ≡ true) ↔ P → (Some a ≡ Some true) ↔ P
some-same a P is = ((λ e. is.0 (ap (λ o. unwrap_or o a) e)), (λ p. ap (λ t. Some t) (is.1 p)))

pub hands-on : (tree : Tree) (u : List ℕ) (entered left : List Bool) (bytes : List ℕ) (enters before : ℕ) → length entered ≡ length u → HandsOn tree u entered left →
    Marks (length bytes) before (IsLeftBefore tree u entered bytes enters) →
    HandsOn tree (u ++ bytes) (entered ++ bits_of enters (length bytes)) (left ++ bits_of before (length bytes))
hands-on tree u entered left bytes enters before count hands marks =
    let n : ℕ = length bytes in
    record {
      count = omega (arith, hands.count, length-append u bytes, length-append left (bits_of before n), length-bits before n);
      each = λ i b there.
          elim (cases_lt i (length u)) [
            | inl low ↦
                let old : (slice_get left i ≡ Some true) ↔ Leaves tree (take i u) (take i entered) (class_of b) = hands.each i b (sym (get-left u bytes i low) ∙ there) in
                let same : slice_get (left ++ bits_of before n) i ≡ slice_get left i = get-left left (bits_of before n) i (omega (arith, hands.count)) in
                subst (λ w. (slice_get (left ++ bits_of before n) i ≡ Some true) ↔ Leaves tree w (take i (entered ++ bits_of enters n)) (class_of b)) (sym (take-append-le i u bytes (omega arith)))
                (subst (λ v. (slice_get (left ++ bits_of before n) i ≡ Some true) ↔ Leaves tree (take i u) v (class_of b)) (sym (take-append-le i entered (bits_of enters n) (omega arith)))
                (subst (λ x. (x ≡ Some true) ↔ Leaves tree (take i u) (take i entered) (class_of b)) (sym same) old))
            | inr high ↦
                let k : ℕ = i - length u in
                let e : i ≡ length u + k = omega arith in
                let here : slice_get bytes k ≡ Some b = sym (get-right u bytes k) ∙ (ap (λ m. slice_get (u ++ bytes) m) (sym e) ∙ there) in
                let below : k < n = slice_get_within bytes k b here in
                let told : (word_bit before k ≡ true) ↔ Leaves tree (u ++ take k bytes) (entered ++ bits_of enters k) (class_of b) =
                subst (λ c. (word_bit before k ≡ true) ↔ Leaves tree (u ++ take k bytes) (entered ++ bits_of enters k) (class_of c)) (get_or_from_slice_get bytes k b 0 here) (marks.below k below) in
                let same : slice_get (left ++ bits_of before n) i ≡ Some (word_bit before k) =
                ap (λ m. slice_get (left ++ bits_of before n) m) (let f : i ≡ length left + k = omega (arith, hands.count) in f) ∙ (get-right left (bits_of before n) k ∙ get-bits before n k below) in
                let front : take i (u ++ bytes) ≡ u ++ take k bytes = ap (λ m. take m (u ++ bytes)) e ∙ take-append-add u bytes k in
                let bits : take i (entered ++ bits_of enters n) ≡ entered ++ bits_of enters k =
                ap (λ m. take m (entered ++ bits_of enters n)) e ∙ (take-right entered (bits_of enters n) (length u) k count ∙ ap (λ v. entered ++ v) (take-bits enters n k (omega arith))) in
                subst (λ w. (slice_get (left ++ bits_of before n) i ≡ Some true) ↔ Leaves tree w (take i (entered ++ bits_of enters n)) (class_of b)) (sym front)
                (subst (λ v. (slice_get (left ++ bits_of before n) i ≡ Some true) ↔ Leaves tree (u ++ take k bytes) v (class_of b)) (sym bits)
                (subst (λ x. (x ≡ Some true) ↔ Leaves tree (u ++ take k bytes) (entered ++ bits_of enters k) (class_of b)) (sym same)
                (some-same (word_bit before k) (Leaves tree (u ++ take k bytes) (entered ++ bits_of enters k) (class_of b)) told)))
          ];
    }

pub hands-none : (tree : Tree) → HandsOn tree [] [] []
hands-none tree = record { count = refl; each = λ i b there. absurd (let e : i < 0 = slice_get_within [] i b there in omega arith) }

-- the field of a block's end is one to go on with
pub field-on : (m : Meaning) (old new : List ℕ) (prev behind : Prev) (at enters : ℕ) (bytes : List ℕ) (ends : BlockEnds) (ticks : ℕ) → IsBlockRun m old new prev at enters bytes ends ticks →
    (tree : Tree) (u : List ℕ) (entered : List Bool) → behind ≡ prev_at (u ++ bytes) (length (u ++ bytes)) → IsFieldOf m old prev at tree u entered →
    IsFieldOf m new behind (at + length bytes) tree (u ++ bytes) (entered ++ bits_of enters (length bytes))
field-on m old new prev behind at enters bytes ends ticks run tree u entered last is = record {
  runs = is.runs;
  count = omega (arith, is.count, length-append u bytes, length-append entered (bits_of enters (length bytes)), length-bits enters (length bytes));
  offset = omega (arith, is.offset, length-append u bytes);
  behind = last;
  field = (run.scans tree u entered is).field;
}

-- Rows by words: which places are still open when so many sets of a row were looked at.
use Rattle.std.proofs.Common.{◌≡◌, ◌↔◌, ℕ, suc, ◌+◌, ◌<◌, ◌≤◌, Bool, true, false, not, ◌&&◌, ◌||◌, nat_lt, List, length, get_or, Option, slice_get, refl, sym, ap, ◌∙◌, inl, inr, arith}
use Rattle.std.proofs.lemmas.Bool.{cases_lt, lt-leb, le-leb}
use Rattle.hs_base.specs.declared.byte_set.ByteSet.{ByteSet}
use Rattle.hs_base.specs.Bits.{has_word_bit}
use Rattle.hs_engine.specs.AnyBelow.{any_below}
use Rattle.hs_base.proofs.ContextLemmas.{first_of_both, second_of_both, of_both}
use Rattle.hs_engine.specs.Automata.{in_set}
use Rattle.hs_waking.proofs.AnyLemmas.{any-some, none-any, true-false}
use Rattle.hs_waking.proofs.PlaceLemmas.{less, less-is}
use Rattle.hs_waking.specs.ChunkWords.{is_open_at}
use Rattle.hs_base.specs.declared.context.Prev.{Prev}
use Rattle.hs_waking.specs.FitStacks.{AreOpen}
use Rattle.hs_waking.specs.Fits.{FitsAt, FitsNowhere, FitsTo, IsRowBy}
use Rattle.hs_waking.specs.declared.prev_set.PrevSet.{PrevSet}
use Rattle.hs_waking.proofs.WakeLemmas.{fits-more}

-- whether there is one, by the answer whether there is none

pub told-none : (answer any : Bool) → answer ≡ not any → answer ≡ true → any ≡ false
told-none answer true is none = absurd (let e : true ≡ false = sym none ∙ is in cc)
told-none answer false is none = refl

pub told-some : (answer any : Bool) → answer ≡ not any → answer ≡ false → any ≡ true
told-some answer true is some = refl
told-some answer false is some = absurd (let e : false ≡ true = sym some ∙ is in cc)

-- before any set

pub open-first : (begun : ℕ → Bool) (row : ℕ → Option ByteSet) (bytes places : List ℕ) → ((p : ℕ) → p < 512 → has_word_bit places p ≡ (nat_lt p (length bytes) && begun p)) → AreOpen begun row bytes 0 places
open-first begun row bytes places are p small = (
  λ set.
      let both : (nat_lt p (length bytes) && begun p) ≡ true = sym (are p small) ∙ set in
      (less p (length bytes) (first_of_both (nat_lt p (length bytes)) (begun p) both), second_of_both (nat_lt p (length bytes)) (begun p) both, λ d none inside. absurd (omega arith)),
  λ all. are p small ∙ of_both (nat_lt p (length bytes)) (begun p) (less-is p (length bytes) all.0) all.1,
)

-- one set more

module _ (begun : ℕ → Bool) (row : ℕ → Option ByteSet) (bytes : List ℕ) (few : length bytes ≤ 512) (depth : ℕ) (near : depth < 64) (places now class : List ℕ) (known : AreOpen begun row bytes depth places)
    (now_is : (p : ℕ) → p < 512 → has_word_bit now p ≡ (has_word_bit places p && has_word_bit class (p + depth)))
    (class_is : (p : ℕ) → p < 576 → has_word_bit class p ≡ is_open_at (row depth) bytes p) where
  -- within the bytes the class has a place where the set has the byte
  class-within : (p : ℕ) → p < 512 → p + depth < length bytes → has_word_bit class (p + depth) ≡ in_set (row depth) (get_or bytes (p + depth) 0)
  class-within p small inside = class_is (p + depth) (omega arith) ∙ ap (λ b. b || in_set (row depth) (get_or bytes (p + depth) 0)) (lt-leb (length bytes) (p + depth) inside)

  class-behind : (p : ℕ) → p < 512 → length bytes ≤ p + depth → has_word_bit class (p + depth) ≡ true
  class-behind p small past = class_is (p + depth) (omega arith) ∙ ap (λ b. b || in_set (row depth) (get_or bytes (p + depth) 0)) (le-leb (length bytes) (p + depth) past)

  class-fits : (p : ℕ) → p < 512 → FitsTo row bytes (depth + 1) p → has_word_bit class (p + depth) ≡ true
  class-fits p small fits =
      elim (cases_lt (p + depth) (length bytes)) [
        | inl inside ↦ class-within p small inside ∙ fits depth (omega arith) inside
        | inr past ↦ class-behind p small past
      ]

  pub open-more : AreOpen begun row bytes (depth + 1) now
  open-more p small = (
    λ set.
        let both : (has_word_bit places p && has_word_bit class (p + depth)) ≡ true = sym (now_is p small) ∙ set in
        let (within, may, fits) = (known p small).0 (first_of_both (has_word_bit places p) (has_word_bit class (p + depth)) both) in
        let more : FitsTo row bytes (suc depth) p =
        fits-more row bytes depth p fits (λ inside. sym (class-within p small inside) ∙ second_of_both (has_word_bit places p) (has_word_bit class (p + depth)) both) in
        (within, may, λ d below inside. more d (omega arith) inside),
    λ all.
        let fits : FitsTo row bytes (depth + 1) p = all.2 in
        now_is p small
        ∙ of_both (has_word_bit places p) (has_word_bit class (p + depth)) ((known p small).1 (all.0, all.1, λ d below inside. fits d (omega arith) inside)) (class-fits p small fits),
  )

-- a row by the numbers of its sets

pub row-fits : (numbers : List ℕ) (sets row : List ByteSet) (bytes : List ℕ) (i : ℕ) → IsRowBy numbers sets row → FitsTo (λ d. slice_get sets (get_or numbers d 0)) bytes (length numbers) i → FitsTo (slice_get row) bytes (length row) i
row-fits numbers sets row bytes i by fits d below inside =
    let within : d < length numbers = omega (arith, by.count) in
    ap (λ o. in_set o (get_or bytes (i + d) 0)) (by.are d within) ∙ fits d within inside

pub fits-row : (numbers : List ℕ) (sets row : List ByteSet) (bytes : List ℕ) (i : ℕ) → IsRowBy numbers sets row → FitsTo (slice_get row) bytes (length row) i → FitsTo (λ d. slice_get sets (get_or numbers d 0)) bytes (length numbers) i
fits-row numbers sets row bytes i by fits d below inside =
    sym (ap (λ o. in_set o (get_or bytes (i + d) 0)) (by.are d below)) ∙ fits d (omega (arith, by.count)) inside

-- the places of a row of which all sets have been asked

module _ (begun : ℕ → Bool) (numbers : List ℕ) (sets row : List ByteSet) (bytes : List ℕ) (depth : ℕ) (places : List ℕ) (by : IsRowBy numbers sets row) where
  abbrev Row : ℕ → Option ByteSet
  Row d = slice_get sets (get_or numbers d 0)

  pub all-open : length numbers ≤ depth → depth ≤ length numbers → AreOpen begun Row bytes depth places → (p : ℕ) → p < 512 → (has_word_bit places p ≡ true) ↔ ((p < length bytes) × ((begun p ≡ true) × FitsTo (slice_get row) bytes (length row) p))
  all-open enough within known p small = (
    λ set. let (inside, may, fits) = (known p small).0 set in (inside, (may, row-fits numbers sets row bytes p by (λ d below behind. fits d (omega arith) behind))),
    λ all. let (inside, (may, fits)) = all in (known p small).1 (inside, may, λ d below behind. fits-row numbers sets row bytes p by fits d (omega arith) behind),
  )

  -- none is left
  pub none-fits : depth ≤ length numbers → AreOpen begun Row bytes depth places → any_below 512 (has_word_bit places) ≡ false → (p : ℕ) → p < 512 → (has_word_bit places p ≡ true) ↔ ((p < length bytes) × ((begun p ≡ true) × FitsTo (slice_get row) bytes (length row) p))
  none-fits within known none p small = (
    λ set. true-false (has_word_bit places p) set (none-any 512 (has_word_bit places) none p small),
    λ all. let (inside, (may, fits)) = all in (known p small).1 (inside, may, λ d below behind. fits-row numbers sets row bytes p by fits d (omega arith) behind),
  )

-- there is none just where the row fits nowhere
pub some-fits : (behind : PrevSet) (row : List ByteSet) (prev : Prev) (bytes places : List ℕ) (none : Bool) → length bytes ≤ 512 → none ≡ not (any_below 512 (has_word_bit places)) →
    ((p : ℕ) → p < 512 → (has_word_bit places p ≡ true) ↔ ((p < length bytes) × FitsAt behind row prev bytes p)) → (not none ≡ false) ↔ FitsNowhere behind row prev bytes
some-fits behind row prev bytes places true few none fits = (
  λ told p inside fit. true-false (has_word_bit places p) ((fits p (omega arith)).1 (inside, fit)) (none-any 512 (has_word_bit places) (told-none true _ none refl) p (omega arith)),
  λ nowhere. refl,
)
some-fits behind row prev bytes places false few none fits = (
  λ told. absurd (let e : true ≡ false = told in cc),
  λ nowhere.
      let (p, below, set) = any-some 512 (has_word_bit places) (told-some false _ none refl) in
      let (inside, fit) = (fits p below).0 set in
      absurd (nowhere p inside fit),
)

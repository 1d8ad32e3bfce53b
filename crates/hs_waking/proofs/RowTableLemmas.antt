-- Rows put into a table, set by set.
use Rattle.std.proofs.Common.{◌≡◌, ℕ, zero, suc, ◌+◌, ◌<◌, Bool, true, List, [], ◌∷◌, ◌++◌, length, length-set, get_or, slice_get, Some, nat_eq, refl, sym, ap, subst, ◌∙◌, inl, inr, arith}
use Rattle.std.specs.Prelude.{slice_index, slice_set}
use Rattle.std.proofs.lemmas.List.{get_or-set_same, get_or-set_other}
use Rattle.std.specs.Cmp.Lexicographic.{pointwise, same_text}
use Rattle.std.proofs.lemmas.Bool.{cases_lt}
use Rattle.std.proofs.lemmas.Option.{slice_get-get_or, slice_get_within}
use Rattle.hs_base.specs.declared.byte_set.ByteSet.{ByteSet}
use Rattle.hs_engine.proofs.AgreementLemmas.{get-append}
use Rattle.hs_base.specs.Assertions.{line_feed, is_word_byte}
use Rattle.hs_base.specs.Contexts.{prev_by}
use Rattle.hs_waking.specs.declared.wake_row.WakeRow.{WakeRow}
use Rattle.hs_waking.specs.Fits.{IsBehindBy}
use Rattle.hs_waking.specs.PrevSets.{has_prev, is_each}
use Rattle.hs_waking.specs.RowTables.{Extends, IsCutRow}

-- sets with equal words are the same
pub same-set : (kept : List ByteSet) (n : ℕ) (d set : ByteSet) (r : Bool) → n < length kept → r ≡ pointwise nat_eq (get_or kept n d).words set.words → r ≡ true → slice_get kept n ≡ Some set
same-set kept n d set r below is equal =
    let x : ByteSet = get_or kept n d in
    let one : x.words ≡ set.words = same_text x.words set.words (sym (sym is ∙ equal)) in
    slice_get-get_or kept n d below ∙ (λ i. Some (record { words = one i }))

-- a set that is there
pub there : (xs : List ByteSet) (k : ℕ) → k < length xs → (x : ByteSet) × (slice_get xs k ≡ Some x)
there [] k low = absurd (omega (arith, low))
there (x ∷ xs) zero low = (x, refl)
there (x ∷ xs) (suc k) low = there xs k (omega (arith, low))

-- a set put behind the others
pub extends-push : (old : List ByteSet) (set : ByteSet) → Extends old (old ++ set ∷ [])
extends-push old set k other at = get-append old (set ∷ []) k other (slice_get_within old k other at) ∙ at

pub extends-then : (a b c : List ByteSet) → Extends a b → Extends b c → Extends a c
extends-then a b c one two k set at = two k set (one k set at)

-- no set
pub cut-none : (sets own : List ByteSet) (numbers : List ℕ) → IsCutRow sets own 0 numbers
cut-none sets own numbers = record { few = omega arith; room = omega arith; are = λ d low. absurd (omega arith) }

-- one set more
pub cut-more : (old new own : List ByteSet) (numbers : List ℕ) (d m n : ℕ) (set : ByteSet) → m ≡ d + 1 → Extends old new → IsCutRow old own d numbers → d < length own → d < length numbers → slice_get own d ≡ Some set → slice_get new n ≡ Some set →
    IsCutRow new own m (slice_set numbers d n)
cut-more old new own numbers d m n set next kept is below room here last = record {
  few = omega (arith, next, below);
  room = omega (arith, next, room, length-set numbers d n);
  are = λ e low.
      elim (cases_lt e d) [
        | inl less ↦
            let (other, at) = there own e (omega (arith, less, below)) in
            ap (slice_get new) (get_or-set_other numbers d e n 0 (let apart : e ≡ d → ⊥ = λ same. absurd (omega (arith, same, less)) in apart)) ∙ (kept (slice_index numbers e) other (is.are e less ∙ at) ∙ sym at)
        | inr past ↦
            let same : d ≡ e = omega (arith, low, next, past) in
            subst (λ k. slice_get new (slice_index (slice_set numbers d n) k) ≡ slice_get own k) same (ap (slice_get new) (get_or-set_same numbers d n 0 room) ∙ (last ∙ sym here))
      ];
}

-- sets more
pub cut-kept : (old new own : List ByteSet) (numbers : List ℕ) (d : ℕ) → Extends old new → IsCutRow old own d numbers → IsCutRow new own d numbers
cut-kept old new own numbers d kept is = record {
  few = is.few;
  room = is.room;
  are = λ e low.
      let (set, here) = there own e (omega (arith, low, is.few)) in
      kept (slice_index numbers e) set (is.are e low ∙ here) ∙ sym here;
}

-- where a row may begin is told by the number of the same set
pub behind-kept : (begun row : WakeRow) (old new : List ByteSet) → row.behind ≡ begun.behind → row.behind_number ≡ begun.behind_number → Extends old new → IsBehindBy begun old → IsBehindBy row new
behind-kept begun row old new behind number kept is few =
    let (bytes, at, are) = is (ap is_each (sym behind) ∙ few) in (
      bytes,
      ap (slice_get new) number ∙ kept begun.behind_number bytes at,
      λ b below. are b below ∙ ap (λ s. has_prev s (prev_by (nat_eq b line_feed) (is_word_byte b))) (sym behind),
    )

-- Tables of sets, made set by set.
use Rattle.std.proofs.Common.{◌≡◌, ℕ, ◌+◌, ◌<◌, ◌≤◌, Bool, true, List, [], ◌∷◌, ◌++◌, length, get_or, slice_get, Some, nat_eq, refl, sym, ap, ◌∙◌, inl, inr, arith}
use Rattle.std.specs.Cmp.Lexicographic.{pointwise, same_text}
use Rattle.std.proofs.lemmas.Bool.{cases_eq, cases_lt}
use Rattle.std.proofs.lemmas.List.{get_or_append_left, get_or_past}
use Rattle.std.proofs.lemmas.Option.{slice_get-get_or}
use Rattle.hs_base.specs.declared.byte_set.ByteSet.{ByteSet}
use Rattle.hs_base.specs.ByteSets.{has}
use Rattle.hs_base.proofs.NewLemmas.{length-push}
use Rattle.hs_engine.specs.Automata.{in_set}
use Rattle.hs_block.specs.StreamSets.{AreSetTables}

-- sets with equal words are the same
pub same-set : (kept : List ByteSet) (n : ℕ) (d set : ByteSet) (r : Bool) → n < length kept →
    r ≡ pointwise nat_eq (get_or kept n d).words set.words → r ≡ true → slice_get kept n ≡ Some set
same-set kept n d set r below is equal =
    let x : ByteSet = get_or kept n d in
    let one : x.words ≡ set.words = same_text x.words set.words (sym (sym is ∙ equal)) in
    slice_get-get_or kept n d below ∙ (λ i. Some (record { words = one i }))

get-last : (numbers : List ℕ) (n : ℕ) → get_or (numbers ++ n ∷ []) (length numbers) 0 ≡ n
get-last [] n = refl
get-last (x ∷ numbers) n = get-last numbers n

-- the set of one position more
pub tables-more : (old new : List ByteSet) (numbers : List ℕ) (n : ℕ) (first set : ByteSet) (given : List ByteSet) → AreSetTables old numbers first given → slice_get given (length numbers) ≡ Some set →
    n < length new → length new ≤ length old + 1 → length old ≤ length new → ((k : ℕ) → k < length old → slice_get new k ≡ slice_get old k) →
    ((b : ℕ) → b < 256 → in_set (slice_get new n) b ≡ has set b) → AreSetTables new (numbers ++ n ∷ []) first given
tables-more old new numbers n first set given tables at inside few more stay members =
    let size : ℕ = length numbers in
    let longer : length (numbers ++ n ∷ []) ≡ size + 1 = omega (arith, length-push numbers n) in
    let before : (x : ℕ) → x < size → get_or (numbers ++ n ∷ []) x 0 ≡ get_or numbers x 0 = λ x below. get_or_append_left numbers (n ∷ []) 0 x below in
    let last : get_or (numbers ++ n ∷ []) size 0 ≡ n = get-last numbers n in
    record {
      some = omega (arith, tables.some);
      few = omega (arith, tables.few, longer);
      within = λ x.
          elim (cases_lt x size) [
            | inl below ↦ omega (arith, before x below, tables.within x)
            | inr above ↦ elim (cases_eq x size) [
              | inl same ↦ omega (arith, ap (λ k. get_or (numbers ++ n ∷ []) k 0) same, last)
              | inr apart ↦ omega (arith, get_or_past (numbers ++ n ∷ []) x 0 (omega (arith, longer)))
            ]
          ];
      first_is = λ b byte. ap (λ s. in_set s b) (stay 0 tables.some) ∙ tables.first_is b byte;
      takes_are = λ x b below byte.
          elim (cases_lt x size) [
            | inl inside ↦
                ap (λ k. in_set (slice_get new k) b) (before x inside)
                ∙ (ap (λ s. in_set s b) (stay (get_or numbers x 0) (tables.within x)) ∙ tables.takes_are x b inside byte)
            | inr above ↦
                let same : x ≡ size = omega (arith, longer) in
                ap (λ k. in_set (slice_get new k) b) (ap (λ k. get_or (numbers ++ n ∷ []) k 0) same ∙ last)
                ∙ (members b byte ∙ sym (ap (λ s. in_set s b) (ap (slice_get given) same ∙ at)))
          ];
    }

-- the set of the first bytes alone
pub tables-none : (sets : List ByteSet) (n : ℕ) (first : ByteSet) (given : List ByteSet) → n < length sets → length sets ≤ 0 + 1 → ((b : ℕ) → b < 256 → in_set (slice_get sets n) b ≡ has first b) →
    AreSetTables sets [] first given
tables-none sets n first given inside few members =
    let only : n ≡ 0 = omega arith in
    record {
      some = omega arith;
      few = few;
      within = λ x. let low : 0 < length sets = omega arith in low;
      first_is = λ b byte. ap (λ k. in_set (slice_get sets k) b) (sym only) ∙ members b byte;
      takes_are = λ x b below byte. absurd (omega arith);
    }

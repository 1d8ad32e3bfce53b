-- Tables of ends: blank ones, and ends that are added.
use Rattle.std.proofs.Common.{◌≡◌, ℕ, ◌+◌, ◌<◌, Bool, true, false, ◌||◌, ◌&&◌, cond, eqb, List, [], ◌∷◌, length, replicate, get_or, bit_and, refl, sym, ap, ◌∙◌, inl, inr, arith}
use Rattle.std.specs.List.{list_any}
use Rattle.std.proofs.lemmas.Bool.{cases_lt, cases_eq, eq-eqb, ne_eqb}
use Rattle.std.proofs.lemmas.List.{length-replicate, get_or-replicate, get_or_past}
use Rattle.hs_base.proofs.ByteSetLemmas.{or-false}
use Rattle.hs_base.specs.Bits.{has_word_bit}
use Rattle.hs_reports.specs.declared.end_words.EndWords.{EndWords}
use Rattle.hs_reports.specs.declared.terminal.Terminal.{Terminal}
use Rattle.hs_reports.specs.EndTables.{no_words, EndTable, end_table, words_of, united, IsBlank, AddsEnds, Unites}
use Rattle.hs_reports.specs.Terminals.{is_within_bounds, is_end_at}
use Rattle.hs_reports.specs.WordBits.{word_bit}
use Rattle.hs_reports.proofs.WordBitLemmas.{bit-and, bit-or, bit-zero}

copies : {A : Type 0} (n i : ℕ) (a : A) → get_or (replicate n a) i a ≡ a
copies n i a = elim (cases_lt i n) [
  | inl below ↦ get_or-replicate n i a a below
  | inr past ↦ get_or_past (replicate n a) i a (omega (arith, length-replicate n a))
]

pub blank : (words : List EndWords) (noted : List ℕ) (count : ℕ) → words ≡ replicate count no_words → ((p : ℕ) → has_word_bit noted p ≡ false) → IsBlank (end_table words noted) count
blank words noted count is none = record {
  count_is = ap (λ xs. length xs) is ∙ length-replicate count no_words;
  words = λ p. ap (λ xs. get_or xs p no_words) is ∙ copies count p no_words;
  noted = none;
}

-- one terminal
module _ (t : Terminal) where
  test-own : (word word' at i p : ℕ) → p ≡ t.identifier → word_bit word' i ≡ (is_within_bounds t.least t.greatest at && word_bit word i) →
      list_any (is_end_at (λ node. word) p at i) (t ∷ []) ≡ word_bit word' i
  test-own word word' at i p own is =
      or-false (is_end_at (λ node. word) p at i t)
      ∙ (ap (λ b. b && (is_within_bounds t.least t.greatest at && word_bit word i)) (eq-eqb t.identifier p (sym own)) ∙ sym is)

  test-other : (word at i p : ℕ) → (p ≡ t.identifier → ⊥) → list_any (is_end_at (λ node. word) p at i) (t ∷ []) ≡ false
  test-other word at i p other =
      or-false (is_end_at (λ node. word) p at i t)
      ∙ ap (λ b. b && (is_within_bounds t.least t.greatest at && word_bit word i)) (ne_eqb t.identifier p (λ same. other (sym same)))

  module _ (at before behind before' behind' : ℕ)
      (before-is : (i : ℕ) → i < 64 → word_bit before' i ≡ (is_within_bounds t.least t.greatest (at + i) && word_bit before i))
      (behind-is : (i : ℕ) → i < 64 → word_bit behind' i ≡ (is_within_bounds t.least t.greatest (at + i + 1) && word_bit behind i)) where
    pub adds-some : (old new : EndTable) → Unites old new t.identifier before' behind' → AddsEnds old new (t ∷ []) at before behind
    adds-some old new unites = record {
      count = unites.count;
      before_is = λ p i below. before-bit p i below;
      behind_is = λ p i below. behind-bit p i below;
      noted = λ p noted. unites.noted p ∙ ap (λ b. eqb p t.identifier || b) noted ∙ or-true (eqb p t.identifier);
    }
      where
        or-true : (b : Bool) → (b || true) ≡ true
        or-true true = refl
        or-true false = refl

        own : (p : ℕ) → p ≡ t.identifier → words_of new p ≡ united (words_of old p) before' behind'
        own p same = unites.words p ∙ ap (λ b. cond b (united (words_of old p) before' behind') (words_of old p)) (eq-eqb p t.identifier same)

        other : (p : ℕ) → (p ≡ t.identifier → ⊥) → words_of new p ≡ words_of old p
        other p apart = unites.words p ∙ ap (λ b. cond b (united (words_of old p) before' behind') (words_of old p)) (ne_eqb p t.identifier apart)

        before-bit : (p i : ℕ) → i < 64 → word_bit (words_of new p).before i ≡ (word_bit (words_of old p).before i || list_any (is_end_at (λ node. before) p (at + i) i) (t ∷ []))
        before-bit p i below = elim (cases_eq p t.identifier) [
          | inl same ↦
              ap (λ w. word_bit w.before i) (own p same)
              ∙ (bit-or (words_of old p).before before' i
              ∙ ap (λ b. word_bit (words_of old p).before i || b) (sym (test-own before before' (at + i) i p same (before-is i below))))
          | inr apart ↦
              ap (λ w. word_bit w.before i) (other p apart)
              ∙ (sym (or-false (word_bit (words_of old p).before i))
              ∙ ap (λ b. word_bit (words_of old p).before i || b) (sym (test-other before (at + i) i p apart)))
        ]

        behind-bit : (p i : ℕ) → i < 64 → word_bit (words_of new p).behind i ≡ (word_bit (words_of old p).behind i || list_any (is_end_at (λ node. behind) p (at + i + 1) i) (t ∷ []))
        behind-bit p i below = elim (cases_eq p t.identifier) [
          | inl same ↦
              ap (λ w. word_bit w.behind i) (own p same)
              ∙ (bit-or (words_of old p).behind behind' i
              ∙ ap (λ b. word_bit (words_of old p).behind i || b) (sym (test-own behind behind' (at + i + 1) i p same (behind-is i below))))
          | inr apart ↦
              ap (λ w. word_bit w.behind i) (other p apart)
              ∙ (sym (or-false (word_bit (words_of old p).behind i))
              ∙ ap (λ b. word_bit (words_of old p).behind i || b) (sym (test-other behind (at + i + 1) i p apart)))
        ]

    -- no place at all
    none-added : (word word' at i p : ℕ) → word' ≡ 0 → word_bit word' i ≡ (is_within_bounds t.least t.greatest at && word_bit word i) → list_any (is_end_at (λ node. word) p at i) (t ∷ []) ≡ false
    none-added word word' at i p none is = elim (cases_eq p t.identifier) [
      | inl same ↦ test-own word word' at i p same is ∙ (ap (λ w. word_bit w i) none ∙ bit-zero i)
      | inr apart ↦ test-other word at i p apart
    ]

    pub adds-none : (table : EndTable) → before' ≡ 0 → behind' ≡ 0 → AddsEnds table table (t ∷ []) at before behind
    adds-none table no-before no-behind = record {
      count = refl;
      before_is = λ p i below.
          sym (or-false (word_bit (words_of table p).before i))
          ∙ ap (λ b. word_bit (words_of table p).before i || b) (sym (none-added before before' (at + i) i p no-before (before-is i below)));
      behind_is = λ p i below.
          sym (or-false (word_bit (words_of table p).behind i))
          ∙ ap (λ b. word_bit (words_of table p).behind i || b) (sym (none-added behind behind' (at + i + 1) i p no-behind (behind-is i below)));
      noted = λ p noted. noted;
    }

-- the places of a word within bounds
pub bounded : (word bound least greatest at i : ℕ) → word_bit bound i ≡ is_within_bounds least greatest at → word_bit (bit_and word bound) i ≡ (is_within_bounds least greatest at && word_bit word i)
bounded word bound least greatest at i is = bit-and word bound i ∙ (ap (λ b. word_bit word i && b) is ∙ swapped (word_bit word i) (is_within_bounds least greatest at))
  where
    swapped : (a b : Bool) → (a && b) ≡ (b && a)
    swapped true true = refl
    swapped true false = refl
    swapped false true = refl
    swapped false false = refl

pub bounded-next : (word bound least greatest at i : ℕ) → word_bit bound i ≡ is_within_bounds least greatest (at + 1 + i) → word_bit (bit_and word bound) i ≡ (is_within_bounds least greatest (at + i + 1) && word_bit word i)
bounded-next word bound least greatest at i is =
    let here : at + 1 + i ≡ at + i + 1 = omega arith in
    bounded word bound least greatest (at + i + 1) i (is ∙ ap (λ n. is_within_bounds least greatest n) here)

-- Words of sets, made one by one.
use Rattle.std.proofs.Common.{◌≡◌, ℕ, ◌<◌, Bool, true, List, length, get_or, set, eqb, sym, ap, ◌∙◌, inl, inr}
use Rattle.std.proofs.lemmas.Bool.{cases_eq, ne_eqb}
use Rattle.std.proofs.lemmas.List.{get_or-set_same}
use Rattle.hs_base.proofs.ContextSetLemmas.{bit-one}
use Rattle.hs_bits.specs.WordBits.{word_bit}
use Rattle.hs_block.proofs.AnyLemmas.{true-false}

one-bit : (k : ℕ) → word_bit 1 k ≡ eqb k 0
unfolding word_bit
one-bit k = bit-one 0 k

-- that of the first set alone
pub known-first : (words : List ℕ) (first k i : ℕ) (test : ℕ → Bool) → 0 < length words → word_bit 1 k ≡ true → word_bit first i ≡ test 0 → word_bit (get_or (set words 0 first) k 0) i ≡ test k
known-first words first k i test room set' is =
    elim (cases_eq k 0) [
      | inl same ↦
          ap (λ n. word_bit (get_or (set words 0 first) n 0) i) same
          ∙ (ap (λ v. word_bit v i) (get_or-set_same words 0 first 0 room) ∙ (is ∙ ap test (sym same)))
      | inr apart ↦ true-false (word_bit 1 k) set' (one-bit k ∙ ne_eqb k 0 apart)
    ]

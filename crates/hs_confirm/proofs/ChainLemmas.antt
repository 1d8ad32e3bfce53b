-- Chains that are built from the last number to the first.
use Rattle.std.proofs.Common.{◌≡◌, ◌≢◌, ℕ, ◌+◌, ◌<◌, false, ◌||◌, List, length, get_or, set, replicate, eqb, sym, ap, ◌∙◌, subst, arith, inl, inr, get_or-set_same, get_or-set_other}
use Rattle.std.proofs.lemmas.List.{get_or-replicate, length-replicate, length-set}
use Rattle.std.proofs.lemmas.Bool.{cases_eq, eq-eqb, ne_eqb, false≢true}
use Rattle.hs_confirm.specs.Rows.{IsLeastFrom, AreChainsFrom, AreChains, AreMarked}
use Rattle.hs_base.specs.Bits.{has_word_bit}

-- no number counts
pub chains-none : (rows nexts : List ℕ) (from count : ℕ) → from ≡ length rows → AreChainsFrom rows from (replicate count from) nexts
chains-none rows nexts from count e = record {
  first = λ row within.
      let below : row < count = omega (arith, length-replicate count from) in
      let is : get_or (replicate count from) row 0 ≡ from = get_or-replicate count row from 0 below in
      record {
        low = omega arith;
        passed = λ k low high there. absurd (omega arith);
        stands = λ there. absurd (omega arith);
      };
  after = λ k low high. absurd (omega arith);
}

-- the number before comes in front of the others of its row
least-here : (rows : List ℕ) (row number found : ℕ) → row ≡ get_or rows number 0 → found ≡ number → IsLeastFrom rows row number found
least-here rows row number found is e = record {
  low = omega arith;
  passed = λ k low high there. absurd (omega arith);
  stands = λ there. ap (λ n. get_or rows n 0) e ∙ sym is;
}

least-there : (rows : List ℕ) (row number found : ℕ) → get_or rows number 0 ≢ row → IsLeastFrom rows row (number + 1) found → IsLeastFrom rows row number found
least-there rows row number found apart least = record {
  low = omega (arith, least.low);
  passed = λ k low high there.
      elim (cases_eq k number) [
        | inl same ↦ subst (λ n. get_or rows n 0 ≢ row) (sym same) apart
        | inr other ↦ least.passed k (omega arith) high there
      ];
  stands = least.stands;
}

pub chains-more : (rows heads nexts : List ℕ) (number row : ℕ) → number < length rows → row ≡ get_or rows number 0 → row < length heads → length nexts ≡ length rows → AreChainsFrom rows (number + 1) heads nexts
    → AreChainsFrom rows number (set heads row number) (set nexts number (get_or heads row 0))
chains-more rows heads nexts number row within is below same chains = record {
  first = λ other there.
      elim (cases_eq other row) [
        | inl e ↦ least-here rows other number (get_or (set heads row number) other 0) (e ∙ is) (ap (λ n. get_or (set heads row number) n 0) e ∙ get_or-set_same heads row number 0 below)
        | inr apart ↦
            subst (λ found. IsLeastFrom rows other number found) (sym (get_or-set_other heads row other number 0 apart))
            (least-there rows other number (get_or heads other 0) (λ e. apart (sym (is ∙ e))) (chains.first other (omega (arith, length-set heads row number))))
      ];
  after = λ k low high.
      elim (cases_eq k number) [
        | inl e ↦
            subst (λ found. IsLeastFrom rows (get_or rows k 0) (k + 1) found) (sym (ap (λ n. get_or (set nexts number (get_or heads row 0)) n 0) e ∙ get_or-set_same nexts number (get_or heads row 0) 0 (omega arith)))
            (subst (λ n. IsLeastFrom rows (get_or rows n 0) (n + 1) (get_or heads row 0)) (sym e) (subst (λ r. IsLeastFrom rows r (number + 1) (get_or heads row 0)) is (chains.first row below)))
        | inr other ↦
            subst (λ found. IsLeastFrom rows (get_or rows k 0) (k + 1) found) (sym (get_or-set_other nexts number k (get_or heads row 0) 0 other))
            (chains.after k (omega arith) high)
      ];
}

-- what the chains have for a row, and behind a number
pub first_least : (rows heads nexts : List ℕ) (row other number : ℕ) → AreChains rows heads nexts → row < length heads → row ≡ other → number ≡ get_or heads row 0 → IsLeastFrom rows other 0 number
first_least rows heads nexts row other number chains within same is =
    subst (λ n. IsLeastFrom rows other 0 n) (sym is) (subst (λ r. IsLeastFrom rows r 0 (get_or heads row 0)) same (chains.first row within))

pub next_least : (rows heads nexts : List ℕ) (number row found : ℕ) → AreChains rows heads nexts → number < length rows → get_or rows number 0 ≡ row → found ≡ get_or nexts number 0 → IsLeastFrom rows row (number + 1) found
next_least rows heads nexts number row found chains within same is =
    subst (λ n. IsLeastFrom rows row (number + 1) n) (sym is) (subst (λ r. IsLeastFrom rows r (number + 1) (get_or nexts number 0)) same (chains.after number (omega arith) within))

-- where all rows are empty, no bit need be set
pub marked-none : (words : List ℕ) (rows count : ℕ) → AreMarked words (replicate rows count) count
marked-none words rows count row within is = get_or-replicate rows row count 0 (omega (arith, length-replicate rows count))

-- a number is filed in a row, and the row's bit set
pub marked-more : (words new heads : List ℕ) (count row number : ℕ) → ((k : ℕ) → has_word_bit new k ≡ (eqb k row || has_word_bit words k)) → AreMarked words heads count → AreMarked new (set heads row number) count
marked-more words new heads count row number bits marked other below unset =
    elim (cases_eq other row) [
      | inl same ↦ absurd (false≢true (sym unset ∙ (bits other ∙ ap (λ b. b || has_word_bit words other) (eq-eqb other row same))))
      | inr apart ↦
          let old : has_word_bit words other ≡ false = sym (ap (λ b. b || has_word_bit words other) (ne_eqb other row apart)) ∙ (sym (bits other) ∙ unset) in
          get_or-set_other heads row other number 0 apart ∙ marked other (omega (arith, length-set heads row number)) old
    ]

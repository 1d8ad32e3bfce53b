-- Ends of identifiers that are forgotten, one after the other.
use Rattle.std.proofs.Common.{◌≡◌, ℕ, ◌+◌, ◌<◌, ◌≤◌, Bool, true, false, length, refl, sym, ◌∙◌, inl, inr, arith}
use Rattle.std.specs.Prelude.{if◌then◌else◌, ◌==◌}
use Rattle.std.proofs.lemmas.Bool.{cases_lt, eq-eqb}
use Rattle.std.specs.Slice.Scan.{HoldsNowhere}
use Rattle.hs_bits.specs.NextBits.{IsNextBit}
use Rattle.hs_reports.specs.EndTables.{EndTable, IsQuiet, Resets, is_noted, no_words, words_of}
use Rattle.std.proofs.lemmas.List.{get_or_past}

-- the first so many identifiers have no end
pub record AreForgotten (count from : ℕ) (table : EndTable) : Type 0 where
  pub within : from ≤ count
  pub count_is : length table.words ≡ count
  pub none : (k : ℕ) → k < from → words_of table k ≡ no_words

pub forgotten-more : (count from p : ℕ) (old new : EndTable) → IsQuiet old → IsNextBit (is_noted old) from count p → Resets old new p false → AreForgotten count from old → AreForgotten count (p + 1) new
forgotten-more count from p old new quiet next resets are = record {
  within = omega (arith, next.high);
  count_is = resets.count ∙ are.count_is;
  none = λ k below. resets.words k ∙ by-place k below (k == p) refl;
}
  where
    before : (k : ℕ) → k < p → words_of old k ≡ no_words
    before k low = elim (cases_lt k from) [
      | inl inner ↦ are.none k inner
      | inr past ↦ quiet k (next.least k past low)
    ]

    by-place : (k : ℕ) → k < p + 1 → (b : Bool) → (k == p) ≡ b → (if b then no_words else words_of old k) ≡ no_words
    by-place k below true same = refl
    by-place k below false apart = before k (elim (cases_lt k p) [ inl low ↦ low | inr high ↦ absurd (let set : (k == p) ≡ true = eq-eqb k p (omega (arith, below, high)) in let e : true ≡ false = sym set ∙ apart in cc) ])

pub forgotten-all : (count from : ℕ) (table : EndTable) → IsQuiet table → HoldsNowhere (is_noted table) from count → AreForgotten count from table → (k : ℕ) → words_of table k ≡ no_words
forgotten-all count from table quiet nowhere are k = elim (cases_lt k from) [
  | inl inner ↦ are.none k inner
  | inr past ↦ elim (cases_lt k count) [
    | inl below ↦ quiet k (nowhere k past below)
    | inr beyond ↦ get_or_past table.words k no_words (omega (arith, beyond, are.count_is))
  ]
]

-- What a line feed leaves to the end, identifier by identifier.
use Rattle.std.proofs.Common.{◌≡◌, ℕ, ◌+◌, ◌/◌, ◌^◌, ◌<◌, Bool, List, Some, slice_get, nat_eq, bit_and, sym, ap, ◌∙◌, inl, inr, arith}
use Rattle.std.proofs.lemmas.Bool.{cases_eq}
use Rattle.std.proofs.lemmas.Option.{same_Some}
use Rattle.hs_base.specs.Bits.{has_word_bit}
use Rattle.hs_reports.specs.EndTables.{EndTable, words_of}
use Rattle.hs_reports.specs.Telling.{leaves_to_end}
use Rattle.hs_reports.specs.WordBits.{word_bit}
use Rattle.hs_reports.specs.declared.identifier.Identifier.{Identifier}
use Rattle.hs_reports.proofs.WordBitLemmas.{bit-asked}

-- the first bit of a word
pub asked-first : (word : ℕ) → nat_eq (bit_and word 1) 1 ≡ word_bit word 0
asked-first word = let same : word ≡ word / 2 ^ 0 = omega arith in ap (λ n. nat_eq (bit_and n 1) 1) same ∙ bit-asked word 0

-- what a line feed leaves, by values that are the same
pub same-left : {told told' here here' before before' behind behind' last last' : Bool} (single : Bool) → told ≡ told' → here ≡ here' → before ≡ before' → behind ≡ behind' → last ≡ last' → leaves_to_end single told here before behind last ≡ leaves_to_end single told' here' before' behind' last'
same-left {told = told} {told' = told'} {here = here} {here' = here'} {before = before} {before' = before'} {behind = behind} {behind' = behind'} {last = last} single t h b e l =
    ap (λ x. leaves_to_end single x here before behind last) t
    ∙ (ap (λ x. leaves_to_end single told' x before behind last) h
    ∙ (ap (λ x. leaves_to_end single told' here' x behind last) b ∙ (ap (λ x. leaves_to_end single told' here' before' x last) e ∙ ap (λ x. leaves_to_end single told' here' before' behind' x) l)))

-- the values of one identifier
abbrev pub leaves_one : (told here : List ℕ) (table finals : EndTable) (x : Identifier) (p : ℕ) → Bool
leaves_one told here table finals x p =
    leaves_to_end x.single (has_word_bit told p) (has_word_bit here p) (word_bit (words_of table p).before 0) (word_bit (words_of table p).behind 0) (word_bit (words_of finals p).before 0)

-- the row tells it of the first so many identifiers
abbrev pub AreLeftTo : List Identifier → (told here : List ℕ) (table finals : EndTable) (last : List ℕ) (n : ℕ) → Type 0
AreLeftTo identifiers told here table finals last n = (p : ℕ) (x : Identifier) → p < n → slice_get identifiers p ≡ Some x → has_word_bit last p ≡ leaves_one told here table finals x p

pub left-more : (identifiers : List Identifier) (told here : List ℕ) (table finals : EndTable) (last last' : List ℕ) (n : ℕ) (x : Identifier) → slice_get identifiers n ≡ Some x → has_word_bit last' n ≡ leaves_one told here table finals x n →
    ((k : ℕ) → (k ≡ n → ⊥) → has_word_bit last' k ≡ has_word_bit last k) → AreLeftTo identifiers told here table finals last n → AreLeftTo identifiers told here table finals last' (n + 1)
left-more identifiers told here table finals last last' n x at own others are p y below at' = elim (cases_eq p n) [
  | inr apart ↦ others p apart ∙ are p y (omega (arith, below, apart)) at'
  | inl same ↦
      let one : x ≡ y = same_Some x y (sym at ∙ (ap (slice_get identifiers) (sym same) ∙ at')) in
      ap (λ k. has_word_bit last' k) same ∙ (own ∙ (ap (λ z. leaves_one told here table finals z n) one ∙ ap (λ k. leaves_one told here table finals y k) (sym same)))
]

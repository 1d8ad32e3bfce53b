-- The places of one context in which a byte comes next.
use Rattle.std.proofs.Common.{◌≡◌, ℕ, ◌+◌, ◌*◌, ◌/◌, ◌%◌, ◌<◌, Bool, true, false, ◌&&◌, ◌||◌, List, length, get_or, eqb, refl, sym, ap, ◌∙◌, inl, inr, arith, bit_and}
use Rattle.std.proofs.lemmas.Bool.{cases_eq, eq-eqb, ne_eqb}
use Rattle.hs_base.specs.declared.context.Next.{Next}
use Rattle.hs_base.specs.declared.context.Next.TheVariants as after
use Rattle.hs_base.specs.declared.context.NextSet.{NextSet}
use Rattle.hs_base.specs.declared.context.Prev.{Prev}
use Rattle.hs_base.specs.Assertions.{line_feed, is_word_byte}
use Rattle.hs_base.specs.Contexts.{class_of, next_by, next_number, prev_number}
use Rattle.hs_base.specs.ContextSets.{has_next}
use Rattle.hs_engine.specs.RowSizes.{class_number}
use Rattle.hs_engine.specs.Rows.{square_number}
use Rattle.hs_bits.specs.declared.contexts.Contexts.{Contexts}
use Rattle.hs_bits.specs.WordBits.{word_bit, one_later}
use Rattle.hs_bits.specs.BlockContexts.{AreContexts, class_word, context_before, prev_before}
use Rattle.hs_bits.proofs.ContextLemmas.{prev-bit, among-below}
use Rattle.hs_bits.proofs.PlaceLemmas.{bit-both}

class-numbers : (line word : Bool) → (next_number (next_by line word false) ≡ class_number (next_by line word false)) × (class_number (next_by line word false) < 3)
class-numbers true word = (refl, omega arith)
class-numbers false true = (refl, omega arith)
class-numbers false false = (refl, omega arith)

same-square : (p here next class square : ℕ) → here ≡ class → here < 3 → next ≡ square % 3 → square < 12 → (eqb p (square / 3) && eqb class next) ≡ eqb (3 * p + here) square
same-square p here next class square is few at low =
    elim (cases_eq p (square / 3)) [
      | inr apart ↦ ap (λ b. b && eqb class next) (ne_eqb p (square / 3) apart) ∙ sym (ne_eqb (3 * p + here) square (λ e. apart (omega (arith, e))))
      | inl same ↦
          ap (λ b. b && eqb class next) (eq-eqb p (square / 3) same)
          ∙ elim (cases_eq class next) [
            | inl equal ↦ eq-eqb class next equal ∙ sym (eq-eqb (3 * p + here) square (omega (arith, is, equal, at, same)))
            | inr apart ↦ ne_eqb class next apart ∙ sym (ne_eqb (3 * p + here) square (λ e. apart (omega (arith, e, is, at, same))))
          ]
    ]

pub square-places : (contexts : Contexts) (first prev : Prev) (class : Next) (bytes : List ℕ) (square places among : ℕ) (set : NextSet) → AreContexts contexts first bytes → square < 12 →
    prev_number prev ≡ square / 3 → next_number class ≡ square % 3 →
    ((i : ℕ) → i < 64 → word_bit places i ≡ one_later (eqb (prev_number contexts.prev) (prev_number prev)) (word_bit (class_word contexts.classes prev)) i) →
    ((i : ℕ) → word_bit among i ≡ ((word_bit contexts.classes.words i && has_next set after.Word) || ((word_bit contexts.classes.newlines i && has_next set after.Newline) || (word_bit contexts.classes.others i && has_next set after.Other)))) →
    ((next : Next) → has_next set next ≡ eqb (next_number next) (next_number class)) → (i : ℕ) → i < length bytes →
    word_bit (bit_and places among) i ≡ eqb (square_number true (context_before first bytes i)) square
square-places contexts first prev class bytes square places among set are low prev_is class_is places_are among_is member i below =
    let next : Next = class_of (get_or bytes i 0) in
    let p : ℕ = prev_number (prev_before first bytes i) in
    let numbers = class-numbers (eqb (get_or bytes i 0) line_feed) (is_word_byte (get_or bytes i 0)) in
    let one : word_bit places i ≡ eqb p (square / 3) =
    places_are i (omega (arith, are.few)) ∙ (prev-bit contexts first prev bytes i are below ∙ ap (λ n. eqb p n) prev_is) in
    let other : word_bit among i ≡ eqb (next_number next) (next_number class) = among_is i ∙ (among-below contexts.classes bytes (length bytes) i (has_next set) are.classes below ∙ member next) in
    bit-both places among i
    ∙ (ap (λ t. t && word_bit among i) one
    ∙ (ap (λ t. eqb p (square / 3) && t) other
    ∙ same-square p (class_number next) (next_number class) (next_number next) square (sym numbers.0) numbers.1 class_is low))

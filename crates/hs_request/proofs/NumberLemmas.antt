-- Operands that are numbers, and the numbers that words say.
use Rattle.std.proofs.Common.{◌≡◌, ◌∙◌, ◌<◌, ◌^◌, ℕ, Bool, true, false, Option, Some, if◌then◌else◌, refl, sym, ap, arith}
use Rattle.std.specs.Str.Parse.{IsNumeral, digits_value, without_leading_plus}
use Rattle.clap.specs.ValueTests.{is_unsigned_in}
use Rattle.clap.specs.Words.{Rule, Text, rule_of}
use Rattle.clap.specs.declared.builder.arg.Arg.{Arg}
use Rattle.clap.specs.declared.builder.value_parser.ValueParser.{ValueParser}
use Rattle.clap.specs.declared.builder.value_parser.ValueParser.TheVariants.{Unsigned}
use Rattle.clap.proofs.ValueTestLemmas.{accepts-Accepts, Accepts-accepts}
use Rattle.hs_request.specs.Requests.{greatest_word, number_of, number_operand, operand}

-- an operand with a parser
pub numbered : (plain given : Arg) (name : Text) (least greatest : ℕ) → rule_of plain ≡ operand name → given ≡ record plain { value_parser = given.value_parser } → given.value_parser ≡ Some (Unsigned least greatest) →
    rule_of given ≡ number_operand name least greatest
numbered plain given name least greatest rule_is others parser_is =
    ap rule_of others
    ∙ (ap (λ (p : Option ValueParser). rule_of (record plain { value_parser = p })) parser_is
    ∙ ap (λ (r : Rule). record r { parser = Some (Unsigned least greatest) }) rule_is)

-- the word says a number of 32 bits
abbrev SaysNumber : Text → Type 0
SaysNumber word = IsNumeral 10 (without_leading_plus word) × (digits_value 10 (without_leading_plus word) < 2 ^ 32)

-- a word that says a number says that one
pub number-said : (word : Text) (number : ℕ) → SaysNumber word × (number ≡ digits_value 10 (without_leading_plus word)) → number ≡ number_of word
number-said word number said =
    let within : digits_value 10 (without_leading_plus word) < 2 ^ 32 = said.0.1 in
    let takes = Accepts-accepts false (Unsigned 0 greatest_word) word (said.0.0, omega (arith, within), omega arith, omega (arith, within)) in
    said.1 ∙ ap (λ (b : Bool). if b then digits_value 10 (without_leading_plus word) else 0) (sym takes)

-- a word that says none is taken for 0
pub number-unsaid : (word : Text) → (SaysNumber word → ⊥) → 0 ≡ number_of word
number-unsaid word unsaid = by (is_unsigned_in 0 greatest_word word) refl
  where
    by : (b : Bool) → is_unsigned_in 0 greatest_word word ≡ b → 0 ≡ (if b then digits_value 10 (without_leading_plus word) else 0)
    by false fails = refl
    by true holds = let takes = accepts-Accepts false (Unsigned 0 greatest_word) word holds in absurd (unsaid (takes.0, omega (arith, takes.3)))

-- No command is as long as what is kept of a line, so what is kept tells which command it is.
use Rattle.std.proofs.Common.{◌≡◌, ℕ, zero, suc, ◌<◌, ◌≤◌, ◌^◌, List, [], ◌∷◌, ◌++◌, length, take, codes, decimal, refl, sym, ap, ◌∙◌, subst, arith, length-append}
use Rattle.std.proofs.lemmas.Fmt.{length-decimal-le}
use Rattle.hs_text.specs.declared.commands.Verb.{Verb}
use Rattle.hs_text.specs.declared.commands.Verb.TheVariants as verb
use Rattle.hs_text.specs.ReplyLines.{verb_text}
use Rattle.hs_text.specs.Commands.{IsName, Order, Open, Write, Reset, Close, Save, Expand, verb_of, name_of, count_of, operands_of, NamesFile, IsCommand}
use Rattle.hs_reader.specs.Reading.{kept_len, kept_of}

short_verb : (v : Verb) → length (verb_text v) ≤ 6
short_verb verb.Open = omega arith
short_verb verb.Write = omega arith
short_verb verb.Reset = omega arith
short_verb verb.Close = omega arith
short_verb verb.Save = omega arith
short_verb verb.Expand = omega arith

short_operands : (order : Order) → IsName (name_of order) → count_of order < 2 ^ 63 → NamesFile order → length (operands_of order) ≤ 97
short_operands (Open name) is small named = omega (arith, is.short)
short_operands (Write name count) is small named =
    omega (arith, is.short, length-append name (codes " " ++ decimal count), length-append (codes " ") (decimal count), length-decimal-le 20 count (omega arith) (omega arith) (omega arith))
short_operands (Reset name) is small named = omega (arith, is.short)
short_operands (Close name) is small named = omega (arith, is.short)
short_operands (Save name file) is small named =
    omega (arith, is.short, named.short, length-append name (codes " " ++ file), length-append (codes " ") file)
short_operands (Expand name file) is small named =
    omega (arith, is.short, named.short, length-append name (codes " " ++ file), length-append (codes " ") file)

command_short : {line : List ℕ} {order : Order} → IsCommand line order → length line < kept_len
command_short {line} {order} is =
    omega (arith, ap length is.whole, length-append (verb_text (verb_of order)) (codes " " ++ operands_of order), length-append (codes " ") (operands_of order), short_verb (verb_of order), short_operands order is.name is.count is.file)

-- what is shorter than it may be is whole
whole_taken : (n : ℕ) (xs : List ℕ) → length (take n xs) < n → take n xs ≡ xs
whole_taken zero xs short = absurd (omega (arith, short))
whole_taken (suc n) [] short = refl
whole_taken (suc n) (x ∷ xs) short = ap (λ l. x ∷ l) (whole_taken n xs (omega (arith, short)))

whole_short : (n : ℕ) (xs : List ℕ) → length xs < n → take n xs ≡ xs
whole_short zero xs short = absurd (omega (arith, short))
whole_short (suc n) [] short = refl
whole_short (suc n) (x ∷ xs) short = ap (λ l. x ∷ l) (whole_short n xs (omega (arith, short)))

-- what is kept is a command, so the line is
pub command-kept : {kept : List ℕ} {order : Order} (line : List ℕ) → kept ≡ kept_of line → IsCommand kept order → IsCommand line order
command-kept {kept} {order} line is command =
    let short : length (take kept_len line) < kept_len = subst (λ l. length l < kept_len) is (command_short command) in
    subst (λ l. IsCommand l order) (is ∙ whole_taken kept_len line short) command

-- where it is none, the line is none
pub no_command-kept : {kept : List ℕ} (line : List ℕ) → kept ≡ kept_of line → ((order : Order) → IsCommand kept order → ⊥) → (order : Order) → IsCommand line order → ⊥
no_command-kept line is none order command =
    none order (subst (λ l. IsCommand l order) (sym (is ∙ whole_short kept_len line (command_short command))) command)

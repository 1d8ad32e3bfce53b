use Rattle.std.proofs.Common.{◌≡◌, ◌<◌, length, get_or, sym, subst, arith}
use Rattle.hs_text.specs.Numbers.{IsNumber}
use Rattle.hs_text.proofs.CommandLemmas.{decimal-number, no_zero_before, number-decimal}
use Rattle.hs_text.proofs.NumberLemmas.{number_once}
use Rattle.hs_text.proofs.command_lines.count_of.Goals as goal

pub returns-then-has_zero_before : goal.returns-then-has_zero_before
returns-then-has_zero_before c = λ count small same.
    no_zero_before count small (subst (λ t. 1 < length t) same c.if-has_zero_before.ensures.0) (subst (λ t. get_or t 0 0 ≡ 48) same c.if-has_zero_before.ensures.1)

pub returns-in_default : goal.returns-in_default
returns-in_default c = λ count small same.
    c.in_default.ensures count (subst (λ t. IsNumber 20 18446744073709551616 t count) (sym same) (decimal-number count small))

pub returns-then-count-gt-MAX_OFFSET : goal.returns-then-count-gt-MAX_OFFSET
returns-then-count-gt-MAX_OFFSET c = λ count small same.
    let value = number_once c.in-Some.ensures (subst (λ t. IsNumber 20 18446744073709551616 t count) (sym same) (decimal-number count small)) in
    omega (arith, value, c.if-count-gt-MAX_OFFSET.true, small)

pub returns-else-count-gt-MAX_OFFSET : goal.returns-else-count-gt-MAX_OFFSET
returns-else-count-gt-MAX_OFFSET c =
    (omega (arith, c.if-count-gt-MAX_OFFSET.false), number-decimal c.args.digits.now c.in-Some.count c.if-has_zero_before.ensures c.in-Some.ensures)

use Rattle.std.proofs.Common.{◌∙◌, sym, arith}
use Rattle.std.proofs.lemmas.List.{at_drop_all}
use Rattle.hs_text.specs.Numbers.{IsDigit, value_from}
use Rattle.hs_text.proofs.CutLemmas.{each-from_index, not_nil}
use Rattle.hs_text.proofs.NumberLemmas.{fits_more}
use Rattle.hs_text.proofs.number.number_of.Goals as goal

pub returns-in_default : goal.returns-in_default
returns-in_default c value h =
    c.in_default.ensures (fits_more 18446744073709551616 c.args.digits.now c.loop-digit.digit-index c.loop-digit.value value (omega arith) c.loop-digit.invariant.kept h.spelled h.small)

pub returns : goal.returns
returns c = record {
  each = each-from_index IsDigit c.args.digits.now (λ k below. c.loop-digit.invariant.each k (omega arith));
  some = not_nil c.args.digits.now (sym c.is_empty.ensures ∙ c.if-is_empty.false);
  short = omega arith;
  spelled = sym c.loop-digit.invariant.kept ∙ at_drop_all (value_from c.loop-digit.value) c.args.digits.now c.loop-digit.digit-index (omega arith);
  small = omega arith;
}

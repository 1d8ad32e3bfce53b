use Rattle.std.proofs.Common.{sym, ◌∙◌, arith}
use Rattle.hs_syntax.proofs.NumberLemmas.{loop_more, loop_done, loop_past}
use Rattle.hs_syntax.proofs.number.number_at.Goals as goal

pub loop-rest-preserved : goal.loop-rest-preserved
loop-rest-preserved c = (
  loop_more _ _ _ _ _ _ _ _ c.loop-rest.invariant.0 c.in-len1-up.len_at_least c.digit_of-digit.ensures
      (sym c.is_more.ensures ∙ c.if-not-is_more.false) c.requires.positive c.with_digit-value.ensures,
  omega arith,
)

pub returns-in_default-clause-is : goal.returns-in_default-clause-is
returns-in_default-clause-is c = loop_past _ _ _ _ _ _ _ c.loop-rest.invariant.0 c.in_default.len_below

pub returns-then-not-is_more-clause-is : goal.returns-then-not-is_more-clause-is
returns-then-not-is_more-clause-is c =
    loop_done _ _ _ _ _ _ _ _ c.loop-rest.invariant.0 c.in-len1-up.len_at_least c.digit_of-digit.ensures
    (sym c.is_more.ensures ∙ c.if-not-is_more.true)

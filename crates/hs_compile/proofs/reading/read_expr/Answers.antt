use Rattle.hs_expr.specs.Meaning.{tree_of}
use Rattle.hs_parse.specs.Faults.{IsParseFault}
use Rattle.hs_parse.proofs.LoopLemmas.{handed_on}
use Rattle.hs_compile.proofs.reading.read_expr.Goals as goal

pub returns-in_err-expr-clause-refused : goal.returns-in_err-expr-clause-refused
returns-in_err-expr-clause-refused c =
    handed_on (IsParseFault c.args.text.now c.args.flags) c.from_residual.result _ c.from_residual.ensures c.in_err-expr.ensures.refused

pub returns-clause-read : goal.returns-clause-read
returns-clause-read c = record {
  expression = tree_of c.in_ok-expr.expr;
  read = c.in_ok-expr.ensures.read;
  lowered = c.in_ok-lowered.ensures.lowered;
}

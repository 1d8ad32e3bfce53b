use Rattle.std.proofs.Common.{◌≡◌, ℕ, List, subst}
use Rattle.hs_base.specs.declared.flags.Flags.{Flags}
use Rattle.hs_expr.specs.declared.expr.Expr.{Expr}
use Rattle.hs_expr.specs.Meaning.{tree_of}
use Rattle.hs_parse.specs.declared.spot.Spot.{Spot}
use Rattle.hs_parse.specs.Spots.{start_of}
use Rattle.hs_parse.specs.Reading.{StopsFrom, ReadsGroup}
use Rattle.hs_parse.specs.Faults.{IsParseFault}
use Rattle.hs_parse.proofs.PathLemmas.{long_fault}
use Rattle.hs_parse.proofs.StopLemmas.{stops_fault}
use Rattle.hs_parse.proofs.LoopLemmas.{text_read, text_closed, handed_on}
use Rattle.hs_parse.proofs.PlainLemmas.{reads-proper}
use Rattle.hs_parse.proofs.parser.parse.Goals as goal

-- read from where the expression begins
read :
    {text : List ℕ} {start : Spot} (flags : Flags) (expr : Expr) (end : Spot) →
    start ≡ start_of flags → ReadsGroup text 0 start (tree_of expr) end → ReadsGroup text 0 (start_of flags) (tree_of expr) end
read {text = text} flags expr end e there = subst (λ (s : Spot). ReadsGroup text 0 s (tree_of expr) end) e there

pub returns-then-text-gt-MAX_TEXT_LEN-clause-refused : goal.returns-then-text-gt-MAX_TEXT_LEN-clause-refused
returns-then-text-gt-MAX_TEXT_LEN-clause-refused c = long_fault c.if-text-gt-MAX_TEXT_LEN.true

pub returns-in_err-expr-clause-refused : goal.returns-in_err-expr-clause-refused
returns-in_err-expr-clause-refused c =
    handed_on (IsParseFault c.args.text.now c.args.flags) c.from_residual.result _ c.from_residual.ensures
    (stops_fault _ c.args.flags _ c.if-text-gt-MAX_TEXT_LEN.false
    (subst (λ (s : Spot). StopsFrom c.args.text.now 0 s c.in_err-expr.field-0.0) c.of.ensures c.in_err-expr.ensures.refused))

pub returns-then-not-is_end-clause-refused : goal.returns-then-not-is_end-clause-refused
returns-then-not-is_end-clause-refused c =
    text_closed _ c.args.flags _ _ c.next_token-found.result c.if-text-gt-MAX_TEXT_LEN.false (read c.args.flags c.in_ok-expr.expr c.in_ok-expr.end c.of.ensures c.in_ok-expr.ensures.read) c.next_token-found.ensures c.if-not-is_end.ensures

pub returns-clause-read : goal.returns-clause-read
returns-clause-read c =
    text_read _ c.args.flags _ _ c.next_token-found.result c.if-text-gt-MAX_TEXT_LEN.false (read c.args.flags c.in_ok-expr.expr c.in_ok-expr.end c.of.ensures c.in_ok-expr.ensures.read) c.next_token-found.ensures c.if-not-is_end.ensures

pub returns-clause-proper : goal.returns-clause-proper
returns-clause-proper c =
    reads-proper
    (text_read _ c.args.flags _ _ c.next_token-found.result c.if-text-gt-MAX_TEXT_LEN.false (read c.args.flags c.in_ok-expr.expr c.in_ok-expr.end c.of.ensures c.in_ok-expr.ensures.read) c.next_token-found.ensures c.if-not-is_end.ensures)

use Rattle.std.proofs.Common.{sym, ◌∙◌, arith}
use Rattle.std.proofs.lemmas.Bool.{false≢true}
use Rattle.hs_base.specs.LiteralView.{literal_byte}
use Rattle.hs_pieces.proofs.SameLemmas.{same-at, same-more}
use Rattle.hs_pieces.proofs.same.same_literal.Goals as goal

pub returns-then-not-same_byte : goal.returns-then-not-same_byte
returns-then-not-same_byte c = (
  λ is. absurd (false≢true is),
  λ same. absurd (false≢true (sym c.if-not-same_byte.true ∙ c.same_byte.ensures.1 (same-at literal_byte c.args.xs.now c.args.ys.now c.loop-k.k c.index-xs-k.result c.index-ys-k.result
      (omega arith) (omega arith) c.index-xs-k.is c.index-ys-k.is same))),
)

pub loop-k-preserved : goal.loop-k-preserved
loop-k-preserved c =
    same-more literal_byte c.args.xs.now c.args.ys.now c.loop-k.k c.index-xs-k.result c.index-ys-k.result
    (omega arith) (omega arith) c.index-xs-k.is c.index-ys-k.is c.loop-k.invariant (c.same_byte.ensures.0 c.if-not-same_byte.false)

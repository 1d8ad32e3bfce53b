use Rattle.std.proofs.Common.{sym, ◌∙◌, arith}
use Rattle.std.proofs.lemmas.Bool.{false≢true}
use Rattle.std.proofs.lemmas.Option.{slice_get-get_or}
use Rattle.hs_pieces.proofs.SameLemmas.{same-there, same-next}
use Rattle.hs_pieces.proofs.same.same_ranges.Goals as goal

pub returns-then-not-same_range : goal.returns-then-not-same_range
returns-then-not-same_range c = (
  λ is. absurd (false≢true is),
  λ same. absurd (false≢true (sym c.if-not-same_range.true ∙ c.same_range.ensures.1 (same-there c.args.xs.now c.args.ys.now c.loop-k.k _ _
      (slice_get-get_or c.args.xs.now c.loop-k.k _ (omega arith)) (slice_get-get_or c.args.ys.now c.loop-k.k _ (omega arith)) same))),
)

pub loop-k-preserved : goal.loop-k-preserved
loop-k-preserved c =
    same-next c.args.xs.now c.args.ys.now c.loop-k.k _ _
    (slice_get-get_or c.args.xs.now c.loop-k.k _ (omega arith)) (slice_get-get_or c.args.ys.now c.loop-k.k _ (omega arith)) c.loop-k.invariant (c.same_range.ensures.0 c.if-not-same_range.false)

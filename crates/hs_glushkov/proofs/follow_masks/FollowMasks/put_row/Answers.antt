use Rattle.std.proofs.Common.{◌&&◌, slice_get, eqb, ap, sym, ◌∙◌, arith}
use Rattle.hs_base.specs.ContextSets.{has_context}
use Rattle.hs_engine.specs.Automata.{in_mask}
use Rattle.hs_glushkov.specs.FollowTables.{is_followed}
use Rattle.hs_glushkov.proofs.FollowLemmas.{range-more, mask-read}
use Rattle.hs_glushkov.proofs.follow_masks.FollowMasks.put_row.Goals as goal

pub loop-to-preserved : goal.loop-to-preserved
loop-to-preserved c = record {
  size = c.put.ensures.size ∙ c.loop-to.invariant.size;
  follows = λ x y h.
      range-more (λ k. eqb x c.args.from && (has_context c.args.mask h && in_mask (slice_get c.args.enters.now k) h)) c.args.low c.loop-to.to y
      (is_followed c.loop-to.self x y h) (is_followed c.put.new.self x y h) (is_followed c.args.self.now x y h)
      (eqb x c.args.from && has_context c.intersection.result h)
      (omega arith)
      (λ same.
      ap (λ b. eqb x c.args.from && b)
      (c.intersection.ensures h
      ∙ ap (λ b. has_context c.args.mask h && b)
      (mask-read c.args.enters.now c.loop-to.to (record { bits = 0 }) h (omega arith) ∙ ap (λ k. in_mask (slice_get c.args.enters.now k) h) (sym same))))
      (c.loop-to.invariant.follows x y h) (c.put.ensures.follows x y h);
}

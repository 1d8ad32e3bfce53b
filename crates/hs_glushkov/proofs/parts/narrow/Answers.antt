use Rattle.std.proofs.Common.{◌&&◌, set, slice_get, refl, ap, sym, ◌∙◌, arith}
use Rattle.std.proofs.lemmas.List.{length-set}
use Rattle.hs_base.specs.ContextSets.{has_context}
use Rattle.hs_engine.specs.Automata.{in_mask}
use Rattle.hs_glushkov.proofs.FollowLemmas.{mask-read, get-set_same, get-set_other}
use Rattle.hs_glushkov.proofs.NarrowLemmas.{narrowed-none, narrowed-more}
use Rattle.hs_glushkov.proofs.parts.narrow.Goals as goal

pub loop-position-init : goal.loop-position-init
loop-position-init c = record {
  len = refl;
  each = λ x h. narrowed-none c.args.low x (has_context c.args.mask h) (in_mask (slice_get c.args.masks.now x) h);
}

pub loop-position-preserved : goal.loop-position-preserved
loop-position-preserved c = record {
  len = length-set c.loop-position.masks c.loop-position.position c.intersection.result ∙ c.loop-position.invariant.len;
  each = λ x h.
      narrowed-more c.args.low c.loop-position.position x (has_context c.args.mask h) (in_mask (slice_get c.args.masks.now x) h)
      (in_mask (slice_get c.loop-position.masks x) h) (in_mask (slice_get (set c.loop-position.masks c.loop-position.position c.intersection.result) x) h)
      (omega arith)
      (λ same.
      ap (λ k. in_mask (slice_get (set c.loop-position.masks c.loop-position.position c.intersection.result) k) h) same
      ∙ (ap (λ o. in_mask o h) (get-set_same c.loop-position.masks c.loop-position.position c.intersection.result (omega (arith, c.loop-position.invariant.len)))
      ∙ (c.intersection.ensures h
      ∙ ap (λ b. b && has_context c.args.mask h)
      (mask-read c.loop-position.masks c.loop-position.position (record { bits = 0 }) h (omega (arith, c.loop-position.invariant.len))
      ∙ ap (λ k. in_mask (slice_get c.loop-position.masks k) h) (sym same)))))
      (λ apart. ap (λ o. in_mask o h) (get-set_other c.loop-position.masks c.loop-position.position x c.intersection.result apart))
      (c.loop-position.invariant.each x h);
}

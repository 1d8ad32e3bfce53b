use Rattle.std.proofs.Common.{◌&&◌, ◌||◌, get_or, slice_get, eqb, ap, sym, ◌∙◌, arith}
use Rattle.hs_base.specs.ContextSets.{has_context}
use Rattle.hs_engine.specs.Automata.{in_mask}
use Rattle.hs_glushkov.specs.Ranges.{is_within}
use Rattle.hs_glushkov.specs.FollowTables.{is_followed}
use Rattle.hs_glushkov.proofs.FollowLemmas.{range-more, and-swapped, mask-read}
use Rattle.hs_glushkov.proofs.follow_masks.FollowMasks.connect.Goals as goal

pub loop-from-preserved : goal.loop-from-preserved
loop-from-preserved c = record {
  size = c.put_row.ensures.size ∙ c.loop-from.invariant.size;
  follows = λ x y h.
      range-more (λ k. is_within c.args.to_low c.args.to_high y && (in_mask (slice_get c.args.accepts.now k) h && in_mask (slice_get c.args.enters.now y) h)) c.args.from_low c.loop-from.from x
      (is_followed c.loop-from.self x y h) (is_followed c.put_row.new.self x y h) (is_followed c.args.self.now x y h)
      (is_within c.args.to_low c.args.to_high y && (in_mask (slice_get c.args.accepts.now c.loop-from.from) h && in_mask (slice_get c.args.enters.now y) h))
      (omega arith)
      (λ same. ap (λ k. is_within c.args.to_low c.args.to_high y && (in_mask (slice_get c.args.accepts.now k) h && in_mask (slice_get c.args.enters.now y) h)) (sym same))
      (c.loop-from.invariant.follows x y h)
      (c.put_row.ensures.follows x y h
      ∙ ap (λ b. b || is_followed c.loop-from.self x y h)
      (and-swapped (is_within c.args.to_low c.args.to_high y) (eqb x c.loop-from.from) (has_context (get_or c.args.accepts.now c.loop-from.from (record { bits = 0 })) h && in_mask (slice_get c.args.enters.now y) h)
      ∙ ap (λ m. eqb x c.loop-from.from && (is_within c.args.to_low c.args.to_high y && (m && in_mask (slice_get c.args.enters.now y) h)))
      (mask-read c.args.accepts.now c.loop-from.from (record { bits = 0 }) h (omega arith))));
}

use Rattle.std.proofs.Common.{slice_get, ap, ◌∙◌}
use Rattle.hs_base.specs.Contexts.{Context, context_number}
use Rattle.hs_engine.specs.Automata.{in_mask}
use Rattle.hs_limex.specs.WordTables.{in_table}
use Rattle.hs_limex.proofs.NumberLemmas.{context-named}
use Rattle.hs_bits.proofs.WordLemmas.{number-more_alone}
use Rattle.hs_limex.proofs.filling.masks_of.Goals as goal

pub loop-number-preserved : goal.loop-number-preserved
loop-number-preserved c =
    let p = c.loop-number.number in
    let (prev, next) = c.context_of-prev.ensures in
    let made : Context = record { prev = c.context_of-prev.result.0; next = c.context_of-prev.result.1 } in
    record {
      count = c.fill_context.ensures.count ∙ c.loop-number.invariant.count;
      width = c.fill_context.ensures.width ∙ c.loop-number.invariant.width;
      bits = λ h k.
          number-more_alone (λ n. in_mask (slice_get c.args.masks.now k) h) (context_number h) p (in_mask (slice_get c.args.masks.now k) made) (in_table c.loop-number.rows (context_number h) k) (in_table c.fill_context.new.rows (context_number h) k)
          (λ same. ap (in_mask (slice_get c.args.masks.now k)) (context-named h c.context_of-prev.result.0 c.context_of-prev.result.1 p same prev next)) (c.loop-number.invariant.bits h k) (c.fill_context.ensures.bits (context_number h) k);
    }

use Rattle.std.proofs.Common.{◌+◌, ◌∙◌, [], ◌∷◌, ap, subst, length, length-append}
use Rattle.hs_base.specs.declared.context.Prev.{Prev}
use Rattle.hs_bits.specs.BlockContexts.{AreContexts}
use Rattle.hs_nodes.specs.Blocks.{block}
use Rattle.hs_nodes.proofs.FirstLemmas.{contexts-more}
use Rattle.hs_nodes.proofs.nulls.chunk_contexts.Goals as goal

pub loop-j-preserved : goal.loop-j-preserved
loop-j-preserved c =
    let j = c.loop-j.j in
    let bytes = c.args.chunk.now.bytes.now in record {
      count = ap length c.in_ok-push.ensures.items ∙ length-append c.loop-j.contexts.items (c.new.result ∷ []) ∙ ap (λ n. n + 1) c.loop-j.invariant.count;
      each = contexts-more c.loop-j.contexts.items c.push.new.self.items c.new.result c.args.chunk.now.prev c.args.chunk.now.at bytes j c.in_ok-push.ensures.items c.loop-j.invariant.count c.loop-j.invariant.each
          (λ u stands. subst (λ (p : Prev). AreContexts c.new.result p (block bytes j)) (c.prev_before.ensures u stands.behind) (subst (λ bs. AreContexts c.new.result c.prev_before.result bs) c.block.ensures.bytes c.new.ensures));
    }

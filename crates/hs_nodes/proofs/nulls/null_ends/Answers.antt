use Rattle.std.proofs.Common.{Option, subst, arith}
use Rattle.hs_base.specs.declared.context.Mask.{Mask}
use Rattle.hs_nodes.specs.Blocks.{block, front}
use Rattle.hs_nodes.specs.Contexts.{IsNull}
use Rattle.hs_nodes.proofs.FirstLemmas.{empty-asked, empty-later, empty-never}
use Rattle.hs_nodes.proofs.RunLemmas.{nowhere-none}
use Rattle.hs_nodes.proofs.nulls.null_ends.Goals as goal

pub returns-then-is_empty_at_start : goal.returns-then-is_empty_at_start
returns-then-is_empty_at_start c tree u null stands = record {
  each = λ j small. empty-later tree u c.args.chunk.now.bytes.now j _ _ _ _ (nowhere-none.before j (omega arith)) (nowhere-none.behind j (omega arith))
      (λ v next long. c.is_empty_at_start.ensures tree v next null c.if-is_empty_at_start.true (omega (arith, long, stands.offset, c.if-chunk-gt0.true)));
}

pub returns-in-None : goal.returns-in-None
returns-in-None c = λ tree u null stands. record {
  each = λ j small. empty-asked _ _ (empty-never tree (front u c.args.chunk.now.bytes.now j) (block c.args.chunk.now.bytes.now j) _ _ (nowhere-none.before j (omega arith)) (nowhere-none.behind j (omega arith)) (subst (λ (n : Option Mask). IsNull n tree) c.in-None.is null));
}

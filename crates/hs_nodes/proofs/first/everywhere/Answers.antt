use Rattle.std.proofs.Common.{◌+◌, [], length, refl, ap, ◌∙◌, arith, length-set}
use Rattle.std.specs.Prelude.{nat_lt}
use Rattle.hs_nodes.specs.Blocks.{block, front}
use Rattle.hs_nodes.specs.Left.{AreLeft}
use Rattle.hs_nodes.proofs.FirstLemmas.{left-empty, left-everywhere, told-all, told-more}
use Rattle.hs_nodes.proofs.RunLemmas.{ends-more, nowhere-more, nowhere-none}
use Rattle.hs_nodes.proofs.first.everywhere.Goals as goal

pub loop-j-init : goal.loop-j-init
loop-j-init c = record { befores = refl; behinds = refl; nowhere = nowhere-none; told = λ u j low. absurd (omega arith) }

pub loop-j-preserved : goal.loop-j-preserved
loop-j-preserved c =
    let j = c.loop-j.j in
    let inv = c.loop-j.invariant in
    let bytes = c.args.chunk.now.bytes.now in
    let more = ends-more c.loop-j.ends.before c.loop-j.ends.behind j c.low_places-all.result c.low_places-all.result (omega (arith, inv.befores, c.blocks-j-end.ensures.few)) (omega (arith, inv.behinds, c.blocks-j-end.ensures.few)) in record {
      befores = simp length-set inv.befores;
      behinds = simp length-set inv.behinds;
      nowhere = nowhere-more _ _ j (j + 1) _ _ refl more inv.nowhere;
      told = λ u.
          told-more (λ k before behind. AreLeft [] (front u bytes k) (block bytes k) before behind) c.loop-j.ends _ j (j + 1) c.low_places-all.result c.low_places-all.result refl more
          (left-everywhere (front u bytes j) (block bytes j) c.low_places-all.result (λ i. c.low_places-all.ensures i ∙ ap (λ n. nat_lt i n) (ap length c.block.ensures.bytes))) (inv.told u);
    }

pub returns : goal.returns
returns c = λ u. record {
  each = λ j small. told-all (λ k before behind. AreLeft [] (front u c.args.chunk.now.bytes.now k) (block c.args.chunk.now.bytes.now k) before behind) c.args.chunk.now.bytes.now c.loop-j.ends c.loop-j.j (omega (arith, c.blocks-j-end.ensures.count)) c.loop-j.invariant.nowhere
      (λ k none. left-empty (front u c.args.chunk.now.bytes.now k) (block c.args.chunk.now.bytes.now k) none) (c.loop-j.invariant.told u) j;
}

use Rattle.std.proofs.Common.{◌+◌, refl, arith, length-set, slice_index}
use Rattle.hs_nodes.specs.Blocks.{block, front}
use Rattle.hs_nodes.specs.Pieces.{AreEmptyAt}
use Rattle.hs_nodes.proofs.FirstLemmas.{empty-asked, empty-past, told-all, told-more}
use Rattle.hs_nodes.proofs.RunLemmas.{ends-more, nowhere-more}
use Rattle.hs_nodes.proofs.nulls.mask_ends.Goals as goal

pub loop-j-preserved : goal.loop-j-preserved
loop-j-preserved c =
    let j = c.loop-j.j in
    let inv = c.loop-j.invariant in
    let bytes = c.args.chunk.now.bytes.now in
    let enters = c.args.enters.now in
    let own = c.mask_words-own in
    let more = ends-more c.loop-j.ends.before c.loop-j.ends.behind j own.result.before own.result.behind (omega (arith, inv.befores, c.blocks-j-end.ensures.few)) (omega (arith, inv.behinds, c.blocks-j-end.ensures.few)) in record {
      befores = simp length-set inv.befores;
      behinds = simp length-set inv.behinds;
      nowhere = nowhere-more _ _ j (j + 1) _ _ refl more inv.nowhere;
      told = λ tree u null stands.
          told-more (λ k before behind. AreEmptyAt tree (front u bytes k) (block bytes k) (slice_index enters.before k) (slice_index enters.behind k) before behind) c.loop-j.ends _ j (j + 1) own.result.before own.result.behind refl more
          (own.ensures tree u null stands) (inv.told tree u null stands);
    }

pub returns : goal.returns
returns c = λ tree u null stands. record {
  each = λ j small. told-all (λ k before behind. AreEmptyAt tree (front u c.args.chunk.now.bytes.now k) (block c.args.chunk.now.bytes.now k) (slice_index c.args.enters.now.before k) (slice_index c.args.enters.now.behind k) before behind) c.args.chunk.now.bytes.now c.loop-j.ends c.loop-j.j
      (omega (arith, c.blocks-j-end.ensures.count)) c.loop-j.invariant.nowhere (λ k none. empty-asked _ _ (empty-past tree (front u c.args.chunk.now.bytes.now k) (block c.args.chunk.now.bytes.now k) none)) (c.loop-j.invariant.told tree u null stands) j;
}

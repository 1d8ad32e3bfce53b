use Rattle.std.proofs.Common.{◌+◌, length, refl, sym, ap, arith, bit_and, length-set, slice_index}
use Rattle.hs_nodes.specs.Blocks.{block, front}
use Rattle.hs_nodes.specs.Left.{AreLeft}
use Rattle.hs_nodes.proofs.FirstLemmas.{told-all, told-more}
use Rattle.hs_nodes.proofs.PairLemmas.{block-left, past-left}
use Rattle.hs_nodes.proofs.RunLemmas.{ends-more, nowhere-more, nowhere-none}
use Rattle.hs_nodes.proofs.PastLemmas.{unhit-nowhere}
use Rattle.hs_nodes.proofs.look_back.ends_of.Goals as goal

pub loop-j-init : goal.loop-j-init
loop-j-init c = record { befores = refl; behinds = refl; nowhere = nowhere-none; told = λ pieces u are k low. absurd (omega arith) }

pub loop-j-preserved : goal.loop-j-preserved
loop-j-preserved c =
    let j = c.loop-j.j in
    let inv = c.loop-j.invariant in
    let bytes = c.args.chunk.now.bytes.now in
    let left = c.args.left.now in
    let all = c.low_places-all.result in
    let before = bit_and all c.before_block.result in
    let behind = bit_and all (slice_index left.behind j) in
    let more = ends-more c.loop-j.ends.before c.loop-j.ends.behind j before behind (omega (arith, inv.befores, c.blocks-j-end.ensures.few)) (omega (arith, inv.behinds, c.blocks-j-end.ensures.few)) in
    record {
      befores = simp length-set inv.befores;
      behinds = simp length-set inv.behinds;
      nowhere = nowhere-more _ _ j (j + 1) _ _ refl more inv.nowhere;
      told = λ pieces u are.
          told-more (λ k before behind. AreLeft pieces (front u bytes k) (block bytes k) before behind) c.loop-j.ends _ j (j + 1) before behind refl more
          (block-left left pieces u bytes j (length c.block.result.now) all c.before_block.result (slice_index left.behind j) (ap length (sym c.block.ensures.bytes)) c.low_places-all.ensures c.before_block.ensures refl are) (inv.told pieces u are);
    }

pub returns-then-is_nowhere : goal.returns-then-is_nowhere
returns-then-is_nowhere c pieces u are = unhit-nowhere c.args.left.now pieces u c.args.chunk.now.bytes.now (c.is_nowhere.ensures c.if-is_nowhere.true) are

pub returns : goal.returns
returns c pieces u are = record {
  each = λ j small. told-all (λ k before behind. AreLeft pieces (front u c.args.chunk.now.bytes.now k) (block c.args.chunk.now.bytes.now k) before behind) c.args.chunk.now.bytes.now c.loop-j.ends c.loop-j.j (omega (arith, c.blocks-j-end.ensures.count)) c.loop-j.invariant.nowhere
      (λ k none. past-left pieces (front u c.args.chunk.now.bytes.now k) (block c.args.chunk.now.bytes.now k) none) (c.loop-j.invariant.told pieces u are) j;
}

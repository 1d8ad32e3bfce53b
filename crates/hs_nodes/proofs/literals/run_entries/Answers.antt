use Rattle.std.proofs.Common.{◌+◌, ◌*◌, length, take, refl, subst, arith, length-set}
use Rattle.hs_nodes.specs.Hits.{IsCarryAt}
use Rattle.hs_nodes.proofs.LiteralLemmas.{carry-on, literal-all, literal-more, literal-none}
use Rattle.hs_nodes.proofs.RunLemmas.{ends-more, nowhere-more, nowhere-none, reach-all, reach-more, reach-upto}
use Rattle.hs_nodes.proofs.literals.run_entries.Goals as goal

pub loop-j-init : goal.loop-j-init
loop-j-init c = record {
  befores = refl;
  behinds = refl;
  nowhere = nowhere-none;
  takes = literal-none c.args.len c.args.carry.now c.args.chunk.now.bytes.now c.args.hits.now c.args.enters.now _;
  well = λ well. subst (λ n. IsCarryAt c.args.len c.args.carry.now n) (omega arith) well;
}

pub loop-j-preserved : goal.loop-j-preserved
loop-j-preserved c =
    let j = c.loop-j.j in
    let inv = c.loop-j.invariant in
    let bytes = c.args.chunk.now.bytes.now in
    let more = ends-more c.loop-j.ends.before c.loop-j.ends.behind j _ _ (omega (arith, inv.befores, c.blocks-j-end.ensures.few)) (omega (arith, inv.behinds, c.blocks-j-end.ensures.few)) in record {
      befores = simp length-set inv.befores;
      behinds = simp length-set inv.behinds;
      nowhere = nowhere-more _ _ j (j + 1) _ _ refl more inv.nowhere;
      takes =
          literal-more c.args.len c.args.carry.now c.loop-j.carry bytes c.block-bytes.result.now c.args.hits.now c.of_block.result c.args.enters.now c.loop-j.ends _ j (j + 1) c.run_literal-run.result c.requires.some (omega arith) (omega (arith, c.blocks-j-end.ensures.few)) refl
          c.block-bytes.ensures.bytes c.block-bytes.ensures.few c.block-bytes.ensures.within c.of_block.ensures c.run_literal-run.ensures.runs more inv.takes;
      well = λ well.
          carry-on c.args.len c.loop-j.carry c.run_literal-run.result.carry _ (c.args.chunk.now.at + length (take (64 * j) bytes)) (length c.block-bytes.result.now) (c.args.chunk.now.at + length (take (64 * (j + 1)) bytes)) (inv.well well)
          (omega (arith, reach-more bytes c.block-bytes.result.now j (j + 1) c.args.chunk.now.at refl (omega arith) c.block-bytes.ensures.bytes, reach-upto bytes j (omega arith))) c.run_literal-run.ensures.carry;
    }

pub returns-clause-takes : goal.returns-clause-takes
returns-clause-takes c =
    literal-all c.args.len c.args.carry.now c.loop-j.carry c.args.chunk.now.bytes.now c.args.hits.now c.args.enters.now c.loop-j.ends c.loop-j.j (omega (arith, c.blocks-j-end.ensures.count)) c.loop-j.invariant.nowhere c.loop-j.invariant.takes

pub returns-clause-well : goal.returns-clause-well
returns-clause-well c = λ well. subst (λ n. IsCarryAt c.args.len c.loop-j.carry (c.args.chunk.now.at + n)) (reach-all c.args.chunk.now.bytes.now c.loop-j.j (omega (arith, c.blocks-j-end.ensures.count))) (c.loop-j.invariant.well well)

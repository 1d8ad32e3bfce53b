use Rattle.std.proofs.Common.{◌+◌, ◌*◌, ◌<◌, length, refl, subst, arith, length-set}
use Rattle.std.proofs.lemmas.List.{length-take-le}
use Rattle.hs_waking.specs.Starts.{start_word}
use Rattle.hs_nodes.proofs.EnteredLemmas.{entered-all, entered-more, entered-none}
use Rattle.hs_nodes.proofs.PooledLemmas.{keeps-none, keeps-then}
use Rattle.hs_nodes.proofs.RunLemmas.{ends-more, nowhere-more, nowhere-none, reach-all, reach-more, steps-more}
use Rattle.hs_nodes.proofs.engines.run_first.Goals as goal

pub loop-j-init : goal.loop-j-init
loop-j-init g c = record {
  len = c.requires.len;
  well = subst (λ n. (g.E.Engine.meaning c.args.numbered.now.engine.now).well c.args.region.now n) (omega arith) c.requires.well;
  befores = refl;
  behinds = refl;
  pool = c.requires.pool;
  others = keeps-none g.E.Engine.meaning c.args.numbered.now.number c.args.pool.now;
  nowhere = nowhere-none;
  steps = omega arith;
  runs = entered-none (g.E.Engine.meaning c.args.numbered.now.engine.now) c.args.region.now c.args.chunk.now.prev c.args.chunk.now.at c.args.chunk.now.bytes.now (start_word c.args.starts.now c.args.k) _;
}

pub run_block-own-requires-clause-well : goal.run_block-own-requires-clause-well
run_block-own-requires-clause-well g c =
    let low : 64 * c.loop-j.j < length c.args.chunk.now.bytes.now = c.blocks-j-end.ensures.some c.loop-j.j c.loop-j-test.true in
    subst (λ n. (g.E.Engine.meaning c.args.numbered.now.engine.now).well c.loop-j.region (c.args.chunk.now.at + n)) (length-take-le (64 * c.loop-j.j) c.args.chunk.now.bytes.now (omega (arith, low))) c.loop-j.invariant.well

pub run_block-own-requires-clause-room : goal.run_block-own-requires-clause-room
run_block-own-requires-clause-room g c = omega (arith, c.args.chunk.now.room, c.block-bytes.ensures.within)

pub loop-j-preserved : goal.loop-j-preserved
loop-j-preserved g c =
    let j = c.loop-j.j in
    let inv = c.loop-j.invariant in
    let more = ends-more c.loop-j.ends.before c.loop-j.ends.behind j _ _ (omega (arith, inv.befores, c.blocks-j-end.ensures.few)) (omega (arith, inv.behinds, c.blocks-j-end.ensures.few)) in record {
      len = c.run_block-own.ensures.len;
      well = subst (λ n. (g.E.Engine.meaning c.args.numbered.now.engine.now).well c.run_block-own.new.region n) (reach-more c.args.chunk.now.bytes.now c.block-bytes.result.now j (j + 1) c.args.chunk.now.at refl (omega arith) c.block-bytes.ensures.bytes) c.run_block-own.ensures.well;
      befores = simp length-set inv.befores;
      behinds = simp length-set inv.behinds;
      pool = c.run_block-own.ensures.pool;
      others = keeps-then g.E.Engine.meaning c.args.numbered.now.number c.args.pool.now c.loop-j.pool c.run_block-own.new.pool inv.others c.run_block-own.ensures.others;
      nowhere = nowhere-more _ _ j (j + 1) _ _ refl more inv.nowhere;
      steps =
          steps-more c.args.chunk.now.bytes.now c.block-bytes.result.now j (j + 1) c.args.steps.now c.loop-j.steps c.run_block-own.new.steps refl (omega arith) c.block-bytes.ensures.bytes c.run_block-own.ensures.ticks inv.steps;
      runs =
          entered-more (g.E.Engine.meaning c.args.numbered.now.engine.now) c.args.region.now c.loop-j.region c.run_block-own.new.region c.args.chunk.now.prev c.args.chunk.now.at (c.args.chunk.now.at + 64 * j) c.args.chunk.now.bytes.now c.block-bytes.result.now
          (start_word c.args.starts.now c.args.k) c.word.result c.loop-j.ends _ j (j + 1) c.run_block-own.result (omega arith) refl c.block-bytes.ensures.bytes refl c.word.ensures c.run_block-own.ensures.scans more inv.runs;
    }

pub returns-clause-runs : goal.returns-clause-runs
returns-clause-runs g c =
    entered-all (g.E.Engine.meaning c.args.numbered.now.engine.now) c.args.region.now c.loop-j.region c.args.chunk.now.prev c.args.chunk.now.at c.args.chunk.now.bytes.now (start_word c.args.starts.now c.args.k) c.loop-j.ends c.loop-j.j (omega (arith, c.blocks-j-end.ensures.count))
    c.loop-j.invariant.nowhere c.loop-j.invariant.runs

pub returns-clause-well : goal.returns-clause-well
returns-clause-well g c =
    subst (λ n. (g.E.Engine.meaning c.args.numbered.now.engine.now).well c.loop-j.region (c.args.chunk.now.at + n)) (reach-all c.args.chunk.now.bytes.now c.loop-j.j (omega (arith, c.loop-j-test.false, c.blocks-j-end.ensures.count))) c.loop-j.invariant.well

pub returns-clause-ticks : goal.returns-clause-ticks
returns-clause-ticks g c = omega (arith, reach-all c.args.chunk.now.bytes.now c.loop-j.j (omega (arith, c.loop-j-test.false, c.blocks-j-end.ensures.count)), c.loop-j.invariant.steps)

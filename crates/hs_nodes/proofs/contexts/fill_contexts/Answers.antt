use Rattle.std.proofs.Common.{◌+◌, ℕ, length, refl, subst, arith, length-set}
use Rattle.hs_base.specs.Contexts.{prev_at}
use Rattle.hs_bits.specs.BlockContexts.{AreContexts}
use Rattle.hs_nodes.specs.Blocks.{front}
use Rattle.hs_nodes.proofs.FillLemmas.{filled-all, filled-more, filled-none}
use Rattle.hs_nodes.proofs.contexts.fill_contexts.Goals as goal

pub loop-j-init : goal.loop-j-init
loop-j-init c = filled-none c.args.contexts.now c.args.chunk.now.prev c.args.chunk.now.at c.args.chunk.now.bytes.now c.requires.room

pub loop-j-preserved : goal.loop-j-preserved
loop-j-preserved c =
    let chunk = c.args.chunk.now in
    let j : ℕ = c.loop-j.j in
    filled-more c.loop-j.contexts chunk.prev chunk.at chunk.bytes.now j (j + 1) c.new.result refl (omega arith) (simp length-set)
    (λ u stands.
    subst (λ xs. AreContexts c.new.result (prev_at (front u chunk.bytes.now j) (length (front u chunk.bytes.now j))) xs) c.block.ensures.bytes
    (subst (λ p. AreContexts c.new.result p c.block.result.now) (c.prev_before.ensures u stands.behind) c.new.ensures)) c.loop-j.invariant

pub returns-clause-are : goal.returns-clause-are
returns-clause-are c =
    filled-all c.loop-j.contexts c.args.chunk.now.prev c.args.chunk.now.at c.args.chunk.now.bytes.now c.loop-j.j (omega (arith, c.blocks-j-end.ensures.count)) c.loop-j.invariant

use Rattle.std.proofs.Common.{[], ◌∷◌}
use Rattle.hs_base.specs.Chains.{lit, nfa}
use Rattle.hs_nodes.proofs.PastLemmas.{pair-past}
use Rattle.hs_nodes.proofs.look_back.run_pair.Goals as goal

pub returns-clause-takes : goal.returns-clause-takes
returns-clause-takes g c tree xs u is = c.ends_of.ensures (nfa tree ∷ lit xs ∷ []) u (c.find_pair-left.ensures.finds tree xs u is)

pub returns-then-is_past-clause-takes : goal.returns-then-is_past-clause-takes
returns-then-is_past-clause-takes g c =
    let chunk = c.args.chunk.now in
    let pair = c.args.pair.now in
    pair-past (g.E.Engine.meaning c.args.engine.now) pair chunk.at chunk.past.now chunk.bytes.now c.args.hits.now c.requires.some c.requires.short c.requires.edges (c.is_past.ensures.begins c.if-is_past.true) (c.is_past.ensures.far c.if-is_past.true)

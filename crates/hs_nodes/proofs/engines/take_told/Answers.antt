use Rattle.std.proofs.Common.{◌+◌, length, refl, ap, ◌∙◌, arith, length-set}
use Rattle.std.specs.Prelude.{nat_lt}
use Rattle.hs_nodes.specs.Starting.{IsToldIn}
use Rattle.hs_nodes.proofs.FirstLemmas.{told-all, told-more}
use Rattle.hs_nodes.proofs.RunLemmas.{ends-more, nowhere-more, nowhere-none}
use Rattle.hs_nodes.proofs.ToldLemmas.{told-in, told-past}
use Rattle.hs_nodes.proofs.engines.take_told.Goals as goal

pub loop-j-init : goal.loop-j-init
loop-j-init c = record { befores = refl; behinds = refl; nowhere = nowhere-none; tells = λ t is j low. absurd (omega arith) }

pub loop-j-preserved : goal.loop-j-preserved
loop-j-preserved c =
    let j = c.loop-j.j in
    let inv = c.loop-j.invariant in
    let bytes = c.args.chunk.now.bytes.now in
    let more = ends-more c.loop-j.ends.before c.loop-j.ends.behind j _ _ (omega (arith, inv.befores, c.blocks-j-end.ensures.few)) (omega (arith, inv.behinds, c.blocks-j-end.ensures.few)) in record {
      befores = simp length-set inv.befores;
      behinds = simp length-set inv.behinds;
      nowhere = nowhere-more _ _ j (j + 1) _ _ refl more inv.nowhere;
      tells = λ t is.
          told-more (λ k before behind. IsToldIn bytes t k before behind) c.loop-j.ends _ j (j + 1) _ _ refl more
          (told-in bytes c.ends-told.result.before c.ends-told.result.behind t j c.low_places-all.result (omega (arith, c.blocks-j-end.ensures.few)) (λ i. c.low_places-all.ensures i ∙ ap (λ n. nat_lt i n) (ap length c.block.ensures.bytes)) (λ i low. c.ends-told.ensures.before t i is low) (λ i low. c.ends-told.ensures.behind t i is low))
          (inv.tells t is);
    }

pub returns-clause-ends : goal.returns-clause-ends
returns-clause-ends c t is =
    told-all (λ k before behind. IsToldIn c.args.chunk.now.bytes.now t k before behind) c.args.chunk.now.bytes.now c.loop-j.ends c.loop-j.j (omega (arith, c.blocks-j-end.ensures.count)) c.loop-j.invariant.nowhere (told-past c.args.chunk.now.bytes.now t) (c.loop-j.invariant.tells t is)

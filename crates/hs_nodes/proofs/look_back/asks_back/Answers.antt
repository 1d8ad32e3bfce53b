use Rattle.std.proofs.Common.{◌≡◌, ◌↔◌, ℕ, ◌+◌, ◌-◌, ◌≤◌, ◌||◌, true, [], ◌∷◌, ◌++◌, length, take, slice_index, ap, subst, arith, length-append}
use Rattle.std.proofs.lemmas.List.{length-take-le}
use Rattle.hs_base.specs.declared.context.Next.{Next}
use Rattle.hs_base.specs.Chains.{nfa}
use Rattle.hs_base.specs.Contexts.{class_of}
use Rattle.hs_base.specs.Leaving.{LeavesAt}
use Rattle.hs_nodes.proofs.LookLemmas.{back-leaves, prev-take, window-class}
use Rattle.hs_nodes.proofs.look_back.asks_back.Goals as goal

pub returns-clause-leaves : goal.returns-clause-leaves
returns-clause-leaves g c tree rest u runs null narrow fit is =
    let m = g.E.Engine.meaning c.args.engine.now in
    let past = c.args.chunk.now.past.now in
    let bytes = c.args.chunk.now.bytes.now in
    let w = u ++ bytes in
    let n : ℕ = length u + c.args.place - 64 in
    let long : length w ≡ length u + length bytes = length-append u bytes in
    let within : n ≤ length w = omega (arith, long, c.requires.high) in
    let size : length (take n w) ≡ n = length-take-le n w within in
    let both = c.run_back-prev.ensures.runs tree u runs is in
    let stands = prev-take w n c.run_back-prev.result within both.1 in
    let next : c.class_of-next.result ≡ class_of (slice_index w n) = window-class u past bytes n c.args.place c.byte_at.result c.class_of-next.result is.past_is (omega (arith, is.offset, c.requires.within)) c.byte_at.ensures c.class_of-next.ensures in
    let result = c.contains.result || c.is_empty_between.result in
    subst (λ (x : Next). (result ≡ true) ↔ LeavesAt (nfa tree ∷ []) (take n w) x) next
    (back-leaves m tree rest (take n w) c.run_back-prev.new.part c.run_back-prev.result (c.args.chunk.now.at + c.args.place - 64) c.out-out.result c.class_of-next.result c.is_empty_between.result result runs narrow fit both.0 stands
    (omega (arith, is.offset, size)) c.out-out.ensures.leaves (c.is_empty_between.ensures tree (take n w) null stands) (ap (λ b. b || c.is_empty_between.result) c.contains.ensures))

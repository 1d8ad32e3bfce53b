use Rattle.std.proofs.Common.{◌≡◌, ◌↔◌, ℕ, ◌+◌, ◌-◌, ◌≤◌, true, [], ◌∷◌, ◌++◌, length, take, slice_index, sym, subst, ◌∙◌, arith, length-append}
use Rattle.hs_base.specs.Chains.{nfa}
use Rattle.hs_base.specs.Contexts.{class_of, prev_at}
use Rattle.hs_base.specs.Leaving.{LeavesAt}
use Rattle.hs_nodes.specs.Blocks.{prev_by_count}
use Rattle.hs_nodes.specs.LookBacks.{EndsNowhere}
use Rattle.hs_nodes.proofs.EdgeLemmas.{empty-leaves, nowhere-ends}
use Rattle.hs_nodes.proofs.LookLemmas.{prev-take, window-byte, window-prev}
use Rattle.hs_nodes.proofs.look_back.leaves_back.Goals as goal

pub returns-then-ends_nowhere-clause-leaves : goal.returns-then-ends_nowhere-clause-leaves
returns-then-ends_nowhere-clause-leaves g c tree rest u runs null narrow fit is =
    let m = g.E.Engine.meaning c.args.engine.now in
    let pair = c.args.pair.now in
    let past = c.args.chunk.now.past.now in
    let bytes = c.args.chunk.now.bytes.now in
    let w = u ++ bytes in
    let n : ℕ = length u + c.args.place - 64 in
    let offset : ℕ = c.args.chunk.now.at + c.args.place - 64 in
    let long : length w ≡ length u + length bytes = length-append u bytes in
    let within : n ≤ length w = omega (arith, long, c.requires.high) in
    let here : offset ≡ n = omega (arith, is.offset) in
    let byte = c.byte_at-byte.result in
    let next = class_of (slice_index (past ++ bytes) c.args.place) in
    let why : EndsNowhere pair.behind pair.last n byte = subst (λ (k : ℕ). EndsNowhere pair.behind pair.last k byte) here (c.ends_nowhere.ensures c.if-ends_nowhere.true) in
    let behind = prev-take w n (prev_by_count n byte) within
    (window-prev u past bytes n (c.args.place - 1) byte is.past_is within (omega (arith, c.requires.low, is.offset, c.requires.within)) c.byte_at-byte.ensures) in
    let stands : prev_by_count offset byte ≡ prev_at (take n w) (length (take n w)) = subst (λ (k : ℕ). prev_by_count k byte ≡ prev_at (take n w) (length (take n w))) (sym here) behind in
    let same = window-byte u past bytes n c.args.place is.past_is (omega (arith, is.offset, c.requires.within)) in
    let none = nowhere-ends m tree pair.behind pair.last runs narrow c.requires.edges w n byte next is.small within
    (λ k next. sym (c.byte_at-byte.ensures ∙ window-byte u past bytes k (c.args.place - 1) is.past_is (omega (arith, next, c.requires.low, is.offset, c.requires.within)))) why in
    subst (λ (b : ℕ). (c.is_empty_before.result ≡ true) ↔ LeavesAt (nfa tree ∷ []) (take n w) (class_of b)) same
    (empty-leaves tree rest (take n w) next c.is_empty_before.result fit none (c.is_empty_before.ensures tree (take n w) null stands))

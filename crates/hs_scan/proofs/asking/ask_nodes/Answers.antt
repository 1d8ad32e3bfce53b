use Rattle.std.proofs.Common.{◌≡◌, ◌+◌, ℕ, ◌++◌, length, take, drop, refl, sym, ap, subst, ◌∙◌, arith}
use Rattle.hs_nodes.specs.Left.{nowhere}
use Rattle.hs_nodes.specs.Walks.{node_ends}
use Rattle.hs_nodes.specs.Leaving.{LeavesNodes}
use Rattle.hs_nodes.specs.Gathering.{AreGathered}
use Rattle.hs_scan.proofs.AskLemmas.{asks-table}
use Rattle.hs_nodes.proofs.FillLemmas.{whole}
use Rattle.hs_scan.proofs.asking.ask_nodes.Goals as goal

pub gather_all-requires-clause-nowhere : goal.gather_all-requires-clause-nowhere
gather_all-requires-clause-nowhere g c off k =
    let s = c.args.scratch.now in
    let left = c.leave_nodes-is_any.new.ends in
    let len : length left ≡ length s.ends.items = c.leave_nodes-is_any.ensures.count ∙ ap length c.deref_mut.ensures.value in
    subst (λ es. node_ends es k ≡ nowhere) (sym (c.deref-2.ensures.value ∙ whole left s.ends.items s.ends.len len (omega (arith, s.ends.ok)))) (c.leave_nodes-is_any.ensures.none off k)

pub forget_if-requires : goal.forget_if-requires
forget_if-requires g c off k =
    let s = c.args.scratch.now in
    let left = c.leave_nodes-is_any.new.ends in
    let len : length left ≡ length s.ends.items = c.leave_nodes-is_any.ensures.count ∙ ap length c.deref_mut.ensures.value in
    subst (λ es. node_ends es k ≡ nowhere) (sym (c.deref_mut-2.ensures.value ∙ whole left s.ends.items s.ends.len len (omega (arith, s.ends.ok)))) (c.leave_nodes-is_any.ensures.none off k)

pub returns-clause-asks : goal.returns-clause-asks
returns-clause-asks g c =
    let m = g.E.Engine.meaning in
    let graph = c.args.graph.now in
    let region = c.args.region.now in
    let s = c.args.scratch.now in
    let nodes : ℕ = length graph.table.nodes.items in
    let room = c.requires.room in
    let left = c.leave_nodes-is_any.new.ends in
    let size : s.ends.len ≡ length s.ends.items = omega (arith, s.ends.ok) in
    let len : length left ≡ length s.ends.items = c.leave_nodes-is_any.ensures.count ∙ ap length c.deref_mut.ensures.value in
    let now : take s.ends.len (left ++ drop (length left) s.ends.items) ≡ left = whole left s.ends.items s.ends.len len size in
    let mid = take s.ends.len (left ++ drop (length left) s.ends.items) in
    let mid_len : length mid ≡ length s.ends.items = ap length now ∙ len in
    let last = c.forget_if.new.ends in
    let last_len : length last ≡ length mid = c.forget_if.ensures.len ∙ ap length c.deref_mut-2.ensures.value in
    let then : take s.ends.len (last ++ drop (length last) mid) ≡ last = whole last mid s.ends.len last_len (size ∙ sym mid_len) in
    let gathered = subst (λ es. AreGathered m graph es c.ends_if.result s.at 0 (nodes + 1) c.gather_all.new.table) (c.deref-2.ensures.value ∙ now) c.gather_all.ensures.gathered in
    let leaves = subst (λ hs. LeavesNodes m graph.table region c.prev_of.result s.at s.past c.args.next hs left nodes) c.deref.ensures.value c.leave_nodes-is_any.ensures.left in
    record {
      room = record {
        room = record {
          count = ap length then ∙ (last_len ∙ (mid_len ∙ room.room.count));
          clear = subst (λ es. (k : ℕ) → node_ends es k ≡ nowhere) (sym then) c.forget_if.ensures.nowhere;
          room = room.room.room;
          below = room.room.below;
        };
        hits = room.hits;
        known = room.known;
        finals = c.gather_all.ensures.count ∙ room.finals;
        last = room.last;
        past = room.past;
      };
      hits = refl;
      rows = refl;
      starts = refl;
      course = refl;
      last = refl;
      past = refl;
      at_is = refl;
      asks = asks-table m graph c.requires.sound left c.ends_if.result c.args.next (len ∙ room.room.count) c.ends_if.ensures c.prev_of.result s.at s.past region s.hits.items c.gather_all.new.table c.prev_of.ensures leaves gathered;
    }

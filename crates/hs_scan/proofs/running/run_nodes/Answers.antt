use Rattle.std.proofs.Common.{◌≡◌, false, ◌++◌, List, length, slice_get, take, drop, sym, ap, subst, ◌∙◌, arith}
use Rattle.hs_nodes.proofs.FillLemmas.{whole}
use Rattle.hs_nodes.proofs.SettleLemmas.{resting-may, resting-stay}
use Rattle.hs_nodes.proofs.TickLemmas.{nodes-most}
use Rattle.hs_nodes.proofs.WakeLemmas.{resting-more}
use Rattle.hs_nodes.specs.declared.chunk.Chunk.{Chunk}
use Rattle.hs_nodes.specs.declared.hits.ChunkHits.{ChunkHits}
use Rattle.hs_nodes.specs.Resting.{AreNodesUnwoken}
use Rattle.hs_nodes.specs.Cached.{TellsNodes}
use Rattle.hs_nodes.specs.Starting.{AreStartsEnough}
use Rattle.hs_nodes.specs.Walks.{ChangesMarked, MayNodesRest, TakesNodes}
use Rattle.hs_nodes.specs.Lone.{is_spent_node}
use Rattle.hs_nodes.specs.Openings.{AreOthersSound, is_passed}
use Rattle.hs_scan.specs.Hits.{sought}
use Rattle.hs_scan.proofs.OpeningLemmas.{may-pass, others-sound, sought-get, sought-nowhere}
use Rattle.hs_scan.specs.Spending.{spent_in}
use Rattle.hs_scan.proofs.SpendingLemmas.{takes-fewer}
use Rattle.hs_scan.proofs.WakingLemmas.{nowhere-ends}
use Rattle.hs_scan.proofs.running.run_nodes.Goals as goal

pub invariant_of-foretold : goal.invariant_of-foretold
invariant_of-foretold g c = record {
  unhit = λ number unmarked own at i.
      let hits = c.args.scratch.now.hits.items in
      let openings = c.args.graph.now.openings in
      let same : c.sought_hits.result.now ≡ sought c.args.are_over openings hits = c.sought_hits.ensures ∙ ap (sought c.args.are_over openings) c.deref-2.ensures.value in
      nowhere-ends hits number own (c.requires.others number (sym (c.ending.ensures.marks number) ∙ unmarked)) (sought-get c.args.are_over openings hits number own (ap (λ (hs : List ChunkHits). slice_get hs number) (sym same) ∙ at)) i;
}

pub walk-requires-clause-rests : goal.walk-requires-clause-rests
walk-requires-clause-rests g c =
    let m = g.E.Engine.meaning in
    let s = c.args.scratch.now in
    let graph = c.args.graph.now in
    let bytes = c.args.chunk.now.bytes.now in
    let hits = sought c.args.are_over graph.openings s.hits.items in
    let same : c.sought_hits.result.now ≡ hits = c.sought_hits.ensures ∙ ap (sought c.args.are_over graph.openings) c.deref-2.ensures.value in
    let rests = resting-more m graph.table (length graph.table.nodes.items) s.course.marks c.wake.new.marks c.args.region.now c.wake.ensures.more c.requires.before.resting in
    subst (λ hs. MayNodesRest m graph.table c.wake.new.marks hs c.args.region.now c.args.chunk.now.prev bytes) (sym same)
    (resting-may m graph.table c.wake.new.marks hits c.args.region.now bytes c.args.chunk.now.prev c.requires.small rests (subst (λ (chunk : Chunk). AreNodesUnwoken m graph.table c.wake.new.marks hits chunk.prev chunk.bytes.now) c.spent_in-spent.ensures.chunk
    (c.wake.ensures.unwoken hits (λ k none. sought-nowhere c.args.are_over graph.openings s.hits.items k (c.requires.others k none)))))

pub walk-requires-clause-told : goal.walk-requires-clause-told
walk-requires-clause-told g c =
    subst (λ (chunk : Chunk). TellsNodes g.E.Engine.meaning c.args.graph.now.table c.wake.new.cache c.args.region.now chunk.prev chunk.bytes.now) c.spent_in-spent.ensures.chunk c.wake.ensures.told

pub walk-requires-clause-starts : goal.walk-requires-clause-starts
walk-requires-clause-starts g c =
    subst (λ (chunk : Chunk). AreStartsEnough g.E.Engine.meaning c.args.graph.now.table c.wake.new.cache c.wake.new.starts chunk.prev chunk.bytes.now) c.spent_in-spent.ensures.chunk c.wake.ensures.starts

pub walk-requires-clause-others : goal.walk-requires-clause-others
walk-requires-clause-others g c =
    let m = g.E.Engine.meaning in
    let s = c.args.scratch.now in
    let graph = c.args.graph.now in
    let hits = sought c.args.are_over graph.openings s.hits.items in
    let same : c.sought_hits.result.now ≡ hits = c.sought_hits.ensures ∙ ap (sought c.args.are_over graph.openings) c.deref-2.ensures.value in
    subst (λ (hs : List ChunkHits). AreOthersSound m graph.table (is_passed c.args.are_over graph.openings) (length hs)) (sym same)
    (others-sound m graph.table s.rows.count (length c.args.region.now) c.requires.runs.table graph.openings c.requires.runs.openings c.args.are_over s.hits.items c.requires.before.room.hits)

pub walk-requires-clause-passed : goal.walk-requires-clause-passed
walk-requires-clause-passed g c =
    let graph = c.args.graph.now in
    may-pass g.E.Engine.meaning graph.table c.args.scratch.now.rows.count (length c.args.region.now) c.requires.runs.table graph.openings c.requires.runs.openings c.args.are_over c.args.scratch.now.course.marks c.args.region.now c.args.chunk.now.at c.requires.over c.requires.before.resting

pub returns-clause-room : goal.returns-clause-room
returns-clause-room g c =
    let s = c.args.scratch.now in
    let room = c.requires.before.room.room in
    let left = c.walk.new.ends in
    let len : length left ≡ length s.ends.items = c.walk.ensures.ends ∙ ap length c.deref_mut.ensures.value in
    let now = whole left s.ends.items s.ends.len len (omega (arith, s.ends.ok)) in
    record {
      count = ap length now ∙ (len ∙ room.count);
      room = omega (arith, room.room, c.wake.ensures.more.room, c.walk.ensures.marks.room);
      below = c.walk.ensures.marks.below;
    }

pub returns-clause-changes : goal.returns-clause-changes
returns-clause-changes g c =
    let s = c.args.scratch.now in
    let left = c.walk.new.ends in
    let len : length left ≡ length s.ends.items = c.walk.ensures.ends ∙ ap length c.deref_mut.ensures.value in
    subst (λ es. ChangesMarked g.E.Engine.meaning c.args.graph.now.table c.walk.new.marks c.args.region.now c.walk.new.region es) (sym (whole left s.ends.items s.ends.len len (omega (arith, s.ends.ok))))
    c.walk.ensures.changes

pub returns-clause-resting : goal.returns-clause-resting
returns-clause-resting g c =
    let m = g.E.Engine.meaning in
    let table = c.args.graph.now.table in
    let marks = c.args.scratch.now.course.marks in
    let r0 = c.args.region.now in
    let rests = resting-more m table (length table.nodes.items) marks c.wake.new.marks r0 c.wake.ensures.more c.requires.before.resting in
    resting-stay m table c.wake.new.marks c.walk.new.marks r0 c.walk.new.region c.walk.new.ends c.walk.ensures.marks c.walk.ensures.changes rests

pub returns-clause-ticks : goal.returns-clause-ticks
returns-clause-ticks g c =
    let most = nodes-most c.args.graph.now.table.nodes.items c.sought_hits.result.now (length c.args.chunk.now.bytes.now) in
    omega (arith, most, c.walk.ensures.ticks)

pub returns-clause-takes : goal.returns-clause-takes
returns-clause-takes g c =
    let m = g.E.Engine.meaning in
    let graph = c.args.graph.now in
    let chunk = c.args.chunk.now in
    let bytes = chunk.bytes.now in
    let s = c.args.scratch.now in
    let left = c.walk.new.ends in
    let len : length left ≡ length s.ends.items = c.walk.ensures.ends ∙ ap length c.deref_mut.ensures.value in
    let ends = take s.ends.len (left ++ drop (length left) s.ends.items) in
    let now : ends ≡ left = whole left s.ends.items s.ends.len len (omega (arith, s.ends.ok)) in
    let hits = sought c.args.are_over graph.openings s.hits.items in
    let same : c.sought_hits.result.now ≡ hits = c.sought_hits.ensures ∙ ap (sought c.args.are_over graph.openings) c.deref-2.ensures.value in
    let told = c.spent_in-spent.result.told.now in
    let lone = c.args.lone.now in
    let spent = is_spent_node lone told in
    let fewer = spent_in lone s.course.known.told.items bytes in
    let walked = subst (λ l. TakesNodes m graph.table (is_spent_node l told) c.args.region.now c.walk.new.region chunk.prev chunk.at chunk.past.now bytes c.sought_hits.result.now left) c.spent_in-spent.ensures.lone c.walk.ensures.takes in
    let took = subst (λ es. TakesNodes m graph.table spent c.args.region.now c.walk.new.region chunk.prev chunk.at chunk.past.now bytes c.sought_hits.result.now es) (sym now) walked in
    takes-fewer m graph.table spent fewer chunk.at c.args.region.now c.walk.new.region chunk.prev chunk.past.now bytes hits ends
    (λ k asked_for. c.spent_in-spent.ensures.fewer k (subst (λ ws. spent_in lone ws bytes k ≡ false) (sym c.deref.ensures.value) asked_for))
    (subst (λ hs. TakesNodes m graph.table spent c.args.region.now c.walk.new.region chunk.prev chunk.at chunk.past.now bytes hs ends) same took)

use Rattle.std.proofs.Common.{◌≡◌, ◌+◌, ◌*◌, ◌<◌, ◌≤◌, false, refl, length, sym, ap, subst, ◌∙◌, arith}
use Rattle.hs_base.specs.Lists.{Each}
use Rattle.hs_bits.specs.Marks.{is_marked}
use Rattle.hs_nodes.specs.Left.{nowhere}
use Rattle.hs_nodes.specs.Resting.{AreNodesResting}
use Rattle.hs_nodes.specs.Walks.{IsTableSound, node_ends}
use Rattle.hs_scan.proofs.SpendingLemmas.{spent-told, takes-fewer}
use Rattle.hs_scan.proofs.WakingLemmas.{passed-nowhere}
use Rattle.hs_scan.specs.Scans.{ScansChunk}
use Rattle.hs_scan.specs.Spending.{spent_in}
use Rattle.hs_scan.specs.Telling.{AreOfSpent, TellsBlock}
use Rattle.hs_scan.specs.Writing.{LeavesLineFeed, LeavesLineFeedChunk}
use Rattle.hs_scan.proofs.BlockLemmas.{takes-as}
use Rattle.hs_scan.proofs.LineFeedLemmas.{first-tells, line_feed-chunk}
use Rattle.hs_scan.proofs.ScanLemmas.{chunk-takes}
use Rattle.hs_scan.proofs.line_feed.run_line_feed.Goals as goal

pub run_nodes-requires-clause-small : goal.run_nodes-requires-clause-small
run_nodes-requires-clause-small g c = subst (Each (λ b. b < 256)) (sym c.requires.bytes) (omega arith, tt)

pub tell_line_feed-requires-clause-rest : goal.tell_line_feed-requires-clause-rest
tell_line_feed-requires-clause-rest g c =
    passed-nowhere g.E.Engine.meaning c.args.graph.now c.run_nodes.new.scratch.course.marks c.args.region.now c.run_nodes.new.region c.run_nodes.new.scratch.ends.items c.run_nodes.ensures.changes

pub settle-requires-clause-sound : goal.settle-requires-clause-sound
settle-requires-clause-sound g c =
    (c.args.scratch.now.rows.count, subst (λ n. IsTableSound g.E.Engine.meaning c.args.graph.now.table c.args.scratch.now.rows.count n) (sym c.run_nodes.ensures.changes.len) c.requires.runs.table)

pub settle-requires-clause-nowhere : goal.settle-requires-clause-nowhere
settle-requires-clause-nowhere g c k below none =
    let kept = c.tell_line_feed.ensures.keeps in
    subst (λ es. node_ends es k ≡ nowhere) (sym (c.deref_mut.ensures.value ∙ ap (λ v. v.items) kept.ends))
    (passed-nowhere g.E.Engine.meaning c.args.graph.now c.run_nodes.new.scratch.course.marks c.args.region.now c.run_nodes.new.region c.run_nodes.new.scratch.ends.items c.run_nodes.ensures.changes k below
    (subst (λ ms. is_marked ms k ≡ false) kept.marks none))

pub settle-requires-clause-resting : goal.settle-requires-clause-resting
settle-requires-clause-resting g c =
    subst (λ ms. AreNodesResting g.E.Engine.meaning c.args.graph.now.table ms c.run_nodes.new.region) (sym c.tell_line_feed.ensures.keeps.marks) c.run_nodes.ensures.resting

pub returns-clause-ticks : goal.returns-clause-ticks
returns-clause-ticks g c =
    let count : length c.args.chunk.now.bytes.now ≡ 1 = ap length c.requires.bytes in
    let ticks = subst (λ k. c.run_nodes.new.steps ≤ c.args.steps.now + 16 * (length c.args.graph.now.table.nodes.items * (k + 1))) count c.run_nodes.ensures.ticks in
    omega (arith, ticks)

pub returns-clause-scans : goal.returns-clause-scans
returns-clause-scans g c =
    let m = g.E.Engine.meaning in
    let graph = c.args.graph.now in
    let chunk = c.args.chunk.now in
    let bytes = chunk.bytes.now in
    let hits = c.args.scratch.now.hits.items in
    let s = c.run_nodes.new.scratch in
    let known = s.course.known in
    let then = c.tell_line_feed.new.scratch.course.known in
    let all = c.everywhere-all.result in
    let old = c.args.region.now in
    let new = c.run_nodes.new.region in
    let lone = c.args.lone.now in
    let spent = spent_in lone c.args.scratch.now.course.known.told.items bytes in
    takes-as g.V.Events.tells c.args.events.now c.tell_line_feed.new.events
    (TellsBlock m graph bytes chunk.at s.ends.items all 0 known.told.items known.here.items then.told.items then.here.items)
    (ScansChunk m graph old new chunk.prev chunk.at chunk.past.now bytes hits c.args.scratch.now.course.known.told.items c.args.scratch.now.course.known.here.items then.told.items then.here.items)
    (λ ps tells. subst (λ ks. ScansChunk m graph old new chunk.prev chunk.at chunk.past.now bytes hits ks.told.items ks.here.items then.told.items then.here.items ps) c.run_nodes.ensures.keeps.known
    (chunk-takes m graph chunk.at old new known.told.items known.here.items then.told.items then.here.items chunk.prev chunk.past.now bytes hits s.ends.items all ps spent (subst (λ ks. AreOfSpent graph ks.told.items spent) (sym c.run_nodes.ensures.keeps.known) (spent-told m graph lone c.args.scratch.now.course.known.told.items bytes c.requires.lone)) c.run_nodes.ensures.room.count c.everywhere-all.ensures
    c.run_nodes.ensures.takes (first-tells m graph bytes chunk.at s.ends.items all known.told.items known.here.items then.told.items then.here.items ps c.requires.bytes tells))) c.tell_line_feed.ensures.told

pub returns-clause-left : goal.returns-clause-left
returns-clause-left g c =
    let m = g.E.Engine.meaning in
    let graph = c.args.graph.now in
    let chunk = c.args.chunk.now in
    let bytes = chunk.bytes.now in
    let hits = c.args.scratch.now.hits.items in
    let s = c.run_nodes.new.scratch in
    let last = c.tell_line_feed.new.scratch.last.items in
    let old = c.args.region.now in
    let lone = c.args.lone.now in
    let ks = c.args.scratch.now.course.known.told.items in
    let spent = spent_in lone ks bytes in
    let finals = c.args.scratch.now.finals in
    let told : LeavesLineFeed m graph bytes chunk.at s.ends.items c.everywhere-all.result s.course.known.told.items s.course.known.here.items finals last =
    subst (λ fs. LeavesLineFeed m graph bytes chunk.at s.ends.items c.everywhere-all.result s.course.known.told.items s.course.known.here.items fs last) c.run_nodes.ensures.keeps.finals c.tell_line_feed.ensures.left in
    subst (λ ks. LeavesLineFeedChunk m graph old chunk.prev chunk.at chunk.past.now bytes hits ks.told.items ks.here.items finals last) c.run_nodes.ensures.keeps.known
    (line_feed-chunk m graph chunk.at old c.run_nodes.new.region s.course.known.told.items s.course.known.here.items chunk.prev chunk.past.now bytes hits s.ends.items c.everywhere-all.result finals last
    c.run_nodes.ensures.room.count c.everywhere-all.ensures
    (takes-fewer m graph.table spent (λ k. false) chunk.at old c.run_nodes.new.region chunk.prev chunk.past.now bytes hits s.ends.items (λ k asked. subst (λ bs. spent_in lone ks bs k ≡ false) (sym c.requires.bytes) refl) c.run_nodes.ensures.takes) told)

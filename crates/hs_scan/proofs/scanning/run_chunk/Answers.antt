use Rattle.std.proofs.Common.{◌≡◌, sym, subst}
use Rattle.hs_nodes.specs.Left.{nowhere}
use Rattle.hs_nodes.specs.Walks.{IsTableSound, node_ends}
use Rattle.hs_reports.specs.Events.{Takes}
use Rattle.hs_scan.proofs.BlockLemmas.{takes-as}
use Rattle.hs_scan.proofs.ScanLemmas.{chunk-takes}
use Rattle.hs_scan.proofs.SpendingLemmas.{spent-told}
use Rattle.hs_scan.proofs.WakingLemmas.{passed-nowhere}
use Rattle.hs_scan.specs.Hits.{sought}
use Rattle.hs_scan.specs.Scans.{ScansChunk}
use Rattle.hs_scan.specs.Spending.{spent_in}
use Rattle.hs_scan.specs.Telling.{AreOfSpent, TellsChunk}
use Rattle.hs_scan.proofs.scanning.run_chunk.Goals as goal

pub tell_chunk-requires-clause-rest : goal.tell_chunk-requires-clause-rest
tell_chunk-requires-clause-rest g c k below none =
    subst (λ es. node_ends es k ≡ nowhere) (sym c.deref.ensures.value)
    (passed-nowhere g.E.Engine.meaning c.args.tables.now.graph.now c.run_nodes.new.scratch.course.marks c.args.region.now c.run_nodes.new.region c.run_nodes.new.scratch.ends.items c.run_nodes.ensures.changes k below none)

pub settle-requires-clause-sound : goal.settle-requires-clause-sound
settle-requires-clause-sound g c =
    (c.args.scratch.now.rows.count, subst (λ n. IsTableSound g.E.Engine.meaning c.args.tables.now.graph.now.table c.args.scratch.now.rows.count n) (sym c.run_nodes.ensures.changes.len) c.requires.runs.table)

pub settle-requires-clause-nowhere : goal.settle-requires-clause-nowhere
settle-requires-clause-nowhere g c k below none =
    subst (λ es. node_ends es k ≡ nowhere) (sym c.deref_mut.ensures.value)
    (passed-nowhere g.E.Engine.meaning c.args.tables.now.graph.now c.run_nodes.new.scratch.course.marks c.args.region.now c.run_nodes.new.region c.run_nodes.new.scratch.ends.items c.run_nodes.ensures.changes k below none)

pub returns-clause-scans : goal.returns-clause-scans
returns-clause-scans g c =
    let m = g.E.Engine.meaning in
    let graph = c.args.tables.now.graph.now in
    let chunk = c.args.chunk.now in
    let bytes = chunk.bytes.now in
    let hits = sought c.args.are_over graph.openings c.args.scratch.now.hits.items in
    let s = c.run_nodes.new.scratch in
    let known = c.args.scratch.now.course.known in
    let then = c.tell_chunk.new.known in
    let all = c.everywhere-all.result in
    let old = c.args.region.now in
    let new = c.run_nodes.new.region in
    let lone = c.args.tables.now.lone.now in
    let spent = spent_in lone known.told.items bytes in
    takes-as g.V.Events.tells c.args.events.now c.tell_chunk.new.events
    (TellsChunk m graph bytes chunk.at s.ends.items all s.course.known.told.items s.course.known.here.items then.told.items then.here.items)
    (ScansChunk m graph old new chunk.prev chunk.at chunk.past.now bytes hits known.told.items known.here.items then.told.items then.here.items)
    (λ ps tells. subst (λ ks. ScansChunk m graph old new chunk.prev chunk.at chunk.past.now bytes hits ks.told.items ks.here.items then.told.items then.here.items ps) c.run_nodes.ensures.keeps.known
    (chunk-takes m graph chunk.at old new s.course.known.told.items s.course.known.here.items then.told.items then.here.items chunk.prev chunk.past.now bytes hits s.ends.items all ps spent (subst (λ ks. AreOfSpent graph ks.told.items spent) (sym c.run_nodes.ensures.keeps.known) (spent-told m graph lone known.told.items bytes c.requires.lone)) c.run_nodes.ensures.room.count c.everywhere-all.ensures
    c.run_nodes.ensures.takes tells))
    (subst (λ es. Takes g.V.Events.tells c.args.events.now c.tell_chunk.new.events (TellsChunk m graph bytes chunk.at es all s.course.known.told.items s.course.known.here.items then.told.items then.here.items)) c.deref.ensures.value
    c.tell_chunk.ensures.told)

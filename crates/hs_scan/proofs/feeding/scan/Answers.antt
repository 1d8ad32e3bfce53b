use Rattle.std.proofs.Common.{◌≤◌, length, refl, sym, ap, subst, ◌∙◌, arith}
use Rattle.hs_base.specs.Offsets.{greatest_offset}
use Rattle.hs_literals.specs.Held.{held}
use Rattle.hs_nodes.specs.Walks.{AreNodesWell, IsTableSound}
use Rattle.hs_reports.specs.EndTables.{HasNoEnds}
use Rattle.hs_scan.specs.Feeding.{Feeds}
use Rattle.hs_scan.specs.Hits.{HasNowhere}
use Rattle.hs_keeping.specs.Keeping.{AreRead}
use Rattle.hs_keeping.specs.Knowing.{IsPending}
use Rattle.hs_keeping.specs.declared.known.Known.{Known}
use Rattle.hs_scan.specs.Scans.{Scans}
use Rattle.hs_scan.specs.Scratches.{stand_of}
use Rattle.hs_scan.proofs.BlockLemmas.{takes-as, takes-none}
use Rattle.hs_scan.proofs.FeedLemmas.{feeds-alike, feeds-none, header-early, header-spare, no-bytes, some-bytes, spares-kept, written-fits, written-well}
use Rattle.hs_scan.proofs.ScanLemmas.{scan-feeds}
use Rattle.hs_scan.proofs.ScratchLemmas.{graph-room, hit-rows, idle-again, serves-again}
use Rattle.hs_scan.proofs.feeding.scan.Goals as goal

pub begin_write-requires-clause-room : goal.begin_write-requires-clause-room
begin_write-requires-clause-room g c = graph-room c.args.tables.now.graph.now (length (held c.args.tables.now.literals.now)) c.args.scratch.now c.requires.idle c.requires.scratch

pub mark_nodes-requires-clause-table : goal.mark_nodes-requires-clause-table
mark_nodes-requires-clause-table g c =
    let count = length (held c.args.tables.now.literals.now) in
    (count, subst (IsTableSound g.E.Engine.meaning c.args.tables.now.graph.now.table count) (sym c.requires.region.sized) c.requires.sound.table)

pub scan_write-requires-clause-rows : goal.scan_write-requires-clause-rows
scan_write-requires-clause-rows g c =
    ap (λ r. r.count) (c.mark_nodes.ensures.keeps.rows ∙ c.begin_write.ensures.rows) ∙ hit-rows c.args.tables.now.graph.now (length (held c.args.tables.now.literals.now)) c.args.scratch.now c.requires.idle c.requires.scratch

pub scan_write-requires-clause-none : goal.scan_write-requires-clause-none
scan_write-requires-clause-none g c k = subst (λ v. HasNowhere v.items k) (sym (c.mark_nodes.ensures.keeps.hits ∙ c.begin_write.ensures.hits)) (c.requires.idle.none k)

pub scan_write-requires-clause-no_finals : goal.scan_write-requires-clause-no_finals
scan_write-requires-clause-no_finals g c = subst HasNoEnds (sym (c.mark_nodes.ensures.keeps.finals ∙ c.begin_write.ensures.finals)) c.requires.idle.no_finals

pub scan_write-requires-clause-small : goal.scan_write-requires-clause-small
scan_write-requires-clause-small g c = omega (arith, c.mark_nodes.ensures.keeps.at_is, c.begin_write.ensures.at_is, c.requires.room)

pub returns-then-is_empty-clause-taken : goal.returns-then-is_empty-clause-taken
returns-then-is_empty-clause-taken g c =
    takes-none g.V.Events.tells c.args.events.now (Feeds g.E.Engine.meaning c.args.tables.now.graph.now (held c.args.tables.now.literals.now) c.args.tables.now.layout.now c.args.region.now c.args.region.now c.args.bytes.now)
    (feeds-none g.E.Engine.meaning c.args.tables.now.graph.now (held c.args.tables.now.literals.now) c.args.tables.now.layout.now c.args.region.now c.args.bytes.now (no-bytes c.args.bytes.now (sym c.is_empty.ensures ∙ c.if-is_empty.true)))

pub returns-then-is_empty-clause-alike : goal.returns-then-is_empty-clause-alike
returns-then-is_empty-clause-alike g c =
    let taken = returns-then-is_empty-clause-taken g c in
    feeds-alike g.E.Engine.meaning c.args.tables.now.graph.now (held c.args.tables.now.literals.now) c.args.tables.now.layout.now c.args.region.now c.args.region.now c.args.bytes.now taken.pairs taken.holds

pub returns-clause-taken : goal.returns-clause-taken
returns-clause-taken g c =
    let m = g.E.Engine.meaning in
    let graph = c.args.tables.now.graph.now in
    let literals = held c.args.tables.now.literals.now in
    let l = c.args.tables.now.layout.now in
    let bytes = c.args.bytes.now in
    let r0 = c.args.region.now in
    let r1 = c.scan_write.new.region in
    let r2 = c.end_write.new.region in
    let begun = c.begin_write.ensures in
    let rest = c.mark_nodes.ensures in
    let s = stand_of c.mark_nodes.new.scratch r0 in
    let t = stand_of c.scan_write.new.scratch r1 in
    let room : t.at ≤ greatest_offset = omega (arith, c.scan_write.ensures.at, rest.keeps.at_is, begun.at_is, c.requires.room) in
    let read = subst (λ (k : Known). AreRead l r0 graph.identifiers.items k.told.items k.here.items) (sym rest.known) begun.read in
    takes-as g.V.Events.tells c.args.events.now c.scan_write.new.events (Scans m graph literals s t bytes) (Feeds m graph literals l r0 r2 bytes)
    (λ ps scans. scan-feeds m graph literals l r0 r2 bytes s t c.scan_write.new.scratch.last.items ps refl (rest.keeps.at_is ∙ begun.at_is) (rest.keeps.past ∙ begun.past) read room scans c.end_write.ensures
    (spares-kept m graph l c.requires.sound.fits r0 r1 c.scan_write.ensures.outside) c.scan_write.ensures.left)
    c.scan_write.ensures.scans

pub returns-clause-alike : goal.returns-clause-alike
returns-clause-alike g c =
    let taken = returns-clause-taken g c in
    feeds-alike g.E.Engine.meaning c.args.tables.now.graph.now (held c.args.tables.now.literals.now) c.args.tables.now.layout.now c.args.region.now c.end_write.new.region c.args.bytes.now taken.pairs taken.holds

pub returns-clause-region : goal.returns-clause-region
returns-clause-region g c =
    written-fits g.E.Engine.meaning c.args.tables.now.graph.now c.args.tables.now.layout.now c.requires.sound.fits (stand_of c.scan_write.new.scratch c.scan_write.new.region) c.scan_write.new.scratch.last.items c.end_write.new.region c.end_write.ensures c.scan_write.ensures.behind.well

pub returns-clause-idle : goal.returns-clause-idle
returns-clause-idle g c =
    idle-again c.args.tables.now.graph.now (length (held c.args.tables.now.literals.now)) c.scan_write.new.scratch c.scan_write.ensures.behind.room c.scan_write.ensures.none c.scan_write.ensures.behind.pending.none c.scan_write.ensures.no_finals

pub returns-clause-scratch : goal.returns-clause-scratch
returns-clause-scratch g c = serves-again c.args.tables.now.graph.now (length (held c.args.tables.now.literals.now)) c.scan_write.new.scratch c.scan_write.ensures.behind.room (c.scan_write.ensures.rows ∙ (ap (λ r. r.count) (c.mark_nodes.ensures.keeps.rows ∙ c.begin_write.ensures.rows) ∙ hit-rows c.args.tables.now.graph.now (length (held c.args.tables.now.literals.now)) c.args.scratch.now c.requires.idle c.requires.scratch))

pub returns-clause-offset : goal.returns-clause-offset
returns-clause-offset g c = omega (arith, c.end_write.ensures.offset, c.scan_write.ensures.at, c.mark_nodes.ensures.keeps.at_is, c.begin_write.ensures.at_is)

pub returns-clause-stays : goal.returns-clause-stays
returns-clause-stays g c none = absurd (some-bytes c.args.bytes.now (sym c.is_empty.ensures ∙ c.if-is_empty.false) none)

pub returns-clause-silent : goal.returns-clause-silent
returns-clause-silent g c none = absurd (some-bytes c.args.bytes.now (sym c.is_empty.ensures ∙ c.if-is_empty.false) none)

pub returns-clause-well : goal.returns-clause-well
returns-clause-well g c well =
    let m = g.E.Engine.meaning in
    let graph = c.args.tables.now.graph.now in
    let l = c.args.tables.now.layout.now in
    let fits = c.requires.sound.fits in
    let r0 = c.args.region.now in
    let r1 = c.scan_write.new.region in
    let r2 = c.end_write.new.region in
    let begun = c.begin_write.ensures in
    let rest = c.mark_nodes.ensures in
    let written = c.end_write.ensures in
    let s = c.scan_write.new.scratch in
    let first = c.mark_nodes.new.scratch in
    written-well m graph l fits (stand_of s r1) s.last.items r2 written c.scan_write.ensures.behind.well (omega (arith, c.scan_write.ensures.at, rest.keeps.at_is, begun.at_is, c.requires.room))
    (c.scan_write.ensures.early (header-early m graph l fits r0 first.past first.at well.header (rest.keeps.past ∙ begun.past) (rest.keeps.at_is ∙ begun.at_is)))
    (λ k is. written.spare k is ∙ (spares-kept m graph l fits r0 r1 c.scan_write.ensures.outside k is ∙ header-spare m graph l fits r0 well.header k is))

pub scan_write-requires-clause-before : goal.scan_write-requires-clause-before
scan_write-requires-clause-before g c =
    let rest = c.mark_nodes.ensures in
    let begun = c.begin_write.ensures in
    record {
      well = subst (AreNodesWell g.E.Engine.meaning c.args.tables.now.graph.now.table c.args.region.now) (sym (rest.keeps.at_is ∙ begun.at_is)) c.requires.region.nodes;
      room = rest.room;
      pending = subst IsPending (sym rest.known) begun.pending;
      resting = rest.resting;
      cached = c.requires.cache;
    }

use Rattle.std.proofs.Common.{◌+◌, ◌-◌, ◌*◌, ◌++◌, length, sym, ap, subst, ◌∙◌, arith}
use Rattle.hs_base.specs.declared.context.Next.TheVariants as after
use Rattle.hs_base.specs.Bits.{has_bit}
use Rattle.hs_base.specs.Regions.{last_at}
use Rattle.hs_literals.specs.Held.{held}
use Rattle.hs_nodes.specs.Walks.{AreNodesWell}
use Rattle.hs_reports.specs.Chunks.{pairs_where}
use Rattle.hs_reports.specs.EndTables.{HasNoEnds}
use Rattle.hs_reports.specs.Events.{Through}
use Rattle.hs_reports.specs.Identifiers.{numbers_of}
use Rattle.hs_reports.proofs.EventLemmas.{through-join}
use Rattle.hs_scan.specs.Asking.{AsksEnds}
use Rattle.hs_keeping.specs.Finishing.{due_at_end}
use Rattle.hs_scan.specs.Hits.{HasNowhere}
use Rattle.hs_keeping.specs.Keeping.{AreRead}
use Rattle.hs_scan.proofs.FeedLemmas.{finishes-alike}
use Rattle.hs_scan.proofs.FinishLemmas.{ends-finish}
use Rattle.hs_scan.proofs.ScratchLemmas.{graph-room, hit-rows}
use Rattle.hs_scan.proofs.finishing.finish.Goals as goal

pub begin_write-requires-clause-room : goal.begin_write-requires-clause-room
begin_write-requires-clause-room g c = graph-room c.args.tables.now.graph.now (length (held c.args.tables.now.literals.now)) c.args.scratch.now c.requires.idle c.requires.scratch

pub ask_ends-requires-clause-well : goal.ask_ends-requires-clause-well
ask_ends-requires-clause-well g c = subst (AreNodesWell g.E.Engine.meaning c.args.tables.now.graph.now.table c.args.region.now) (sym c.begin_write.ensures.at_is) c.requires.region.nodes

pub ask_ends-requires-clause-rows : goal.ask_ends-requires-clause-rows
ask_ends-requires-clause-rows g c = ap (λ r. r.count) c.begin_write.ensures.rows ∙ hit-rows c.args.tables.now.graph.now (length (held c.args.tables.now.literals.now)) c.args.scratch.now c.requires.idle c.requires.scratch

pub ask_ends-requires-clause-none : goal.ask_ends-requires-clause-none
ask_ends-requires-clause-none g c k = subst (λ v. HasNowhere v.items k) (sym c.begin_write.ensures.hits) (c.requires.idle.none k)

pub ask_ends-requires-clause-no_finals : goal.ask_ends-requires-clause-no_finals
ask_ends-requires-clause-no_finals g c = subst HasNoEnds (sym c.begin_write.ensures.finals) c.requires.idle.no_finals

pub ask_ends-requires-clause-small : goal.ask_ends-requires-clause-small
ask_ends-requires-clause-small g c = omega (arith, c.begin_write.ensures.at_is, c.requires.room)

pub returns-clause-taken : goal.returns-clause-taken
returns-clause-taken g c =
    let m = g.E.Engine.meaning in
    let graph = c.args.tables.now.graph.now in
    let literals = held c.args.tables.now.literals.now in
    let l = c.args.tables.now.layout.now in
    let region = c.args.region.now in
    let ids = graph.identifiers.items in
    let tells = g.V.Events.tells in
    let begun = c.begin_write.ensures in
    let kept = c.ask_ends.ensures.keeps in
    let s1 = c.begin_write.new.scratch in
    let s2 = c.ask_ends.new.scratch in
    let known = s2.course.known in
    let asks =
    subst (λ n. AsksEnds m graph literals n s2.past region after.End s2.finals) (sym kept.at_is)
    (subst (λ past. AsksEnds m graph literals s1.at past region after.End s2.finals) (sym kept.past) c.ask_ends.ensures.asks) in
    let read = subst (λ k. AreRead l region ids k.known.told.items k.known.here.items) (sym kept.course) begun.read in
    let lasts =
    subst (λ n. Through tells c.args.events.now (pairs_where (numbers_of ids) (λ p. has_bit region (8 * last_at l.singles l.identifiers + p)) n) c.report_lasts.new.events) c.saturating_sub.ensures
    (subst (λ xs. Through tells c.args.events.now (pairs_where (numbers_of xs) (λ p. has_bit region (8 * last_at l.singles l.identifiers + p)) c.saturating_sub.result) c.report_lasts.new.events) c.deref.ensures.value c.report_lasts.ensures) in
    let ends =
    subst (λ xs. Through tells c.report_lasts.new.events (pairs_where (numbers_of xs) (due_at_end l region known.told.items known.here.items s2.finals xs) s2.at) c.report_ends.new.events) c.deref-2.ensures.value c.report_ends.ensures in
    record {
      pairs = pairs_where (numbers_of ids) (λ p. has_bit region (8 * last_at l.singles l.identifiers + p)) (s2.at - 1) ++ pairs_where (numbers_of ids) (due_at_end l region known.told.items known.here.items s2.finals ids) s2.at;
      through = through-join tells lasts ends;
      holds = ends-finish m graph literals l region known.told.items known.here.items s2.finals s2.at s2.past (kept.at_is ∙ begun.at_is) (kept.past ∙ begun.past) read asks;
    }

pub returns-clause-alike : goal.returns-clause-alike
returns-clause-alike g c =
    let taken = returns-clause-taken g c in
    finishes-alike g.E.Engine.meaning c.args.tables.now.graph.now (held c.args.tables.now.literals.now) c.args.tables.now.layout.now c.args.region.now taken.pairs taken.holds

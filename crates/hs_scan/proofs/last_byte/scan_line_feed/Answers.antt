use Rattle.std.proofs.Common.{[], ◌∷◌, refl, sym, subst}
use Rattle.hs_base.specs.declared.context.Next.TheVariants as after
use Rattle.hs_base.specs.Assertions.{line_feed}
use Rattle.hs_literals.specs.Held.{held}
use Rattle.hs_nodes.specs.Resting.{AreNodesResting}
use Rattle.hs_scan.specs.Asking.{AsksEnds}
use Rattle.hs_scan.specs.declared.course.Course.{Course}
use Rattle.hs_scan.specs.Scans.{stand}
use Rattle.hs_scan.specs.Writing.{LeavesToEnd}
use Rattle.hs_nodes.specs.Walks.{AreNodesWell}
use Rattle.hs_keeping.specs.Knowing.{IsPending}
use Rattle.hs_scan.proofs.BetweenLemmas.{between-kept}
use Rattle.hs_scan.proofs.last_byte.scan_line_feed.Goals as goal

pub scan_asked-requires-clause-asks : goal.scan_asked-requires-clause-asks
scan_asked-requires-clause-asks g c =
    let m = g.E.Engine.meaning in
    let graph = c.args.tables.now.graph.now in
    let literals = held c.args.tables.now.literals.now in
    let region = c.args.region.now in
    let s = c.args.scratch.now in
    let s1 = c.ask_ends.new.scratch in
    let kept = c.ask_ends.ensures.keeps in
    let one = subst (λ n. AsksEnds m graph literals n s.past region after.FinalNewline s1.finals) (sym kept.at_is) c.ask_ends.ensures.asks in
    subst (λ past. AsksEnds m graph literals s1.at past region after.FinalNewline s1.finals) (sym kept.past) one

pub returns-clause-left : goal.returns-clause-left
returns-clause-left g c =
    let m = g.E.Engine.meaning in
    let graph = c.args.tables.now.graph.now in
    let literals = held c.args.tables.now.literals.now in
    let region = c.args.region.now in
    let s = c.args.scratch.now in
    let s1 = c.ask_ends.new.scratch in
    let last = c.scan_asked.new.scratch.last.items in
    let kept = c.ask_ends.ensures.keeps in
    let one = subst (λ n. LeavesToEnd m graph literals (stand n s1.past region s1.course.known.told.items s1.course.known.here.items) (line_feed ∷ []) last) kept.at_is c.scan_asked.ensures.left in
    let two = subst (λ past. LeavesToEnd m graph literals (stand s.at past region s1.course.known.told.items s1.course.known.here.items) (line_feed ∷ []) last) kept.past one in
    subst (λ course. LeavesToEnd m graph literals (stand s.at s.past region course.known.told.items course.known.here.items) (line_feed ∷ []) last) kept.course two

pub scan_asked-requires-clause-before : goal.scan_asked-requires-clause-before
scan_asked-requires-clause-before g c =
    let m = g.E.Engine.meaning in
    let table = c.args.tables.now.graph.now.table in
    let region = c.args.region.now in
    let before = c.requires.before in
    let kept = c.ask_ends.ensures.keeps in
    record {
      well = subst (AreNodesWell m table region) (sym kept.at_is) before.well;
      room = c.ask_ends.ensures.room;
      pending = subst (λ (k : Course). IsPending k.known) (sym kept.course) before.pending;
      resting = subst (λ (k : Course). AreNodesResting m table k.marks region) (sym kept.course) before.resting;
      cached = before.cached;
    }

pub returns-clause-behind : goal.returns-clause-behind
returns-clause-behind g c =
    between-kept g.E.Engine.meaning c.args.tables.now.graph.now c.scan_asked.new.region c.scan_asked.new.cache refl
    (record { ends = refl; course = refl; hits = refl; rows = refl; finals = c.forget_finals.ensures.count; last = refl; past = refl }) c.scan_asked.ensures.behind

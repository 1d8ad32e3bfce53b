use Rattle.std.proofs.Common.{◌≡◌, ◌+◌, ℕ, List, [], ◌∷◌, ◌++◌, length, drop, sym, ap, subst, ◌∙◌, arith}
use Rattle.hs_base.specs.Assertions.{line_feed}
use Rattle.hs_literals.specs.Held.{held}
use Rattle.hs_nodes.specs.Blocks.{EndsBehind}
use Rattle.hs_scan.specs.Scans.{Scans, ScansChunk, stand}
use Rattle.hs_scan.specs.Scratches.{stand_of}
use Rattle.hs_scan.specs.Writing.{LeavesLineFeedChunk, LeavesToEnd}
use Rattle.hs_scan.proofs.LineFeedLemmas.{line_feed-ends}
use Rattle.hs_scan.proofs.BlockLemmas.{takes-as}
use Rattle.hs_scan.proofs.PastLemmas.{early-pushed}
use Rattle.hs_scan.proofs.ScanLemmas.{chunk-scans}
use Rattle.hs_scan.proofs.BetweenLemmas.{between-kept, found-keeps, pushed-length}
use Rattle.hs_scan.proofs.last_byte.scan_asked.Goals as goal

pub run_line_feed-requires-clause-others : goal.run_line_feed-requires-clause-others
run_line_feed-requires-clause-others g c k none =
    c.find_hits.ensures.others k none

pub returns-clause-early : goal.returns-clause-early
returns-clause-early g c =
    let s = c.args.scratch.now in
    let past_is : c.forget.new.scratch.past ≡ s.past = c.forget.ensures.past ∙ (c.run_line_feed.ensures.keeps.past ∙ c.find_hits.ensures.past) in
    let at_is : c.forget.new.scratch.at ≡ s.at = c.forget.ensures.at_is ∙ (c.run_line_feed.ensures.keeps.at_is ∙ c.find_hits.ensures.at_is) in
    early-pushed s.past c.push_past.new.past (line_feed ∷ []) s.at (c.forget.new.scratch.at + length (line_feed ∷ [])) c.requires.before.room.past
    (c.push_past.ensures ∙ ap (λ (xs : List ℕ). drop (length (line_feed ∷ [])) (xs ++ (line_feed ∷ []))) past_is) (ap (λ n. n + length (line_feed ∷ [])) at_is)

pub returns-clause-scans : goal.returns-clause-scans
returns-clause-scans g c =
    let m = g.E.Engine.meaning in
    let graph = c.args.tables.now.graph.now in
    let literals = held c.args.tables.now.literals.now in
    let bytes : List ℕ = line_feed ∷ [] in
    let r0 = c.args.region.now in
    let r1 = c.run_line_feed.new.region in
    let s = c.args.scratch.now in
    let s1 = c.find_hits.new.scratch in
    let s2 = c.find_hits.new.scratch in
    let s3 = c.run_line_feed.new.scratch in
    let s4 = c.forget.new.scratch in
    let prev = c.prev_of.result in
    let found = c.find_hits.ensures in
    let kept = c.run_line_feed.ensures.keeps in
    let course_is : s2.course ≡ s.course = found.course in
    let at_is : s4.at ≡ s.at = c.forget.ensures.at_is ∙ (kept.at_is ∙ found.at_is) in
    let past_is : s4.past ≡ s.past = c.forget.ensures.past ∙ (kept.past ∙ found.past) in
    let pushed : c.push_past.new.past ≡ drop (length bytes) (s.past ++ bytes) = c.push_past.ensures ∙ ap (λ (xs : List ℕ). drop (length bytes) (xs ++ bytes)) past_is in
    takes-as g.V.Events.tells c.args.events.now c.run_line_feed.new.events
    (ScansChunk m graph r0 r1 prev s1.at s1.past bytes s2.hits.items s2.course.known.told.items s2.course.known.here.items s3.course.known.told.items s3.course.known.here.items)
    (Scans m graph literals (stand_of s r0) (stand (s4.at + length bytes) c.push_past.new.past r1 s4.course.known.told.items s4.course.known.here.items) bytes)
    (λ ps scans.
    let one : ScansChunk m graph r0 r1 prev s.at s.past bytes s2.hits.items s2.course.known.told.items s2.course.known.here.items s3.course.known.told.items s3.course.known.here.items ps =
    subst (λ n. ScansChunk m graph r0 r1 prev n s.past bytes s2.hits.items s2.course.known.told.items s2.course.known.here.items s3.course.known.told.items s3.course.known.here.items ps) found.at_is (subst (λ v. ScansChunk m graph r0 r1 prev s1.at v bytes s2.hits.items s2.course.known.told.items s2.course.known.here.items s3.course.known.told.items s3.course.known.here.items ps) found.past scans) in
    let two : ScansChunk m graph r0 r1 prev s.at s.past bytes s1.hits.items s2.course.known.told.items s2.course.known.here.items s3.course.known.told.items s3.course.known.here.items ps =
    one in
    let three : ScansChunk m graph r0 r1 prev s.at s.past bytes s1.hits.items s.course.known.told.items s.course.known.here.items s3.course.known.told.items s3.course.known.here.items ps =
    subst (λ k. ScansChunk m graph r0 r1 prev s.at s.past bytes s1.hits.items k.known.told.items k.known.here.items s3.course.known.told.items s3.course.known.here.items ps) course_is two in
    let four : ScansChunk m graph r0 r1 prev s.at s.past bytes s1.hits.items s.course.known.told.items s.course.known.here.items s4.course.known.told.items s4.course.known.here.items ps =
    subst (λ k. ScansChunk m graph r0 r1 prev s.at s.past bytes s1.hits.items s.course.known.told.items s.course.known.here.items k.known.told.items k.known.here.items ps) (sym c.forget.ensures.course) three in
    subst (λ n. Scans m graph literals (stand_of s r0) (stand (n + length bytes) c.push_past.new.past r1 s4.course.known.told.items s4.course.known.here.items) bytes ps) (sym at_is)
    (chunk-scans m graph literals s.at s.past c.push_past.new.past r0 r1 s.course.known.told.items s.course.known.here.items s4.course.known.told.items s4.course.known.here.items prev bytes s1.hits.items ps (omega arith, tt)
    (λ u e e'. subst (λ n. EndsBehind u prev n) found.at_is (c.prev_of.ensures u (found.at_is ∙ e) (found.past ∙ e'))) found.hits pushed four))
    c.run_line_feed.ensures.scans

pub returns-clause-left : goal.returns-clause-left
returns-clause-left g c =
    let m = g.E.Engine.meaning in
    let graph = c.args.tables.now.graph.now in
    let literals = held c.args.tables.now.literals.now in
    let s = c.args.scratch.now in
    let s1 = c.find_hits.new.scratch in
    let s2 = c.find_hits.new.scratch in
    let r0 = c.args.region.now in
    let found = c.find_hits.ensures in
    let prev = c.prev_of.result in
    let last : c.forget.new.scratch.last ≡ c.run_line_feed.new.scratch.last = c.forget.ensures.last in
    let finals : s2.finals ≡ s.finals = found.finals in
    let course : s2.course ≡ s.course = found.course in
    let run = c.run_line_feed.ensures.left in
    let one : LeavesLineFeedChunk m graph r0 prev s.at s.past (line_feed ∷ []) s2.hits.items s2.course.known.told.items s2.course.known.here.items s2.finals c.run_line_feed.new.scratch.last.items =
    subst (λ n. LeavesLineFeedChunk m graph r0 prev n s.past (line_feed ∷ []) s2.hits.items s2.course.known.told.items s2.course.known.here.items s2.finals c.run_line_feed.new.scratch.last.items) found.at_is (subst (λ v. LeavesLineFeedChunk m graph r0 prev s1.at v (line_feed ∷ []) s2.hits.items s2.course.known.told.items s2.course.known.here.items s2.finals c.run_line_feed.new.scratch.last.items) found.past run) in
    let two = one in
    let three = subst (λ k. LeavesLineFeedChunk m graph r0 prev s.at s.past (line_feed ∷ []) s1.hits.items k.known.told.items k.known.here.items s2.finals c.run_line_feed.new.scratch.last.items) course two in
    let four = subst (λ t. LeavesLineFeedChunk m graph r0 prev s.at s.past (line_feed ∷ []) s1.hits.items s.course.known.told.items s.course.known.here.items t c.run_line_feed.new.scratch.last.items) finals three in
    subst (λ v. LeavesToEnd m graph literals (stand_of s r0) (line_feed ∷ []) v.items) (sym last)
    (line_feed-ends m graph literals s.at s.past r0 s.course.known.told.items s.course.known.here.items prev s1.hits.items s.finals c.run_line_feed.new.scratch.last.items
    (λ u e e'. subst (λ n. EndsBehind u prev n) found.at_is (c.prev_of.ensures u (found.at_is ∙ e) (found.past ∙ e'))) found.hits c.requires.asks four)

pub run_line_feed-requires-clause-before : goal.run_line_feed-requires-clause-before
run_line_feed-requires-clause-before g c =
    let found = c.find_hits.ensures in
    between-kept g.E.Engine.meaning c.args.tables.now.graph.now c.args.region.now c.args.cache.now found.at_is (found-keeps found) c.requires.before

pub returns-clause-behind : goal.returns-clause-behind
returns-clause-behind g c =
    let behind = c.run_line_feed.ensures.behind in
    let forgot = c.forget.ensures in
    let size = pushed-length c.forget.new.scratch.past (line_feed ∷ []) c.push_past.new.past (ap length forgot.past ∙ behind.room.past) c.push_past.ensures in
    between-kept g.E.Engine.meaning c.args.tables.now.graph.now c.run_line_feed.new.region c.run_line_feed.new.cache (ap (λ n. n + length (line_feed ∷ [])) (forgot.at_is ∙ c.run_line_feed.ensures.keeps.at_is))
    (record {
      ends = forgot.ends;
      course = forgot.course;
      hits = forgot.count;
      rows = ap (λ r. r.count) forgot.rows;
      finals = ap (λ f. length f.words) forgot.finals;
      last = ap (λ v. length v.items) forgot.last;
      past = size ∙ sym behind.room.past;
    }) behind

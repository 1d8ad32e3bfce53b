use Rattle.std.proofs.Common.{◌≡◌, ◌+◌, ℕ, List, ◌++◌, length, drop, sym, ap, subst, ◌∙◌, arith}
use Rattle.hs_literals.specs.Held.{held}
use Rattle.hs_nodes.specs.Blocks.{EndsBehind}
use Rattle.hs_nodes.specs.Openings.{AreOver}
use Rattle.hs_scan.specs.Hits.{sought}
use Rattle.hs_scan.specs.Scans.{AreHitsBehind, Scans, ScansChunk, stand}
use Rattle.hs_scan.specs.Scratches.{stand_of}
use Rattle.hs_scan.proofs.BlockLemmas.{takes-as}
use Rattle.hs_nodes.proofs.FillLemmas.{each-by}
use Rattle.hs_scan.proofs.OpeningLemmas.{hits-sought}
use Rattle.hs_scan.proofs.PastLemmas.{early-pushed}
use Rattle.hs_scan.proofs.ScanLemmas.{chunk-scans}
use Rattle.hs_scan.proofs.BetweenLemmas.{between-kept, found-keeps, pushed-length}
use Rattle.hs_scan.proofs.scanning.scan_chunk.Goals as goal

pub run_chunk-requires-clause-small : goal.run_chunk-requires-clause-small
run_chunk-requires-clause-small g c = each-by c.args.bytes.now (λ i. (c.type_inv.bytes i).fits)

pub run_chunk-requires-clause-others : goal.run_chunk-requires-clause-others
run_chunk-requires-clause-others g c k none =
    c.find_hits.ensures.others k none

pub returns-clause-early : goal.returns-clause-early
returns-clause-early g c =
    let s = c.args.scratch.now in
    let past_is : c.forget.new.scratch.past ≡ s.past = c.forget.ensures.past ∙ (c.run_chunk.ensures.keeps.past ∙ c.find_hits.ensures.past) in
    let at_is : c.forget.new.scratch.at ≡ s.at = c.forget.ensures.at_is ∙ (c.run_chunk.ensures.keeps.at_is ∙ c.find_hits.ensures.at_is) in
    early-pushed s.past c.push_past.new.past c.args.bytes.now s.at (c.forget.new.scratch.at + length c.args.bytes.now) c.requires.before.room.past
    (c.push_past.ensures ∙ ap (λ (xs : List ℕ). drop (length c.args.bytes.now) (xs ++ c.args.bytes.now)) past_is) (ap (λ n. n + length c.args.bytes.now) at_is)

pub returns-clause-scans : goal.returns-clause-scans
returns-clause-scans g c =
    let m = g.E.Engine.meaning in
    let graph = c.args.tables.now.graph.now in
    let literals = held c.args.tables.now.literals.now in
    let openings = graph.openings in
    let over = c.are_over-are_over.result in
    let bytes = c.args.bytes.now in
    let r0 = c.args.region.now in
    let r1 = c.run_chunk.new.region in
    let s = c.args.scratch.now in
    let s1 = c.find_hits.new.scratch in
    let s2 = c.find_hits.new.scratch in
    let s3 = c.run_chunk.new.scratch in
    let s4 = c.forget.new.scratch in
    let prev = c.prev_of.result in
    let found = c.find_hits.ensures in
    let kept = c.run_chunk.ensures.keeps in
    let course_is : s2.course ≡ s.course = found.course in
    let at_is : s4.at ≡ s.at = c.forget.ensures.at_is ∙ (kept.at_is ∙ found.at_is) in
    let past_is : s4.past ≡ s.past = c.forget.ensures.past ∙ (kept.past ∙ found.past) in
    let pushed : c.push_past.new.past ≡ drop (length bytes) (s.past ++ bytes) = c.push_past.ensures ∙ ap (λ (xs : List ℕ). drop (length bytes) (xs ++ bytes)) past_is in
    takes-as g.V.Events.tells c.args.events.now c.run_chunk.new.events
    (ScansChunk m graph r0 r1 prev s1.at s1.past bytes (sought over openings s2.hits.items) s2.course.known.told.items s2.course.known.here.items s3.course.known.told.items s3.course.known.here.items)
    (Scans m graph literals (stand_of s r0) (stand (s4.at + length bytes) c.push_past.new.past r1 s4.course.known.told.items s4.course.known.here.items) bytes)
    (λ ps scans.
    let one : ScansChunk m graph r0 r1 prev s.at s.past bytes (sought over openings s2.hits.items) s2.course.known.told.items s2.course.known.here.items s3.course.known.told.items s3.course.known.here.items ps =
    subst (λ n. ScansChunk m graph r0 r1 prev n s.past bytes (sought over openings s2.hits.items) s2.course.known.told.items s2.course.known.here.items s3.course.known.told.items s3.course.known.here.items ps) found.at_is (subst (λ v. ScansChunk m graph r0 r1 prev s1.at v bytes (sought over openings s2.hits.items) s2.course.known.told.items s2.course.known.here.items s3.course.known.told.items s3.course.known.here.items ps) found.past scans) in
    let two : ScansChunk m graph r0 r1 prev s.at s.past bytes (sought over openings s1.hits.items) s2.course.known.told.items s2.course.known.here.items s3.course.known.told.items s3.course.known.here.items ps =
    one in
    let three : ScansChunk m graph r0 r1 prev s.at s.past bytes (sought over openings s1.hits.items) s.course.known.told.items s.course.known.here.items s3.course.known.told.items s3.course.known.here.items ps =
    subst (λ k. ScansChunk m graph r0 r1 prev s.at s.past bytes (sought over openings s1.hits.items) k.known.told.items k.known.here.items s3.course.known.told.items s3.course.known.here.items ps) course_is two in
    let four : ScansChunk m graph r0 r1 prev s.at s.past bytes (sought over openings s1.hits.items) s.course.known.told.items s.course.known.here.items s4.course.known.told.items s4.course.known.here.items ps =
    subst (λ k. ScansChunk m graph r0 r1 prev s.at s.past bytes (sought over openings s1.hits.items) s.course.known.told.items s.course.known.here.items k.known.told.items k.known.here.items ps) (sym c.forget.ensures.course) three in
    subst (λ n. Scans m graph literals (stand_of s r0) (stand (n + length bytes) c.push_past.new.past r1 s4.course.known.told.items s4.course.known.here.items) bytes ps) (sym at_is)
    (chunk-scans m graph literals s.at s.past c.push_past.new.past r0 r1 s.course.known.told.items s.course.known.here.items s4.course.known.told.items s4.course.known.here.items prev bytes (sought over openings s1.hits.items) ps (each-by bytes (λ i. (c.type_inv.bytes i).fits))
    (λ u e e'. subst (λ n. EndsBehind u prev n) found.at_is (c.prev_of.ensures u (found.at_is ∙ e) (found.past ∙ e'))) (hits-sought over openings literals s.at s.past s1.hits.items bytes (subst (λ ls. AreHitsBehind ls s.at s.past s1.hits.items bytes) c.sought.ensures found.hits)) pushed four))
    c.run_chunk.ensures.scans

pub run_chunk-requires-clause-before : goal.run_chunk-requires-clause-before
run_chunk-requires-clause-before g c =
    let found = c.find_hits.ensures in
    between-kept g.E.Engine.meaning c.args.tables.now.graph.now c.args.region.now c.args.cache.now found.at_is (found-keeps found) c.requires.before

pub returns-clause-behind : goal.returns-clause-behind
returns-clause-behind g c =
    let behind = c.run_chunk.ensures.behind in
    let forgot = c.forget.ensures in
    let size = pushed-length c.forget.new.scratch.past c.args.bytes.now c.push_past.new.past (ap length forgot.past ∙ behind.room.past) c.push_past.ensures in
    between-kept g.E.Engine.meaning c.args.tables.now.graph.now c.run_chunk.new.region c.run_chunk.new.cache (ap (λ n. n + length c.args.bytes.now) (forgot.at_is ∙ c.run_chunk.ensures.keeps.at_is))
    (record {
      ends = forgot.ends;
      course = forgot.course;
      hits = forgot.count;
      rows = ap (λ r. r.count) forgot.rows;
      finals = ap (λ f. length f.words) forgot.finals;
      last = ap (λ v. length v.items) forgot.last;
      past = size ∙ sym behind.room.past;
    }) behind

pub are_over-are_over-requires-clause-few : goal.are_over-are_over-requires-clause-few
are_over-are_over-requires-clause-few g c k set = let few = c.requires.sound.few in let below = c.requires.before.room.room.below k set in omega (arith, few, below)

pub are_over-are_over-requires-clause-room : goal.are_over-are_over-requires-clause-room
are_over-are_over-requires-clause-room g c k set = let room = c.requires.sound.openings.room in let below = c.requires.before.room.room.below k set in omega (arith, room, below)

pub run_chunk-requires-clause-over : goal.run_chunk-requires-clause-over
run_chunk-requires-clause-over g c set =
    let found = c.find_hits.ensures in
    let openings = c.args.tables.now.graph.now.openings in
    subst (λ n. AreOver openings n c.find_hits.new.scratch.course.marks) (sym found.at_is)
    (subst (λ k. AreOver openings c.args.scratch.now.at k.marks) (sym found.course) (c.are_over-are_over.ensures.over set))

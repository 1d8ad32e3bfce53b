use Rattle.std.proofs.Common.{◌≡◌, ◌+◌, ◌-◌, ◌*◌, ◌≤◌, ℕ, [], ◌∷◌, length, take, subst, ◌∙◌, arith}
use Rattle.std.proofs.lemmas.List.{length-take-le}
use Rattle.hs_base.specs.Assertions.{line_feed}
use Rattle.hs_literals.specs.Held.{held}
use Rattle.hs_scan.specs.Scans.{Scans}
use Rattle.hs_scan.specs.Scratches.{stand_of}
use Rattle.hs_scan.proofs.BlockLemmas.{takes-then}
use Rattle.hs_scan.proofs.LineFeedLemmas.{line_feed-left_behind, line_feed-scans}
use Rattle.hs_scan.proofs.TickLemmas.{last-steps}
use Rattle.hs_scan.proofs.last_byte.scan_to_line_feed.Goals as goal

pub returns-clause-scans : goal.returns-clause-scans
returns-clause-scans g c =
    let m = g.E.Engine.meaning in
    let graph = c.args.tables.now.graph.now in
    let literals = held c.args.tables.now.literals.now in
    let bytes = c.args.bytes.now in
    let n : ℕ = length bytes - 1 in
    let first = stand_of c.args.scratch.now c.args.region.now in
    let mid = stand_of c.scan_bytes.new.scratch c.scan_bytes.new.region in
    let then = stand_of c.scan_line_feed.new.scratch c.scan_line_feed.new.region in
    takes-then g.V.Events.tells c.args.events.now c.scan_bytes.new.events c.scan_line_feed.new.events (Scans m graph literals first mid (take n bytes)) (Scans m graph literals mid then (line_feed ∷ [])) (Scans m graph literals first then bytes)
    (λ ps qs. line_feed-scans m graph literals first mid then bytes n ps qs (omega (arith, c.scan_bytes.ensures.at)) (omega (arith, c.scan_line_feed.ensures.at)) (omega (arith, c.requires.some)) c.requires.ends) c.scan_bytes.ensures.scans c.scan_line_feed.ensures.scans

pub returns-clause-left : goal.returns-clause-left
returns-clause-left g c =
    let taken = c.scan_bytes.ensures.scans in
    line_feed-left_behind g.E.Engine.meaning c.args.tables.now.graph.now (held c.args.tables.now.literals.now) (stand_of c.args.scratch.now c.args.region.now) (stand_of c.scan_bytes.new.scratch c.scan_bytes.new.region) c.args.bytes.now (length c.args.bytes.now - 1) taken.pairs c.scan_line_feed.new.scratch.last.items
    (omega (arith, c.requires.some)) c.requires.ends taken.holds c.scan_line_feed.ensures.left

pub returns-clause-early : goal.returns-clause-early
returns-clause-early g c = λ early. c.scan_line_feed.ensures.early (c.scan_bytes.ensures.early early)

pub returns-clause-outside : goal.returns-clause-outside
returns-clause-outside g c i out = c.scan_line_feed.ensures.outside i out ∙ c.scan_bytes.ensures.outside i out

pub returns-clause-ticks : goal.returns-clause-ticks
returns-clause-ticks g c =
    let nodes : ℕ = length c.args.tables.now.graph.now.table.nodes.items in
    let bytes = c.args.bytes.now in
    let n : ℕ = length bytes - 1 in
    let size : length (take n bytes) ≡ n = length-take-le n bytes (omega arith) in
    last-steps nodes n (length bytes) c.args.steps.now c.scan_bytes.new.steps c.scan_line_feed.new.steps (omega (arith, c.requires.some)) (subst (λ k. c.scan_bytes.new.steps ≤ c.args.steps.now + 32 * (nodes * k)) size c.scan_bytes.ensures.ticks) c.scan_line_feed.ensures.ticks

use Rattle.std.proofs.Common.{◌≡◌, ◌+◌, ◌-◌, ◌*◌, ◌≤◌, ℕ, [], length, take, drop, refl, subst, ◌∙◌, arith}
use Rattle.hs_base.proofs.RegionLemmas.{range-size}
use Rattle.hs_literals.specs.Held.{held}
use Rattle.hs_scan.specs.Scans.{Scans}
use Rattle.hs_scan.specs.Scratches.{stand_of}
use Rattle.hs_scan.proofs.BlockLemmas.{takes-none, takes-then}
use Rattle.hs_scan.proofs.ScanLemmas.{scans-more, scans-none}
use Rattle.hs_scan.proofs.TickLemmas.{chunk-steps}
use Rattle.hs_scan.proofs.scanning.scan_bytes.Goals as goal

pub loop-from-init : goal.loop-from-init
loop-from-init g c =
    let s = stand_of c.args.scratch.now c.args.region.now in
    record {
      within = omega arith;
      len = refl;
      between = c.requires.before;
      outside = λ i out. refl;
      keeps = record { rows = refl; finals = refl; last = refl };
      none = c.requires.none;
      early = λ none. none;
      ticks = omega arith;
      at_is = omega arith;
      scans = takes-none g.V.Events.tells c.args.events.now (Scans g.E.Engine.meaning c.args.tables.now.graph.now (held c.args.tables.now.literals.now) s s []) (scans-none g.E.Engine.meaning c.args.tables.now.graph.now (held c.args.tables.now.literals.now) s);
    }

pub loop-from-preserved : goal.loop-from-preserved
loop-from-preserved g c =
    let m = g.E.Engine.meaning in
    let graph = c.args.tables.now.graph.now in
    let literals = held c.args.tables.now.literals.now in
    let bytes = c.args.bytes.now in
    let inv = c.loop-from.invariant in
    let from : ℕ = c.loop-from.from in
    let end : ℕ = c.min-end.result in
    let order : from ≤ end = omega (arith, c.min-end.ensures, c.loop-from-test.true) in
    let inside : end ≤ length bytes = omega (arith, c.min-end.ensures) in
    let size : length (take (end - from) (drop from bytes)) ≡ end - from = range-size bytes from end order inside in
    let first = stand_of c.args.scratch.now c.args.region.now in
    let here = stand_of c.loop-from.scratch c.loop-from.region in
    let then = stand_of c.scan_chunk.new.scratch c.scan_chunk.new.region in
    record {
      within = inside;
      len = c.scan_chunk.ensures.len ∙ inv.len;
      between = c.scan_chunk.ensures.behind;
      outside = λ i out. c.scan_chunk.ensures.outside i out ∙ inv.outside i out;
      keeps = record { rows = c.scan_chunk.ensures.keeps.rows ∙ inv.keeps.rows; finals = c.scan_chunk.ensures.keeps.finals ∙ inv.keeps.finals; last = c.scan_chunk.ensures.keeps.last ∙ inv.keeps.last };
      none = c.scan_chunk.ensures.none;
      early = λ none. c.scan_chunk.ensures.early (inv.early none);
      ticks =
          chunk-steps (length graph.table.nodes.items) from (end - from) end c.args.steps.now c.loop-from.steps c.scan_chunk.new.steps (omega (arith, order)) (omega (arith, c.min-end.ensures, c.loop-from-test.true)) inv.ticks
          (subst (λ n. c.scan_chunk.new.steps ≤ c.loop-from.steps + 16 * (length graph.table.nodes.items * (n + 1))) size c.scan_chunk.ensures.ticks);
      at_is = omega (arith, c.scan_chunk.ensures.at, inv.at_is, size, order);
      scans =
          takes-then g.V.Events.tells c.args.events.now c.loop-from.events c.scan_chunk.new.events (Scans m graph literals first here (take from bytes)) (Scans m graph literals here then (take (end - from) (drop from bytes))) (Scans m graph literals first then (take end bytes))
          (λ ps qs. scans-more m graph literals first here then bytes from end ps qs order (omega (arith, inv.at_is)) (omega (arith, c.scan_chunk.ensures.at))) inv.scans c.scan_chunk.ensures.scans;
    }

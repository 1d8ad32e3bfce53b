use Rattle.std.proofs.Common.{rules, refl, arith}
use Rattle.hs_lines.proofs.PrintLemmas.{wrote, printed-all, printed-part}
use Rattle.hs_tool.proofs.ScanLemmas.{when_ok}
use Rattle.hs_tool.proofs.WrittenLemmas.{takes-written}
use Rattle.hs_tool.proofs.piece.write_piece.Goals as goal

pub returns-then-lines-clause-scanned : goal.returns-then-lines-clause-scanned
returns-then-lines-clause-scanned g c =
    let taken = takes-written c.args.bytes.now c.write_cached.ensures.fits c.write_cached.ensures.idle (when_ok c.write_cached.result (λ err. omega (arith, c.write_cached.ensures.full.0 err, c.requires.room)) c.write_cached.ensures.any) in
    let lines = wrote g.O.Sink.written g.O.Sink.faults _ taken.pairs c.write_cached.new.events refl taken.through in
    let same = lines.same_out in
    let part = printed-part lines.printed c.if-lines.true in
    record { pairs = taken.pairs; writes = taken.holds; passes = search (rules, same, part) }

pub returns-else-lines-clause-scanned : goal.returns-else-lines-clause-scanned
returns-else-lines-clause-scanned g c =
    let taken = takes-written c.args.bytes.now c.write_cached.ensures.fits c.write_cached.ensures.idle (when_ok c.write_cached.result (λ err. omega (arith, c.write_cached.ensures.full.0 err, c.requires.room)) c.write_cached.ensures.any) in
    let lines = wrote g.O.Sink.written g.O.Sink.faults _ taken.pairs c.write_cached.new.events refl taken.through in
    let same_out = lines.same_out in
    let same_pending = lines.same_pending in
    let all = printed-all lines.printed c.if-lines.false in
    record { pairs = taken.pairs; writes = taken.holds; passes = search (rules, same_out, same_pending, all) }

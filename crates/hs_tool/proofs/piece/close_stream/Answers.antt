use Rattle.std.proofs.Common.{rules, refl}
use Rattle.hs_lines.proofs.PrintLemmas.{wrote, printed-all, printed-part}
use Rattle.hs_tool.proofs.piece.close_stream.Goals as goal

pub returns-then-lines : goal.returns-then-lines
returns-then-lines g c =
    let taken = c.close_cached.ensures.told in
    let lines = wrote g.O.Sink.written g.O.Sink.faults _ taken.pairs c.close_cached.new.events refl taken.through in
    let same = lines.same_out in
    let part = printed-part lines.printed c.if-lines.true in
    record { pairs = taken.pairs; ends = taken.holds; passes = search (rules, same, part) }

pub returns-else-lines : goal.returns-else-lines
returns-else-lines g c =
    let taken = c.close_cached.ensures.told in
    let lines = wrote g.O.Sink.written g.O.Sink.faults _ taken.pairs c.close_cached.new.events refl taken.through in
    let same_out = lines.same_out in
    let same_pending = lines.same_pending in
    let all = printed-all lines.printed c.if-lines.false in
    record { pairs = taken.pairs; ends = taken.holds; passes = search (rules, same_out, same_pending, all) }

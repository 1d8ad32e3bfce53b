use Rattle.std.proofs.Common.{◌≡◌, map}
use Rattle.hs_base.specs.Entries.{listed}
use Rattle.hs_stream.specs.Drawing.{entries, behind_entries}
use Rattle.hs_stream.proofs.drawing.draw_entries.Given as goal

abbrev pub invariant-loop-number : goal.invariant-loop-number
invariant-loop-number l = record {
  drawn : map listed l.drawn.items ≡ entries l.number l.fn.generator.number;
  next : l.generator.number ≡ behind_entries l.number l.fn.generator.number;
}

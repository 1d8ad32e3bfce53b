use Rattle.std.proofs.Common.{◌≡◌}
use Rattle.hs_stream.specs.Drawing.{after, bytes}
use Rattle.hs_stream.proofs.drawing.draw_bytes.Given as goal

abbrev pub invariant-loop-place : goal.invariant-loop-place
invariant-loop-place l = record {
  drawn : l.drawn.items ≡ bytes l._place l.fn.generator.number;
  next : l.generator.number ≡ after l._place l.fn.generator.number;
}

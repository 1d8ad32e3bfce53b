use Rattle.hs_rows.proofs.text.text_of.Goals as goal

pub loop-byte-preserved : goal.loop-byte-preserved
loop-byte-preserved c = λ plain. (
  (c.loop-byte.invariant plain).0,
  c.in-Some.ensures (c.first_count-count.ensures (c.in_line.ensures (c.loop-byte.invariant plain).1)),
)

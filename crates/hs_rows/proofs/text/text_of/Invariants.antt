use Rattle.std.proofs.Common.{◌≡◌, All}
use Rattle.hs_rows.specs.Texts.{IsItself}
use Rattle.hs_rows.proofs.text.text_of.Given as goal

abbrev pub invariant-loop-byte : goal.invariant-loop-byte
invariant-loop-byte l = All IsItself l.fn.written → (l.cuts ≡ 0) × All IsItself l.rest

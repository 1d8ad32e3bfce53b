use Rattle.std.proofs.Common.{◌≡◌, take}
use Rattle.hs_rows.specs.Texts.{spelled}
use Rattle.hs_rows.proofs.text.number_of.Given as goal

abbrev pub invariant-loop-byte : goal.invariant-loop-byte
invariant-loop-byte l = l.number ≡ spelled (take l.byte-index l.digits)

use Rattle.std.proofs.Common.{◌≡◌, ◌++◌, take}
use Rattle.hs_dbfile.proofs.field.fixed_at.Given as goal

abbrev pub invariant-loop-byte : goal.invariant-loop-byte
invariant-loop-byte l = l.bytes ≡ take l.byte-index l.fixed ++ l.rest

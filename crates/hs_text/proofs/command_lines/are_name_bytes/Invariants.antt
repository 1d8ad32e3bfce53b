use Rattle.std.proofs.Common.{ℕ, ◌<◌, get_or}
use Rattle.hs_text.specs.Commands.{IsNameByte}
use Rattle.hs_text.proofs.command_lines.are_name_bytes.Given as goal

abbrev pub invariant-loop-byte : goal.invariant-loop-byte
invariant-loop-byte l = record {
  each : (k : ℕ) → k < l.byte-index → IsNameByte (get_or l.bytes k 0);
}

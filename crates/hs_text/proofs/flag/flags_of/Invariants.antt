use Rattle.std.proofs.Common.{◌≡◌, ℕ, ◌<◌, drop, get_or}
use Rattle.hs_text.specs.FlagLetters.{flag_bit, flags_from}
use Rattle.hs_text.proofs.flag.flags_of.Given as goal

abbrev pub invariant-loop-letter : goal.invariant-loop-letter
invariant-loop-letter l = record {
  kept : flags_from l.flags.0 (drop l.letter-index l.letters) ≡ flags_from 0 l.letters;
  each : (k : ℕ) → k < l.letter-index → 0 < flag_bit (get_or l.letters k 0);
}

use Rattle.std.proofs.Common.{◌≡◌, ℕ, ◌<◌, length, get_or}
use Rattle.hs_limex.specs.SmallWords.{IsWordOf}
use Rattle.hs_limex.proofs.small_filling.fill.Given as goal

abbrev pub invariant-loop-number : goal.invariant-loop-number
invariant-loop-number l = record {
  len : length l.words ≡ length l.initial.words;
  each : (number : ℕ) → number < l.number → IsWordOf l.automaton l.pitch l.span number (get_or l.words number 0);
}

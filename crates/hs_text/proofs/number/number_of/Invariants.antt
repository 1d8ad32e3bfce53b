use Rattle.std.proofs.Common.{◌≡◌, ℕ, ◌<◌, ◌^◌, drop, get_or}
use Rattle.hs_text.specs.Numbers.{IsDigit, value_from}
use Rattle.hs_text.proofs.number.number_of.Given as goal

abbrev pub invariant-loop-digit : goal.invariant-loop-digit
invariant-loop-digit l = record {
  kept : value_from l.value (drop l.digit-index l.digits) ≡ value_from 0 l.digits;
  small : l.value < 2 ^ 64;
  each : (k : ℕ) → k < l.digit-index → IsDigit (get_or l.digits k 0);
}

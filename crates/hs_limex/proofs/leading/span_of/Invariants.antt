use Rattle.std.proofs.Common.{◌≡◌, ℕ, ◌%◌, ◌<◌, ◌≤◌, true}
use Rattle.hs_limex.specs.WordTables.{in_table}
use Rattle.hs_limex.proofs.leading.span_of.Given as goal

abbrev pub invariant-loop-number : goal.invariant-loop-number
invariant-loop-number l = record {
  used : (n k : ℕ) → n < l.number → in_table l.near n k ≡ true → n % 8 < l.span;
  few : l.span ≤ 8;
}

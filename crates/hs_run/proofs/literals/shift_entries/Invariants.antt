use Rattle.std.proofs.Common.{◌≡◌, ℕ, ◌<◌, ◌≤◌, length}
use Rattle.hs_base.specs.Bits.{has_bit}
use Rattle.hs_base.specs.LiteralRows.{shifted}
use Rattle.hs_run.proofs.LiteralLemmas.{IsCarried}
use Rattle.hs_run.proofs.literals.shift_entries.Given as goal

abbrev pub invariant-loop-k : goal.invariant-loop-k
invariant-loop-k l = record {
  len : length l.row ≡ length l.fn.row;
  carried : IsCarried l.enters (has_bit l.fn.row) l.k l.carried;
  moved : (j : ℕ) → j < l.k → has_bit l.row j ≡ shifted l.count l.enters (has_bit l.fn.row) j;
  others : (j : ℕ) → l.k ≤ j → has_bit l.row j ≡ has_bit l.fn.row j;
}

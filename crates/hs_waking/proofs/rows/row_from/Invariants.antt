use Rattle.std.proofs.Common.{◌≡◌, ℕ, suc, ◌-◌, ◌≤◌, true, length}
use Rattle.hs_base.specs.Bits.{has_word_bit}
use Rattle.hs_waking.specs.Rows.{HasLevelFrom, IsRowFromEach}
use Rattle.hs_waking.proofs.rows.row_from.Given as goal

abbrev pub invariant-loop-level : goal.invariant-loop-level
invariant-loop-level l = record {
  row : IsRowFromEach l.automaton l.first l.row.items;
  level : (x : ℕ) → has_word_bit l.first x ≡ true → (d : ℕ) → suc d ≡ length l.row.items → HasLevelFrom l.automaton x d l.level;
  few : length l.row.items ≤ 8;
}

abbrev pub decreases-loop-level : goal.decreases-loop-level
decreases-loop-level l = 8 - length l.row.items

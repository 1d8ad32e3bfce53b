use Rattle.std.proofs.Common.{◌≡◌, ℕ, ◌<◌, ◌≤◌, true, length, map}
use Rattle.hs_base.specs.Contexts.{Context}
use Rattle.hs_engine.specs.Automata.{enters}
use Rattle.hs_waking.specs.Rows.{AreShort, HasRowFrom, row_sets}
use Rattle.hs_waking.proofs.rows.rows_of.Given as goal

abbrev pub invariant-loop-position : goal.invariant-loop-position
invariant-loop-position l = record {
  rows : (x : ℕ) (c : Context) → x < l.position → enters l.automaton x c ≡ true → HasRowFrom l.automaton (map row_sets l.rows.items) x;
  short : AreShort (map row_sets l.rows.items);
  few : length l.rows.items ≤ 16;
}

use Rattle.std.proofs.Common.{◌≡◌, ℕ, ◌<◌, true, false}
use Rattle.hs_engine.specs.Rows.{in_row}
use Rattle.hs_limex.specs.Near.{IsNearFrom}
use Rattle.hs_limex.specs.SingleWords.{is_set}
use Rattle.hs_limex.specs.SmallWords.{one_context}
use Rattle.hs_limex.proofs.small_filling.far_word.Given as goal

abbrev pub invariant-loop-position : goal.invariant-loop-position
invariant-loop-position l = record {
  few : (x : ℕ) → is_set l.word x ≡ true → x < l.position;
  rest : (x y : ℕ) → x < l.position → in_row l.follows x y one_context ≡ true → is_set l.word x ≡ false → IsNearFrom x y;
}

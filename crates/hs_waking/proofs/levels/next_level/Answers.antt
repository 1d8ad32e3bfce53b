use Rattle.std.proofs.Common.{inl, inr, arith}
use Rattle.std.proofs.lemmas.Bool.{cases_lt}
use Rattle.hs_engine.specs.Rows.{in_row}
use Rattle.hs_waking.proofs.AnyLemmas.{true-false}
use Rattle.hs_waking.proofs.PlaceLemmas.{row-past}
use Rattle.hs_waking.proofs.levels.next_level.Goals as goal

pub returns : goal.returns
returns c x y h set is =
    let follows = c.args.follows.now in
    elim (cases_lt x c.loop-position.position) [
      | inl below ↦ c.loop-position.invariant x y h below set is
      | inr past ↦ true-false (in_row follows x y h) is (row-past follows x y h (omega (arith, c.size-position-end.ensures.size)))
    ]

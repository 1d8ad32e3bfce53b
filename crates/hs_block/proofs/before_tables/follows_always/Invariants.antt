use Rattle.std.proofs.Common.{◌≡◌, ℕ, ◌<◌, true}
use Rattle.hs_engine.specs.Rows.{in_square}
use Rattle.hs_block.proofs.before_tables.follows_always.Given as goal

abbrev pub invariant-loop-square : goal.invariant-loop-square
invariant-loop-square l = (k : ℕ) → k < l.square → in_square l.follows k l.fn.from l.to ≡ true

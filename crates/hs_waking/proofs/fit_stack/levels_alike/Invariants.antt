use Rattle.std.proofs.Common.{◌≡◌, ℕ, ◌<◌}
use Rattle.std.specs.Prelude.{slice_index}
use Rattle.hs_waking.proofs.fit_stack.levels_alike.Given as goal

abbrev pub invariant-loop-depth : goal.invariant-loop-depth
invariant-loop-depth l = record { alike : (d : ℕ) → d < l.depth → slice_index l.row.numbers d ≡ slice_index l.other.numbers d }

use Rattle.std.proofs.Common.{◌≡◌, ℕ, ◌<◌, Some, slice_get}
use Rattle.hs_run.specs.declared.ends.Ends.{Ends as EndsAbout}
use Rattle.hs_run.specs.Ends.{no_ends}
use Rattle.hs_run.proofs.ends.forget.Given as goal

abbrev pub invariant-loop-one : goal.invariant-loop-one
invariant-loop-one l = (i : ℕ) (e : EndsAbout) → i < l.one-index → slice_get l.ends i ≡ Some e → e ≡ no_ends

use Rattle.std.proofs.Common.{◌≡◌, ℕ, ◌<◌, ◌≤◌, length, Some, slice_get}
use Rattle.hs_base.specs.Settling.{settled}
use Rattle.hs_rose.specs.declared.identifiers.Identifier.{Identifier}
use Rattle.hs_run.specs.declared.ends.Ends.{Ends as EndsAbout}
use Rattle.hs_run.specs.declared.kept.Kept.{Kept as KeptOf}
use Rattle.hs_run.specs.Ends.{ends_of}
use Rattle.hs_run.specs.Keeping.{plain_kept}
use Rattle.hs_run.proofs.reporting.settle.Given as goal

abbrev pub invariant-loop-i : goal.invariant-loop-i
invariant-loop-i l = record {
  len : length l.kept ≡ length l.initial.kept;
  later : (j : ℕ) → l.i ≤ j → slice_get l.kept j ≡ slice_get l.initial.kept j;
  settled : (j : ℕ) (identifier : Identifier) (k k' : KeptOf) (e : EndsAbout) → j < l.i →
      slice_get l.identifiers j ≡ Some identifier → slice_get l.initial.kept j ≡ Some k → slice_get l.ends j ≡ Some e → slice_get l.kept j ≡ Some k' →
      plain_kept k' ≡ settled identifier.single (plain_kept k) (ends_of e);
}

use Rattle.std.proofs.Common.{◌≡◌, ◌+◌, ◌*◌}
use Rattle.hs_fdr_build.specs.Clearing.{Clears}
use Rattle.hs_fdr_build.proofs.ClearLemmas.{FromBelow}
use Rattle.hs_fdr_build.proofs.clear.clear_column.Given as goal

abbrev pub invariant-loop-further : goal.invariant-loop-further
invariant-loop-further l = Clears (FromBelow (λ k place b. (place ≡ l.low + 256 * k) × (b ≡ l.bucket)) l.further) l.initial.masks l.masks

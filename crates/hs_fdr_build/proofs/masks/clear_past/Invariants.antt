use Rattle.std.proofs.Common.{◌≡◌, ◌≤◌, length}
use Rattle.hs_fdr_build.specs.Clearing.{Clears}
use Rattle.hs_fdr_build.proofs.ClearLemmas.{FromBelow}
use Rattle.hs_fdr_build.proofs.masks.clear_past.Given as goal

abbrev pub invariant-loop-j : goal.invariant-loop-j
invariant-loop-j l = Clears (FromBelow (λ i j b. (length l.literal ≤ i) × ((j ≡ i) × (b ≡ l.bucket))) l.j) l.initial.past l.past

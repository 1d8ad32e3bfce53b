use Rattle.std.proofs.Common.{◌≡◌, map}
use Rattle.hs_base.specs.LiteralView.{literal_byte}
use Rattle.hs_fdr_build.specs.Clearing.{Clears}
use Rattle.hs_fdr_build.specs.MaskPlaces.{IsPlaceOf}
use Rattle.hs_fdr_build.proofs.ClearLemmas.{FromBelow}
use Rattle.hs_fdr_build.proofs.masks.clear_literal.Given as goal

abbrev pub invariant-loop-j : goal.invariant-loop-j
invariant-loop-j l = Clears (FromBelow (λ j place b. (b ≡ l.bucket) × IsPlaceOf l.width (map literal_byte l.literal) j place) l.j) l.initial.masks l.masks

use Rattle.std.proofs.Common.{map}
use Rattle.hs_base.specs.LiteralView.{literal_bytes}
use Rattle.hs_fdr_build.specs.Clearing.{Clears}
use Rattle.hs_fdr_build.specs.MaskPlaces.{HasPlace}
use Rattle.hs_fdr_build.proofs.ClearLemmas.{FromBelow}
use Rattle.hs_fdr_build.proofs.LiteralListLemmas.{ByNumber}
use Rattle.hs_fdr_build.proofs.masks.clear_all.Given as goal

abbrev pub invariant-loop-number : goal.invariant-loop-number
invariant-loop-number l = Clears (FromBelow (ByNumber (HasPlace l.width) (map literal_bytes l.literals) l.buckets) l.number) l.initial.masks l.masks

use Rattle.std.proofs.Common.{map, replicate}
use Rattle.hs_base.specs.LiteralView.{literal_bytes}
use Rattle.hs_fdr_build.specs.Clearing.{Clears}
use Rattle.hs_fdr_build.specs.MaskPlaces.{IsPast}
use Rattle.hs_fdr_build.proofs.ClearLemmas.{FromBelow}
use Rattle.hs_fdr_build.proofs.LiteralListLemmas.{ByNumber}
use Rattle.hs_fdr_build.proofs.masks.past_of.Given as goal

abbrev pub invariant-loop-number : goal.invariant-loop-number
invariant-loop-number l = Clears (FromBelow (ByNumber IsPast (map literal_bytes l.literals) l.buckets) l.number) (replicate 8 255) l.past

use Rattle.hs_kept.proofs.FaultLemmas.{HaveNumbers}
use Rattle.hs_kept.proofs.packing.Packing.number_fault.Given as goal

abbrev pub invariant-loop-field : goal.invariant-loop-field
invariant-loop-field l = HaveNumbers l.self.fields.items l.kept l.field-index

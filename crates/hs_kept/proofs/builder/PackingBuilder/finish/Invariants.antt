use Rattle.std.proofs.Common.{◌≡◌, length}
use Rattle.std.specs.Vec.Iter.{into_iter_items, into_iter_len}
use Rattle.hs_kept.proofs.LayingLemmas.{IsLaying}
use Rattle.hs_kept.proofs.builder.PackingBuilder.finish.Given as goal

abbrev pub invariant-loop-candidate : goal.invariant-loop-candidate
invariant-loop-candidate l =
    (into_iter_len l.candidate-iterator ≡ length (into_iter_items l.candidate-iterator))
    × IsLaying l.layout.starts l.fn.self.candidates.items (into_iter_items l.candidate-iterator) l.fields.items l.saved

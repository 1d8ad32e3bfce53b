use Rattle.std.proofs.Common.{arith, refl, ap, sym, ◌∙◌}
use Rattle.std.proofs.lemmas.List.{get_or_read}
use Rattle.hs_outside.specs.MemFile.{Slot}
use Rattle.hs_outside.proofs.Slots.{first_named, unnamed_files}
use Rattle.hs_outside.proofs.mem_store.position.Goals as goal

pub returns-then-is_named-clause-first : goal.returns-then-is_named-clause-first
returns-then-is_named-clause-first c =
    first_named _ _ _ (omega arith) c.loop-place.invariant (λ d. ap (λ (s : Slot). s.name) (sym (get_or_read c.args.files.now c.loop-place.place c.index-files-place.result (omega arith) c.index-files-place.is d)) ∙ c.if-is_named.ensures.0 refl)

pub returns-clause-first : goal.returns-clause-first
returns-clause-first c = unnamed_files _ _ (λ k d lt. c.loop-place.invariant k d (omega arith))

use Rattle.std.proofs.Common.{◌≡◌, ◌-◌, vec_len}
use Rattle.hs_base.specs.ContextSets.{has_context}
use Rattle.hs_base.specs.WrittenOut.{Core, count, copies_then}
use Rattle.hs_glushkov.specs.Parts.{Table, IsNull, IsRow}
use Rattle.hs_glushkov.specs.BuiltParts.{table_of}
use Rattle.hs_glushkov.proofs.parts.Parts.join_copies.Given as goal

abbrev pub invariant-loop-done : goal.invariant-loop-done
invariant-loop-done l = record {
  size : vec_len l.self.sets ≡ vec_len l.initial.self.sets;
  filled : l.self.filled ≡ l.initial.self.filled;
  null : (a r : Core) → IsNull (has_context l.null) a → IsNull (has_context l.fn.rest) r → IsNull (has_context l.all) (copies_then l.done a r);
  row : (old : Table) (a r : Core) → l.width ≡ count a → IsNull (has_context l.null) a → IsNull (has_context l.fn.rest) r → IsRow old (table_of l.initial.self) l.start a l.copies r l.initial.self.filled →
      IsRow old (table_of l.self) l.start a (l.copies - l.done) (copies_then l.done a r) l.self.filled;
}

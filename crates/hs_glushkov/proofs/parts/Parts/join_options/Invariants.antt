use Rattle.std.proofs.Common.{◌≡◌, ◌-◌, vec_len}
use Rattle.hs_base.specs.ContextSets.{has_context}
use Rattle.hs_base.specs.WrittenOut.{Core, count, empty, up_to}
use Rattle.hs_glushkov.specs.Parts.{Table, IsNull, IsRow}
use Rattle.hs_glushkov.specs.BuiltParts.{table_of}
use Rattle.hs_glushkov.proofs.parts.Parts.join_options.Given as goal

abbrev pub invariant-loop-done : goal.invariant-loop-done
invariant-loop-done l = record {
  size : vec_len l.self.sets ≡ vec_len l.initial.self.sets;
  filled : l.self.filled ≡ l.initial.self.filled;
  row : (old : Table) (a : Core) → l.width ≡ count a → IsNull (has_context l.null) a → IsRow old (table_of l.initial.self) l.start a l.most empty l.initial.self.filled →
      IsRow old (table_of l.self) l.start a (l.most - l.done) (up_to l.done a) l.self.filled;
}

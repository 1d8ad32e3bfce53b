use Rattle.std.proofs.Common.{◌≡◌, vec_len, slice_get, ap, subst, ◌∙◌, arith}
use Rattle.hs_base.specs.ContextSets.{has_context}
use Rattle.hs_base.specs.WrittenOut.{Core, count, write_out}
use Rattle.hs_expr.specs.Counts.{positions}
use Rattle.hs_expr.specs.Meaning.{tree_of}
use Rattle.hs_glushkov.specs.BuiltParts.{table_of}
use Rattle.hs_base.specs.Contexts.{class_of}
use Rattle.hs_engine.specs.Automata.{in_mask, in_set}
use Rattle.hs_engine.specs.Rows.{in_row}
use Rattle.hs_glushkov.specs.Parts.{IsAdded}
use Rattle.hs_glushkov.proofs.CountLemmas.{count-written}
use Rattle.hs_glushkov.proofs.BuildLemmas.{tables-for}
use Rattle.hs_glushkov.proofs.builder.build.Goals as goal

pub new-requires : goal.new-requires
new-requires c =
    let all : count (write_out (tree_of c.args.expr.now)) ≡ positions (tree_of c.args.expr.now) = count-written (tree_of c.args.expr.now) c.requires.plain in
    omega (arith, all, c.positions.ensures, c.requires.few)

pub add-null-requires-clause-room : goal.add-null-requires-clause-room
add-null-requires-clause-room c =
    let all : count (write_out (tree_of c.args.expr.now)) ≡ positions (tree_of c.args.expr.now) = count-written (tree_of c.args.expr.now) c.requires.plain in
    omega (arith, all, c.positions.ensures, c.requires.few, c.in_ok-parts.ensures.size, c.in_ok-parts.ensures.filled)

pub returns-clause-runs : goal.returns-clause-runs
returns-clause-runs c =
    let r : Core = write_out (tree_of c.args.expr.now) in
    let all : count r ≡ positions (tree_of c.args.expr.now) = count-written (tree_of c.args.expr.now) c.requires.plain in
    let size : vec_len c.add-null.new.parts.sets ≡ count r = omega (arith, all, c.positions.ensures, c.requires.few, c.in_ok-parts.ensures.size, c.add-null.ensures.size) in
    record {
      plain = c.requires.plain;
      ends_last = c.requires.ends_last;
      tables =
          tables-for c.new-2.result (table_of c.in_ok-parts.parts) (table_of c.add-null.new.parts) (has_context c.add-null.result) r
          (ap (λ sets. vec_len sets) c.new-2.ensures.sets ∙ size)
          (λ x b. ap (λ sets. in_set (slice_get sets.items x) b) c.new-2.ensures.sets)
          (λ x h. ap (λ masks. in_mask (slice_get masks.items x) h) c.new-2.ensures.enters)
          (λ x h. ap (λ masks. in_mask (slice_get masks.items x) h) c.new-2.ensures.accepts)
          (λ x y prev b. ap (λ rows. in_row rows x y (record { prev = prev; next = class_of b })) c.new-2.ensures.follows ∙ c.in_ok-follows.ensures.follows x y prev b)
          (λ h. ap (λ mask. has_context mask h) c.new-2.ensures.null)
          (subst (λ n. IsAdded (table_of c.in_ok-parts.parts) (table_of c.add-null.new.parts) n r (has_context c.add-null.result)) c.in_ok-parts.ensures.filled c.add-null.ensures.added);
    }

use Rattle.std.proofs.Common.{◌≡◌, ℕ, ◌+◌, ◌-◌, ◌*◌, sym, subst, ◌∙◌, arith}
use Rattle.hs_base.specs.ContextSets.{has_context}
use Rattle.hs_base.specs.WrittenOut.{copies_then}
use Rattle.hs_glushkov.specs.Parts.{Table, IsAdded, IsRow}
use Rattle.hs_glushkov.specs.BuiltParts.{table_of}
use Rattle.hs_glushkov.proofs.RowLemmas.{row-copies, row-added, null-copies, copy-place, copy-behind}
use Rattle.hs_glushkov.proofs.parts.Parts.join_copies.Goals as goal

pub loop-done-preserved : goal.loop-done-preserved
loop-done-preserved c = record {
  size = c.join_copy.ensures.size ∙ c.loop-done.invariant.size;
  filled = c.join_copy.ensures.filled ∙ c.loop-done.invariant.filled;
  null = λ a r null rest.
      null-copies c.loop-done.done a r (has_context c.args.null) (has_context c.loop-done.all) (has_context c.intersection-all.result) null (c.loop-done.invariant.null a r null rest) c.intersection-all.ensures;
  row = λ old a r width null rest row.
      let done : ℕ = c.loop-done.done in
      let k : ℕ = c.args.copies - 1 - done in
      let l : ℕ = c.args.copies - (done + 1) in
      let same : k ≡ l = omega arith in
      let one : c.args.copies - done ≡ l + 1 = omega arith in
      let now : Table = table_of c.loop-done.self in
      let next : Table = table_of c.join_copy.new.self in
      subst (λ e. IsRow old next c.args.start a l (copies_then (done + 1) a r) e) (sym c.join_copy.ensures.filled)
      (row-copies old now next c.args.start (c.args.start + k * c.args.width) (c.args.start + k * c.args.width + c.args.width) c.loop-done.self.filled (c.args.copies - done) l done a r
      (has_context c.args.null) (has_context c.loop-done.all) one (copy-place c.args.start c.args.width _ k l same width) (copy-behind c.args.start c.args.width _ k l same width)
      null (c.loop-done.invariant.null a r null rest) (c.loop-done.invariant.row old a r width null rest row) c.join_copy.ensures.joined);
}

pub returns-clause-added : goal.returns-clause-added
returns-clause-added c old a r width null rest row =
    let last : c.loop-done.done ≡ c.args.copies = omega arith in
    let left : c.args.copies - c.loop-done.done ≡ 0 = omega arith in
    let now : Table = table_of c.loop-done.self in
    subst (λ k. IsAdded old now c.args.start (copies_then k a r) (has_context c.loop-done.all)) last
    (row-added old now c.args.start c.loop-done.self.filled a (copies_then c.loop-done.done a r) (has_context c.loop-done.all) (c.loop-done.invariant.null a r null rest)
    (subst (λ k. IsRow old now c.args.start a k (copies_then c.loop-done.done a r) c.loop-done.self.filled) left (c.loop-done.invariant.row old a r width null rest row)))

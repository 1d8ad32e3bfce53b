use Rattle.std.proofs.Common.{◌≡◌, ℕ, ◌+◌, ◌-◌, ◌*◌, sym, subst, ◌∙◌, arith}
use Rattle.hs_base.specs.ContextSets.{has_context}
use Rattle.hs_base.specs.WrittenOut.{up_to}
use Rattle.hs_glushkov.specs.Parts.{Table, IsRow}
use Rattle.hs_glushkov.specs.BuiltParts.{table_of}
use Rattle.hs_glushkov.proofs.RowLemmas.{row-up_to, copy-place, copy-behind}
use Rattle.hs_glushkov.proofs.parts.Parts.join_options.Goals as goal

pub loop-done-preserved : goal.loop-done-preserved
loop-done-preserved c = record {
  size = c.join_copy.ensures.size ∙ c.loop-done.invariant.size;
  filled = c.join_copy.ensures.filled ∙ c.loop-done.invariant.filled;
  row = λ old a width null row.
      let done : ℕ = c.loop-done.done in
      let k : ℕ = c.args.most - 1 - done in
      let l : ℕ = c.args.most - (done + 1) in
      let same : k ≡ l = omega arith in
      let one : c.args.most - done ≡ l + 1 = omega arith in
      let now : Table = table_of c.loop-done.self in
      let next : Table = table_of c.join_copy.new.self in
      subst (λ e. IsRow old next c.args.start a l (up_to (done + 1) a) e) (sym c.join_copy.ensures.filled)
      (row-up_to old now next c.args.start (c.args.start + k * c.args.width) (c.args.start + k * c.args.width + c.args.width) c.loop-done.self.filled (c.args.most - done) l done a
      (has_context c.args.null) (has_context c.all.result) one (copy-place c.args.start c.args.width _ k l same width) (copy-behind c.args.start c.args.width _ k l same width)
      null c.all.ensures (c.loop-done.invariant.row old a width null row) c.join_copy.ensures.joined);
}

pub returns-clause-row : goal.returns-clause-row
returns-clause-row c old a width null row =
    let last : c.loop-done.done ≡ c.args.most - c.args.least = omega arith in
    let left : c.args.most - c.loop-done.done ≡ c.args.least = omega arith in
    let now : Table = table_of c.loop-done.self in
    subst (λ k. IsRow old now c.args.start a c.args.least (up_to k a) c.loop-done.self.filled) last
    (subst (λ k. IsRow old now c.args.start a k (up_to c.loop-done.done a) c.loop-done.self.filled) left (c.loop-done.invariant.row old a width null row))

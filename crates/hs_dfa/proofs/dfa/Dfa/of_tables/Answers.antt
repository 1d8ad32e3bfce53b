use Rattle.std.proofs.Common.{◌+◌, ◌*◌, ◌≡◌, ◌<◌, length, slice_index, List, subst, sym, ap, ◌∙◌, arith, vec_len}
use Rattle.std.proofs.lemmas.Nat.{mul-add-lt}
use Rattle.hs_states.specs.AutomatonStates.{AreBuilt}
use Rattle.hs_dfa.specs.StateEnds.{AreEndsOf}
use Rattle.hs_states.specs.declared.footing.Footing.{Footing}
use Rattle.hs_states.proofs.BuildLemmas.{class-few}
use Rattle.hs_dfa.proofs.DfaLemmas.{class-in_rows, known-some, dfa-is}
use Rattle.hs_dfa.proofs.dfa.Dfa.of_tables.Goals as goal

pub wakers_of-wakers-requires : goal.wakers_of-wakers-requires
wakers_of-wakers-requires c b small =
    let a = c.args.automaton.now in
    let classes = c.args.classes in
    let counted : vec_len classes.footings ≡ length classes.footings.items = classes.footings.ok.0 in
    let within = class-in_rows a (slice_index classes.classes) (vec_len classes.footings) c.args.subsets.known.items c.args.subsets.rows.items c.requires.built b
    (class-few a classes.classes classes.firsts.items classes.footings.items (vec_len classes.footings) counted c.requires.classes b small) in
    subst (λ xs. slice_index classes.classes b < length xs) (sym c.deref-2.ensures.value) within

pub leaving_of-requires-clause-rows : goal.leaving_of-requires-clause-rows
leaving_of-requires-clause-rows c n b below small =
    let classes = c.args.classes in
    let subsets = c.args.subsets in
    let counted : vec_len classes.footings ≡ length classes.footings.items = classes.footings.ok.0 in
    let many : vec_len c.in_ok-ends.ends ≡ length subsets.known.items =
    omega (arith, c.in_ok-ends.ends.ok.0, c.in_ok-ends.ensures.len, ap (λ (xs : List Footing). length xs) c.deref.ensures.value) in
    let class : slice_index classes.classes b < c.len-count.result =
    subst (λ n. slice_index classes.classes b < n) (sym c.len-count.ensures)
    (class-few c.args.automaton.now classes.classes classes.firsts.items classes.footings.items (vec_len classes.footings) counted c.requires.classes b small) in
    let rows : length subsets.rows.items ≡ length subsets.known.items * c.len-count.result =
    subst (λ n. length subsets.rows.items ≡ length subsets.known.items * n) (sym c.len-count.ensures) (let l = c.requires.built.len in omega (arith, l)) in
    let bound : n * c.len-count.result + slice_index classes.classes b < c.len-count.result * length subsets.known.items =
    mul-add-lt n c.len-count.result (slice_index classes.classes b) (length subsets.known.items) (omega (arith, below, c.len.ensures, many)) class in
    let turned : c.len-count.result * length subsets.known.items ≡ length subsets.known.items * c.len-count.result = omega arith in
    subst (λ xs. n * c.len-count.result + slice_index classes.classes b < length xs) (sym c.deref-3.ensures.value) (omega (arith, bound, turned, rows))

pub invariant_of-result : goal.invariant_of-result
invariant_of-result c =
    let a = c.args.automaton.now in
    let classes = c.args.classes in
    let subsets = c.args.subsets in
    let counted : vec_len classes.footings ≡ length classes.footings.items = classes.footings.ok.0 in
    let many : vec_len c.in_ok-ends.ends ≡ length subsets.known.items =
    omega (arith, c.in_ok-ends.ends.ok.0, c.in_ok-ends.ensures.len, ap (λ (xs : List Footing). length xs) c.deref.ensures.value) in
    let rows : vec_len subsets.rows ≡ length subsets.known.items * vec_len classes.footings = omega (arith, subsets.rows.ok.0, c.requires.built.len) in
    let some = known-some a (slice_index classes.classes) (vec_len classes.footings) subsets.known.items subsets.rows.items (length subsets.known.items) 0 c.requires.built in
    record {
      some = omega (arith, many, some);
      few = omega (arith, many, c.requires.built.few);
      few_classes = omega (arith, c.len-count.ensures, counted, c.requires.classes.few);
      whole = subst (λ n. vec_len subsets.rows ≡ n * c.len-count.result) (sym many) (subst (λ n. vec_len subsets.rows ≡ length subsets.known.items * n) (sym c.len-count.ensures) rows);
      class_within = λ b small.
          subst (λ n. slice_index classes.classes b < n) (sym c.len-count.ensures)
          (class-few a classes.classes classes.firsts.items classes.footings.items (vec_len classes.footings) counted c.requires.classes b small);
      row_within = λ k below. subst (λ n. slice_index subsets.rows.items k < n) (sym many) (c.requires.built.within k below);
      leaving_all = c.in_ok-leaving.ensures.count ∙ c.len.ensures;
      leaving_are = λ n b below small outside.
          subst (λ xs. slice_index xs (n * c.len-count.result + slice_index classes.classes b) ≡ n) c.deref-3.ensures.value (c.in_ok-leaving.ensures.each n b (omega (arith, below, c.len.ensures)) small outside);
      wakers_are = λ b small outside.
          subst (λ xs. slice_index xs (slice_index classes.classes b) ≡ 0) c.deref-2.ensures.value (c.wakers_of-wakers.ensures b small outside);
    }

pub returns : goal.returns
returns c tree runs flag =
    let a = c.args.automaton.now in
    let classes = c.args.classes in
    let subsets = c.args.subsets in
    dfa-is a tree runs flag _ subsets.known.items c.has_assertion.ensures
    (subst (λ n. AreBuilt a (slice_index classes.classes) n subsets.known.items subsets.rows.items (length subsets.known.items) 0) (sym c.len-count.ensures) c.requires.built)
    (subst (λ xs. AreEndsOf a xs (length xs) c.in_ok-ends.ends.items) c.deref.ensures.value c.in_ok-ends.ensures)

use Rattle.std.proofs.Common.{◌+◌, ◌-◌, ◌∷◌, [], ◌++◌, List, Vec, Global, length, refl, sym, ap, ◌∙◌, subst, arith}
use Rattle.std.specs.Vec.Iter.{into_iter_items}
use Rattle.hs_kept.specs.declared.builder.Candidate.{Candidate}
use Rattle.hs_kept.specs.declared.packing.StateField.{StateField}
use Rattle.hs_kept.specs.StateFields.{AreFieldsApart}
use Rattle.hs_kept.proofs.LayingLemmas.{IsLaying, fields-apart, header-within, laying-all, laying-more, laying-none, next-of, packing-for, saved-within}
use Rattle.hs_kept.proofs.builder.PackingBuilder.finish.Goals as goal

pub loop-candidate-init : goal.loop-candidate-init
loop-candidate-init c =
    let gives = c.into_iter-candidate-iterator.ensures.into_iter_gives in
    let starts = c.args.layout.now.starts in
    let all = c.args.self.candidates.items in
    let none : IsLaying starts all all c.in_ok-fields.fields.items 0 =
    subst (λ (fs : List StateField). IsLaying starts all all fs 0) (sym c.in_ok-fields.ensures.items) (laying-none c.args.self c.args.layout.now c.requires.0 c.requires.1) in
    (gives.1 ∙ (c.args.self.candidates.ok.0 ∙ ap length (sym gives.0)), subst (λ (cs : List Candidate). IsLaying starts all cs c.in_ok-fields.fields.items 0) (sym gives.0) none)

pub place-at-requires : goal.place-at-requires
place-at-requires c =
    let taken = next-of c.args.layout.now.starts c.args.self.candidates.items (into_iter_items c.loop-candidate.candidate-iterator) (into_iter_items c.next.new.self) c.in-Some.candidate
    c.loop-candidate.fields.items c.loop-candidate.saved c.in-Some.ensures.steps.0 c.loop-candidate.invariant.1 in
    record { there = taken.there }

pub overflow_sub-at : goal.overflow_sub-at
overflow_sub-at c =
    let taken = next-of c.args.layout.now.starts c.args.self.candidates.items (into_iter_items c.loop-candidate.candidate-iterator) (into_iter_items c.next.new.self) c.in-Some.candidate
    c.loop-candidate.fields.items c.loop-candidate.saved c.in-Some.ensures.steps.0 c.loop-candidate.invariant.1 in
    let below = taken.saved_below in
    omega (arith, below, c.place-at.ensures.at)

pub overflow_sub-saved : goal.overflow_sub-saved
overflow_sub-saved c =
    let taken = next-of c.args.layout.now.starts c.args.self.candidates.items (into_iter_items c.loop-candidate.candidate-iterator) (into_iter_items c.next.new.self) c.in-Some.candidate
    c.loop-candidate.fields.items c.loop-candidate.saved c.in-Some.ensures.steps.0 c.loop-candidate.invariant.1 in
    let some = taken.some in
    omega (arith, some, c.width-width.ensures.width)

pub overflow_add-saved : goal.overflow_add-saved
overflow_add-saved c =
    let taken = next-of c.args.layout.now.starts c.args.self.candidates.items (into_iter_items c.loop-candidate.candidate-iterator) (into_iter_items c.next.new.self) c.in-Some.candidate
    c.loop-candidate.fields.items c.loop-candidate.saved c.in-Some.ensures.steps.0 c.loop-candidate.invariant.1 in
    let below = taken.saved_below in
    omega (arith, below, c.place-at.ensures.at, c.place-at.ensures.within, c.size-size.ensures.all, c.size-size.ensures.small, c.width-width.ensures.narrow)

pub loop-candidate-preserved : goal.loop-candidate-preserved
loop-candidate-preserved c =
    let steps = c.in-Some.ensures.steps in
    let len = c.loop-candidate.invariant.0 in (
      let size = ap length steps.0 in omega (arith, size, len, steps.1),
      subst (λ (fs : List StateField). IsLaying c.args.layout.now.starts c.args.self.candidates.items (into_iter_items c.next.new.self) fs (c.loop-candidate.saved + (c.width-width.result - 1))) (sym {A = List StateField} c.in_ok-push.ensures.items)
          (subst (λ n. IsLaying c.args.layout.now.starts c.args.self.candidates.items (into_iter_items c.next.new.self) (c.loop-candidate.fields.items ++ record { at = c.place-at.result; place = c.place-at.result - c.loop-candidate.saved; sets = c.in-Some.candidate.sets } ∷ []) (c.loop-candidate.saved + (n - 1))) (sym c.width-width.ensures.width)
          (laying-more c.args.layout.now.starts c.args.self.candidates.items (into_iter_items c.loop-candidate.candidate-iterator) (into_iter_items c.next.new.self) c.in-Some.candidate c.loop-candidate.fields.items c.loop-candidate.saved
          (record { at = c.place-at.result; place = c.place-at.result - c.loop-candidate.saved; sets = c.in-Some.candidate.sets }) c.place-at.ensures.at refl refl steps.0 c.loop-candidate.invariant.1)),
    )

pub overflow_sub-size : goal.overflow_sub-size
overflow_sub-size c =
    let done = laying-all c.args.layout.now.starts c.args.self.candidates.items (into_iter_items c.loop-candidate.candidate-iterator) c.loop-candidate.fields.items c.loop-candidate.saved
    (sym c.loop-candidate.invariant.0 ∙ c.in-None.ensures.steps.0) c.loop-candidate.invariant.1 in
    let within = saved-within c.args.self c.args.layout.now c.requires.0 c.requires.1 c.loop-candidate.fields.items c.loop-candidate.saved done in
    omega (arith, within, c.size-size.ensures.all)

pub new-requires-clause-apart : goal.new-requires-clause-apart
new-requires-clause-apart c =
    let done = laying-all c.args.layout.now.starts c.args.self.candidates.items (into_iter_items c.loop-candidate.candidate-iterator) c.loop-candidate.fields.items c.loop-candidate.saved
    (sym c.loop-candidate.invariant.0 ∙ c.in-None.ensures.steps.0) c.loop-candidate.invariant.1 in
    subst (λ n. AreFieldsApart c.loop-candidate.fields.items 0 0 n (n - c.loop-candidate.saved)) (sym c.size-size.ensures.all)
    (fields-apart c.args.self c.args.layout.now c.requires.0 c.requires.1 c.loop-candidate.fields.items c.loop-candidate.saved done)

pub new-requires-clause-header : goal.new-requires-clause-header
new-requires-clause-header c = let within = header-within c.args.self c.args.layout.now c.requires.0 c.requires.1 in omega (arith, within, c.size-size.ensures.all)

pub returns : goal.returns
returns c plan is =
    let done = laying-all c.args.layout.now.starts c.args.self.candidates.items (into_iter_items c.loop-candidate.candidate-iterator) c.loop-candidate.fields.items c.loop-candidate.saved
    (sym c.loop-candidate.invariant.0 ∙ c.in-None.ensures.steps.0) c.loop-candidate.invariant.1 in
    packing-for c.args.self c.args.layout.now plan is c.loop-candidate.fields.items c.loop-candidate.saved done c.in_ok-packing.packing
    (ap (λ (v : Vec StateField Global). v.items) (c.in_ok-packing.ensures.fields ∙ c.new.ensures.fields)) (c.in_ok-packing.ensures.region_size ∙ (c.new.ensures.region_size ∙ c.size-size.ensures.all))
    (c.in_ok-packing.ensures.size ∙ (c.new.ensures.size ∙ ap (λ n. n - c.loop-candidate.saved) c.size-size.ensures.all))

use Rattle.std.proofs.Common.{◌≡◌, ◌≤◌, Some, slice_get, List, length, subst, arith}
use Rattle.hs_kept.specs.declared.packing.StateField.{StateField}
use Rattle.hs_kept.proofs.FaultLemmas.{fault-found, fault-refutes, numbers-all, numbers-more}
use Rattle.hs_kept.proofs.FieldLemmas.{IsApart, apart-get, item-there}
use Rattle.hs_kept.proofs.packing.Packing.number_fault.Goals as goal

pub bounds-kept-field : goal.bounds-kept-field
bounds-kept-field c =
    let there = item-there c.deref-field-items.result.now c.loop-field.field-index c.field-item.result c.loop-field-test.true c.field-item.is in
    let apart : IsApart c.field-item.result 0 0 c.args.self.now.region_size c.args.self.now.size =
    apart-get c.args.self.now.fields.items 0 0 c.args.self.now.region_size c.args.self.now.size c.loop-field.field-index c.field-item.result c.args.self.now.apart
    (subst (λ (l : List StateField). slice_get l c.loop-field.field-index ≡ Some c.field-item.result) c.deref-field-items.ensures.value there) in
    omega (arith, apart.place_within, c.requires.kept)

pub returns-then-kept-field-clause-found : goal.returns-then-kept-field-clause-found
returns-then-kept-field-clause-found c =
    fault-found c.args.self.now c.deref-field-items.result.now c.args.kept.now c.loop-field.field-index c.field-item.result c.deref-field-items.ensures.value c.loop-field-test.true c.field-item.is
    c.loop-field.invariant (omega (arith, c.if-kept-field.true, c.count.ensures.count))

pub returns-then-kept-field-clause-well : goal.returns-then-kept-field-clause-well
returns-then-kept-field-clause-well c numbers =
    absurd (fault-refutes c.args.self.now c.args.kept.now c.field-item.result.at c.field-item.result.place
    (fault-found c.args.self.now c.deref-field-items.result.now c.args.kept.now c.loop-field.field-index c.field-item.result c.deref-field-items.ensures.value c.loop-field-test.true c.field-item.is
    c.loop-field.invariant (omega (arith, c.if-kept-field.true, c.count.ensures.count))) numbers)

pub loop-field-preserved : goal.loop-field-preserved
loop-field-preserved c =
    numbers-more c.args.self.now.fields.items c.deref-field-items.result.now c.args.kept.now c.loop-field.field-index c.field-item.result c.deref-field-items.ensures.value c.loop-field-test.true c.field-item.is
    c.loop-field.invariant (omega (arith, c.if-kept-field.false, c.count.ensures.count))

pub returns-clause-found : goal.returns-clause-found
returns-clause-found c =
    numbers-all c.args.self.now.fields.items c.args.kept.now c.loop-field.field-index
    (subst (λ (l : List StateField). length l ≤ c.loop-field.field-index) c.deref-field-items.ensures.value c.loop-field-test.false) c.loop-field.invariant

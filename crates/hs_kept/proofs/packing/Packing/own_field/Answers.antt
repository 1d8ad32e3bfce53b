use Rattle.std.proofs.Common.{◌≡◌, ◌<◌, ◌≤◌, Some, length, slice_get, sym, ◌∙◌, subst, arith}
use Rattle.std.proofs.lemmas.Option.{same_Some, slice_get_within}
use Rattle.hs_kept.specs.StateFields.{end_of}
use Rattle.hs_kept.specs.declared.packing.StateField.{StateField}
use Rattle.hs_kept.proofs.FieldLemmas.{IsApart, item-there, read-apart}
use Rattle.hs_kept.proofs.PlaceLemmas.{is-between, is-own, part-within}
use Rattle.hs_kept.proofs.packing.Packing.own_field.Goals as goal

pub returns-then-number-len-clause-between : goal.returns-then-number-len-clause-between
returns-then-number-len-clause-between c none =
    is-between c.args.self.now c.args.start c.args.end c.args.number c.requires.part c.requires.found
    (λ f there. absurd (let below : c.args.number < length c.args.self.now.fields.items = slice_get_within c.args.self.now.fields.items c.args.number f there in omega (arith, below, c.if-number-len.true, c.len.ensures)))

pub returns-then-number-len-clause-within : goal.returns-then-number-len-clause-within
returns-then-number-len-clause-within c none =
    let around =
    is-between c.args.self.now c.args.start c.args.end c.args.number c.requires.part c.requires.found
    (λ f there. absurd (let below : c.args.number < length c.args.self.now.fields.items = slice_get_within c.args.self.now.fields.items c.args.number f there in omega (arith, below, c.if-number-len.true, c.len.ensures))) in
    part-within c.args.self.now c.args.start c.args.end around.0 around.1 around.2

pub returns-then-field-end-clause-own : goal.returns-then-field-end-clause-own
returns-then-field-end-clause-own c =
    let fs = c.args.self.now.fields.items in
    let f = c.index-field.result.now in
    let below : c.args.number < length fs = omega (arith, c.requires.found.within, c.if-number-len.false, c.len.ensures) in
    let there : slice_get fs c.args.number ≡ Some f = item-there fs c.args.number f below c.index-field.ensures in
    let own : (c.args.start ≡ f.at) × (c.args.end ≡ end_of f) = is-own c.args.self.now c.args.start c.args.end c.args.number c.requires.part c.requires.found f there c.if-field-end.true in
    let apart : IsApart f 0 0 c.args.self.now.region_size c.args.self.now.size = read-apart c.args.self.now c.args.number f below c.index-field.ensures in
    (there, own.0, own.1, apart.place_within)

pub returns-else-field-end-clause-between : goal.returns-else-field-end-clause-between
returns-else-field-end-clause-between c none =
    let fs = c.args.self.now.fields.items in
    let f = c.index-field.result.now in
    let below : c.args.number < length fs = omega (arith, c.requires.found.within, c.if-number-len.false, c.len.ensures) in
    let there : slice_get fs c.args.number ≡ Some f = item-there fs c.args.number f below c.index-field.ensures in
    is-between c.args.self.now c.args.start c.args.end c.args.number c.requires.part c.requires.found
    (λ g there'. subst (λ (z : StateField). c.args.end ≤ z.at) (same_Some f g (sym there ∙ there')) c.if-field-end.false)

pub returns-else-field-end-clause-within : goal.returns-else-field-end-clause-within
returns-else-field-end-clause-within c none =
    let fs = c.args.self.now.fields.items in
    let f = c.index-field.result.now in
    let below : c.args.number < length fs = omega (arith, c.requires.found.within, c.if-number-len.false, c.len.ensures) in
    let there : slice_get fs c.args.number ≡ Some f = item-there fs c.args.number f below c.index-field.ensures in
    let around =
    is-between c.args.self.now c.args.start c.args.end c.args.number c.requires.part c.requires.found
    (λ g there'. subst (λ (z : StateField). c.args.end ≤ z.at) (same_Some f g (sym there ∙ there')) c.if-field-end.false) in
    part-within c.args.self.now c.args.start c.args.end around.0 around.1 around.2

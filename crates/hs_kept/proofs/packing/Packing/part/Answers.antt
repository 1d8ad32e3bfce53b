use Rattle.std.proofs.Common.{ℕ, ◌+◌, ◌-◌, List, slice_range, refl, sym, ap, ◌∙◌, subst}
use Rattle.hs_kept.specs.Packing.{unpacked}
use Rattle.hs_kept.specs.Parts.{AreNumbersBefore}
use Rattle.hs_kept.proofs.PartOfLemmas.{part-between, part-own}
use Rattle.hs_kept.proofs.packing.Packing.part.Goals as goal

pub returns-in-Some-clause-bytes : goal.returns-in-Some-clause-bytes
returns-in-Some-clause-bytes c =
    let f = c.in-Some.field.now in
    let packing = c.args.self.now in
    let kept : List ℕ = c.args.kept.now in
    let own = c.in-Some.ensures.own in
    c.set.ensures.set
    ∙ sym (ap (λ (n : ℕ). slice_range (unpacked packing kept) n c.args.end) own.1 ∙ (ap (λ (n : ℕ). slice_range (unpacked packing kept) f.at n) own.2
    ∙ part-own packing kept c.first_from-number.result f own.0 (subst (λ (n : ℕ). AreNumbersBefore packing kept (n + 1)) own.1 c.requires.numbers) c.requires.kept))

pub returns-in-None-clause-bytes : goal.returns-in-None-clause-bytes
returns-in-None-clause-bytes c =
    let packing = c.args.self.now in
    let kept : List ℕ = c.args.kept.now in
    let around = c.in-None.ensures.between refl in
    ap (λ (n : ℕ). slice_range kept n (n + (c.args.end - c.args.start))) c.place_at-place.ensures
    ∙ sym (part-between packing kept c.args.start c.args.end around.0 around.1 around.2 c.requires.numbers c.requires.kept)

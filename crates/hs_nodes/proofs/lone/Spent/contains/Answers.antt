use Rattle.std.proofs.Common.{◌≡◌, ◌∙◌, None, Some, slice_get, ap, subst, sym}
use Rattle.std.proofs.lemmas.Option.{slice_get-get_or}
use Rattle.hs_nodes.proofs.LoneLemmas.{spent-past}
use Rattle.hs_nodes.proofs.lone.Spent.contains.Goals as goal

pub returns-else-place-self : goal.returns-else-place-self
returns-else-place-self c =
    let k = c.args.k in
    let own = c.in-Some-Some.ensures.lookup.3 in
    let read = slice_get-get_or c.deref.result.now k None own.0 ∙ ap (λ o. Some o) (sym (own.1 None) ∙ c.in-Some-Some.field-0-is) in
    spent-past c.args.self.now.lone.now c.args.self.now.told.now k c.in-Some-Some.identifier (subst (λ xs. slice_get xs k ≡ Some (Some c.in-Some-Some.identifier)) c.deref.ensures.value read) c.if-place-self.false

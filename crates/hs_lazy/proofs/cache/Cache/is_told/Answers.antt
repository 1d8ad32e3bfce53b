use Rattle.std.proofs.Common.{◌≡◌, ◌∙◌, Some, None, Option, true, false, sym, subst, refl}
use Rattle.std.specs.Option.{is_some}
use Rattle.hs_lazy.specs.declared.parts.Member.{Member}
use Rattle.hs_lazy.specs.Caches.{Told, told}
use Rattle.std.specs.Prelude.{MatchBool}
use Rattle.hs_lazy.proofs.ToldLemmas.{told-decides, told-nobody, told-nowhere}
use Rattle.hs_lazy.proofs.cache.Cache.is_told.Goals as goal

there : (o : Option Member) → is_some o ≡ true → (m : Member) × (o ≡ Some m)
there None is = absurd (cc)
there (Some m) is = (m, refl)

nobody : (o : Option Member) → is_some o ≡ false → o ≡ None
nobody None is = refl
nobody (Some m) is = absurd (cc)

pub returns-in_default : goal.returns-in_default
returns-in_default c = told-nowhere c.args.self.now c.args.number (sym c.place.ensures ∙ c.in_default.is)

pub returns-then-is_some : goal.returns-then-is_some
returns-then-is_some c =
    let m : (m : Member) × (c.member.result ≡ Some m) = there c.member.result (sym c.is_some.ensures ∙ c.if-is_some.true) in
    told-decides c.args.self.now c.args.number m.0 c.in-Some.place c.is_done.result (sym c.member.ensures ∙ m.1) (sym c.place.ensures ∙ c.in-Some.is) c.is_done.ensures

pub returns-else-is_some : goal.returns-else-is_some
returns-else-is_some c =
    let none : c.member.result ≡ None = nobody c.member.result (sym c.is_some.ensures ∙ c.if-is_some.false) in
    subst (λ b. MatchBool b ((t : Told) × (told c.args.self.now c.args.number ≡ Some t)) (told c.args.self.now c.args.number ≡ None)) (sym c.if-is_some.false)
    (told-nobody c.args.self.now c.args.number c.in-Some.place (sym c.place.ensures ∙ c.in-Some.is) (sym c.member.ensures ∙ none))

use Rattle.std.proofs.Common.{◌≡◌, ◌∙◌, ℕ, ◌<◌, length, List, [], ◌∷◌, Some, slice_get, sym, refl, ap, arith}
use Rattle.std.proofs.lemmas.Option.{slice_get_past, slice_get_read}
use Rattle.hs_lazy.specs.Caches.{loaded}
use Rattle.hs_lazy.specs.Parts.{part}
use Rattle.hs_lazy.proofs.EmptyLemmas.{not-some}
use Rattle.hs_lazy.proofs.ListLemmas.{set-got}
use Rattle.hs_lazy.proofs.ToldLemmas.{engine-nobody, engine-nowhere, engine-of, loaded-is, loaded-none, loaded-others}
use Rattle.hs_lazy.proofs.cache.Cache.load.Goals as goal

nothing : (xs : List ℕ) → length xs ≡ 0 → [] ≡ xs
nothing [] none = refl
nothing (x ∷ xs) none = absurd (omega (arith, none))

pub returns-in_default-clause-own : goal.returns-in_default-clause-own
returns-in_default-clause-own c n is = not-some _ n (engine-nowhere c.args.self.now.dfas c.args.number (sym c.place.ensures ∙ c.in_default.is)) is

pub returns-in_default-member-clause-own : goal.returns-in_default-member-clause-own
returns-in_default-member-clause-own c n is = not-some _ n (engine-nobody c.args.self.now.dfas c.args.number (sym c.member.ensures ∙ c.in_default-member.is)) is

pub load-requires-clause-sized : goal.load-requires-clause-sized
load-requires-clause-sized c =
    let low : c.in-Some.place.dfa < length c.args.self.now.runs.items = omega (arith, c.if-place-len.true, c.len.ensures, c.args.self.now.runs.ok.0) in
    let r : slice_get c.args.self.now.runs.items c.in-Some.place.dfa ≡ Some c.index_mut.result.now = slice_get_read c.args.self.now.runs.items _ c.in-Some.place.dfa _ refl low c.index_mut.ensures.value in
    let from : loaded c.args.self.now c.args.number ≡ part c.index_mut.result.now.image c.in-Some-member.member = loaded-is c.args.self.now c.args.number c.in-Some-member.member c.in-Some.place c.index_mut.result.now (sym c.member.ensures ∙ c.in-Some-member.is) (sym c.place.ensures ∙ c.in-Some.is) r in
    sym (c.requires.sized c.in-Some-member.member.engine (engine-of c.args.self.now.dfas c.args.number c.in-Some-member.member (sym c.member.ensures ∙ c.in-Some-member.is))) ∙ ap length from

pub returns-then-place-len-clause-own : goal.returns-then-place-len-clause-own
returns-then-place-len-clause-own c n is =
    let low : c.in-Some.place.dfa < length c.args.self.now.runs.items = omega (arith, c.if-place-len.true, c.len.ensures, c.args.self.now.runs.ok.0) in
    loaded-is _ c.args.number c.in-Some-member.member c.in-Some.place c.load.new.self (sym c.member.ensures ∙ c.in-Some-member.is) (sym c.place.ensures ∙ c.in-Some.is) (set-got c.args.self.now.runs.items c.in-Some.place.dfa c.load.new.self low) ∙ c.load.ensures.own

pub returns-then-place-len-clause-others : goal.returns-then-place-len-clause-others
returns-then-place-len-clause-others c k away =
    let low : c.in-Some.place.dfa < length c.args.self.now.runs.items = omega (arith, c.if-place-len.true, c.len.ensures, c.args.self.now.runs.ok.0) in
    let r : slice_get c.args.self.now.runs.items c.in-Some.place.dfa ≡ Some c.index_mut.result.now = slice_get_read c.args.self.now.runs.items _ c.in-Some.place.dfa _ refl low c.index_mut.ensures.value in
    loaded-others c.args.self.now _ c.args.number c.in-Some-member.member c.in-Some.place c.index_mut.result.now c.load.new.self refl (sym c.member.ensures ∙ c.in-Some-member.is) (sym c.place.ensures ∙ c.in-Some.is) low r refl c.load.ensures.others k away

pub returns-else-place-len-clause-own : goal.returns-else-place-len-clause-own
returns-else-place-len-clause-own c n is =
    let none : loaded c.args.self.now c.args.number ≡ [] = loaded-none c.args.self.now c.args.number c.in-Some.place (sym c.place.ensures ∙ c.in-Some.is)
    (slice_get_past c.args.self.now.runs.items c.in-Some.place.dfa (omega (arith, c.if-place-len.false, c.len.ensures, c.args.self.now.runs.ok.0))) in
    none ∙ nothing c.args.part.now (sym (c.requires.sized n is) ∙ ap length none)

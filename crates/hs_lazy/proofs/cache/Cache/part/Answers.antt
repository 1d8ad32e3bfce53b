use Rattle.std.proofs.Common.{◌≡◌, ◌∙◌, Some, sym, slice_get}
use Rattle.hs_lazy.proofs.TableLemmas.{got, got-none}
use Rattle.hs_lazy.proofs.ToldLemmas.{IsToldBy, no-dfa, no-place, no-run, told-part, told-place}
use Rattle.hs_lazy.proofs.cache.Cache.part.Goals as goal

pub returns-in_default : goal.returns-in_default
returns-in_default c t is = no-place c.args.self.now c.args.number t is (sym c.place.ensures ∙ c.in_default.is)

pub returns-in_default-get : goal.returns-in_default-get
returns-in_default-get c t is =
    no-run c.args.self.now c.args.number t c.in-Some.place is (sym c.place.ensures ∙ c.in-Some.is)
    (got-none c.args.self.now.runs.items _ c.in-Some.place.dfa c.deref.ensures.value c.in_default-get.ensures.lookup.0)

pub returns-in-Some-get-2 : goal.returns-in-Some-get-2
returns-in-Some-get-2 c t is =
    let r : slice_get c.args.self.now.runs.items c.in-Some.place.dfa ≡ Some c.in-Some-get.run'.now = got c.args.self.now.runs.items _ c.in-Some.place.dfa _ c.deref.ensures.value c.in-Some-get.ensures.lookup.3.0 c.in-Some-get.ensures.lookup.1 in
    let d : slice_get c.args.self.now.dfas.list.items c.in-Some.place.dfa ≡ Some c.in-Some-get-2.dfa.now = got c.args.self.now.dfas.list.items _ c.in-Some.place.dfa _ c.deref-2.ensures.value c.in-Some-get-2.ensures.lookup.3.0 c.in-Some-get-2.ensures.lookup.1 in
    let it : IsToldBy t c.in-Some-get-2.dfa.now c.in-Some-get.run'.now c.in-Some.place.member = told-place c.args.self.now c.args.number t c.in-Some.place _ _ is (sym c.place.ensures ∙ c.in-Some.is) d r in
    c.part.ensures ∙ told-part t _ _ c.in-Some.place.member it

pub returns-in-None : goal.returns-in-None
returns-in-None c t is =
    no-dfa c.args.self.now c.args.number t c.in-Some.place is (sym c.place.ensures ∙ c.in-Some.is)
    (got-none c.args.self.now.dfas.list.items _ c.in-Some.place.dfa c.deref-2.ensures.value c.in-None.ensures.lookup.0)

use Rattle.std.proofs.Common.{◌≡◌, ◌∙◌, Some, sym, ap, slice_get, arith}
use Rattle.std.proofs.lemmas.Option.{slice_get_within}
use Rattle.hs_lazy.specs.declared.dfa.LazyDfa.{LazyDfa}
use Rattle.hs_lazy.proofs.TableLemmas.{got, got-none}
use Rattle.hs_lazy.proofs.ToldLemmas.{IsToldBy, no-place, no-run, told-run}
use Rattle.hs_lazy.proofs.cache.Cache.ends.Goals as goal

pub returns-in_default-clause-before : goal.returns-in_default-clause-before
returns-in_default-clause-before c t i is low = no-place c.args.self.now c.args.number t is (sym c.place.ensures ∙ c.in_default.is)

pub returns-in_default-clause-behind : goal.returns-in_default-clause-behind
returns-in_default-clause-behind c t i is low = no-place c.args.self.now c.args.number t is (sym c.place.ensures ∙ c.in_default.is)

pub of-requires : goal.of-requires
of-requires c =
    let r : slice_get c.args.self.now.runs.items c.in-Some.place.dfa ≡ Some c.in-Some-get.run'.now = got c.args.self.now.runs.items _ c.in-Some.place.dfa _ c.deref.ensures.value c.in-Some-get.ensures.lookup.3.0 c.in-Some-get.ensures.lookup.1 in
    let it : (dfa : LazyDfa) × IsToldBy c.requires.0 dfa c.in-Some-get.run'.now c.in-Some.place.member = told-run c.args.self.now c.args.number c.requires.0 c.in-Some.place _ c.requires.1 (sym c.place.ensures ∙ c.in-Some.is) r in
    omega (arith, slice_get_within it.0.members.items c.in-Some.place.member _ it.1.of_is, it.0.few)

pub returns-in-Some-get-clause-before : goal.returns-in-Some-get-clause-before
returns-in-Some-get-clause-before c t i is low =
    let r : slice_get c.args.self.now.runs.items c.in-Some.place.dfa ≡ Some c.in-Some-get.run'.now = got c.args.self.now.runs.items _ c.in-Some.place.dfa _ c.deref.ensures.value c.in-Some-get.ensures.lookup.3.0 c.in-Some-get.ensures.lookup.1 in
    let it : (dfa : LazyDfa) × IsToldBy t dfa c.in-Some-get.run'.now c.in-Some.place.member = told-run c.args.self.now c.args.number t c.in-Some.place _ is (sym c.place.ensures ∙ c.in-Some.is) r in
    c.of.ensures.before i ∙ ap (λ f. f i) (sym it.1.before_is)

pub returns-in-Some-get-clause-behind : goal.returns-in-Some-get-clause-behind
returns-in-Some-get-clause-behind c t i is low =
    let r : slice_get c.args.self.now.runs.items c.in-Some.place.dfa ≡ Some c.in-Some-get.run'.now = got c.args.self.now.runs.items _ c.in-Some.place.dfa _ c.deref.ensures.value c.in-Some-get.ensures.lookup.3.0 c.in-Some-get.ensures.lookup.1 in
    let it : (dfa : LazyDfa) × IsToldBy t dfa c.in-Some-get.run'.now c.in-Some.place.member = told-run c.args.self.now c.args.number t c.in-Some.place _ is (sym c.place.ensures ∙ c.in-Some.is) r in
    c.of.ensures.behind i ∙ ap (λ f. f i) (sym it.1.behind_is)

pub returns-in-None-clause-before : goal.returns-in-None-clause-before
returns-in-None-clause-before c t i is low =
    no-run c.args.self.now c.args.number t c.in-Some.place is (sym c.place.ensures ∙ c.in-Some.is)
    (got-none c.args.self.now.runs.items _ c.in-Some.place.dfa c.deref.ensures.value c.in-None.ensures.lookup.0)

pub returns-in-None-clause-behind : goal.returns-in-None-clause-behind
returns-in-None-clause-behind c t i is low =
    no-run c.args.self.now c.args.number t c.in-Some.place is (sym c.place.ensures ∙ c.in-Some.is)
    (got-none c.args.self.now.runs.items _ c.in-Some.place.dfa c.deref.ensures.value c.in-None.ensures.lookup.0)

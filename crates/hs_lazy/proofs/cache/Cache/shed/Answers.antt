use Rattle.std.proofs.Common.{◌≡◌, ℕ, length, List, Some, slice_get, ap, subst, ◌∙◌, refl, sym}
use Rattle.std.proofs.lemmas.List.{with_items_is}
use Rattle.hs_lazy.specs.declared.dfa.LazyDfa.{LazyDfa}
use Rattle.hs_lazy.specs.Members.{IsShed}
use Rattle.hs_lazy.proofs.ShedLemmas.{shed-dfas, shed-engines}
use Rattle.hs_lazy.proofs.cache.Cache.shed.Goals as goal

abbrev AreShed : (old new : List LazyDfa) → Type 0
AreShed old new = (i : ℕ) (dfa : LazyDfa) → slice_get new i ≡ Some dfa → (before : LazyDfa) × (slice_get old i ≡ Some before) × IsShed before dfa

pub returns-clause-dfas : goal.returns-clause-dfas
returns-clause-dfas g c =
    let size : length c.shed_all.new.list ≡ c.args.self.now.dfas.list.len = c.shed_all.ensures.len ∙ (ap length c.deref_mut.ensures.value ∙ sym c.args.self.now.dfas.list.ok.0) in
    shed-dfas g.E.Engine.meaning c.args.engines.now c.args.self.now.dfas _ refl
    (subst (λ (l : List LazyDfa). AreShed c.args.self.now.dfas.list.items l) (sym (with_items_is c.args.self.now.dfas.list c.shed_all.new.list size))
    (subst (λ (l : List LazyDfa). AreShed l c.shed_all.new.list) c.deref_mut.ensures.value c.shed_all.ensures.shed))
    c.requires.dfas

pub returns-clause-fewer : goal.returns-clause-fewer
returns-clause-fewer g c =
    let size : length c.shed_all.new.list ≡ c.args.self.now.dfas.list.len = c.shed_all.ensures.len ∙ (ap length c.deref_mut.ensures.value ∙ sym c.args.self.now.dfas.list.ok.0) in
    shed-engines c.args.self.now.dfas _ refl
    (subst (λ (l : List LazyDfa). AreShed c.args.self.now.dfas.list.items l) (sym (with_items_is c.args.self.now.dfas.list c.shed_all.new.list size))
    (subst (λ (l : List LazyDfa). AreShed l c.shed_all.new.list) c.deref_mut.ensures.value c.shed_all.ensures.shed))

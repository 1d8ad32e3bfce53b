use Rattle.std.proofs.Common.{◌≡◌, ℕ, length, List, slice_get, sym, ap, subst, ◌∙◌, refl, arith}
use Rattle.std.proofs.lemmas.List.{with_items_is}
use Rattle.std.specs.Vec.{with_items}
use Rattle.hs_lazy.specs.declared.cache.Cache.{Cache}
use Rattle.hs_lazy.specs.declared.dfa.LazyDfa.{LazyDfa}
use Rattle.hs_lazy.specs.declared.parts.Run.{Run}
use Rattle.hs_lazy.specs.Caches.{AreSameImages, AreTaken}
use Rattle.hs_lazy.specs.Tables.{AreAllSound, member_in, member_of}
use Rattle.hs_lazy.proofs.ToldLemmas.{dfas-run, run-of, run-told, same-engines, same-members}
use Rattle.hs_lazy.proofs.cache.Cache.run.Goals as goal

same-list : (old : Cache) (list mid : List LazyDfa) (runs : List Run) → mid ≡ old.dfas.list.items → length list ≡ length mid →
    ((i k : ℕ) → member_in (slice_get list i) k ≡ member_in (slice_get mid i) k) →
    (k : ℕ) → member_of (record { list = with_items old.dfas.list list; places = old.dfas.places }) k ≡ member_of old.dfas k
same-list old list mid runs value size members =
    let whole : (with_items old.dfas.list list).items ≡ list = with_items_is old.dfas.list list (size ∙ (ap length value ∙ sym old.dfas.list.ok.0)) in
    same-members old.dfas (record { list = with_items old.dfas.list list; places = old.dfas.places }) refl
    (λ i k. ap (λ (l : List LazyDfa). member_in (slice_get l i) k) whole ∙ (members i k ∙ ap (λ (l : List LazyDfa). member_in (slice_get l i) k) value))

pub returns-clause-dfas : goal.returns-clause-dfas
returns-clause-dfas g c =
    let size : length c.run_all.new.list ≡ c.args.self.now.dfas.list.len = c.run_all.ensures.len ∙ (ap length c.deref_mut.ensures.value ∙ sym c.args.self.now.dfas.list.ok.0) in
    dfas-run g.E.Engine.meaning c.args.engines.now c.args.self.now.dfas _
    (same-engines c.args.self.now.dfas _ (same-list c.args.self.now c.run_all.new.list c.deref_mut.result.now c.run_all.new.runs c.deref_mut.ensures.value c.run_all.ensures.len c.run_all.ensures.members))
    (subst (λ (l : List LazyDfa). AreAllSound g.E.Engine.meaning c.args.engines.now l) (sym (with_items_is c.args.self.now.dfas.list c.run_all.new.list size)) c.run_all.ensures.sound)
    c.requires.dfas

pub returns-clause-same : goal.returns-clause-same
returns-clause-same g c =
    same-engines c.args.self.now.dfas _ (same-list c.args.self.now c.run_all.new.list c.deref_mut.result.now c.run_all.new.runs c.deref_mut.ensures.value c.run_all.ensures.len c.run_all.ensures.members)

pub returns-clause-told : goal.returns-clause-told
returns-clause-told g c k t e is there =
    let size : length c.run_all.new.list ≡ c.args.self.now.dfas.list.len = c.run_all.ensures.len ∙ (ap length c.deref_mut.ensures.value ∙ sym c.args.self.now.dfas.list.ok.0) in
    let runs-size : length c.run_all.new.runs ≡ c.args.self.now.runs.len = c.run_all.ensures.runs_len ∙ (ap length c.deref_mut-2.ensures.value ∙ sym c.args.self.now.runs.ok.0) in
    let whole : (with_items c.args.self.now.dfas.list c.run_all.new.list).items ≡ c.run_all.new.list = with_items_is c.args.self.now.dfas.list c.run_all.new.list size in
    let whole-runs : (with_items c.args.self.now.runs c.run_all.new.runs).items ≡ c.run_all.new.runs = with_items_is c.args.self.now.runs c.run_all.new.runs runs-size in
    run-told g.E.Engine.meaning c.args.engines.now c.args.self.now _ c.args.prev c.args.bytes.now refl
    (same-list c.args.self.now c.run_all.new.list c.deref_mut.result.now c.run_all.new.runs c.deref_mut.ensures.value c.run_all.ensures.len c.run_all.ensures.members)
    (subst (λ (l : List LazyDfa). AreAllSound g.E.Engine.meaning c.args.engines.now l) (sym whole) c.run_all.ensures.sound)
    (subst (λ (r : List Run). AreSameImages c.args.self.now.runs.items r) (sym whole-runs) (subst (λ (r : List Run). AreSameImages r c.run_all.new.runs) c.deref_mut-2.ensures.value c.run_all.ensures.images))
    (subst (λ (l : List LazyDfa). AreTaken l (with_items c.args.self.now.runs c.run_all.new.runs).items c.args.prev c.args.bytes.now) (sym whole)
    (subst (λ (r : List Run). AreTaken c.run_all.new.list r c.args.prev c.args.bytes.now) (sym whole-runs) c.run_all.ensures.taken))
    (λ i low. omega (arith, c.type_inv.bytes i)) k t e is there

pub returns-clause-of : goal.returns-clause-of
returns-clause-of g c k t is =
    run-of c.args.self.now _ (same-list c.args.self.now c.run_all.new.list c.deref_mut.result.now c.run_all.new.runs c.deref_mut.ensures.value c.run_all.ensures.len c.run_all.ensures.members) k t is

pub run_all-requires-clause-sound : goal.run_all-requires-clause-sound
run_all-requires-clause-sound g c = subst (λ (l : List LazyDfa). AreAllSound g.E.Engine.meaning c.args.engines.now l) (sym c.deref_mut.ensures.value) c.requires.dfas.sound

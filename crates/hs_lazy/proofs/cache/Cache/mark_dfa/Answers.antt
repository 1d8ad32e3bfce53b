use Rattle.std.proofs.Common.{◌≡◌, ◌∙◌, List, Some, None, Bool, true, false, inl, inr, ◌⊎◌, slice_get, sym, subst, refl, ap}
use Rattle.hs_base.specs.Bits.{has_word_bit}
use Rattle.hs_bits.specs.Marks.{is_marked}
use Rattle.hs_lazy.specs.declared.parts.Member.{Member}
use Rattle.hs_lazy.specs.Tables.{member_by, member_of, place_for}
use Rattle.hs_lazy.proofs.TableLemmas.{got, got-none}
use Rattle.hs_lazy.proofs.ToldLemmas.{IsToldBy, asleep-silent, no-dfa, no-run, own-number, told-member, told-place}
use Rattle.hs_lazy.proofs.cache.Cache.mark_dfa.Goals as goal

both : {A : Type 0} (b : Bool) → b ≡ true → b ≡ false → A
both b marked unset = absurd (cc)

either : (b : Bool) → (b ≡ true) ⊎ (b ≡ false)
either true = inl refl
either false = inr refl

pub returns-in_default-clause-silent : goal.returns-in_default-clause-silent
returns-in_default-clause-silent c k t p spot at is unset =
    no-dfa c.args.self.now k t p is spot (subst (λ n. slice_get c.args.self.now.dfas.list.items n ≡ None) (sym at) (got-none c.args.self.now.dfas.list.items _ c.args.at c.deref.ensures.value c.in_default.ensures.lookup.0))

pub returns-in_default-get-clause-silent : goal.returns-in_default-get-clause-silent
returns-in_default-get-clause-silent c k t p spot at is unset =
    no-run c.args.self.now k t p is spot (subst (λ n. slice_get c.args.self.now.runs.items n ≡ None) (sym at) (got-none c.args.self.now.runs.items _ c.args.at c.deref-2.ensures.value c.in_default-get.ensures.lookup.0))

pub returns-then-not-run-clause-silent : goal.returns-then-not-run-clause-silent
returns-then-not-run-clause-silent c k t p spot at is unset =
    let d : slice_get c.args.self.now.dfas.list.items p.dfa ≡ Some c.in-Some.dfa.now = subst (λ n. slice_get c.args.self.now.dfas.list.items n ≡ Some c.in-Some.dfa.now) (sym at) (got c.args.self.now.dfas.list.items _ c.args.at _ c.deref.ensures.value c.in-Some.ensures.lookup.3.0 c.in-Some.ensures.lookup.1) in
    let r : slice_get c.args.self.now.runs.items p.dfa ≡ Some c.in-Some-get.run'.now = subst (λ n. slice_get c.args.self.now.runs.items n ≡ Some c.in-Some-get.run'.now) (sym at) (got c.args.self.now.runs.items _ c.args.at _ c.deref-2.ensures.value c.in-Some-get.ensures.lookup.3.0 c.in-Some-get.ensures.lookup.1) in
    let it : IsToldBy t c.in-Some.dfa.now c.in-Some-get.run'.now p.member = told-place c.args.self.now k t p _ _ is spot d r in
    both c.in-Some-get.run'.now.is_done it.done c.if-not-run.true

pub returns-clause-silent : goal.returns-clause-silent
returns-clause-silent c k t p spot at is unset =
    let d : slice_get c.args.self.now.dfas.list.items p.dfa ≡ Some c.in-Some.dfa.now = subst (λ n. slice_get c.args.self.now.dfas.list.items n ≡ Some c.in-Some.dfa.now) (sym at) (got c.args.self.now.dfas.list.items _ c.args.at _ c.deref.ensures.value c.in-Some.ensures.lookup.3.0 c.in-Some.ensures.lookup.1) in
    let r : slice_get c.args.self.now.runs.items p.dfa ≡ Some c.in-Some-get.run'.now = subst (λ n. slice_get c.args.self.now.runs.items n ≡ Some c.in-Some-get.run'.now) (sym at) (got c.args.self.now.runs.items _ c.args.at _ c.deref-2.ensures.value c.in-Some-get.ensures.lookup.3.0 c.in-Some-get.ensures.lookup.1) in
    let it : IsToldBy t c.in-Some.dfa.now c.in-Some-get.run'.now p.member = told-place c.args.self.now k t p _ _ is spot d r in
    let own : member_of c.args.self.now.dfas k ≡ Some it.of = told-member c.args.self.now k t p c.in-Some.dfa.now it.of is spot d it.of_is in
    let number : it.of.number ≡ k = own-number k (member_by c.args.self.now.dfas.list.items (place_for c.args.self.now.dfas k)) it.of own in
    elim (either (has_word_bit c.woken-woken.result p.member)) [
      | inl bit ↦
          both (is_marked c.mark_members.new.marks k)
          (ap (is_marked c.mark_members.new.marks) (sym number) ∙
          c.mark_members.ensures.marked p.member it.of it.of (subst (λ (l : List Member). slice_get l p.member ≡ Some it.of) (sym c.deref-3.ensures.value) it.of_is) (ap (member_of c.args.self.now.dfas) number ∙ own) bit)
          unset
      | inr none ↦ asleep-silent t c.in-Some.dfa.now c.in-Some-get.run'.now p.member it (c.woken-woken.ensures it.state p.member it.state_is none)
    ]

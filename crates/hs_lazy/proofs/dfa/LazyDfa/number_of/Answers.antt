use Rattle.std.proofs.Common.{◌≡◌, ◌∷◌, [], ◌++◌, suc, length, None, slice_get, sym, ap, subst, ◌∙◌, refl, arith, length-append}
use Rattle.hs_lazy.specs.Parts.{AreStillThere}
use Rattle.hs_lazy.proofs.TableLemmas.{get-last, kept-pushed, pushed, whole-pushed}
use Rattle.hs_lazy.proofs.PartLemmas.{set-by, some-same, unset-same}
use Rattle.hs_lazy.proofs.dfa.LazyDfa.number_of.Goals as goal

pub returns-then-is_unset-2-clause-same : goal.returns-then-is_unset-2-clause-same
returns-then-is_unset-2-clause-same c = unset-same None c.args.set refl (c.is_unset.ensures.0 c.if-is_unset.true) (c.is_unset-then-is_unset.ensures.0 c.if-is_unset-2.true)

pub returns-clause-ends : goal.returns-clause-ends
returns-clause-ends c =
    let now : c.push.new.self.items ≡ c.args.self.now.ends.items ++ c.args.set ∷ [] = pushed _ _ c.args.set c.push.result c.unwrap.result c.push.ensures.items c.unwrap.ensures in
    subst (AreStillThere c.args.self.now.ends.items) (sym now) (kept-pushed c.args.self.now.ends.items c.args.set)

pub returns-clause-same : goal.returns-clause-same
returns-clause-same c =
    let now : c.push.new.self.items ≡ c.args.self.now.ends.items ++ c.args.set ∷ [] = pushed _ _ c.args.set c.push.result c.unwrap.result c.push.ensures.items c.unwrap.ensures in
    let size : c.len-2.result ≡ suc (length c.args.self.now.ends.items) =
    omega (arith, c.len-2.ensures, c.push.new.self.ok.0, ap length now, length-append c.args.self.now.ends.items (c.args.set ∷ [])) in
    some-same _ _ (set-by c.push.new.self.items c.len-2.result (length c.args.self.now.ends.items) size ∙ (ap (λ l. slice_get l (length c.args.self.now.ends.items)) now ∙ get-last c.args.self.now.ends.items c.args.set))

pub invariant_of-self-clause-ends_whole : goal.invariant_of-self-clause-ends_whole
invariant_of-self-clause-ends_whole c = whole-pushed _ _ c.args.set _ c.push.ensures.items (record { before_len = search; behind_len = search }) c.args.self.now.ends_whole

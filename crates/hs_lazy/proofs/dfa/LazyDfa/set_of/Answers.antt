use Rattle.std.proofs.Common.{◌≡◌, ◌/◌, ◌-◌, Some, None, slice_get, ◌∙◌, arith}
use Rattle.hs_lazy.proofs.TableLemmas.{got, got-none}
use Rattle.hs_lazy.specs.Parts.{ends_of}
use Rattle.hs_lazy.proofs.PartLemmas.{none-same, set-by, set-zero, some-same}
use Rattle.hs_lazy.proofs.dfa.LazyDfa.set_of.Goals as goal

pub returns-then-number-eq0-clause-same : goal.returns-then-number-eq0-clause-same
returns-then-number-eq0-clause-same c = none-same _ (set-zero c.args.self.now.ends.items (ends_of c.args.step) (omega (arith, c.if-number-eq0.true)))

pub returns-in-Some-clause-same : goal.returns-in-Some-clause-same
returns-in-Some-clause-same c =
    let there : slice_get c.args.self.now.ends.items (c.args.step / 65536 - 1) ≡ Some c.in-Some.set.now =
    got c.args.self.now.ends.items _ (c.args.step / 65536 - 1) _ c.deref.ensures.value c.in-Some.ensures.lookup.3.0 c.in-Some.ensures.lookup.1 in
    some-same _ _ (set-by c.args.self.now.ends.items (ends_of c.args.step) (c.args.step / 65536 - 1) (omega (arith, c.if-number-eq0.false)) ∙ there)

pub returns-in-None-clause-same : goal.returns-in-None-clause-same
returns-in-None-clause-same c =
    let there : slice_get c.args.self.now.ends.items (c.args.step / 65536 - 1) ≡ None =
    got-none c.args.self.now.ends.items _ (c.args.step / 65536 - 1) c.deref.ensures.value c.in-None.ensures.lookup.0 in
    none-same _ (set-by c.args.self.now.ends.items (ends_of c.args.step) (c.args.step / 65536 - 1) (omega (arith, c.if-number-eq0.false)) ∙ there)

pub returns-in-Some-clause-before_len : goal.returns-in-Some-clause-before_len
returns-in-Some-clause-before_len c =
    let there : slice_get c.args.self.now.ends.items (c.args.step / 65536 - 1) ≡ Some c.in-Some.set.now =
    got c.args.self.now.ends.items _ (c.args.step / 65536 - 1) _ c.deref.ensures.value c.in-Some.ensures.lookup.3.0 c.in-Some.ensures.lookup.1 in
    (c.args.self.now.ends_whole (c.args.step / 65536 - 1) c.in-Some.set.now there).before_len

pub returns-in-Some-clause-behind_len : goal.returns-in-Some-clause-behind_len
returns-in-Some-clause-behind_len c =
    let there : slice_get c.args.self.now.ends.items (c.args.step / 65536 - 1) ≡ Some c.in-Some.set.now =
    got c.args.self.now.ends.items _ (c.args.step / 65536 - 1) _ c.deref.ensures.value c.in-Some.ensures.lookup.3.0 c.in-Some.ensures.lookup.1 in
    (c.args.self.now.ends_whole (c.args.step / 65536 - 1) c.in-Some.set.now there).behind_len

use Rattle.std.proofs.Common.{◌≡◌, ◌||◌, Bool, true, false, Some, slice_get, refl, sym, ap, ◌∙◌, arith}
use Rattle.hs_base.specs.Bits.{has_word_bit}
use Rattle.hs_lazy.specs.declared.parts.State.{State}
use Rattle.hs_lazy.proofs.TableLemmas.{got, same-got}
use Rattle.hs_lazy.proofs.dfa.LazyDfa.woken.Goals as goal

neither : (x y : Bool) → (x || y) ≡ false → (x ≡ false) × (y ≡ false)
neither true y is = absurd (cc)
neither false true is = absurd (cc)
neither false false is = (refl, refl)

pub unite_words-requires : goal.unite_words-requires
unite_words-requires c =
    let mine : slice_get c.args.self.now.states.items c.args.run.now.state ≡ Some c.in-Some.state.now = got c.args.self.now.states.items _ c.args.run.now.state _ c.deref.ensures.value c.in-Some.ensures.lookup.3.0 c.in-Some.ensures.lookup.1 in
    omega (arith, (c.args.self.now.live c.args.run.now.state c.in-Some.state.now mine).live_len, c.args.run.now.ends.members_len)

pub returns : goal.returns
returns c state k is unset =
    let mine : slice_get c.args.self.now.states.items c.args.run.now.state ≡ Some c.in-Some.state.now = got c.args.self.now.states.items _ c.args.run.now.state _ c.deref.ensures.value c.in-Some.ensures.lookup.3.0 c.in-Some.ensures.lookup.1 in
    let same : c.in-Some.state.now ≡ state = same-got c.args.self.now.states.items c.args.run.now.state c.in-Some.state.now state mine is in
    let both : (has_word_bit c.args.run.now.ends.members k ≡ false) × (has_word_bit c.in-Some.state.now.live k ≡ false) =
    neither (has_word_bit c.args.run.now.ends.members k) (has_word_bit c.in-Some.state.now.live k) (sym (c.unite_words.ensures.bits k) ∙ unset) in
    record {
      live = ap (λ (x : State). has_word_bit x.live k) (sym same) ∙ both.1;
      ended = both.0;
    }

pub slice_bounds-unite_words-end : goal.slice_bounds-unite_words-end
slice_bounds-unite_words-end c =
    let mine : slice_get c.args.self.now.states.items c.args.run.now.state ≡ Some c.in-Some.state.now = got c.args.self.now.states.items _ c.args.run.now.state _ c.deref.ensures.value c.in-Some.ensures.lookup.3.0 c.in-Some.ensures.lookup.1 in
    sym (c.args.self.now.live c.args.run.now.state c.in-Some.state.now mine).live_len

use Rattle.std.proofs.Common.{sym, ◌∙◌, rules}
use denote.Enum.Bare.{same_true}
use Rattle.hs_base.specs.contracts.context.Prev.{the_type}
use Rattle.hs_bits.proofs.WordLemmas.{unset-bits}
use Rattle.hs_lazy.proofs.TableLemmas.{got}
use Rattle.hs_lazy.proofs.dfa.LazyDfa.is_idle_behind.Goals as goal

pub returns-then-eq : goal.returns-then-eq
returns-then-eq c is =
    let there = got c.args.self.now.states.items _ c.args.number _ c.deref.ensures.value c.in-Some.ensures.lookup.3.0 c.in-Some.ensures.lookup.1 in
    let whole = c.args.self.now.live c.args.number c.in-Some.state.now there in
    record {
      state = c.in-Some.state.now;
      is = there;
      whole = whole;
      zero = λ k m at. whole.live k m at (unset-bits c.in-Some.state.now.live (c.is_unset.ensures.0 is) k);
      prev_is = same_true the_type (search rules) _ _ (sym c.eq.ensures ∙ c.if-eq.true);
    }

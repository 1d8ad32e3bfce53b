use Rattle.std.proofs.Common.{sym, ◌∙◌, rules, tests}
use denote.Enum.Bare.{same_true}
use Rattle.hs_base.specs.contracts.context.Prev.{the_type}
use Rattle.hs_lazy.proofs.TableLemmas.{got}
use Rattle.hs_lazy.proofs.dfa.LazyDfa.is_state.Goals as goal

pub returns-then-eq : goal.returns-then-eq
returns-then-eq c is =
    record {
      state = c.in-Some.state.now;
      is = got c.args.self.now.states.items _ c.args.number _ c.deref.ensures.value c.in-Some.ensures.lookup.3.0 c.in-Some.ensures.lookup.1;
      image_is = search (rules, tests, is, c.eq-then-eq.ensures);
      prev_is = same_true the_type (search rules) _ _ (sym c.eq.ensures ∙ c.if-eq.true);
    }

use Rattle.std.proofs.Common.{refl}
use Rattle.std.specs.Prelude.{is_ok}
use Rattle.hs_lazy.proofs.EndLemmas.{empty-before, empty-behind, empty-whole}
use Rattle.hs_lazy.proofs.PutLemmas.{maybe-dfas, maybe-engine}
use Rattle.hs_lazy.proofs.cache.Cache.make_room.Goals as goal

pub invariant_of-push : goal.invariant_of-push
invariant_of-push g c = record {
  rows_len = refl;
  whole = empty-whole 256;
  members_len = refl;
  silent_before = λ m i unset. empty-before 256 m i;
  silent_behind = λ m i unset. empty-behind 256 m i;
}

pub returns-in_err-push-2-clause-dfas : goal.returns-in_err-push-2-clause-dfas
returns-in_err-push-2-clause-dfas g c = maybe-dfas g.E.Engine.meaning c.args.engines.now (is_ok c.push-2.result) c.args.self.now.dfas _ c.in_ok-dfa.dfa c.in_ok-dfa.ensures.members c.in_ok-dfa.ensures.states c.push-2.ensures.items refl c.requires.dfas

pub returns-in_err-push-2-clause-same : goal.returns-in_err-push-2-clause-same
returns-in_err-push-2-clause-same g c k = maybe-engine (is_ok c.push-2.result) c.args.self.now.dfas _ c.in_ok-dfa.dfa k c.in_ok-dfa.ensures.members c.push-2.ensures.items refl

pub returns-clause-dfas : goal.returns-clause-dfas
returns-clause-dfas g c = maybe-dfas g.E.Engine.meaning c.args.engines.now (is_ok c.push-2.result) c.args.self.now.dfas _ c.in_ok-dfa.dfa c.in_ok-dfa.ensures.members c.in_ok-dfa.ensures.states c.push-2.ensures.items refl c.requires.dfas

pub returns-clause-same : goal.returns-clause-same
returns-clause-same g c k = maybe-engine (is_ok c.push-2.result) c.args.self.now.dfas _ c.in_ok-dfa.dfa k c.in_ok-dfa.ensures.members c.push-2.ensures.items refl

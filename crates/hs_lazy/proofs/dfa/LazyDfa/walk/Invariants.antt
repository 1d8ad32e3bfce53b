use Rattle.std.proofs.Common.{◌≡◌, ◌<◌, length}
use Rattle.hs_lazy.specs.Walks.{IsWalk, state_before}
use Rattle.hs_lazy.proofs.dfa.LazyDfa.walk.Given as goal

abbrev pub invariant-loop-place : goal.invariant-loop-place
invariant-loop-place l = record {
  len : length l.trace ≡ length l.fn.trace;
  state_is : l.state ≡ state_before l.first l.trace l.place;
  here : l.state < length l.self.states.items;
  walk : IsWalk l.self.rows.items l.first l.bytes l.trace l.place;
}

use Rattle.std.proofs.Common.{◌≡◌, ◌<◌, ◌-◌, length}
use Rattle.hs_pool.specs.Following.{AreFollowed, state_to}
use Rattle.hs_pool.proofs.following.follow.Given as goal

abbrev pub invariant-loop-place : goal.invariant-loop-place
invariant-loop-place l = record {
  here : l.state < length l.rows;
  len : length l.flags ≡ 64;
  state_is : l.state ≡ state_to l.rows l.first l.from l.enters l.bytes (l.place - l.from);
  followed : AreFollowed l.rows l.first l.from l.enters l.bytes l.fn.flags l.flags (l.place - l.from);
}

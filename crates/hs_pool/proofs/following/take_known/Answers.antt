use Rattle.hs_pool.proofs.FollowLemmas.{known-run}
use Rattle.hs_pool.proofs.TableLemmas.{zeros-at}
use Rattle.hs_pool.proofs.following.take_known.Goals as goal

pub returns : goal.returns
returns c =
    known-run c.args.rows.now c.args.first c.args.from c.args.enters c.args.bytes.now _ c.follow-state.new.flags c.follow-state.result c.ends_of.result (zeros-at 64) c.requires.from c.requires.few
    c.if-state-eq0.false c.follow-state.ensures c.ends_of.ensures.before c.ends_of.ensures.behind

use Rattle.std.proofs.Common.{length, arith}
use Rattle.std.proofs.lemmas.Option.{slice_get_read}
use Rattle.hs_forest.proofs.JoinLemmas.{join-step}
use Rattle.hs_forest.proofs.groups.joined.Goals as goal

pub loop-more-preserved : goal.loop-more-preserved
loop-more-preserved c =
    join-step c.args.lists.now c.loop-more.more-index c.more-item.result c.loop-more.starts.items c.loop-more.list.items c.push.new.self.items c.extend_from_slice.new.self.items c.in_ok-node_number.field-0 c.deref.result.now
    (slice_get_read c.args.lists.now (length c.args.lists.now) c.loop-more.more-index c.more-item.result (omega arith) (omega arith) c.more-item.is)
    c.deref.ensures.value c.in_ok-extend_from_slice.ensures.items c.in_ok-push.ensures.items
    (omega (arith, c.in_ok-node_number.ensures, c.len.ensures, c.extend_from_slice.new.self.ok.0)) c.loop-more.invariant

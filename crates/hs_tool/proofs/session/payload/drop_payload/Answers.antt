use Rattle.std.proofs.Common.{◌∙◌, ◌++◌, take, ap}
use Rattle.hs_reader.proofs.ReadLemmas.{when_true}
use Rattle.hs_tool.proofs.PayloadLemmas.{comes-piece}
use Rattle.hs_tool.proofs.session.payload.drop_payload.Goals as goal

pub loop-left-preserved : goal.loop-left-preserved
loop-left-preserved g c =
    let so_far = c.loop-left.invariant.come in
    let bytes = c.first_of-taken.result.now in
    let waits = when_true _ _ c.if-not-branch.false c.in_ok-fill.ensures.waits in
    record {
      come = record {
        came = so_far.came ++ bytes;
        come =
            comes-piece bytes so_far.come c.fill.ensures.consumes waits.1
            (c.first_of-taken.ensures ∙ ap (λ l. take c.loop-left.left l) c.waiting.ensures) c.advance.ensures.bytes c.advance.ensures.place c.advance.ensures.ended;
      };
      counted = c.in_ok-fill.ensures.counts ∙ c.loop-left.invariant.counted;
    }

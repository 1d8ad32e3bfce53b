use Rattle.std.proofs.Common.{◌∙◌, sym, length, arith}
use Rattle.std.proofs.lemmas.Result.{IfOk-weaker}
use Rattle.hs_stream.proofs.CutRunLemmas.{run-start, run-more, run-closed, piece-split, count-more, none-left, some-left}
use Rattle.hs_stream.proofs.runs.run_over.Goals as goal

pub loop-rest-init : goal.loop-rest-init
loop-rest-init g c = record {
  to = run-start c.args.db.now c.args.bytes.now c.in_ok-stream.stream c.in_ok-stream.ensures.fresh;
  fits = c.in_ok-stream.ensures.fits;
  cache = c.requires.cache;
  empty = λ i. record { reports = c.requires.empty i; room = sym c.room-room.ensures i };
  counted = omega arith;
}

pub loop-rest-preserved : goal.loop-rest-preserved
loop-rest-preserved g c =
    let kept = c.loop-rest.invariant in
    let some = some-left c.loop-rest.rest.now (sym c.is_empty.ensures ∙ c.loop-rest-test.true) in
    record {
      to =
          run-more c.args.db.now c.args.bytes.now c.loop-rest.rest.now c.split_at.result.0.now c.split_at.result.1.now c.loop-rest.stream c.write_piece.new.stream c.in_ok-stream-2.stream c.loop-rest.tally c.in_ok-tally.tally kept.to
          (piece-split c.min.result c.loop-rest.rest.now c.split_at.result.0.now c.split_at.result.1.now c.split_at.ensures.front c.split_at.ensures.back) c.in_ok-tally.ensures.added c.in_ok-stream-2.ensures.region;
      fits = c.in_ok-stream-2.ensures.fits;
      cache = c.write_piece.ensures.cache;
      empty = c.in_ok-tally.ensures.emptied;
      counted =
          count-more c.loop-rest.pieces c.min.result c.next_length.result (length c.loop-rest.rest.now) (length c.split_at.result.1.now) (length c.args.bytes.now) c.min.ensures c.next_length.ensures.some some c.split_at.ensures.back_len
          kept.counted;
    }

pub returns : goal.returns
returns g c =
    let kept = c.loop-rest.invariant in
    let none = none-left c.loop-rest.rest.now (sym c.is_empty.ensures ∙ c.loop-rest-test.false) in
    IfOk-weaker c.close_run.result _ _ (λ now is. run-closed c.args.db.now c.args.bytes.now c.loop-rest.rest.now c.loop-rest.stream c.loop-rest.tally now kept.to none is) c.close_run.ensures

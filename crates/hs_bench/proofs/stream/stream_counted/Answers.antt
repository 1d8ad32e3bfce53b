use Rattle.hs_bench.proofs.stream.stream_counted.Goals as goal

pub returns : goal.returns
returns g c = record {
  start = c.in_ok-stream.stream;
  end = c.write_pieces.new.stream;
  fresh = c.in_ok-stream.ensures.fresh;
  adds = c.in-Ok.ensures;
}

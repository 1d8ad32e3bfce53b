use Rattle.std.proofs.Common.{rules, ◌++◌, ◌∙◌, take, ap}
use Rattle.std.proofs.lemmas.List.{take-append-drop}
use Rattle.hs_bench.proofs.StreamingLemmas.{partly-all, partly-more, partly-none}
use Rattle.hs_bench.proofs.stream.write_pieces.Goals as goal

pub loop-rest-init : goal.loop-rest-init
loop-rest-init g c = record {
  fits = c.requires.stream;
  cache = c.requires.cache;
  partly = partly-none c.args.database.now c.args.stream.now c.args.text.now c.args.reports.now.count c.requires.none;
}

pub loop-rest-preserved : goal.loop-rest-preserved
loop-rest-preserved g c = record {
  fits = c.write_cached.ensures.fits;
  cache = c.write_cached.ensures.cache;
  partly =
      partly-more c.args.database.now c.args.stream.now c.loop-rest.stream c.write_cached.new.self c.args.text.now c.loop-rest.rest.now c.split_at.result.0.now c.split_at.result.1.now c.loop-rest.reports c.write_cached.new.events
      (ap (λ xs. xs ++ c.split_at.result.1.now) c.split_at.ensures.front
      ∙ (ap (λ xs. take c.min.result c.loop-rest.rest.now ++ xs) c.split_at.ensures.back ∙ take-append-drop c.min.result c.loop-rest.rest.now))
      c.loop-rest.invariant.partly c.in-Ok.ensures.told;
}

pub returns : goal.returns
returns g c =
    partly-all c.args.database.now c.args.stream.now c.loop-rest.stream c.args.text.now c.loop-rest.rest.now c.loop-rest.reports.count
    (search rules) c.loop-rest.invariant.partly

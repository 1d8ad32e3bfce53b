use Rattle.std.proofs.Common.{get_or, vec_len, arith, ap, sym, ◌∙◌}
use Rattle.std.proofs.lemmas.Option.{slice_get_read}
use Rattle.hs_engine.specs.Automata.{in_set}
use Rattle.hs_block.proofs.StreamRunLemmas.{blank-is, rest-run}
use Rattle.hs_block.proofs.streams.Streams.run_whole.Goals as goal

pub returns-then-blank-first : goal.returns-then-blank-first
returns-then-blank-first g c =
    let s = c.args.self.now in
    let whole = c.args.whole.now in
    let count = c.args.count in (
      c.place_count.result,
      c.tick_by.ensures,
      rest-run s c.args.prev c.args.region.now c.args.enters whole count c.class_word-first.result c.low_places.result c.is_zero-blank.result c.requires.few c.requires.len
          (blank-is c.is_zero-blank.result c.args.region.now c.is_zero-blank.ensures) (λ i. let b = c.type_inv.whole i in omega (arith, b)) c.low_places.ensures
          (λ i below.
          c.class_word-first.ensures i below
          ∙ ap (λ set. in_set set (get_or whole i 0)) (sym (slice_get_read s.sets.items (vec_len s.sets) 0 c.index.result.now s.sets.ok.0 s.some_sets c.index.ensures)))
          c.if-blank-first.true c.place_count.result
          (c.place_count.ensures count c.requires.few),
    )

pub take-requires : goal.take-requires
take-requires g c =
    let s = c.args.self.now in
    let whole = c.args.whole.now in
    record {
      fits = record { room = omega (arith, c.if-self-eq1.true); few = omega arith; exact = λ few. c.if-self-eq1.true };
      len = c.requires.len;
      clear = c.requires.clear;
      whole = c.requires.whole;
      blank = blank-is c.is_zero-blank.result c.args.region.now c.is_zero-blank.ensures;
      few = c.requires.few;
      first = λ i below.
          c.class_word-first.ensures i below
          ∙ ap (λ set. in_set set (get_or whole i 0)) (sym (slice_get_read s.sets.items (vec_len s.sets) 0 c.index.result.now s.sets.ok.0 s.some_sets c.index.ensures));
      room = omega arith;
    }

pub take_wide-requires-clause-blank : goal.take_wide-requires-clause-blank
take_wide-requires-clause-blank g c = blank-is c.is_zero-blank.result c.args.region.now c.is_zero-blank.ensures

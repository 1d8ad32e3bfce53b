use Rattle.std.proofs.Common.{length, ap, ◌∙◌, arith}
use Rattle.std.proofs.lemmas.List.{length-replicate}
use Rattle.hs_base.specs.Bits.{has_word_bit}
use Rattle.hs_block.specs.StreamSets.{in_rows}
use Rattle.hs_base.proofs.ContextLemmas.{left_of_either}
use Rattle.hs_block.proofs.StreamSettleLemmas.{led-more, led-out, still-set}
use Rattle.hs_block.proofs.TableLemmas.{row-room}
use Rattle.hs_block.proofs.streams.Streams.led_by.Goals as goal

pub loop-position-init : goal.loop-position-init
loop-position-init g c = record {
  len = c.unite_words.ensures.len ∙ length-replicate g.row.W 0;
  within = omega arith;
  kept = λ y is. c.unite_words.ensures.bits y ∙ left_of_either (has_word_bit c.args.state.now y) _ is;
  led = λ z y h low before. absurd (omega arith);
}

pub row_in-row-requires : goal.row_in-row-requires
row_in-row-requires g c =
    let s = c.args.self.now in
    record {
      fits = c.requires.fits;
      room = omega (arith, row-room s.width c.in-Some.position s.size c.in-Some.ensures.high, s.succeeded, s.successors.ok.0, ap (λ items. length items) c.deref.ensures.value);
    }

pub loop-position-preserved : goal.loop-position-preserved
loop-position-preserved g c =
    let s = c.args.self.now in
    let x = c.in-Some.position in
    let inv = c.loop-position.invariant in
    let state = c.args.state.now in
    let todo = c.loop-position.todo in
    let row = c.row_in-row.result.now in
    let new = c.unite_words-in-Some.new.words in
    record {
      len = c.unite_words-in-Some.ensures.len ∙ inv.len;
      within = omega (arith, c.in-Some.ensures.high);
      kept = still-set state todo row new c.unite_words-in-Some.ensures.bits inv.kept;
      led =
          led-more s state todo row new c.loop-position.from x c.in-Some.ensures.high c.unite_words-in-Some.ensures.bits
          (λ y below. c.row_in-row.ensures.bits y below ∙ ap (λ items. in_rows items s.width x y) c.deref.ensures.value) c.in-Some.ensures.least c.in-Some.ensures.is inv.kept inv.led;
    }

pub returns-clause-led : goal.returns-clause-led
returns-clause-led g c = led-out c.args.self.now c.args.state.now c.loop-position.todo c.loop-position.from c.in_default.ensures c.loop-position.invariant.led

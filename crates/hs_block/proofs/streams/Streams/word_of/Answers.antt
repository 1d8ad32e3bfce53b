use Rattle.std.proofs.Common.{◌&&◌, ◌||◌, ◌-◌, length, get_or, slice_get, refl, ap, ◌∙◌, bit_or, arith}
use Rattle.std.specs.Prelude.{nat_le}
use Rattle.std.proofs.lemmas.Option.{slice_get_read}
use Rattle.hs_engine.specs.Automata.{in_set}
use Rattle.hs_block.specs.StreamSets.{takes_byte}
use Rattle.hs_bits.specs.WordBits.{word_bit}
use Rattle.hs_block.proofs.StreamSettleLemmas.{look-none, reached-bit, some-map, word-holds}
use Rattle.hs_block.proofs.streams.Streams.word_of.Goals as goal

pub returns-then-reached-eq0-clause-word : goal.returns-then-reached-eq0-clause-word
returns-then-reached-eq0-clause-word g c =
    let s = c.args.self.now in
    let entry = c.args.entry.now in
    let whole = c.args.whole.now in
    let words = c.args.words.now in
    let x = c.args.position in
    let reached = bit_or c.entered_places-entered.result c.arrivals-arrivals.result.led in
    word-holds s entry.prev entry.state entry.enters whole words x 0 reached c.arrivals-arrivals.result.again c.requires.position (omega (arith, c.requires.position, c.requires.room, s.wide)) c.requires.none
    (reached-bit s entry.prev entry.state entry.enters whole words x _ c.entered_places-entered.result c.arrivals-arrivals.result.led
    (slice_get_read s.enters.items (length s.enters.items) x c.index.result.now refl (omega (arith, c.requires.position, s.entered_all, s.enters.ok.0)) c.index.ensures) c.entered_places-entered.ensures c.arrivals-arrivals.ensures.led)
    c.arrivals-arrivals.ensures.again
    (λ i small. look-none reached c.arrivals-arrivals.result.again i (takes_byte s.sets.items s.numbers.items x (get_or whole i 0)) c.if-reached-eq0.true)

pub returns-clause-word : goal.returns-clause-word
returns-clause-word g c =
    let s = c.args.self.now in
    let entry = c.args.entry.now in
    let whole = c.args.whole.now in
    let words = c.args.words.now in
    let x = c.args.position in
    let reached = bit_or c.entered_places-entered.result c.arrivals-arrivals.result.led in
    let again = c.arrivals-arrivals.result.again in
    some-map c.word_behind.result
    (λ word look.
    word-holds s entry.prev entry.state entry.enters whole words x word reached again c.requires.position (omega (arith, c.requires.position, c.requires.room, s.wide)) c.requires.none
    (reached-bit s entry.prev entry.state entry.enters whole words x _ c.entered_places-entered.result c.arrivals-arrivals.result.led
    (slice_get_read s.enters.items (length s.enters.items) x c.index.result.now refl (omega (arith, c.requires.position, s.entered_all, s.enters.ok.0)) c.index.ensures) c.entered_places-entered.ensures c.arrivals-arrivals.ensures.led)
    c.arrivals-arrivals.ensures.again
    (λ k below.
    look k below
    ∙ ap (λ b. b && (word_bit reached k || (nat_le 1 k && (word_bit word (k - 1) && word_bit again k))))
    (c.of-class.ensures.word k below
    ∙ (ap (λ items. in_set (slice_get items (get_or c.as_slice.result.now x 0)) (get_or whole k 0)) c.deref.ensures.value
    ∙ ap (λ items. in_set (slice_get s.sets.items (get_or items x 0)) (get_or whole k 0)) c.as_slice.ensures.value))))
    c.word_behind.ensures

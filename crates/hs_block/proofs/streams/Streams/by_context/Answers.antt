use Rattle.std.proofs.Common.{◌≡◌, ℕ, ◌+◌, ◌*◌, ◌<◌, ◌&&◌, ◌||◌, true, false, List, length, get_or, ap, sym, ◌∙◌, arith}
use Rattle.hs_base.specs.Bits.{has_word_bit}
use Rattle.hs_base.specs.Contexts.{Context}
use Rattle.hs_engine.specs.Rows.{square_number}
use Rattle.hs_bits.specs.BlockContexts.{context_before}
use Rattle.hs_bits.specs.WordBits.{word_bit}
use Rattle.hs_bits.proofs.WordLemmas.{or-turned}
use Rattle.hs_block.specs.StreamSets.{in_rows}
use Rattle.hs_block.proofs.PositionWordLemmas.{few-left, lowest-within}
use Rattle.hs_block.proofs.StreamSettleLemmas.{LedBy, from-either, led-all, led-none, read-rest, squares-all, squares-more, squares-passed}
use Rattle.hs_block.proofs.TableLemmas.{row-room, square-few}
use Rattle.hs_block.proofs.streams.Streams.by_context.Goals as goal

pub loop-left-init : goal.loop-left-init
loop-left-init g c =
    let s = c.args.self.now in
    let x = c.args.position in
    let here : ℕ → ℕ = λ i. square_number true (context_before c.args.entry.now.prev c.args.whole.now i) in
    record {
      few = λ q past. ap (λ w. word_bit w q) c.requires.asks ∙ s.few_asked x q past;
      led = λ i small. or-turned (word_bit c.args.always.led i) (word_bit c.args.asks (here i) && LedBy s c.args.entry.now.state c.args.words.now x i (here i));
      again = λ i small. or-turned (word_bit c.args.always.again i) (word_bit c.args.asks (here i) && in_rows s.rests.items s.width (12 * x + here i) x);
    }

pub bounds-squares-square : goal.bounds-squares-square
bounds-squares-square g c = omega (arith, lowest-within 12 c.loop-left.left c.lowest_bit-square.result c.lowest_bit-square.ensures.lowest c.loop-left.invariant.few)

pub row_in-row-requires : goal.row_in-row-requires
row_in-row-requires g c =
    let s = c.args.self.now in
    let low = lowest-within 12 c.loop-left.left c.lowest_bit-square.result c.lowest_bit-square.ensures.lowest c.loop-left.invariant.few in
    let room = row-room s.width (12 * c.args.position + c.lowest_bit-square.result) (12 * s.size) (omega (arith, low, c.requires.position)) in
    record {
      fits = c.requires.fits;
      room = omega (arith, room, s.asked c.requires.asking, s.rests.ok.0, ap (λ items. length items) c.deref.ensures.value);
    }

pub loop-left-preserved-then-places-eq0 : goal.loop-left-preserved-then-places-eq0
loop-left-preserved-then-places-eq0 g c =
    let s = c.args.self.now in
    let x = c.args.position in
    let left = c.loop-left.left in
    let square = c.lowest_bit-square.result in
    let rest = c.without_lowest_bit-left.result in
    let inv = c.loop-left.invariant in
    let entry = c.args.entry.now in
    let low = c.lowest_bit-square.ensures.lowest in
    let behind = c.without_lowest_bit-left.ensures.behind square low in
    let below = lowest-within 12 left square low inv.few in
    let here : ℕ → ℕ = λ i. square_number true (context_before entry.prev c.args.whole.now i) in
    let are = c.places_by_square-squares.ensures entry.prev c.args.whole.now c.contexts_of.ensures in
    let squares = c.places_by_square-squares.result in
    record {
      few = few-left 12 left square rest low behind below (λ y. false) inv.few;
      led = λ i small.
          squares-passed i square (here i) left rest (LedBy s entry.state c.args.words.now x i) _ (word_bit c.loop-left.all.led i) (get_or squares square 0) low behind c.if-places-eq0.true
          (are square i below (omega (arith, small, c.requires.whole))) (inv.led i small);
      again = λ i small.
          squares-passed i square (here i) left rest (λ q. in_rows s.rests.items s.width (12 * x + q) x) _ (word_bit c.loop-left.all.again i) (get_or squares square 0) low behind c.if-places-eq0.true
          (are square i below (omega (arith, small, c.requires.whole))) (inv.again i small);
    }

pub loop-left-preserved : goal.loop-left-preserved
loop-left-preserved g c =
    let s = c.args.self.now in
    let x = c.args.position in
    let left = c.loop-left.left in
    let square = c.lowest_bit-square.result in
    let rest = c.without_lowest_bit-left.result in
    let inv = c.loop-left.invariant in
    let entry = c.args.entry.now in
    let words = c.args.words.now in
    let low = c.lowest_bit-square.ensures.lowest in
    let behind = c.without_lowest_bit-left.ensures.behind square low in
    let below = lowest-within 12 left square low inv.few in
    let here : ℕ → ℕ = λ i. square_number true (context_before entry.prev c.args.whole.now i) in
    let are = c.places_by_square-squares.ensures entry.prev c.args.whole.now c.contexts_of.ensures in
    let squares = c.places_by_square-squares.result in
    let more = c.arrive-more.result in
    let row = c.row_in-row.result.now in
    let read : (y : ℕ) → y < 64 * s.width → has_word_bit row y ≡ in_rows s.rests.items s.width (12 * x + square) y = λ y inside. c.row_in-row.ensures.bits y inside ∙ ap (λ items. in_rows items s.width (12 * x + square) y) c.deref.ensures.value in
    record {
      few = few-left 12 left square rest low behind below (λ y. false) inv.few;
      led = λ i small.
          squares-more i square (here i) left rest (LedBy s entry.state words x i) _ c.loop-left.all.led more.led (get_or squares square 0) low behind
          (c.arrive-more.ensures.led s.size (omega (arith, s.wide, c.row_in-row.ensures.len)) c.requires.state c.requires.lit.few i small
          ∙ read-rest s entry.state words row (12 * x + square) i read)
          (are square i below (omega (arith, small, c.requires.whole))) (inv.led i small);
      again = λ i small.
          squares-more i square (here i) left rest (λ q. in_rows s.rests.items s.width (12 * x + q) x) _ c.loop-left.all.again more.again (get_or squares square 0) low behind
          (c.arrive-more.ensures.again i small ∙ read x (omega (arith, c.requires.position, s.wide)))
          (are square i below (omega (arith, small, c.requires.whole))) (inv.again i small);
    }

pub returns-clause-led : goal.returns-clause-led
returns-clause-led g c i small =
    let s = c.args.self.now in
    let x = c.args.position in
    let state = c.args.entry.now.state in
    let words = c.args.words.now in
    let here : Context = context_before c.args.entry.now.prev c.args.whole.now i in
    let q : ℕ = square_number true here in
    led-all s state words x i here c.loop-left.all.led (word_bit c.args.always.led i) c.requires.position (c.requires.led i small)
    (squares-all q c.loop-left.left c.args.asks (LedBy s state words x i) (word_bit c.args.always.led i) (word_bit c.loop-left.all.led i) c.loop-left-test.false
    (λ off. led-none s state words x i q (λ y inside. s.unasked x q y c.requires.position (square-few here) inside (sym (ap (λ w. word_bit w q) c.requires.asks) ∙ off)))
    (c.loop-left.invariant.led i small))

pub returns-clause-again : goal.returns-clause-again
returns-clause-again g c i small =
    let s = c.args.self.now in
    let x = c.args.position in
    let here : Context = context_before c.args.entry.now.prev c.args.whole.now i in
    let q : ℕ = square_number true here in
    squares-all q c.loop-left.left c.args.asks (λ k. in_rows s.rests.items s.width (12 * x + k) x) (word_bit c.args.always.again i) (word_bit c.loop-left.all.again i) c.loop-left-test.false
    (λ off. s.unasked x q x c.requires.position (square-few here) c.requires.position (sym (ap (λ w. word_bit w q) c.requires.asks) ∙ off))
    (c.loop-left.invariant.again i small)
    ∙ (ap (λ b. b || in_rows s.rests.items s.width (12 * x + q) x) (c.requires.again i small) ∙ sym (from-either s x x here c.requires.position c.requires.position))

use Rattle.std.proofs.Common.{ℕ, Bool, ◌||◌, not, get_or, ap, ◌∙◌, arith}
use Rattle.hs_engine.specs.AnyBelow.{any_below}
use Rattle.hs_bits.specs.WordBits.{one_later, word_bit}
use Rattle.hs_bits.proofs.PlaceLemmas.{bit-either}
use Rattle.hs_block.proofs.StreamSettleLemmas.{busy-word, later-same, masked}
use Rattle.hs_block.proofs.streams.Streams.busy_places.Goals as goal

pub returns : goal.returns
returns g c i =
    let s = c.args.self.now in
    let words = c.args.words.now in
    let enters = c.args.entry.now.enters in
    let live : ℕ → Bool = λ j. any_below s.size (λ x. word_bit (get_or words x 0) j) in
    let first : Bool = not c.args.blank in
    masked c.low_places.result _ c.args.count i (word_bit enters i || one_later first live i) c.low_places.ensures
    (λ below.
    bit-either enters c.one_later.result i
    ∙ ap (λ b. word_bit enters i || b)
    (c.one_later.ensures i (omega (arith, below, c.requires.few))
    ∙ later-same first (word_bit c.united_rows-word.result) live
    (λ j. busy-word s words c.args.live.now c.row_in.result.now c.united_rows-word.result j c.row_in.ensures.len c.row_in.ensures.bits c.requires.lit.few c.requires.lit.dark (c.united_rows-word.ensures j)) i))

use Rattle.std.proofs.Common.{◌*◌, ◌<◌, ◌&&◌, ◌||◌, ap, ◌∙◌, arith}
use Rattle.std.proofs.lemmas.List.{length-take-le}
use Rattle.hs_base.specs.Bits.{has_word_bit}
use Rattle.hs_bits.proofs.WordLemmas.{or-none, zero-row}
use Rattle.hs_block.proofs.TableLemmas.{front-bits}
use Rattle.hs_block.proofs.streams.Streams.ending.Goals as goal

pub returns-clause-bits : goal.returns-clause-bits
returns-clause-bits g c k below =
    let s = c.args.self.now in
    let inside : k < 64 * g.row.W = omega (arith, below, s.wide, c.requires.fits.room) in
    let long = length-take-le g.row.W s.accepting (omega (arith, s.accepting_len, c.requires.fits.few)) in
    c.keep_words.ensures.bits k (omega (arith, inside, long))
    ∙ (ap (λ b. b && has_word_bit c.unite_words-2.new.words k) (front-bits s.accepting g.row.W k inside)
    ∙ ap (λ b. has_word_bit s.accepting k && b)
    (c.unite_words-2.ensures.bits k
    ∙ ap (λ b. has_word_bit c.args.live.now k || b)
    (c.unite_words.ensures.bits k ∙ (ap (λ b. has_word_bit c.args.state.now k || b) (zero-row _ k) ∙ or-none (has_word_bit c.args.state.now k)))))

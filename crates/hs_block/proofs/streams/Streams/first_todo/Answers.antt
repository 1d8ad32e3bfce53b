use Rattle.std.proofs.Common.{sym, ◌∙◌, arith}
use Rattle.hs_block.proofs.AnyLemmas.{true-false}
use Rattle.hs_base.specs.Bits.{has_word_bit}
use Rattle.hs_block.proofs.StreamSettleLemmas.{none-entered, row-unset, still-unset}
use Rattle.hs_block.proofs.TableLemmas.{front-bits}
use Rattle.hs_block.proofs.streams.Streams.first_todo.Goals as goal

pub returns-then-first-entry-eq0-clause-entered : goal.returns-then-first-entry-eq0-clause-entered
returns-then-first-entry-eq0-clause-entered g c x low unset on i = none-entered c.args.first c.args.entry.now.enters i c.if-first-entry-eq0.true

pub returns-clause-entered : goal.returns-clause-entered
returns-clause-entered g c x low unset on i =
    let s = c.args.self.now in
    true-false (has_word_bit s.entered x) on
    (sym (front-bits s.entered g.row.W x (omega (arith, low, s.wide, c.requires.fits.room)))
    ∙ row-unset c.led_by-todo.result _ c.unite_words.new.words x c.unite_words.ensures.bits unset)

pub returns-clause-led : goal.returns-clause-led
returns-clause-led g c x y h below inside unset live =
    let s = c.args.self.now in
    c.led_by-todo.ensures.led x y h below inside (still-unset c.led_by-todo.result _ c.unite_words.new.words x c.unite_words.ensures.bits unset) live

use Rattle.std.proofs.Common.{◌+◌, ◌*◌, ◌<◌, length, set, sym, ap, ◌∙◌, arith}
use Rattle.std.proofs.lemmas.List.{get_or-set_same, length-set}
use Rattle.hs_block.specs.StreamSets.{in_rows}
use Rattle.hs_block.proofs.StreamSettleLemmas.{row-unset, set-none, set-there, settle-more, still-unset}
use Rattle.hs_block.proofs.TableLemmas.{row-room, small-size}
use Rattle.hs_block.proofs.streams.Streams.settle.Goals as goal

pub returns-then-word-old-clause-settled : goal.returns-then-word-old-clause-settled
returns-then-word-old-clause-settled g c is =
    let s = c.args.self.now in
    let entry = c.args.entry.now in
    let words = c.args.words.now in
    let x = c.args.position in
    let work = c.args.work.now in
    let word = c.in-Some.word in
    let room : x < length words = omega (arith, c.requires.position, c.requires.room, s.wide) in
    settle-more s entry.prev entry.state entry.enters c.args.whole.now words (set (set words x 0) x word) work.todo work.live c.write_word_bit.new.words c.write_word_bit-2.new.words x word c.requires.settled c.requires.position
    (length-set (set words x 0) x word ∙ length-set words x 0) (get_or-set_same (set words x 0) x word 0 (omega (arith, room, length-set words x 0))) (set-there words x word) c.in-Some.ensures.word
    (λ y apart unset. sym (c.write_word_bit.ensures.others y apart) ∙ unset) (λ y below apart unset changed. absurd (changed c.if-word-old.true)) c.write_word_bit-2.ensures.put c.write_word_bit-2.ensures.others

pub returns-clause-settled : goal.returns-clause-settled
returns-clause-settled g c is =
    let s = c.args.self.now in
    let entry = c.args.entry.now in
    let words = c.args.words.now in
    let x = c.args.position in
    let work = c.args.work.now in
    let word = c.in-Some.word in
    let room : x < length words = omega (arith, c.requires.position, c.requires.room, s.wide) in
    let row = c.row_in.result.now in
    let todo = c.write_word_bit.new.words in
    let after = c.unite_words.new.words in
    settle-more s entry.prev entry.state entry.enters c.args.whole.now words (set (set words x 0) x word) work.todo work.live after c.write_word_bit-2.new.words x word c.requires.settled c.requires.position
    (length-set (set words x 0) x word ∙ length-set words x 0) (get_or-set_same (set words x 0) x word 0 (omega (arith, room, length-set words x 0))) (set-there words x word) c.in-Some.ensures.word
    (λ y apart unset. sym (c.write_word_bit.ensures.others y apart) ∙ still-unset todo row after y c.unite_words.ensures.bits unset)
    (λ y below apart unset changed.
    sym (c.row_in.ensures.bits y (omega (arith, below, s.wide)) ∙ ap (λ items. in_rows items s.width x y) c.deref.ensures.value) ∙ row-unset todo row after y c.unite_words.ensures.bits unset)
    c.write_word_bit-2.ensures.put c.write_word_bit-2.ensures.others

pub row_in-requires : goal.row_in-requires
row_in-requires g c =
    let s = c.args.self.now in
    record {
      fits = c.requires.fits;
      room = omega (arith, row-room s.width c.args.position s.size c.requires.position, s.succeeded, s.successors.ok.0, ap (λ items. length items) c.deref.ensures.value);
    }

pub word_of-requires : goal.word_of-requires
word_of-requires g c =
    let s = c.args.self.now in
    let words = c.args.words.now in
    let x = c.args.position in
    let below : x < length words = omega (arith, c.requires.position, c.requires.room, s.wide) in (
      small-size (56 + g.row.W * 8) (omega (arith, c.requires.fits.few)),
      (
        c.requires.fits,
        (
          c.requires.position,
          (
            c.requires.whole,
            (
              c.requires.made,
              (
                c.requires.known,
                (
                  omega (arith, c.requires.room, length-set words x 0),
                  (
                    c.requires.state,
                    (
                      record { len = c.args.work.now.live_len; few = c.requires.settled.live_few; dark = set-none words c.args.work.now.live x below c.requires.settled.dark },
                      get_or-set_same words x 0 0 below,
                    ),
                  ),
                ),
              ),
            ),
          ),
        ),
      ),
    )

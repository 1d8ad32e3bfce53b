use Rattle.std.proofs.Common.{◌≡◌, ◌+◌, ◌*◌, ◌||◌, eqb, sym, ap, ◌∙◌}
use Rattle.std.specs.Vec.{with_items}
use Rattle.std.proofs.lemmas.List.{with_items_is}
use Rattle.std.proofs.lemmas.Option.{slice_get-get_or}
use Rattle.hs_base.specs.Bits.{has_word_bit}
use Rattle.hs_waking.proofs.WordLemmas.{learnt}
use Rattle.hs_waking.proofs.class_words.ClassWords.learn.Goals as goal

pub returns-then-not-contains_word_bit-clause-chunk : goal.returns-then-not-contains_word_bit-clause-chunk
returns-then-not-contains_word_bit-clause-chunk c k is p few =
    let before = c.args.self.now in
    let words = c.fill.new.words in
    let known = c.insert_word_bit.new.words in
    let words_are : (with_items before.words words).items ≡ words = with_items_is before.words words (c.fill.ensures.len ∙ c.deref_mut.ensures.len) in
    let known_are : (with_items before.known known).items ≡ known =
    with_items_is before.known known (c.insert_word_bit.ensures.len ∙ c.deref_mut-then-not-contains_word_bit.ensures.len) in
    ap (λ ws. has_word_bit ws (576 * k + p)) words_are
    ∙ learnt before.words.items words before.known.items known c.args.sets.now c.args.bytes.now c.args.number _ (slice_get-get_or c.args.sets.now c.args.number _ c.requires.number) c.requires.chunk
    c.fill.ensures.places (λ b apart. c.fill.ensures.others b apart ∙ ap (λ ws. has_word_bit ws b) c.deref_mut.ensures.value)
    (λ n. c.insert_word_bit.ensures.bits n ∙ ap (λ ws. eqb n c.args.number || has_word_bit ws n) c.deref_mut-then-not-contains_word_bit.ensures.value) k
    (sym (ap (λ ws. has_word_bit ws k) known_are) ∙ is) p few

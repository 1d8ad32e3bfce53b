use Rattle.std.proofs.Common.{◌&&◌, ap, ◌∙◌}
use Rattle.hs_bits.specs.WordBits.{word_bit}
use Rattle.hs_bits.proofs.ContextLemmas.{behind-places}
use Rattle.hs_bits.proofs.contexts.Contexts.places_behind.Goals as goal

pub returns : goal.returns
returns c prev bytes are =
    let classes = c.args.self.now.classes in
    behind-places c.args.self.now c.args.mask prev bytes c.only_if-words.result c.only_if-newlines.result c.only_if-others.result are
    (λ i. c.only_if-words.ensures i ∙ ap (λ k. word_bit classes.words i && k) c.contains.ensures) (λ i. c.only_if-newlines.ensures i ∙ ap (λ k. word_bit classes.newlines i && k) c.contains-2.ensures)
    (λ i. c.only_if-others.ensures i ∙ ap (λ k. word_bit classes.others i && k) c.contains-3.ensures)

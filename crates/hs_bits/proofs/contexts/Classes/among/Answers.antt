use Rattle.std.proofs.Common.{◌&&◌, ap, ◌∙◌}
use Rattle.hs_base.specs.ContextSets.{has_next}
use Rattle.hs_base.specs.declared.context.Next.TheVariants as after
use Rattle.hs_bits.specs.WordBits.{word_bit}
use Rattle.hs_bits.proofs.ContextLemmas.{three-words}
use Rattle.hs_bits.proofs.contexts.Classes.among.Goals as goal

pub returns : goal.returns
returns c i =
    let classes = c.args.self.now in
    let x = has_next c.args.set in
    three-words c.only_if-words.result c.only_if-newlines.result c.only_if-others.result i (word_bit classes.words i && x after.Word) (word_bit classes.newlines i && x after.Newline) (word_bit classes.others i && x after.Other)
    (c.only_if-words.ensures i ∙ ap (λ k. word_bit classes.words i && k) c.contains.ensures) (c.only_if-newlines.ensures i ∙ ap (λ k. word_bit classes.newlines i && k) c.contains-2.ensures)
    (c.only_if-others.ensures i ∙ ap (λ k. word_bit classes.others i && k) c.contains-3.ensures)

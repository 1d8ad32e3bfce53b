use Rattle.std.proofs.Common.{◌+◌, ◌*◌, ◌-◌, ap, ◌∙◌, take, drop}
use Rattle.hs_base.specs.Bits.{has_word_bit}
use Rattle.hs_waking.proofs.WordLemmas.{row-part}
use Rattle.hs_waking.proofs.class_words.ClassWords.row.Goals as goal

pub returns-clause-places : goal.returns-clause-places
returns-clause-places c p few =
    let n = c.args.number in
    ap (λ words. has_word_bit (take (9 * n + 9 - 9 * n) (drop (9 * n) words)) p) c.deref.ensures.value ∙ row-part c.args.self.now.words.items n p few

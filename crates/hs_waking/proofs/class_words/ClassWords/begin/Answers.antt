use Rattle.std.proofs.Common.{◌≡◌, sym, ap, ◌∙◌}
use Rattle.std.specs.Vec.{with_items}
use Rattle.std.proofs.lemmas.List.{with_items_is}
use Rattle.hs_base.specs.Bits.{has_word_bit}
use Rattle.hs_base.proofs.BitLemmas.{zero-all}
use Rattle.hs_bits.proofs.WordLemmas.{words-zero}
use Rattle.hs_waking.proofs.AnyLemmas.{true-false}
use Rattle.hs_waking.proofs.class_words.ClassWords.begin.Goals as goal

pub returns-clause-forgotten : goal.returns-clause-forgotten
returns-clause-forgotten c sets bytes k known p few =
    let words = c.clear_words.new.words in
    let now : (with_items c.args.self.now.known words).items ≡ words = with_items_is c.args.self.now.known words (c.clear_words.ensures.len ∙ c.deref_mut.ensures.len) in
    true-false (has_word_bit words k) (sym (ap (λ ws. has_word_bit ws k) now) ∙ known) (words-zero words (zero-all words c.clear_words.ensures.zero) k)

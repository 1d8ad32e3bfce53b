use Rattle.hs_base.specs.Bits.{has_word_bit}
use Rattle.hs_waking.proofs.AnyLemmas.{true-false}
use Rattle.hs_waking.proofs.WordLemmas.{words-blank}
use Rattle.hs_waking.proofs.class_words.ClassWords.new.Goals as goal

pub returns-clause-forgotten : goal.returns-clause-forgotten
returns-clause-forgotten c sets bytes k known p few =
    let words = c.in_ok-vec-2.field-0.items in
    true-false (has_word_bit words k) known (words-blank words _ k (c.in_ok-vec-2.ensures.items_if_clones_equal (λ y e. e)))

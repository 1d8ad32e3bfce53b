use Rattle.hs_bits.proofs.MarkLemmas.{clear-marks, summed-clear}
use Rattle.hs_bits.proofs.marks.MarkSet.clear.Goals as goal

pub invariant_of-self : goal.invariant_of-self
invariant_of-self c =
    summed-clear c.self.inside.words.items c.self.inside.summary.items c.deref_mut.result.now c.deref_mut-2.result.now c.clear_words.new.words c.clear_words-2.new.words c.self.inside.words.len c.self.inside.summary.len c.self.invariant c.deref_mut.ensures.value
    c.deref_mut-2.ensures.value c.clear_words.ensures.len c.clear_words-2.ensures.len c.clear_words.ensures.zero c.clear_words-2.ensures.zero c.self.inside.words.ok.0 c.self.inside.summary.ok.0

pub returns-clause-none : goal.returns-clause-none
returns-clause-none c k = clear-marks c.self.inside.words.items c.deref_mut.result.now c.clear_words.new.words c.self.inside.words.len c.deref_mut.ensures.value c.clear_words.ensures.len c.clear_words.ensures.zero c.self.inside.words.ok.0 k

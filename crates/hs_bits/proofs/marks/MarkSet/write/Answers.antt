use Rattle.std.proofs.Common.{◌<◌, ◌*◌, ◌/◌, ℕ, List, length, sym, subst, arith}
use Rattle.hs_bits.proofs.MarkLemmas.{summed-whole}
use Rattle.hs_bits.proofs.marks.MarkSet.write.Goals as goal

pub invariant_of-self : goal.invariant_of-self
invariant_of-self c =
    let below = subst (λ (xs : List ℕ). c.args.number < 64 * length xs) (sym c.self.view_is) c.requires in
    summed-whole c.self.inside.words.items c.self.inside.summary.items c.deref_mut.result.now c.deref_mut-2.result.now c.write_mark-some.new.words c.write_word_bit.new.words (c.args.number / 64) c.self.inside.words.len c.self.inside.summary.len
    c.write_mark-some.result c.self.invariant c.deref_mut.ensures.value c.deref_mut-2.ensures.value (omega (arith, below)) c.write_mark-some.ensures.words c.write_mark-some.ensures.some c.write_word_bit.ensures.len c.write_word_bit.ensures.put
    c.write_word_bit.ensures.others c.self.inside.words.ok.0 c.self.inside.summary.ok.0

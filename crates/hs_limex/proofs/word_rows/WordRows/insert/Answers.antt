use Rattle.std.proofs.Common.{◌≡◌, ◌+◌, ◌*◌, ◌||◌, ◌∙◌, eqb, ap, refl}
use Rattle.std.specs.Vec.{with_items}
use Rattle.std.proofs.lemmas.List.{with_items_is}
use Rattle.hs_base.specs.Bits.{has_word_bit}
use Rattle.hs_limex.specs.WordTables.{in_table}
use Rattle.hs_limex.proofs.TableLemmas.{inserted-bit}
use Rattle.hs_limex.proofs.word_rows.WordRows.insert.Goals as goal

pub returns-clause-bits : goal.returns-clause-bits
unfolding in_table
returns-clause-bits c =
    let rows = c.args.self.now in
    let old = rows.words in
    let at = 64 * (rows.width * c.args.number) + c.args.bit in
    let now : (with_items old c.insert_word_bit.new.words).items ≡ c.insert_word_bit.new.words = with_items_is old c.insert_word_bit.new.words (c.insert_word_bit.ensures.len ∙ c.deref_mut.ensures.len) in
    inserted-bit old.items (with_items old c.insert_word_bit.new.words).items rows.count rows.width c.args.number c.args.bit at c.requires.number c.requires.bit refl
    (λ b. ap (λ words. has_word_bit words b) now ∙ (c.insert_word_bit.ensures.bits b ∙ ap (λ words. eqb b at || has_word_bit words b) c.deref_mut.ensures.value))

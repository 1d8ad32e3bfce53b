use Rattle.std.proofs.Common.{◌≡◌, ◌+◌, ◌*◌, ◌<◌, ◌||◌, ◌∙◌, length, eqb, ap, sym, subst}
use Rattle.std.specs.Vec.{with_items}
use Rattle.std.proofs.lemmas.List.{with_items_is}
use Rattle.hs_base.specs.Bits.{has_word_bit}
use Rattle.hs_literals.specs.HitTables.{AddsHit, IsHitTable, HitTable, hit_table}
use Rattle.hs_literals.proofs.HitTableLemmas.{added, table-added}
use Rattle.hs_literals.proofs.hit_rows.HitRows.add.Goals as goal

adds : (c : goal.After-write) → AddsHit (hit_table c.self.inside.count c.self.inside.rows.items c.self.inside.marks) (hit_table c.self.inside.count c.insert_word_bit.new.words c.write.new.self) c.args.number c.args.place
adds c =
    added c.self.inside.count c.self.inside.rows.items c.self.inside.marks c.insert_word_bit.new.words c.write.new.self c.args.number c.args.place c.requires.within
    (λ k. c.insert_word_bit.ensures.bits k ∙ ap (λ words. eqb k (576 * c.args.number + c.args.place) || has_word_bit words k) c.deref_mut.ensures.value) c.write.ensures.put c.write.ensures.others

now : (c : goal.After-write) → (with_items c.self.inside.rows c.insert_word_bit.new.words).items ≡ c.insert_word_bit.new.words
now c = with_items_is c.self.inside.rows c.insert_word_bit.new.words (c.insert_word_bit.ensures.len ∙ c.deref_mut.ensures.len)

pub invariant_of-self : goal.invariant_of-self
invariant_of-self c =
    let inside = c.self.inside in
    subst (λ words. IsHitTable (hit_table inside.count words c.write.new.self)) (sym (now c))
    (table-added (hit_table inside.count inside.rows.items inside.marks) (hit_table inside.count c.insert_word_bit.new.words c.write.new.self) c.args.number c.args.place c.self.invariant (adds c)
    (subst (λ (t : HitTable). c.args.number < t.count) (sym c.self.view_is) c.requires.known) (c.insert_word_bit.ensures.len ∙ ap length c.deref_mut.ensures.value) c.write.ensures.room)

pub returns : goal.returns
returns c =
    let inside = c.self.inside in
    subst (λ t. AddsHit t (hit_table inside.count (with_items inside.rows c.insert_word_bit.new.words).items c.write.new.self) c.args.number c.args.place) c.self.view_is
    (subst (λ words. AddsHit (hit_table inside.count inside.rows.items inside.marks) (hit_table inside.count words c.write.new.self) c.args.number c.args.place) (sym (now c)) (adds c))

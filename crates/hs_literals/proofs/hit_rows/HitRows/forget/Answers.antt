use Rattle.std.proofs.Common.{◌≡◌, ◌+◌, ◌*◌, ◌&&◌, ◌∙◌, length, get_or, ap, sym, subst}
use Rattle.std.specs.Prelude.{if◌then◌else◌, nat_le, nat_lt}
use Rattle.std.specs.Vec.{with_items}
use Rattle.std.proofs.lemmas.List.{with_items_is}
use Rattle.hs_literals.specs.HitTables.{Forgets, IsHitTable, hit_table}
use Rattle.hs_literals.proofs.HitTableLemmas.{forgot, table-forgot}
use Rattle.hs_literals.proofs.hit_rows.HitRows.forget.Goals as goal

forgets : (c : goal.After-write) → Forgets (hit_table c.self.inside.count c.self.inside.rows.items c.self.inside.marks) (hit_table c.self.inside.count c.clear_words.new.words c.write.new.self) c.args.number
forgets c =
    let n = c.args.number in
    forgot c.self.inside.count c.self.inside.rows.items c.self.inside.marks c.clear_words.new.words c.write.new.self n
    (λ w. c.clear_words.ensures.words w ∙ ap (λ words. if nat_le (9 * n) w && nat_lt w (9 * n + 9) then 0 else get_or words w 0) c.deref_mut.ensures.value) c.write.ensures.put c.write.ensures.others

now : (c : goal.After-write) → (with_items c.self.inside.rows c.clear_words.new.words).items ≡ c.clear_words.new.words
now c = with_items_is c.self.inside.rows c.clear_words.new.words (c.clear_words.ensures.len ∙ c.deref_mut.ensures.len)

pub invariant_of-self : goal.invariant_of-self
invariant_of-self c =
    let inside = c.self.inside in
    subst (λ words. IsHitTable (hit_table inside.count words c.write.new.self)) (sym (now c))
    (table-forgot (hit_table inside.count inside.rows.items inside.marks) (hit_table inside.count c.clear_words.new.words c.write.new.self) c.args.number c.self.invariant (forgets c)
    (c.clear_words.ensures.len ∙ ap length c.deref_mut.ensures.value) c.write.ensures.room)

pub returns : goal.returns
returns c =
    let inside = c.self.inside in
    subst (λ t. Forgets t (hit_table inside.count (with_items inside.rows c.clear_words.new.words).items c.write.new.self) c.args.number) c.self.view_is
    (subst (λ words. Forgets (hit_table inside.count inside.rows.items inside.marks) (hit_table inside.count words c.write.new.self) c.args.number) (sym (now c)) (forgets c))

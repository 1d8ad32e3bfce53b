use Rattle.std.proofs.Common.{◌≡◌, ℕ, ◌<◌, ◌||◌, Bool, true, false, List, length, refl, sym, ap, ◌∙◌, arith}
use Rattle.std.proofs.lemmas.List.{length-set}
use Rattle.std.proofs.lemmas.Option.{slice_get-get_or}
use Rattle.hs_base.specs.Bits.{has_word_bit}
use Rattle.hs_lazy.specs.declared.cache.ToldEnds.{ToldEnds}
use Rattle.hs_lazy.specs.Ends.{member_left_before, member_left_behind, row_before, row_behind}
use Rattle.hs_lazy.proofs.EndLemmas.{before-other, before-own, behind-other, behind-own, inserted, set-silent-before, set-silent-behind, whole-set}
use Rattle.hs_lazy.proofs.end_table.EndTable.insert.Goals as goal

either-unset : (x y : Bool) → (x || y) ≡ false → (x ≡ false) × (y ≡ false)
either-unset true y is = absurd (cc)
either-unset false true is = absurd (cc)
either-unset false false is = (refl, refl)

pub write_row-requires-clause-whole : goal.write_row-requires-clause-whole
write_row-requires-clause-whole c =
    let low : c.in-Some.member < 256 = omega (arith, c.in-Some.ensures.high) in
    c.loop-member.self.whole c.in-Some.member _ (slice_get-get_or c.loop-member.self.rows c.in-Some.member _ (omega (arith, low, c.loop-member.self.rows_len)))

pub loop-member-preserved : goal.loop-member-preserved
loop-member-preserved c =
    let rows : List ToldEnds = c.loop-member.self.rows in
    let m : ℕ = c.in-Some.member in
    let new : ToldEnds = c.write_row.new.row in
    let small : c.in-Some.member < 256 = omega (arith, c.in-Some.ensures.high) in
    let low : c.in-Some.member < length c.loop-member.self.rows = omega (arith, small, c.loop-member.self.rows_len) in
    record {
      from = omega (arith, small);
      members = c.loop-member.invariant.members;
      before = inserted (member_left_before rows) _ (member_left_before c.args.self.now.rows) (has_word_bit c.args.set.now.before) c.loop-member.from m c.args.place
          (λ i away. before-own rows m new low i ∙ (c.write_row.ensures.befores i away ∙ sym (ap (λ o. row_before o i) (slice_get-get_or rows m _ low))))
          (before-own rows m new low c.args.place ∙ (c.write_row.ensures.before ∙ c.contains_word_bit-before.ensures))
          (before-other rows m new low)
          c.loop-member.invariant.before c.requires.before
          (λ j high less. (either-unset (has_word_bit c.args.set.now.before j) (has_word_bit c.args.set.now.behind j) (c.in-Some.ensures.least j high less)).0)
          c.in-Some.ensures.low small;
      behind = inserted (member_left_behind rows) _ (member_left_behind c.args.self.now.rows) (has_word_bit c.args.set.now.behind) c.loop-member.from m c.args.place
          (λ i away. behind-own rows m new low i ∙ (c.write_row.ensures.behinds i away ∙ sym (ap (λ o. row_behind o i) (slice_get-get_or rows m _ low))))
          (behind-own rows m new low c.args.place ∙ (c.write_row.ensures.behind ∙ c.contains_word_bit-behind.ensures))
          (behind-other rows m new low)
          c.loop-member.invariant.behind c.requires.behind
          (λ j high less. (either-unset (has_word_bit c.args.set.now.before j) (has_word_bit c.args.set.now.behind j) (c.in-Some.ensures.least j high less)).1)
          c.in-Some.ensures.low small;
    }

any-set : (x y z : Bool) → (x || y) ≡ true → (y || (x || z)) ≡ true
any-set true true z is = refl
any-set true false z is = refl
any-set false true z is = refl
any-set false false z is = absurd (cc)

pub invariant_of-self-in-Some : goal.invariant_of-self-in-Some
invariant_of-self-in-Some c =
    let small : c.in-Some.member < 256 = omega (arith, c.in-Some.ensures.high) in
    let low : c.in-Some.member < length c.loop-member.self.rows = omega (arith, small, c.loop-member.self.rows_len) in
    let marked : has_word_bit c.loop-member.self.members c.in-Some.member ≡ true =
    ap (λ l. has_word_bit l c.in-Some.member) c.loop-member.invariant.members ∙
    (c.unite_words-2.ensures.bits c.in-Some.member ∙
    (ap (λ x. has_word_bit c.args.set.now.behind c.in-Some.member || x) (c.unite_words.ensures.bits c.in-Some.member) ∙
    any-set (has_word_bit c.args.set.now.before c.in-Some.member) (has_word_bit c.args.set.now.behind c.in-Some.member) _ c.in-Some.ensures.is)) in
    record {
      rows_len = length-set c.loop-member.self.rows c.in-Some.member c.write_row.new.row ∙ c.loop-member.self.rows_len;
      whole = whole-set c.loop-member.self.rows c.in-Some.member c.write_row.new.row low c.write_row.ensures.whole c.loop-member.self.whole;
      members_len = c.loop-member.self.members_len;
      silent_before = set-silent-before c.loop-member.self.rows c.in-Some.member c.write_row.new.row c.loop-member.self.members low marked c.loop-member.self.silent_before;
      silent_behind = set-silent-behind c.loop-member.self.rows c.in-Some.member c.write_row.new.row c.loop-member.self.members low marked c.loop-member.self.silent_behind;
    }

use Rattle.std.proofs.Common.{◌≡◌, ℕ, ◌<◌, false, inl, inr, refl, ◌∙◌, arith}
use Rattle.std.proofs.lemmas.Bool.{cases_lt}
use Rattle.std.proofs.lemmas.List.{length-set}
use Rattle.hs_base.specs.Bits.{has_word_bit}
use Rattle.hs_lazy.specs.Ends.{member_left_before, member_left_behind}
use Rattle.hs_lazy.proofs.EndLemmas.{all-emptied, emptied-before, emptied-behind, nothing, nothing-whole, past-before, past-behind, whole-set}
use Rattle.hs_lazy.proofs.end_table.EndTable.clear.Goals as goal

pub invariant_of-self : goal.invariant_of-self
invariant_of-self c =
    let low : c.in-Some.member < 256 = omega (arith, c.in-Some.ensures.high) in
    record {
      rows_len = length-set c.loop-member.self.rows c.in-Some.member nothing ∙ c.loop-member.self.rows_len;
      whole = whole-set c.loop-member.self.rows c.in-Some.member nothing (omega (arith, low, c.loop-member.self.rows_len)) nothing-whole c.loop-member.self.whole;
      members_len = c.loop-member.self.members_len;
      silent_before = λ m i unset. emptied-before c.loop-member.self.rows c.in-Some.member (omega (arith, low, c.loop-member.self.rows_len)) m i (λ other. c.loop-member.self.silent_before m i unset);
      silent_behind = λ m i unset. emptied-behind c.loop-member.self.rows c.in-Some.member (omega (arith, low, c.loop-member.self.rows_len)) m i (λ other. c.loop-member.self.silent_behind m i unset);
    }

pub loop-member-preserved : goal.loop-member-preserved
loop-member-preserved c =
    let low : c.in-Some.member < 256 = omega (arith, c.in-Some.ensures.high) in
    record {
      from = omega (arith, low);
      members = c.loop-member.invariant.members;
      before = λ m i less. emptied-before c.loop-member.self.rows c.in-Some.member (omega (arith, low, c.loop-member.self.rows_len)) m i (λ other. elim (cases_lt m c.loop-member.from) [
        | inl done ↦ c.loop-member.invariant.before m i done
        | inr high ↦ c.loop-member.self.silent_before m i (c.in-Some.ensures.least m high (omega (arith, less, other)))
      ]);
      behind = λ m i less. emptied-behind c.loop-member.self.rows c.in-Some.member (omega (arith, low, c.loop-member.self.rows_len)) m i (λ other. elim (cases_lt m c.loop-member.from) [
        | inl done ↦ c.loop-member.invariant.behind m i done
        | inr high ↦ c.loop-member.self.silent_behind m i (c.in-Some.ensures.least m high (omega (arith, less, other)))
      ]);
    }

pub returns-clause-before : goal.returns-clause-before
returns-clause-before c = all-emptied (member_left_before c.loop-member.self.rows) (has_word_bit c.loop-member.self.members) c.loop-member.from c.loop-member.invariant.before
    c.loop-member.self.silent_before c.in_default.ensures (λ m i past. past-before c.loop-member.self.rows m i (omega (arith, past, c.loop-member.self.rows_len)))

pub returns-clause-behind : goal.returns-clause-behind
returns-clause-behind c = all-emptied (member_left_behind c.loop-member.self.rows) (has_word_bit c.loop-member.self.members) c.loop-member.from c.loop-member.invariant.behind
    c.loop-member.self.silent_behind c.in_default.ensures (λ m i past. past-behind c.loop-member.self.rows m i (omega (arith, past, c.loop-member.self.rows_len)))

pub way_repeat-self : goal.way_repeat-self
way_repeat-self c =
    let before : (m i : ℕ) → member_left_before c.loop-member.self.rows m i ≡ false =
    all-emptied (member_left_before c.loop-member.self.rows) (has_word_bit c.loop-member.self.members) c.loop-member.from c.loop-member.invariant.before
    c.loop-member.self.silent_before c.in_default.ensures (λ m i past. past-before c.loop-member.self.rows m i (omega (arith, past, c.loop-member.self.rows_len))) in
    let behind : (m i : ℕ) → member_left_behind c.loop-member.self.rows m i ≡ false =
    all-emptied (member_left_behind c.loop-member.self.rows) (has_word_bit c.loop-member.self.members) c.loop-member.from c.loop-member.invariant.behind
    c.loop-member.self.silent_behind c.in_default.ensures (λ m i past. past-behind c.loop-member.self.rows m i (omega (arith, past, c.loop-member.self.rows_len))) in
    (c.loop-member.self.rows_len, (c.loop-member.self.whole, (refl, ((λ m i unset. before m i), ((λ m i unset. behind m i), tt)))))

use Rattle.std.proofs.Common.{rules, suc, ◌≡◌, ℕ, List, ◌++◌, [], ◌∷◌, true, false, slice_get, length, length-append, sym, ap, subst, arith}
use Rattle.hs_base.specs.declared.byte_set.ByteSet.{ByteSet}
use Rattle.hs_base.specs.Bits.{has_word_bit}
use Rattle.hs_engine.specs.Automata.{in_mask}
use Rattle.hs_waking.specs.Rows.{HasLevelFrom, IsRowFrom}
use Rattle.hs_waking.proofs.LevelLemmas.{level-more}
use Rattle.hs_waking.proofs.rows.row_from.Goals as goal

pub loop-level-preserved : goal.loop-level-preserved
loop-level-preserved c =
    let a = c.args.automaton.now in
    let row = c.loop-level.row.items in
    let set = c.bytes_of-in-loop-level.result in
    let next = c.next_level-level.result in
    let items : c.push-in-loop-level.new.self.items ≡ row ++ set ∷ [] = c.in_ok-push-2.ensures.items in
    let more : (x : ℕ) → has_word_bit c.args.first.now x ≡ true → IsRowFrom a x (row ++ set ∷ []) × ((d : ℕ) → suc d ≡ length (row ++ set ∷ []) → HasLevelFrom a x d next) = λ first is_first.
    level-more a first row set c.loop-level.level next (c.loop-level.invariant.row.each first is_first) (c.loop-level.invariant.level first is_first)
    (λ x h is. subst (λ masks. in_mask (slice_get masks x) h ≡ false) c.accepts.ensures (c.has_accepting.ensures x h c.if-not-has_accepting.true is))
    (λ x y h is follow. c.next_level-level.ensures x y h is (search (rules, follow, c.follows.ensures)))
    (λ x b small is member. c.bytes_of-in-loop-level.ensures x b small is (search (rules, member, c.sets-in-loop-level.ensures))) in
    record {
      row = record {
        some = omega (arith, length-append row (set ∷ []), ap (λ r. length r) items);
        each = λ x is. subst (IsRowFrom a x) (sym items) (more x is).0;
      };
      level = λ x is. subst (λ (r : List ByteSet). (d : ℕ) → suc d ≡ length r → HasLevelFrom a x d next) (sym items) (more x is).1;
      few = omega (arith, length-append row (set ∷ []), ap (λ r. length r) items);
    }

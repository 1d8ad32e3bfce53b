use Rattle.std.proofs.Common.{◌≡◌, ℕ, ◌<◌, slice_get, true, false, vec_len, ap, sym, ◌∙◌, arith}
use Rattle.hs_engine.specs.Automata.{in_mask, in_set}
use Rattle.hs_engine.proofs.RowLemmas.{same-rows}
use Rattle.hs_engine.specs.Rows.{in_row}
use Rattle.hs_engine.specs.declared.follow_rows.FollowRows.{FollowRows}
use Rattle.hs_limex.specs.declared.word_rows.WordRows.{WordRows}
use Rattle.hs_limex.specs.Near.{Follows, IsNearFrom}
use Rattle.hs_limex.specs.Near.Follows.{far, near}
use Rattle.hs_limex.specs.WordTables.{in_table}
use Rattle.hs_limex.proofs.PlainLemmas.{true-false}
use Rattle.hs_limex.proofs.StepLemmas.{takes-below}
use Rattle.hs_limex.proofs.tables.Tables.build.Goals as goal

pub invariant_of-result-clause-reach_few : goal.invariant_of-result-clause-reach_few
invariant_of-result-clause-reach_few c b k byte is =
    let a = c.args.automaton.now in
    let takes : in_set (slice_get a.sets.items k) b ≡ true = sym (ap (λ items. in_set (slice_get items k) b) c.sets.ensures) ∙ (sym (c.in_ok-reach_of.ensures.bits b k byte) ∙ is) in
    let below : k < vec_len a.sets = takes-below a b k takes in
    omega (arith, below, c.in_ok-follows.ensures.size, ap (λ (rows : FollowRows). rows.size) c.follows.ensures, a.follows_whole)

pub invariant_of-result-clause-accepting_all : goal.invariant_of-result-clause-accepting_all
invariant_of-result-clause-accepting_all c h k is =
    let masks = c.args.automaton.now.accepts.items in
    let accepts : in_mask (slice_get masks k) h ≡ true = sym (ap (λ items. in_mask (slice_get items k) h) c.accepts.ensures) ∙ (sym (c.in_ok-masks_of-2.ensures.bits h k) ∙ is) in
    c.in_ok-any_of.ensures.bits k h (ap (λ items. in_mask (slice_get items k) h) c.accepts-2.ensures ∙ accepts)

pub returns : goal.returns
returns c =
    let a = c.args.automaton.now in
    let copy = c.in_ok-follows in
    record {
      size = copy.ensures.size ∙ (ap (λ (rows : FollowRows). rows.size) c.follows.ensures ∙ a.follows_whole);
      reach = λ b k below. c.in_ok-reach_of.ensures.bits b k below ∙ ap (λ items. in_set (slice_get items k) b) c.sets.ensures;
      enters = λ h k. c.in_ok-masks_of.ensures.bits h k ∙ ap (λ items. in_mask (slice_get items k) h) c.enters.ensures;
      first = λ x b h byte enters takes.
          c.first_bytes.ensures x b h byte (ap (λ items. in_mask (slice_get items x) h) c.enters-2.ensures ∙ enters) (ap (λ items. in_set (slice_get items x) b) c.sets-2.ensures ∙ takes);
      accepts = λ h k. c.in_ok-masks_of-2.ensures.bits h k ∙ ap (λ items. in_mask (slice_get items k) h) c.accepts.ensures;
      follows = λ x y h. same-rows copy.follows c.follows.result.now copy.ensures.bits copy.ensures.size copy.ensures.by_context x y h ∙ ap (λ rows. in_row rows x y h) c.follows.ensures;
    }

beside-near : (rows : WordRows) (x y : ℕ) → Follows rows x y → in_table rows 0 x ≡ false → IsNearFrom x y
beside-near rows x y (far is) isnt = true-false (in_table rows 0 x) is isnt
beside-near rows x y (near is) isnt = is

pub invariant_of-result-clause-rest : goal.invariant_of-result-clause-rest
invariant_of-result-clause-rest c h x y follows beside = beside-near c.in_ok-far.far x y (c.in_ok-far.ensures.rest h x y follows) beside

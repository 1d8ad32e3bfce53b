use Rattle.std.proofs.Common.{◌≡◌, ℕ, suc, ◌+◌, ◌-◌, ◌<◌, [], length, slice_index, slice_index_or, slice_set, bit_and, sym, ap, subst, ◌∙◌, arith, length-set}
use Rattle.hs_bits.specs.WordBits.{word_bit}
use Rattle.hs_pool.specs.Following.{AreFollowed, state_to, step_of}
use Rattle.hs_pool.specs.Rows.{next_of, step_place}
use Rattle.hs_pool.proofs.FollowLemmas.{followed-more}
use Rattle.hs_pool.proofs.following.follow.Goals as goal

pub loop-place-preserved : goal.loop-place-preserved
loop-place-preserved c =
    let inv = c.loop-place.invariant in
    let rows = c.args.rows.now in
    let first = c.args.first in
    let from = c.args.from in
    let enters = c.args.enters in
    let bytes = c.args.bytes.now in
    let place = c.loop-place.place in
    let state = c.loop-place.state in
    let k : ℕ = place - from in
    let step : ℕ = slice_index_or (slice_index_or rows state []) c.step_place.result 0 in
    let here : place ≡ from + (place - from) = omega (arith, c.loop-place.auto.place) in
    let next : suc (place - from) ≡ place + 1 - from = omega (arith, c.loop-place.auto.place) in
    let more : place - from + 1 ≡ place + 1 - from = omega (arith, c.loop-place.auto.place) in
    let which : c.step_place.result ≡ step_place (word_bit enters (from + (place - from))) (slice_index bytes (from + (place - from))) =
    c.step_place.ensures.place ∙ (ap (λ b. step_place b (slice_index bytes place)) c.contains_place.ensures ∙ ap (λ p. step_place (word_bit enters p) (slice_index bytes p)) here) in
    let is : step ≡ step_of rows first from enters bytes (place - from) =
    ap (λ n. slice_index (slice_index_or rows state []) n) which ∙ ap (λ s. slice_index (slice_index_or rows s []) (step_place (word_bit enters (from + (place - from))) (slice_index bytes (from + (place - from))))) inv.state_is in
    let room : from + (place - from) < length c.loop-place.flags = omega (arith, inv.len, c.loop-place-test.true, c.requires.few, here) in
    record {
      here = omega (arith, c.next_of-state.ensures, c.requires.leading state c.step_place.result inv.here);
      len = length-set c.loop-place.flags place (bit_and step 255) ∙ inv.len;
      state_is = c.next_of-state.ensures ∙ (ap next_of is ∙ ap (state_to rows first from enters bytes) next);
      followed =
          subst (λ n. AreFollowed rows first from enters bytes c.args.flags.now (slice_set c.loop-place.flags place (bit_and step 255)) n) more
          (subst (λ p. AreFollowed rows first from enters bytes c.args.flags.now (slice_set c.loop-place.flags p (bit_and step 255)) (place - from + 1)) (sym here)
          (followed-more rows first from enters bytes c.args.flags.now c.loop-place.flags (place - from) step is room inv.followed));
    }

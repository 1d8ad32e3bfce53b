use Rattle.std.proofs.Common.{ℕ, ◌+◌, ◌<◌, get_or, subst, sym, arith, false, vec_len}
use Rattle.std.proofs.lemmas.Option.{slice_get-get_or, slice_get_read}
use Rattle.hs_block.specs.Blocks.{IsBlockRun}
use Rattle.hs_dfa.specs.DfaEngines.{meaning_of_dfa}
use Rattle.hs_dfa.proofs.BlockRunLemmas.{one-region, so_far-all, so_far-more, so_far-next_in, so_far-none}
use Rattle.hs_dfa.proofs.DfaLemmas.{one-set}
use Rattle.hs_dfa.proofs.dfa.DfaBlockEngine.run.Goals as goal

pub loop-place-init : goal.loop-place-init
loop-place-init g c =
    let d = c.args.self.now in
    let region = c.args.region.now in
    record {
      so =
          so_far-none d region (get_or region 0 0) (get_or d.ends.items (get_or region 0 0) (record { accepts = record { bits = 0 }; is_empty = false })) c.args.prev c.args.at c.args.enters c.args.bytes.now
          (one-region region c.requires.len) c.requires.well
          (slice_get-get_or d.ends.items (get_or region 0 0) (record { accepts = record { bits = 0 }; is_empty = false }) (omega (arith, c.requires.well, d.ends.ok.0)));
      few = omega arith;
    }

pub loop-place-preserved : goal.loop-place-preserved
loop-place-preserved g c =
    let d = c.args.self.now in
    let region = c.args.region.now in
    let bytes = c.args.bytes.now in
    let n : ℕ = c.loop-place.place in
    let small : (i : ℕ) → get_or bytes i 0 < 256 = λ i. let b = c.type_inv.bytes i in omega (arith, b) in
    let next = c.next-next.result in
    record {
      so =
          so_far-next_in d region c.args.prev c.args.at c.args.enters bytes (n + 1) c.next_in-place.result next (record { before = c.with_place.result; behind = c.with_place-in-loop-place.result })
          (so_far-more d region c.args.prev c.args.at c.args.enters bytes n c.loop-place.number c.loop-place.ends c.index.result.now next c.with_place.result c.with_place-in-loop-place.result c.is_left_before-ending.result
          c.contains-ended.result c.loop-place.invariant.so c.loop-place-test.true (small n) c.requires.throughout c.next-next.ensures.next c.next-next.ensures.few
          (slice_get_read d.ends.items (vec_len d.ends) next c.index.result.now d.ends.ok.0 c.next-next.ensures.few c.index.ensures) c.is_left_before-ending.ensures c.contains-ended.ensures c.with_place.ensures
          c.with_place-in-loop-place.ensures) c.next_in-place.ensures.low c.next_in-place.ensures.high small c.requires.throughout c.next_in-place.ensures.stays c.next_in-place.ensures.silent;
      few = c.count_kept-kept.ensures;
    }

pub returns-clause-takes : goal.returns-clause-takes
returns-clause-takes g c =
    let d = c.args.self.now in
    let region = c.args.region.now in
    let bytes = c.args.bytes.now in
    let n : ℕ = c.loop-place.place in
    record {
      ticks = n;
      counted = omega (arith, c.tick_by.ensures, c.loop-place.invariant.so.run.within, c.loop-place-test.false);
      run = subst (λ r. IsBlockRun (meaning_of_dfa d) region r c.args.prev c.args.at c.args.enters bytes c.loop-place.ends n) (sym (one-set region c.loop-place.number c.requires.len))
          (so_far-all d region c.args.prev c.args.at c.args.enters bytes n c.loop-place.number c.loop-place.ends c.loop-place.invariant.so c.loop-place-test.false);
    }

use Rattle.std.proofs.Common.{◌≡◌, ◌+◌, ◌∙◌, ℕ, [], arith, false, length, refl, sym, subst, ap, get_or, slice_get, length-take}
use Rattle.hs_base.specs.Bits.{has_word_bit}
use Rattle.hs_bits.specs.BlockContexts.{prev_before}
use Rattle.hs_engine.specs.AnyBelow.{any_below}
use Rattle.std.specs.Prelude.{slice_index_or}
use Rattle.std.proofs.lemmas.List.{get_or-take}
use Rattle.hs_waking.specs.ChunkWords.{is_open_at}
use Rattle.hs_waking.specs.Fits.{row_numbers}
use Rattle.hs_waking.specs.FitStacks.{AreOpenOf}
use Rattle.hs_waking.specs.PrevSets.{has_prev}
use Rattle.hs_waking.specs.declared.wake_row.WakeRow.{WakeRow}
use Rattle.hs_waking.proofs.FitLemmas.{all-open, none-fits, open-more, told-none}
use Rattle.hs_waking.proofs.FitStackLemmas.{levels-more, open-cut}
use Rattle.hs_waking.proofs.fit_stack.FitStack.fit_places.Goals as goal

pub loop-depth-init : goal.loop-depth-init
loop-depth-init c = record {
  count = refl;
  chunk = c.begin.ensures.chunk;
  row = c.begin.ensures.row;
  known = omega (arith, c.begin.ensures.some);
  levels = c.begin.ensures.levels;
}

pub returns-then-is_none-clause-places : goal.returns-then-is_none-clause-places
returns-then-is_none-clause-places c own by p small =
    let row = c.args.row.now in
    let depth = c.loop-depth.depth in
    let places = slice_index_or c.loop-depth.self.levels depth [] in
    let none : any_below 512 (has_word_bit places) ≡ false = told-none c.is_none.result _ c.is_none.ensures.none c.if-is_none.true in
    let known = c.loop-depth.invariant.levels depth (omega (arith, c.loop-depth.invariant.known)) in
    let own_levels = subst (λ (r : WakeRow). AreOpenOf r c.args.sets.now c.args.prev c.args.bytes.now depth places) c.loop-depth.invariant.row known in
    none-fits (λ p. has_prev row.behind (prev_before c.args.prev c.args.bytes.now p)) (row_numbers row) c.args.sets.now own c.args.bytes.now depth places by (omega (arith, c.loop-depth-test.true, ap length c.numbers-numbers.ensures))
    (open-cut row c.args.sets.now c.args.prev c.args.bytes.now depth places (omega (arith, c.loop-depth-test.true, ap length c.numbers-numbers.ensures, length-take row.count row.numbers)) own_levels) none p small

pub loop-depth-preserved : goal.loop-depth-preserved
loop-depth-preserved c =
    let row = c.args.row.now in
    let depth = c.loop-depth.depth in
    let places = slice_index_or c.loop-depth.self.levels depth [] in
    let inv = c.loop-depth.invariant in
    let own_level = subst (λ (r : WakeRow). AreOpenOf r c.args.sets.now c.args.prev c.args.bytes.now depth places) inv.row (inv.levels depth (omega (arith, inv.known))) in
    record {
      count = c.learn.ensures.count ∙ inv.count;
      chunk = c.learn.ensures.chunk;
      row = inv.row;
      known = omega arith;
      levels =
          levels-more c.loop-depth.self.row c.args.sets.now c.args.prev c.args.bytes.now c.loop-depth.self.levels c.keep_open.new.places (depth + 1) (depth + 2) (omega arith) (omega (arith, c.loop-depth.self.levels_room, c.loop-depth-test.true, row.few, ap length c.numbers-numbers.ensures, length-take row.count row.numbers))
          (λ d low. inv.levels d (omega (arith, low, inv.known)))
          (subst (λ (r : WakeRow). AreOpenOf r c.args.sets.now c.args.prev c.args.bytes.now (depth + 1) c.keep_open.new.places) (sym inv.row)
          (open-more (λ p. has_prev row.behind (prev_before c.args.prev c.args.bytes.now p)) (λ d. slice_get c.args.sets.now (get_or row.numbers d 0)) c.args.bytes.now c.requires.few depth (omega (arith, c.loop-depth-test.true, row.few, ap length c.numbers-numbers.ensures, length-take row.count row.numbers)) places c.keep_open.new.places c.row.result.now own_level c.keep_open.ensures
          (λ p few. c.row.ensures.places p few ∙ (c.learn.ensures.places p few ∙ ap (λ k. is_open_at (slice_get c.args.sets.now k) c.args.bytes.now p) (ap (λ ns. get_or ns depth 0) c.numbers-numbers.ensures ∙ get_or-take row.count row.numbers depth 0 (omega (arith, c.loop-depth-test.true, ap length c.numbers-numbers.ensures, length-take row.count row.numbers)))))));
    }

pub returns-clause-places : goal.returns-clause-places
returns-clause-places c own by p small =
    let row = c.args.row.now in
    let n : ℕ = length c.numbers-numbers.result.now in
    let same : n ≡ length (row_numbers row) = ap length c.numbers-numbers.ensures in
    let inv = c.loop-depth.invariant in
    let places = slice_index_or c.loop-depth.self.levels n [] in
    let own_level = subst (λ (r : WakeRow). AreOpenOf r c.args.sets.now c.args.prev c.args.bytes.now n places) inv.row (inv.levels n (omega (arith, inv.known, c.loop-depth-test.false))) in
    all-open (λ p. has_prev row.behind (prev_before c.args.prev c.args.bytes.now p)) (row_numbers row) c.args.sets.now own c.args.bytes.now n places by (omega (arith, same)) (omega (arith, same))
    (open-cut row c.args.sets.now c.args.prev c.args.bytes.now n places (omega (arith, same, length-take row.count row.numbers)) own_level) p small

use Rattle.std.proofs.Common.{◌≡◌, ◌∙◌, arith, false, length, get_or, slice_get, sym, subst, ap, refl, length-take}
use Rattle.hs_base.specs.Bits.{has_word_bit}
use Rattle.hs_bits.specs.BlockContexts.{prev_before}
use Rattle.hs_engine.specs.AnyBelow.{any_below}
use Rattle.hs_waking.specs.Fits.{IsRowBy}
use Rattle.hs_waking.specs.PrevSets.{has_prev}
use Rattle.hs_waking.proofs.FitLemmas.{told-none, all-open, none-fits, open-first, open-more}
use Rattle.hs_waking.proofs.PrevLemmas.{start-nowhere}
use Rattle.hs_waking.proofs.AnyLemmas.{true-false}
use Rattle.hs_waking.proofs.WordLemmas.{words-blank}
use Rattle.hs_waking.proofs.fitting.fit_places.Goals as goal

pub returns-then-not-contains-clause-places : goal.returns-then-not-contains-clause-places
returns-then-not-contains-clause-places c own by p small = (
  λ set. true-false (has_word_bit _ p) set (words-blank _ 8 p refl),
  λ all. absurd (start-nowhere c.args.row.now.behind own c.args.prev c.args.bytes.now (c.is_start.ensures c.if-is_start.true) (sym c.contains.ensures ∙ c.if-not-contains.true) p all.0 all.1),
)

pub loop-depth-init : goal.loop-depth-init
loop-depth-init c = record {
  count = refl;
  chunk = c.begun_places-places.ensures.chunk;
  places = open-first (λ p. has_prev c.args.row.now.behind (prev_before c.args.prev c.args.bytes.now p)) (λ d. slice_get c.args.sets.now (get_or c.numbers-numbers.result.now d 0)) c.args.bytes.now c.begun_places-places.result c.begun_places-places.ensures.places;
}

pub returns-then-is_none-clause-places : goal.returns-then-is_none-clause-places
returns-then-is_none-clause-places c own by p small =
    let numbers = c.numbers-numbers.result.now in
    let by_them : IsRowBy numbers c.args.sets.now own = subst (λ ns. IsRowBy ns c.args.sets.now own) (sym c.numbers-numbers.ensures) by in
    let none : any_below 512 (has_word_bit c.loop-depth.places) ≡ false = told-none c.is_none.result _ c.is_none.ensures.none c.if-is_none.true in
    none-fits (λ p. has_prev c.args.row.now.behind (prev_before c.args.prev c.args.bytes.now p)) numbers c.args.sets.now own c.args.bytes.now c.loop-depth.depth c.loop-depth.places by_them (omega (arith, c.loop-depth-test.true)) c.loop-depth.invariant.places none p small

pub loop-depth-preserved : goal.loop-depth-preserved
loop-depth-preserved c =
    let depth = c.loop-depth.depth in
    let row = c.args.row.now in
    record {
      count = c.learn.ensures.count ∙ c.loop-depth.invariant.count;
      chunk = c.learn.ensures.chunk;
      places =
          open-more (λ p. has_prev row.behind (prev_before c.args.prev c.args.bytes.now p)) (λ d. slice_get c.args.sets.now (get_or c.numbers-numbers.result.now d 0)) c.args.bytes.now c.requires.few depth (omega (arith, c.loop-depth-test.true, ap length c.numbers-numbers.ensures, length-take c.args.row.now.count c.args.row.now.numbers, c.args.row.now.few)) c.loop-depth.places
          c.keep_open.new.places c.row.result.now c.loop-depth.invariant.places c.keep_open.ensures (λ p few. c.row.ensures.places p few ∙ c.learn.ensures.places p few);
    }

pub returns-clause-places : goal.returns-clause-places
returns-clause-places c own by p small =
    let numbers = c.numbers-numbers.result.now in
    let by_them : IsRowBy numbers c.args.sets.now own = subst (λ ns. IsRowBy ns c.args.sets.now own) (sym c.numbers-numbers.ensures) by in
    all-open (λ p. has_prev c.args.row.now.behind (prev_before c.args.prev c.args.bytes.now p)) numbers c.args.sets.now own c.args.bytes.now c.loop-depth.depth c.loop-depth.places by_them (omega (arith, c.loop-depth-test.false)) (omega (arith, c.loop-depth.auto.depth-end)) c.loop-depth.invariant.places p small

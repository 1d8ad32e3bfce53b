use Rattle.std.proofs.Common.{◌≡◌, ◌-◌, ◌<◌, ◌+◌, ℕ, false, [], length, min, arith, ap, sym, nat_lt, ◌∙◌}
use Rattle.std.specs.Prelude.{slice_index_or}
use Rattle.hs_base.specs.Bits.{has_word_bit}
use Rattle.hs_engine.specs.AnyBelow.{any_below}
use Rattle.hs_waking.specs.Fits.{row_numbers}
use Rattle.hs_waking.proofs.FitLemmas.{told-none}
use Rattle.hs_waking.proofs.FitStackLemmas.{dead-nowhere}
use Rattle.hs_waking.proofs.PlaceLemmas.{less}
use Rattle.hs_waking.proofs.fit_stack.FitStack.rules_out.Goals as goal

pub returns : goal.returns
returns c told sets own prev bytes stack few by =
    let s = c.args.self.now in
    let row = c.args.row.now in
    let last : ℕ = s.count - 1 in
    let places = slice_index_or s.levels last [] in
    let alike = c.levels_alike.ensures in
    let low : last < min c.levels_alike.result (length c.numbers.result.now + 1) = less last (min c.levels_alike.result (length c.numbers.result.now + 1)) (ap (λ n. nat_lt last n) (sym c.min.ensures) ∙ told) in
    let size : length c.numbers.result.now ≡ length (row_numbers row) = ap length c.numbers.ensures in
    let none : any_below 512 (has_word_bit places) ≡ false = told-none c.is_none.result _ c.is_none.ensures.none c.if-not-is_none.false in
    dead-nowhere s.row row sets own prev bytes last places (alike.behind (omega (arith, low))) (λ d below. alike.numbers d (omega (arith, low, below))) (omega (arith, low, size)) (stack last (omega (arith, c.if-self-eq0.false))) none few by

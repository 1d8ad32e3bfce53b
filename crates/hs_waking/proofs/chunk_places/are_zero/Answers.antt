use Rattle.std.proofs.Common.{◌≡◌, ◌<◌, ◌^◌, get_or, inl, inr, subst, arith}
use Rattle.std.proofs.Math.Facts.{Fits-lt-pow}
use Rattle.std.proofs.lemmas.Bool.{cases_lt, eqb-true}
use Rattle.hs_waking.proofs.WordLemmas.{any-more, none-is}
use Rattle.hs_waking.proofs.chunk_places.are_zero.Goals as goal

pub loop-word-preserved : goal.loop-word-preserved
loop-word-preserved c =
    let places = c.args.places.now in
    let word = c.loop-word.word in
    record {
      fits = λ j below.
          elim (cases_lt j word) [
            | inl less ↦ c.loop-word.invariant.fits j less
            | inr past ↦ let same : word ≡ j = omega arith in subst (λ k. get_or places k 0 < 2 ^ 64) same (Fits-lt-pow (c.type_inv.places word))
          ];
      zero = any-more places c.loop-word.any word c.loop-word.invariant.zero;
    }

pub returns-clause-none : goal.returns-clause-none
returns-clause-none c =
    let done : c.loop-word.word ≡ 8 = omega arith in
    none-is c.args.places.now c.loop-word.any (λ j small. c.loop-word.invariant.fits j (omega arith))
    (λ none j small. c.loop-word.invariant.zero.0 none j (omega arith), λ zeros. c.loop-word.invariant.zero.1 (λ j below. zeros j (omega arith)))

pub returns-clause-zero : goal.returns-clause-zero
returns-clause-zero c none j small =
    let done : c.loop-word.word ≡ 8 = omega arith in
    c.loop-word.invariant.zero.0 (eqb-true c.loop-word.any 0 none) j (omega arith)

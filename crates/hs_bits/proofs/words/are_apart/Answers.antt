use Rattle.std.proofs.Common.{◌≡◌, true, false, refl}
use Rattle.std.proofs.Math.Facts.{Fits-lt-pow}
use Rattle.hs_bits.proofs.WordLemmas.{apart-words, together}
use Rattle.std.proofs.Common.{arith}
use Rattle.hs_bits.proofs.words.are_apart.Goals as goal

pub returns-then-words-place-ne0 : goal.returns-then-words-place-ne0
returns-then-words-place-ne0 c = (
  λ told. absurd (let e : false ≡ true = told in cc),
  λ apart. absurd (together c.args.words.now c.args.row.now c.loop-place.place (Fits-lt-pow (c.type_inv.words c.loop-place.place)) c.if-words-place-ne0.true apart),
)

pub returns : goal.returns
returns c = (
  λ told k. apart-words c.args.words.now c.args.row.now (λ i below. c.loop-place.invariant i (omega arith)) k,
  λ apart. refl,
)

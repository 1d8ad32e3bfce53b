use Rattle.std.proofs.Common.{refl, arith, false, true, ◌≡◌}
use Rattle.hs_states.proofs.FootingLemmas.{same-word, words-same}
use Rattle.hs_states.proofs.footing.are_alike.Goals as goal

pub returns-then-words-place : goal.returns-then-words-place
returns-then-words-place c =
    let p = c.loop-place.place in (
      λ never. absurd (let e : false ≡ true = never in cc),
      λ same. absurd (c.if-words-place.true (same-word c.args.words.now c.args.others.now p (omega arith) (omega arith) same)),
    )

pub returns : goal.returns
returns c = (λ yes. words-same c.args.words.now c.args.others.now 8 (omega arith) (omega arith) (λ i below. c.loop-place.invariant i (omega arith)), λ same. refl)

use Rattle.std.proofs.Common.{◌≡◌, ◌∙◌, ℕ, ◌+◌, ◌-◌, ◌%◌, ◌<◌, ◌≤◌, length, sym, ap, subst, arith}
use Rattle.hs_base.specs.ByteSets.{members}
use Rattle.hs_bits.specs.BitRanges.{HasBitRound}
use Rattle.hs_bits.proofs.BitRangeLemmas.{denied}
use Rattle.hs_repeat.proofs.DistanceLemmas.{away-positive}
use Rattle.hs_repeat.proofs.RingLemmas.{away-round, round-away, zero-round}
use Rattle.hs_repeat.proofs.ring.Ring.has_entry_away.Goals as goal

pub returns-clause-away : goal.returns-clause-away
returns-clause-away c u entered at len row =
    let set = members c.args.self.now.set in
    let m : ℕ = c.args.self.now.greatest in
    let near : ℕ = c.max-nearest.result in
    let far : ℕ = c.min-farthest.result in
    let some : 0 < m = omega (arith, c.args.self.now.some) in
    let counts : near + (far - near + 1) ≡ far + 1 = omega arith in
    let within : far ≤ m = omega (arith, c.min-farthest.ensures, c.from.ensures) in
    let short : far ≤ length u = omega (arith, c.min-farthest.ensures, at) in
    let first : (c.args.at - far) % c.from-3.result ≡ (length u - far) % m = ap (λ n. (n - far) % c.from-3.result) at ∙ ap (λ n. (length u - far) % n) c.from-3.ensures in (
      λ told.
          let round = subst (λ p. HasBitRound c.args.region.now m p (far - near + 1)) first (c.has_bit_round.ensures.0 told) in
          let (d, away, low, high) = round-away set m some u entered c.args.region.now row near far (far - near + 1) counts within short (omega (arith, c.max-nearest.ensures)) round in
          (d, away, omega (arith, c.max-nearest.ensures, c.from-2.ensures), omega arith),
      λ (d, away, low, high).
          let ends = away.ends in
          let ahead : 0 < d = away-positive set u entered d away in
          c.has_bit_round.ensures.1
          (subst (λ p. HasBitRound c.args.region.now m p (far - near + 1)) (sym first)
          (away-round set m some u entered c.args.region.now row near far (far - near + 1) d counts within short away (omega (arith, c.max-nearest.ensures, c.from-2.ensures)) (omega (arith, c.min-farthest.ensures, c.from.ensures, at)))),
    )

pub returns-clause-rests : goal.returns-clause-rests
returns-clause-rests c zeros =
    denied c.has_bit_round.result
    (λ told. zero-round c.args.region.now c.args.self.now.greatest ((c.args.at - c.min-farthest.result) % c.from-3.result) (c.min-farthest.result - c.max-nearest.result + 1) zeros (c.has_bit_round.ensures.0 told))

use Rattle.std.proofs.Common.{◌≡◌, ◌-◌, ◌*◌, ap, ◌∙◌, arith, nat_lt, min}
use Rattle.std.proofs.lemmas.List.{length-set}
use Rattle.hs_waking.proofs.WordLemmas.{before-more}
use Rattle.hs_waking.proofs.chunk_places.some_places_before.Goals as goal

pub loop-word-preserved : goal.loop-word-preserved
loop-word-preserved c =
    let word = c.loop-word.word in
    let places = c.loop-word.places in
    let count : c.min.result ≡ min (c.args.end - 64 * word) 64 = omega (arith, c.min.ensures, c.saturating_sub.ensures) in
    record {
      len = length-set places word c.low_places.result ∙ c.loop-word.invariant.len;
      before = λ p few.
          before-more places word c.low_places.result c.args.end p (omega (arith, c.loop-word.invariant.len)) c.loop-word.invariant.before (λ k. c.low_places.ensures k ∙ ap (nat_lt k) count) few;
    }

use Rattle.std.proofs.Common.{◌≡◌, false, true, sym, ◌∙◌, arith}
use Rattle.hs_base.specs.Bits.{has_word_bit}
use Rattle.hs_states.proofs.StateLemmas.{some-any, true-false}
use Rattle.hs_engine.specs.AnyBelow.{any_below}
use Rattle.hs_dfa.proofs.state_ends.is_empty.Goals as goal

pub returns-then-contains_word_bit : goal.returns-then-contains_word_bit
returns-then-contains_word_bit c =
    let live = c.args.live.now in (
      λ never. absurd (let e : false ≡ true = never in cc),
      λ none.
          true-false (any_below c.args.size (has_word_bit live))
          (some-any c.args.size (has_word_bit live) c.loop-position.position (omega arith) (sym c.contains_word_bit.ensures ∙ c.if-contains_word_bit.true)) none,
    )

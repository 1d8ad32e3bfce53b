use Rattle.std.proofs.Common.{◌≡◌, ℕ, ◌+◌, ◌*◌, ◌/◌, ◌%◌, ap, ◌∙◌, arith}
use Rattle.hs_base.specs.Contexts.{Context, context_number}
use Rattle.hs_engine.specs.Rows.{in_row}
use Rattle.hs_limex.specs.WordTables.{in_table}
use Rattle.hs_limex.proofs.NumberLemmas.{context-named}
use Rattle.hs_bits.proofs.WordLemmas.{number-more_alone}
use Rattle.hs_limex.proofs.far_filling.near_of.Goals as goal

pub loop-number-preserved : goal.loop-number-preserved
loop-number-preserved c =
    let p = c.loop-number.number in
    let (prev, next) = c.context_of-prev.ensures in
    let made : Context = record { prev = c.context_of-prev.result.0; next = c.context_of-prev.result.1 } in
    record {
      count = c.fill_near.ensures.count ∙ c.loop-number.invariant.count;
      width = c.fill_near.ensures.width ∙ c.loop-number.invariant.width;
      bits = λ h d k near.
          let n : ℕ = 8 * context_number h + d in
          number-more_alone (λ m. in_row c.args.follows.now k (k + d) h) n p (in_row c.args.follows.now k (k + p % 8) made) (in_table c.loop-number.rows n k) (in_table c.fill_near.new.rows n k)
          (λ same.
          let row : context_number h ≡ p / 8 = omega arith in
          let distance : p % 8 ≡ d = omega arith in
          ap (λ e. in_row c.args.follows.now k (k + e) made) distance
          ∙ ap (in_row c.args.follows.now k (k + d)) (context-named h c.context_of-prev.result.0 c.context_of-prev.result.1 (p / 8) row prev next)) (c.loop-number.invariant.bits h d k near) (c.fill_near.ensures.bits n k);
    }

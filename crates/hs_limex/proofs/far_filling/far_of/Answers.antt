use Rattle.std.proofs.Common.{subst, ◌∙◌, inl, inr, arith}
use Rattle.std.proofs.lemmas.Bool.{cases_eq}
use Rattle.hs_base.specs.Contexts.{Context, context_number}
use Rattle.hs_limex.specs.Near.{LeavesFar}
use Rattle.hs_limex.proofs.NumberLemmas.{context-named}
use Rattle.hs_limex.proofs.far_filling.far_of.Goals as goal

pub loop-number-preserved : goal.loop-number-preserved
loop-number-preserved c =
    let p = c.loop-number.number in
    let (prev, next) = c.context_of-prev.ensures in
    record {
      count = c.fill_far.ensures.count ∙ c.loop-number.invariant.count;
      width = c.fill_far.ensures.width ∙ c.loop-number.invariant.width;
      few = c.fill_far.ensures.few c.loop-number.invariant.few;
      rest = λ h below.
          elim (cases_eq (context_number h) p) [
            | inl same ↦
                subst (λ (z : Context). LeavesFar c.fill_far.new.rows c.args.follows.now z) (context-named h c.context_of-prev.result.0 c.context_of-prev.result.1 p same prev next) c.fill_far.ensures.rest
            | inr apart ↦ c.fill_far.ensures.kept h (c.loop-number.invariant.rest h (omega arith))
          ];
    }

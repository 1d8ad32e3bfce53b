use Rattle.std.proofs.Common.{slice_get, sym, ap, ◌∙◌, arith}
use Rattle.std.proofs.lemmas.Option.{slice_get_past}
use Rattle.hs_engine.specs.Automata.{in_set}
use Rattle.hs_limex.specs.WordTables.{in_table}
use Rattle.hs_bits.proofs.WordLemmas.{number-more_alone, all-under}
use Rattle.hs_limex.proofs.filling.reach_of.Goals as goal

pub loop-position-preserved : goal.loop-position-preserved
loop-position-preserved c =
    let p = c.loop-position.position in
    record {
      count = c.fill_position.ensures.count ∙ c.loop-position.invariant.count;
      width = c.fill_position.ensures.width ∙ c.loop-position.invariant.width;
      bits = λ b k below.
          number-more_alone (λ x. in_set (slice_get c.args.sets.now x) b) k p (in_set (slice_get c.args.sets.now p) b) (in_table c.loop-position.rows b k) (in_table c.fill_position.new.rows b k)
          (λ same. ap (λ x. in_set (slice_get c.args.sets.now x) b) (sym same)) (c.loop-position.invariant.bits b k below) (c.fill_position.ensures.bits b k below);
    }

pub returns-clause-bits : goal.returns-clause-bits
returns-clause-bits c b k below =
    c.loop-position.invariant.bits b k below
    ∙ all-under k c.loop-position.position (in_set (slice_get c.args.sets.now k) b) (λ past. ap (λ o. in_set o b) (slice_get_past c.args.sets.now k (omega (arith, past))))

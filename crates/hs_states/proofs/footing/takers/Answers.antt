use Rattle.std.proofs.Common.{slice_get, sym, ap, ◌∙◌, arith, []}
use Rattle.std.proofs.lemmas.Option.{slice_get_past, slice_get-get_or}
use Rattle.hs_base.specs.Bits.{has_word_bit}
use Rattle.hs_engine.specs.Automata.{in_set}
use Rattle.hs_bits.proofs.WordLemmas.{all-under, none-under_alone, number-more_alone}
use Rattle.hs_states.proofs.FootingLemmas.{blank-bits}
use Rattle.hs_states.proofs.footing.takers.Goals as goal

pub loop-position-init : goal.loop-position-init
loop-position-init c k = none-under_alone k (in_set (slice_get c.args.sets.now k) c.args.byte) _ (blank-bits k)

pub loop-position-preserved : goal.loop-position-preserved
loop-position-preserved c k =
    let p = c.loop-position.position in
    let sets = c.args.sets.now in
    number-more_alone (λ x. in_set (slice_get sets x) c.args.byte) k p c.contains.result (has_word_bit c.loop-position.words k) (has_word_bit c.insert_if.new.words k)
    (λ same.
    c.contains.ensures
    ∙ (sym (ap (λ o. in_set o c.args.byte) (slice_get-get_or sets p (record { words = [] }) (omega arith)))
    ∙ sym (ap (λ x. in_set (slice_get sets x) c.args.byte) same)))
    (c.loop-position.invariant k) (c.insert_if.ensures k)

pub returns : goal.returns
returns c k =
    c.loop-position.invariant k
    ∙ all-under k c.loop-position.position (in_set (slice_get c.args.sets.now k) c.args.byte) (λ past. ap (λ o. in_set o c.args.byte) (slice_get_past c.args.sets.now k (omega (arith, past))))

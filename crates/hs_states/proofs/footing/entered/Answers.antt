use Rattle.std.proofs.Common.{slice_get, sym, ap, ◌∙◌, arith}
use Rattle.std.proofs.lemmas.Option.{slice_get_past, slice_get-get_or}
use Rattle.hs_base.specs.Bits.{has_word_bit}
use Rattle.hs_engine.specs.Automata.{in_mask}
use Rattle.hs_engine.specs.Between.{between}
use Rattle.hs_bits.proofs.WordLemmas.{all-under, none-under_alone, number-more_alone}
use Rattle.hs_states.proofs.FootingLemmas.{blank-bits}
use Rattle.hs_states.proofs.footing.entered.Goals as goal

pub loop-position-init : goal.loop-position-init
loop-position-init c k = none-under_alone k (in_mask (slice_get c.args.masks.now k) (between c.args.prev c.args.next)) _ (blank-bits k)

pub loop-position-preserved : goal.loop-position-preserved
loop-position-preserved c k =
    let p = c.loop-position.position in
    let masks = c.args.masks.now in
    number-more_alone (λ x. in_mask (slice_get masks x) (between c.args.prev c.args.next)) k p c.contains.result (has_word_bit c.loop-position.words k) (has_word_bit c.insert_if.new.words k)
    (λ same.
    c.contains.ensures
    ∙ (sym (ap (λ o. in_mask o (between c.args.prev c.args.next)) (slice_get-get_or masks p (record { bits = 0 }) (omega arith)))
    ∙ sym (ap (λ x. in_mask (slice_get masks x) (between c.args.prev c.args.next)) same)))
    (c.loop-position.invariant k) (c.insert_if.ensures k)

pub returns : goal.returns
returns c k =
    c.loop-position.invariant k
    ∙ all-under k c.loop-position.position (in_mask (slice_get c.args.masks.now k) (between c.args.prev c.args.next))
    (λ past. ap (λ o. in_mask o (between c.args.prev c.args.next)) (slice_get_past c.args.masks.now k (omega (arith, past))))

use Rattle.std.proofs.Common.{◌+◌, slice_get, ap, sym, ◌∙◌}
use Rattle.hs_engine.specs.Automata.{in_mask, in_set}
use Rattle.hs_engine.specs.Rows.{in_row}
use Rattle.hs_limex.specs.SmallWords.{one_context}
use Rattle.hs_limex.proofs.SmallLemmas.{follow-is, near-is, reach-is, rest-is, same-follows}
use Rattle.hs_limex.proofs.small.Small.make.Goals as goal

pub invariant_of-result-clause-near : goal.invariant_of-result-clause-near
invariant_of-result-clause-near c d k used =
    near-is c.args.automaton.now c.pitch_for-pitch.result c.span_for-span.result c.size-size.result c.in_ok-words_of.field-0.items c.in_ok-words_of.ensures c.size-size.ensures.size d k used

pub invariant_of-result-clause-rest_least : goal.invariant_of-result-clause-rest_least
invariant_of-result-clause-rest_least c x y is beside =
    let a = c.args.automaton.now in
    (rest-is a c.pitch_for-pitch.result c.span_for-span.result c.size-size.result c.in_ok-words_of.field-0.items c.in_ok-words_of.ensures c.size-size.ensures.size c.far_word.result
    (λ i j on apart. c.far_word.ensures.rest i j (ap (λ rows. in_row rows i j one_context) c.follows-2.ensures ∙ on) apart)
    (λ d i small on. c.span_for-span.ensures.used d i small (ap (λ rows. in_row rows i (i + d) one_context) c.follows.ensures ∙ on)) x y is beside).0

pub invariant_of-result-clause-rest_most : goal.invariant_of-result-clause-rest_most
invariant_of-result-clause-rest_most c x y is beside =
    let a = c.args.automaton.now in
    (rest-is a c.pitch_for-pitch.result c.span_for-span.result c.size-size.result c.in_ok-words_of.field-0.items c.in_ok-words_of.ensures c.size-size.ensures.size c.far_word.result
    (λ i j on apart. c.far_word.ensures.rest i j (ap (λ rows. in_row rows i j one_context) c.follows-2.ensures ∙ on) apart)
    (λ d i small on. c.span_for-span.ensures.used d i small (ap (λ rows. in_row rows i (i + d) one_context) c.follows.ensures ∙ on)) x y is beside).1

pub returns : goal.returns
returns c =
    let a = c.args.automaton.now in
    let pitch = c.pitch_for-pitch.result in
    let span = c.span_for-span.result in
    let size = c.size-size.result in
    let words = c.in_ok-words_of.field-0.items in
    record {
      size = c.size-size.ensures.size;
      reach = λ b k byte.
          reach-is a pitch span size words c.in_ok-words_of.ensures c.size-size.ensures.size c.pitch_for-pitch.ensures.room c.pitch_for-pitch.ensures.some c.pitch_for-pitch.ensures.aligned b k byte;
      enters = λ h k. c.requires.enters h k;
      first = λ x b h byte enters takes.
          c.first_bytes.ensures x b h byte (ap (λ items. in_mask (slice_get items x) h) c.enters.ensures ∙ enters) (ap (λ items. in_set (slice_get items x) b) c.sets.ensures ∙ takes);
      accepts = λ h k. c.requires.accepts h k;
      follows = λ x y h. follow-is a pitch span size words c.in_ok-words_of.ensures c.size-size.ensures.size x y ∙ sym (same-follows a c.requires.one x y h);
    }

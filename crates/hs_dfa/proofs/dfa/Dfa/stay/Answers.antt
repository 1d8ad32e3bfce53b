use Rattle.std.proofs.Common.{length, ap, ◌∙◌, arith, vec_len, get_or}
use Rattle.std.proofs.lemmas.Option.{slice_get_read}
use Rattle.hs_base.specs.ByteSets.{has}
use Rattle.hs_dfa.proofs.BlockRunLemmas.{unset-outside}
use Rattle.hs_engine.specs.Automata.{in_set}
use Rattle.hs_dfa.proofs.dfa.Dfa.stay.Goals as goal

pub returns-clause-stays : goal.returns-clause-stays
returns-clause-stays c i low high =
    let d = c.args.self.now in
    let n = c.args.number in
    let b = get_or c.args.bytes.now i 0 in
    d.leaving_are n b c.requires.number (let small = c.type_inv.bytes i in omega (arith, small))
    (ap (λ s. in_set s b) (slice_get_read d.leaving.items (vec_len d.leaving) n c.index.result.now d.leaving.ok.0 (omega (arith, c.requires.number, d.leaving_all)) c.index.ensures)
    ∙ unset-outside c.member_places-leaving.result i (length c.args.bytes.now) (has c.index.result.now b) (omega (arith, high, c.next_place.ensures.high)) (c.member_places-leaving.ensures i) (c.next_place.ensures.none i low high))

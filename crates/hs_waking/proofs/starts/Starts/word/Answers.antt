use Rattle.std.proofs.Common.{[], false, arith, sym, ap, ◌∙◌}
use Rattle.std.specs.Prelude.{slice_index}
use Rattle.std.proofs.lemmas.List.{get_or_default}
use Rattle.hs_waking.specs.Starts.{start_word}
use Rattle.hs_waking.proofs.StartLemmas.{told-nowhere, told-past, told-there}
use Rattle.hs_waking.proofs.starts.Starts.word.Goals as goal

pub returns-then-number-self : goal.returns-then-number-self
unfolding start_word
returns-then-number-self c =
    let s = c.args.self.now in
    sym (told-past s.count s.some.items s.places.items c.args.number c.args.block c.if-number-self.true)

pub returns-then-index : goal.returns-then-index
unfolding start_word
returns-then-index c =
    let s = c.args.self.now in
    let k = c.args.number in
    let some = get_or_default s.some.items k false c.index.result.now (omega (arith, c.if-number-self.false, s.some_room)) ∙ (sym c.index.ensures ∙ c.if-index.true) in
    let own = get_or_default s.places.items k [] c.index-then-index.result.now (omega (arith, c.if-number-self.false, s.places_room)) ∙ sym c.index-then-index.ensures in
    sym (told-there s.count s.some.items s.places.items k c.args.block c.if-number-self.false some ∙ ap (λ ws. slice_index ws c.args.block) own)

pub returns-else-index : goal.returns-else-index
unfolding start_word
returns-else-index c =
    let s = c.args.self.now in
    let k = c.args.number in
    let none = get_or_default s.some.items k false c.index.result.now (omega (arith, c.if-number-self.false, s.some_room)) ∙ (sym c.index.ensures ∙ c.if-index.false) in
    sym (told-nowhere s.count s.some.items s.places.items k c.args.block c.if-number-self.false none)

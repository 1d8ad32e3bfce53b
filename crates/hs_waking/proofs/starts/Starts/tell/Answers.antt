use Rattle.std.proofs.Common.{◌∙◌, not, ap, sym, set}
use Rattle.hs_waking.specs.Starts.{start_word, told_word}
use Rattle.hs_waking.proofs.StartLemmas.{told-none, told-others, told-others-none, told-own}
use Rattle.hs_waking.proofs.starts.Starts.tell.Goals as goal

pub returns-then-some-clause-own : goal.returns-then-some-clause-own
unfolding start_word
returns-then-some-clause-own c below j small =
    let s = c.args.self.now in
    ap (λ b. told_word s.count (set s.some.items c.args.number (not b)) (set s.places.items c.args.number c.args.places.now) c.args.number j) c.if-some.true
    ∙ told-own s.count s.some.items s.places.items c.args.number s.some_room s.places_room c.args.places.now j below

pub returns-then-some-clause-others : goal.returns-then-some-clause-others
unfolding start_word
returns-then-some-clause-others c k j apart small =
    let s = c.args.self.now in
    told-others s.count s.some.items s.places.items c.args.number s.some_room s.places_room (not c.is_none-some.result) c.args.places.now k j apart

pub returns-else-some-clause-own : goal.returns-else-some-clause-own
unfolding start_word
returns-else-some-clause-own c below j small =
    let s = c.args.self.now in
    ap (λ b. told_word s.count (set s.some.items c.args.number (not b)) s.places.items c.args.number j) c.if-some.false
    ∙ (told-none s.count s.some.items s.places.items c.args.number s.some_room s.places_room j below ∙ sym (c.is_none-some.ensures.zero c.if-some.false j small))

pub returns-else-some-clause-others : goal.returns-else-some-clause-others
unfolding start_word
returns-else-some-clause-others c k j apart small =
    let s = c.args.self.now in
    told-others-none s.count s.some.items s.places.items c.args.number s.some_room s.places_room (not c.is_none-some.result) k j apart

use Rattle.std.proofs.Common.{false}
use Rattle.hs_waking.specs.Starts.{start_word}
use Rattle.hs_waking.proofs.StartLemmas.{told-none, told-others-none}
use Rattle.hs_waking.proofs.starts.Starts.tell_nowhere.Goals as goal

pub returns-then-number-self-clause-own : goal.returns-then-number-self-clause-own
unfolding start_word
returns-then-number-self-clause-own c below j small =
    let s = c.args.self.now in
    told-none s.count s.some.items s.places.items c.args.number s.some_room s.places_room j below

pub returns-then-number-self-clause-others : goal.returns-then-number-self-clause-others
unfolding start_word
returns-then-number-self-clause-others c k j apart small =
    let s = c.args.self.now in
    told-others-none s.count s.some.items s.places.items c.args.number s.some_room s.places_room false k j apart

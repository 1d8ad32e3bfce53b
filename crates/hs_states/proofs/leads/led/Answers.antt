use Rattle.hs_states.proofs.FootingLemmas.{led-bits}
use Rattle.hs_states.proofs.leads.led.Goals as goal

pub returns : goal.returns
returns c k =
    led-bits c.args.automaton.now c.args.from.now c.args.next k c.follows.result.now c.enters.result.now c.add_followers.new.led c.entered-words.result c.follows.ensures c.enters.ensures (c.entered-words.ensures k) (c.add_followers.ensures k)

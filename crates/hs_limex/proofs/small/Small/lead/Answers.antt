use Rattle.hs_limex.proofs.SmallLemmas.{either-led, led-either, on-led}
use Rattle.hs_limex.proofs.small.Small.lead.Goals as goal

pub returns-then-entering-clause-sound : goal.returns-then-entering-clause-sound
returns-then-entering-clause-sound c h k small is =
    either-led c.args.self.now c.args.live c.lead_on-led.result h c.args.entering k c.lead_on-led.ensures small c.if-entering.true is

pub returns-then-entering-clause-whole : goal.returns-then-entering-clause-whole
returns-then-entering-clause-whole c h k small led =
    led-either c.args.self.now c.args.live c.lead_on-led.result h c.args.entering k c.lead_on-led.ensures small led

pub returns-else-entering-clause-sound : goal.returns-else-entering-clause-sound
returns-else-entering-clause-sound c h k small is =
    on-led c.args.self.now c.args.live h c.args.entering k (c.lead_on-led.ensures.sound k small is)

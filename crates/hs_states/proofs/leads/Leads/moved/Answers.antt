use Rattle.std.proofs.Common.{◌&&◌, ap, ◌∙◌}
use Rattle.hs_base.specs.Bits.{has_word_bit}
use Rattle.hs_states.proofs.leads.Leads.moved.Goals as goal

pub returns-clause-positions : goal.returns-clause-positions
returns-clause-positions c k =
    c.keep.ensures k ∙ ap (λ t. has_word_bit c.args.byte.now.positions k && t) (c.before-positions.ensures c.args.automaton.now c.requires k)

use Rattle.std.proofs.Common.{◌*◌, length, sym}
use Rattle.hs_base.specs.Bits.{has_word_bit}
use Rattle.hs_bits.proofs.ContextLemmas.{everywhere-bit}
use Rattle.hs_block.proofs.StreamSettleLemmas.{arrived}
use Rattle.hs_block.proofs.streams.arrive.Goals as goal

pub returns-clause-led : goal.returns-clause-led
returns-clause-led g c size room state_few live_few =
    arrived c.args.words.now c.args.row.now c.args.entry.now.state c.args.live.now (64 * length c.args.row.now) size c.united_rows-led.result c.one_later.result c.meet.result room live_few c.requires.dark
    (c.meet.ensures size state_few) c.united_rows-led.ensures c.one_later.ensures

pub returns-clause-again : goal.returns-clause-again
returns-clause-again g c i small =
    everywhere-bit c.only_if.result i c.contains_word_bit.result (has_word_bit c.args.row.now c.args.position) small (c.only_if.ensures i) (sym c.contains_word_bit.ensures)

use Rattle.std.proofs.Common.{sym, ◌∙◌}
use Rattle.hs_base.specs.Contexts.{Context}
use Rattle.hs_base.specs.Bits.{has_word_bit}
use Rattle.hs_limex.proofs.StepLemmas.{lead-chain, lead-sound, lead-whole}
use Rattle.hs_limex.proofs.tables.Tables.lead.Goals as goal

pub returns-clause-sound : goal.returns-clause-sound
returns-clause-sound g c k set =
    let t = c.args.self.now in
    let here : Context = record { prev = c.args.prev; next = c.args.next } in
    let live = c.args.live.now in
    let row = c.row_in.result.now in
    lead-sound t live row here c.args.entering c.row_in.ensures.bits k
    (sym (lead-chain t live row here c.args.entering k c.number_of-number.result c.number_of-number.ensures.number (has_word_bit c.args.led.now k) (has_word_bit c.lead_near.new.led k) (has_word_bit c.lead_far.new.led k) (has_word_bit c.enter.new.led k)
    (c.requires.zero k) (c.lead_near.ensures.bits k) (c.lead_far.ensures.bits k) (c.enter.ensures.bits k)) ∙ set)

pub returns-clause-whole : goal.returns-clause-whole
returns-clause-whole g c k inside led =
    let t = c.args.self.now in
    let here : Context = record { prev = c.args.prev; next = c.args.next } in
    let live = c.args.live.now in
    let row = c.row_in.result.now in
    lead-chain t live row here c.args.entering k c.number_of-number.result c.number_of-number.ensures.number (has_word_bit c.args.led.now k) (has_word_bit c.lead_near.new.led k) (has_word_bit c.lead_far.new.led k) (has_word_bit c.enter.new.led k)
    (c.requires.zero k) (c.lead_near.ensures.bits k) (c.lead_far.ensures.bits k) (c.enter.ensures.bits k)
    ∙ lead-whole t live row here c.args.entering c.row_in.ensures.bits k (c.row_in.ensures.len ∙ t.far_width) inside led

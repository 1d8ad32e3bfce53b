use Rattle.std.proofs.Common.{sym, subst, ◌∙◌}
use Rattle.hs_reports.specs.Events.{Through, still}
use Rattle.hs_reports.specs.Identifiers.{id_numbers}
use Rattle.hs_reports.specs.WordBits.{row_bit}
use Rattle.hs_reports.proofs.BlockLemmas.{where-none}
use Rattle.hs_reports.proofs.block.tell_any.Goals as goal

pub returns-else-has_bit : goal.returns-else-has_bit
returns-else-has_bit g c =
    subst (λ ps. Through g.V.Events.tells c.args.events.now ps c.args.events.now)
    (sym (where-none (id_numbers c.args.ids.now) (λ k. row_bit c.args.words.now k c.args.place) c.args.to (λ k low. c.requires.all c.args.place (sym c.has_bit.ensures ∙ c.if-has_bit.false) k))) still

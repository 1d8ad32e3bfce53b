use Rattle.std.proofs.Common.{sym, subst}
use Rattle.hs_text.specs.declared.commands.Verb.TheVariants as verb
use Rattle.hs_text.specs.declared.reply_lines.Reply.TheVariants.{No}
use Rattle.hs_tool.specs.Expanding.{Expands, added, unexpanded}
use Rattle.hs_tool.proofs.OpenLemmas.{fits-expanded}
use Rattle.hs_tool.proofs.session.streams.Streams.expand.Goals as goal

pub returns-in-Ok-clause-fits : goal.returns-in-Ok-clause-fits
returns-in-Ok-clause-fits c = fits-expanded c.requires.fits c.in-Ok.ensures.added

pub returns-in-Ok-clause-expands : goal.returns-in-Ok-clause-expands
returns-in-Ok-clause-expands c = added c.in-Ok.ensures.added

pub returns-in-Err-clause-expands : goal.returns-in-Err-clause-expands
returns-in-Err-clause-expands c =
    subst (λ w. Expands c.args.db.now c.args.self.now c.add_expanded.new.self c.args.name.now c.args.bytes.now (No verb.Expand w)) (sym c.word_of.ensures)
    (unexpanded c.in-Err.fault c.in-Err.ensures.fault c.in-Err.ensures.unchanged)

use Rattle.std.proofs.Common.{length, sym, subst}
use Rattle.hs_syntax.specs.Lengths.{FormFits}
use Rattle.hs_syntax.proofs.FormLengths.{form_fits}
use Rattle.hs_syntax.proofs.form.form_at.Goals as goal

pub returns-clause-fits : goal.returns-clause-fits
returns-clause-fits c =
    subst (FormFits (length c.args.bytes.now)) (sym c.form_of.ensures) (form_fits c.args.mode c.args.bytes.now)

use Rattle.std.proofs.Common.{◌-◌, sym, ◌∙◌}
use Rattle.hs_base.specs.WrittenOut.{up_to}
use Rattle.hs_glushkov.proofs.RowLemmas.{null-up_to}
use Rattle.hs_glushkov.proofs.parts.Parts.repeat.Goals as goal

pub returns-in-None-clause-added : goal.returns-in-None-clause-added
returns-in-None-clause-added c = rw c.in-None.is c.repeat_without_end.ensures.added

pub returns-in-Some-clause-added : goal.returns-in-Some-clause-added
returns-in-Some-clause-added c =
    rw c.in-Some.is
    (λ old a width null row.
    c.join_copies.ensures.added old a (up_to (c.in-Some.most - c.args.least) a) width null (λ h. c.all.ensures h ∙ sym (null-up_to (c.in-Some.most - c.args.least) a h))
    (c.join_options.ensures.row old a width null row))

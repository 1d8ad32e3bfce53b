use Rattle.std.proofs.Common.{◌≤◌, slice_range, subst, sym, ◌∙◌, ap, arith}
use Rattle.hs_base.specs.Regions.{fields_at}
use Rattle.hs_layout.specs.Layouts.{laid_size, with_part}
use Rattle.hs_layout.proofs.WrittenLemmas.{part-mid, part-reads}
use Rattle.hs_layout.proofs.layout.Layout.set_history.Goals as goal

pub returns-clause-reads : goal.returns-clause-reads
returns-clause-reads c =
    let header : fields_at c.args.self.now.singles c.args.self.now.identifiers ≤ laid_size c.args.self.now =
    subst (λ l. fields_at l.singles l.identifiers ≤ laid_size l) c.self.view_is c.self.invariant.header in
    ap (λ r. slice_range r 8 72) (sym (part-mid c.args.region.now c.copy_from_slice.new.self 8 72 (omega arith)))
    ∙ (ap (λ w. slice_range (with_part c.args.region.now 8 72 w) 8 72) c.copy_from_slice.ensures.after
    ∙ part-reads c.args.region.now c.args.bytes.now 8 72 (omega (arith, c.requires.sized)) (omega (arith, c.requires.whole)))

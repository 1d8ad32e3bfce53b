use Rattle.std.proofs.Common.{eqb, not, ◌&&◌, sym, ap, ◌∙◌}
use Rattle.std.proofs.lemmas.Bool.{eq-eqb, ne_eqb}
use Rattle.hs_reports.proofs.telling.Telling.is_some.Goals as goal

pub returns-then-self-ne0 : goal.returns-then-self-ne0
returns-then-self-ne0 c =
    let some = ne_eqb c.args.self.late 0 c.if-self-ne0.true in
    ap (λ b. not b) some ∙ sym (ap (λ b. not (b && eqb c.args.self.early 0)) some)

pub returns-else-self-ne0 : goal.returns-else-self-ne0
returns-else-self-ne0 c = sym (ap (λ b. not (b && eqb c.args.self.early 0)) (eq-eqb c.args.self.late 0 c.if-self-ne0.false))

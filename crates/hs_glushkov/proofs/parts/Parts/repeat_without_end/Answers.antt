use Rattle.std.proofs.Common.{◌≡◌, ℕ, ◌+◌, ◌-◌, ◌*◌, max, sym, ap, subst, ◌∙◌, arith}
use Rattle.hs_base.specs.ContextSets.{has_context}
use Rattle.hs_base.specs.WrittenOut.{count, plus}
use Rattle.hs_glushkov.specs.Parts.{IsAdded, IsRow}
use Rattle.hs_glushkov.specs.BuiltParts.{table_of}
use Rattle.hs_glushkov.proofs.RowLemmas.{star-added, row-rounds, at_least-more}
use Rattle.hs_glushkov.proofs.parts.Parts.repeat_without_end.Goals as goal

pub returns-then-least-eq0-clause-added : goal.returns-then-least-eq0-clause-added
returns-then-least-eq0-clause-added c old a width null row =
    let one : max c.args.least 1 * c.args.width ≡ c.args.width = ap (λ k. max k 1 * c.args.width) c.if-least-eq0.true ∙ omega arith in
    star-added old (table_of c.args.self.now) (table_of c.go_round.new.self) c.args.start (c.args.self.now.filled - c.args.width) c.args.self.now.filled c.args.least a (has_context c.all.result)
    c.if-least-eq0.true (omega arith) c.all.ensures row c.go_round.ensures.looped

pub returns-clause-added : goal.returns-clause-added
returns-clause-added c old a width null row =
    let least : ℕ = c.args.least in
    let one : max least 1 ≡ (least - 1) + 1 = omega arith in
    let wide : ((least - 1) + 1) * c.args.width ≡ (least - 1) * c.args.width + c.args.width = omega arith in
    let room : c.args.start + ((least - 1) + 1) * c.args.width ≡ c.args.self.now.filled = subst (λ k. c.args.start + k * c.args.width ≡ c.args.self.now.filled) one c.requires.room in
    let place : c.args.self.now.filled - c.args.width ≡ c.args.start + (least - 1) * count a = omega arith ∙ ap (λ w. c.args.start + (least - 1) * w) width in
    let round : IsRow old (table_of c.go_round.new.self) c.args.start a (least - 1) (plus a) c.args.self.now.filled =
    row-rounds old (table_of c.args.self.now) (table_of c.go_round.new.self) c.args.start (c.args.self.now.filled - c.args.width) c.args.self.now.filled least a c.if-least-eq0.false place row c.go_round.ensures.looped in
    subst (λ r. IsAdded old (table_of c.join_copies.new.self) c.args.start r (has_context c.join_copies.result)) (at_least-more least a c.if-least-eq0.false)
    (c.join_copies.ensures.added old a (plus a) width null null
    (subst (λ e. IsRow old (table_of c.go_round.new.self) c.args.start a (least - 1) (plus a) e) (sym c.go_round.ensures.filled) round))

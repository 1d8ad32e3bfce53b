use Rattle.std.proofs.Common.{◌≡◌, ◌<◌, ℕ, Option, length, sym, ap, subst, ◌∙◌}
use Rattle.hs_base.specs.declared.context.Mask.{Mask}
use Rattle.hs_nodes.specs.declared.table.NodeKind.TheVariants as nodes
use Rattle.hs_rose.specs.Kinds.{number_if_literal}
use Rattle.hs_compile.specs.GraphKinds.{HasLength, IsKeptMask, IsKindOf}
use Rattle.hs_compile.proofs.ReadLemmas.{bare-is, engine-is, entered-is, ok-to}
use Rattle.hs_compile.proofs.graph_kinds.kind_of.Goals as goal

pub bare_kind-requires-clause-there : goal.bare_kind-requires-clause-there
bare_kind-requires-clause-there c =
    let r = c.args.role.now in
    subst (λ n. n < length c.args.program.now.literals) (sym c.number.ensures)
    (c.requires.named r.number (ap (λ k. number_if_literal k r.number) (sym c.kind.ensures ∙ c.in-BareLiteral.is)))

pub entered_kind-requires-clause-there : goal.entered_kind-requires-clause-there
entered_kind-requires-clause-there c =
    let r = c.args.role.now in
    subst (λ n. n < length c.args.program.now.literals) (sym c.number-in-Literal.ensures)
    (c.requires.named r.number (ap (λ k. number_if_literal k r.number) (sym c.kind.ensures ∙ c.in-Literal.is)))

pub returns-in-BareLiteral : goal.returns-in-BareLiteral
returns-in-BareLiteral c =
    let t = c.args.program.now in
    let n = c.number.result in
    ok-to (λ own. (len : ℕ) × HasLength t n len × (own ≡ nodes.FirstLiteral n len)) (λ own. IsKindOf t c.args.role.now own) c.bare_kind.result
    (λ own is. bare-is t c.args.role.now n own c.number.ensures (sym c.kind.ensures ∙ c.in-BareLiteral.is) is) c.bare_kind.ensures

pub returns-in-Literal : goal.returns-in-Literal
returns-in-Literal c =
    let t = c.args.program.now in
    let n = c.number-in-Literal.result in
    ok-to (λ own. (len : ℕ) × HasLength t n len × (own ≡ nodes.Literal n len)) (λ own. IsKindOf t c.args.role.now own) c.entered_kind.result
    (λ own is. entered-is t c.args.role.now n own c.number-in-Literal.ensures (sym c.kind.ensures ∙ c.in-Literal.is) is) c.entered_kind.ensures

pub returns-in-LookBack : goal.returns-in-LookBack
returns-in-LookBack c =
    let t = c.args.program.now in
    let n = c.number-in-LookBack.result in
    let null = c.null.result in
    ok-to (λ own. (kept : Option Mask) × IsKeptMask kept null × (own ≡ nodes.Engine n kept)) (λ own. IsKindOf t c.args.role.now own) c.engine_kind.result
    (λ own is. engine-is t c.args.role.now c.kind.result n null own c.kind.ensures c.number-in-LookBack.ensures c.null.ensures c.in-LookBack.is is) c.engine_kind.ensures

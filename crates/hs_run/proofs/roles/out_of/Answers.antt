use Rattle.std.proofs.Common.{◌≡◌, ◌≤◌, ◌∙◌, sym, map, subst, length}
use Rattle.std.proofs.lemmas.Option.{same_Some}
use Rattle.hs_base.specs.LiteralView.{literal_byte}
use Rattle.hs_engine.specs.Engines.{TellsLeaves}
use Rattle.hs_rose.specs.PieceEngines.{piece_meaning}
use Rattle.hs_run.proofs.PieceLemmas.{bare-of, entered-of, engined-of, never-looks_back, bare-out, entered-out, engine-out}
use Rattle.hs_run.proofs.roles.out_of.Goals as goal

pub returns-in-LookBack : goal.returns-in-LookBack
returns-in-LookBack c p u runs is kept = absurd (never-looks_back c.args.program.now c.args.role.now p runs.alone (sym c.of.ensures ∙ c.in-LookBack.is))

pub returns-in-BareLiteral : goal.returns-in-BareLiteral
returns-in-BareLiteral c p u runs is kept =
    let way = sym c.of.ensures ∙ c.in-BareLiteral.is in
    let has = bare-of c.args.program.now c.args.role.now p runs.alone way in
    let sound = c.requires.sound.bare way in
    let x = map literal_byte c.literal_of.result.now in
    let one : has.value ≡ x = same_Some has.value x (sym has.there ∙ c.literal_of.ensures) in
    let some : 1 ≤ length has.value = subst (λ v. 1 ≤ length v) (same_Some sound.value has.value (sym sound.there ∙ has.there)) sound.some in
    bare-out p u has.value c.literal_of.result.now c.ends_here.result c.all_if.result has.is_piece has.is_first (sym one) some is.bytes c.all_if.ensures (c.ends_here.ensures.ends u is)

pub returns-in-Literal : goal.returns-in-Literal
returns-in-Literal c p u runs is kept =
    let way = sym c.of.ensures ∙ c.in-Literal.is in
    let has = entered-of c.args.program.now c.args.role.now p runs.alone way in
    let sound = (c.requires.sound.literal way).0 in
    let x = map literal_byte c.literal_of-in-Literal.result.now in
    let one : has.value ≡ x = same_Some has.value x (sym has.there ∙ c.literal_of-in-Literal.ensures) in
    let some : 1 ≤ length has.value = subst (λ v. 1 ≤ length v) (same_Some sound.value has.value (sym sound.there ∙ has.there)) sound.some in
    entered-out p c.args.part.now u has.value c.literal_of-in-Literal.result.now c.is_completed.result c.all_if-in-Literal.result has.is_piece has.form (sym one) some is.bytes c.all_if-in-Literal.ensures
    (c.is_completed.ensures u is) kept

pub returns-in-Engine : goal.returns-in-Engine
returns-in-Engine c p u runs is kept =
    let has = engined-of c.args.program.now c.args.role.now p runs.alone (sym c.of.ensures ∙ c.in-Engine.is) in
    let one = same_Some has.value c.engine_of.result.now (sym has.there ∙ c.engine_of.ensures) in
    engine-out (piece_meaning has.value) p c.args.part.now u c.args.spot.now c.out.result has.runs is (subst (λ e. TellsLeaves (piece_meaning e) c.args.part.now c.args.spot.now.prev c.args.spot.now.at c.out.result) (sym one) c.out.ensures.leaves) kept

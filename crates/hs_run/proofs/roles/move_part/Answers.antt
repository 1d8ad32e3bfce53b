use Rattle.std.proofs.Common.{◌≡◌, ◌∙◌, sym, ap, subst, length, map}
use Rattle.std.proofs.lemmas.List.{length-map}
use Rattle.std.proofs.lemmas.Option.{same_Some}
use Rattle.hs_base.specs.Contexts.{class_of}
use Rattle.hs_base.specs.ContextSets.{has_next}
use Rattle.hs_base.specs.LiteralView.{literal_byte}
use Rattle.hs_engine.specs.Engines.{TakesByte}
use Rattle.hs_rose.specs.PieceEngines.{piece_meaning}
use Rattle.hs_run.specs.declared.way.Way.TheVariants as way
use Rattle.hs_run.proofs.PieceLemmas.{entered-of, engined-of, engine-step, entered-step, moved-ring, each-by, IsMoved}
use Rattle.hs_run.proofs.roles.move_part.Goals as goal

pub returns-in-Literal-clause-well : goal.returns-in-Literal-clause-well
returns-in-Literal-clause-well g c = record {
  engine = λ same. absurd (let e : way.Engine ≡ way.Literal = sym same ∙ (sym c.of.ensures ∙ c.in-Literal.is) in cc);
  literal = λ same x there.
      let one : map literal_byte c.literal_of.result.now ≡ x = same_Some (map literal_byte c.literal_of.result.now) x (sym c.literal_of.ensures ∙ there) in
      let size : length c.literal_of.result.now ≡ length x = (sym (length-map c.literal_of.result.now literal_byte) ∙ ap length one) in
      moved-ring (length x) c.contains.result c.args.part.now c.shift_entries.new.row c.args.spot.now.at
      (subst (λ n. IsMoved n c.contains.result c.args.part.now c.shift_entries.new.row) size (c.shift_entries.ensures.moved, c.shift_entries.ensures.others))
      (c.requires.well.literal same x there);
}

pub returns-in-Literal-clause-keeps : goal.returns-in-Literal-clause-keeps
returns-in-Literal-clause-keeps g c p u runs is kept tells =
    let has = entered-of c.args.program.now c.args.role.now p runs.alone (sym c.of.ensures ∙ c.in-Literal.is) in
    let one : map literal_byte c.literal_of.result.now ≡ has.value = same_Some (map literal_byte c.literal_of.result.now) has.value (sym c.literal_of.ensures ∙ has.there) in
    let size : length c.literal_of.result.now ≡ length has.value = (sym (length-map c.literal_of.result.now literal_byte) ∙ ap length one) in
    let asked : c.contains.result ≡ has_next c.args.now (class_of c.args.byte) = c.contains.ensures ∙ ap (has_next c.args.now) c.class_of.ensures in
    entered-step p c.args.part.now c.shift_entries.new.row u (length has.value) c.args.byte c.contains.result has.form c.shift_entries.ensures.len (each-by c.shift_entries.new.row (λ i. (c.type_inv.part i).fits))
    (subst (λ n. IsMoved n c.contains.result c.args.part.now c.shift_entries.new.row) size (c.shift_entries.ensures.moved, c.shift_entries.ensures.others)) kept
    (λ is_in. (tells (class_of c.args.byte)).0 (sym asked ∙ is_in), λ left. asked ∙ (tells (class_of c.args.byte)).1 left)

pub returns-in-Engine-clause-keeps : goal.returns-in-Engine-clause-keeps
returns-in-Engine-clause-keeps g c p u runs is kept tells =
    let has = engined-of c.args.program.now c.args.role.now p runs.alone (sym c.of.ensures ∙ c.in-Engine.is) in
    let one = same_Some has.value c.engine_of.result.now (sym has.there ∙ c.engine_of.ensures) in
    engine-step (piece_meaning has.value) p c.args.part.now c.step.new.region u c.args.spot.now c.args.byte c.args.now has.runs is
    (subst (λ e. TakesByte (piece_meaning e) c.args.part.now c.step.new.region c.args.spot.now.prev c.args.spot.now.at c.args.now c.args.byte) (sym one) c.step.ensures.takes)
    (subst (λ e. length c.step.new.region ≡ (piece_meaning e).width) (sym one) c.step.ensures.len) (each-by c.step.new.region (λ i. (c.type_inv.part i).fits)) kept tells

use Rattle.std.proofs.Common.{◌≡◌, length, map, sym, subst, ◌∙◌}
use Rattle.std.proofs.lemmas.List.{length-map}
use Rattle.std.proofs.lemmas.Option.{same_Some}
use Rattle.hs_base.specs.LiteralView.{literal_byte}
use Rattle.hs_base.specs.RepeatRows.{IsRingAt}
use Rattle.hs_rose.specs.PieceEngines.{piece_meaning}
use Rattle.hs_run.specs.declared.way.Way.TheVariants as way
use Rattle.hs_run.proofs.checking.is_part.Goals as goal

pub returns-in-Literal : goal.returns-in-Literal
returns-in-Literal c =
    let value = map literal_byte c.literal_of.result.now in
    let is = sym c.of.ensures ∙ c.in-Literal.is in
    let size : length c.literal_of.result.now ≡ length value = sym (length-map c.literal_of.result.now literal_byte) in (
      λ told. record {
        engine = λ same. absurd (let e : way.Engine ≡ way.Literal = sym same ∙ is in cc);
        literal = λ same x there.
            subst (λ v. IsRingAt (length v) c.args.part.now c.args.at) (same_Some value x (sym c.literal_of.ensures ∙ there))
            (subst (λ n. IsRingAt n c.args.part.now c.args.at) size (c.is_row.ensures.0 told));
      },
      λ part. c.is_row.ensures.1 (subst (λ n. IsRingAt n c.args.part.now c.args.at) (sym size) (part.literal is value c.literal_of.ensures)),
    )

pub returns-in-Engine : goal.returns-in-Engine
returns-in-Engine c =
    let is = sym c.of.ensures ∙ c.in-Engine.is in (
      λ told. record {
        engine = λ same e there. subst (λ q. (piece_meaning q).well c.args.part.now c.args.at) (same_Some c.engine_of.result.now e (sym c.engine_of.ensures ∙ there)) (c.is_field.ensures.0 told);
        literal = λ same. absurd (let e : way.Literal ≡ way.Engine = sym same ∙ is in cc);
      },
      λ part. c.is_field.ensures.1 (part.engine is c.engine_of.result.now c.engine_of.ensures),
    )

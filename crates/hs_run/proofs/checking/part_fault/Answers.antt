use Rattle.std.proofs.Common.{slice_get, length, sym, ap, subst, ◌∙◌, inl, inr, arith}
use Rattle.std.proofs.lemmas.Bool.{cases_eq}
use Rattle.std.proofs.lemmas.Option.{same_Some, slice_get_within}
use Rattle.hs_layout.specs.Layouts.{field_bytes}
use Rattle.hs_run.specs.Pieces.{IsPart, IsSound}
use Rattle.hs_run.proofs.LayoutLemmas.{field-wide, starts-count}
use Rattle.hs_run.proofs.checking.part_fault.Goals as goal

pub piece-requires-clause-there : goal.piece-requires-clause-there
piece-requires-clause-there c =
    omega (arith, slice_get_within c.args.program.now.roles c.loop-k.k c.role_at.result.now c.role_at.ensures.is, starts-count c.args.program.now c.args.layout.now c.requires.layout)

pub is_part-requires : goal.is_part-requires
is_part-requires c =
    let wide = ap length c.piece.ensures ∙ field-wide c.args.program.now c.args.layout.now c.requires.layout c.args.region.now c.loop-k.k c.role_at.result.now c.requires.sized c.role_at.ensures.is in
    record {
      sound = subst (IsSound c.args.program.now c.role_at.result.now) (sym wide) (c.requires.runs.roles c.loop-k.k c.role_at.result.now c.role_at.ensures.is);
    }

pub loop-k-preserved : goal.loop-k-preserved
loop-k-preserved c j r low high role =
    let program = c.args.program.now in
    let l = c.args.layout.now in
    elim (cases_eq j c.loop-k.k) [
      | inl same ↦
          let one = same_Some c.role_at.result.now r (sym c.role_at.ensures.is ∙ (ap (slice_get program.roles) (sym same) ∙ role)) in
          subst (λ n. IsPart c.args.program.now r (field_bytes l c.args.region.now n) c.args.at) (sym same)
          (subst (λ bytes. IsPart c.args.program.now r bytes c.args.at) c.piece.ensures
          (subst (λ q. IsPart c.args.program.now q c.piece.result.now c.args.at) one (c.is_part.ensures.0 c.if-not-is_part.false)))
      | inr apart ↦ c.loop-k.invariant j r low (omega (arith, high, apart)) role
    ]

pub place-requires : goal.place-requires
place-requires c = record {
  there = omega (arith, slice_get_within c.args.program.now.roles c.loop-k.k c.role_at.result.now c.role_at.ensures.is, starts-count c.args.program.now c.args.layout.now c.requires.layout);
}

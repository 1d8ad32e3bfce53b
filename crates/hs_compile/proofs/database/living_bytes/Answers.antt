use Rattle.std.proofs.Common.{◌≡◌, Some, length, refl, sym, subst, ◌∙◌, arith}
use Rattle.std.specs.Prelude.{slice_get}
use Rattle.std.proofs.lemmas.Option.{same_Some, slice_get_read}
use Rattle.hs_nodes.specs.Lone.{AreLiving, IsClearBehindOthers}
use Rattle.hs_rose.specs.PieceEngines.{piece_meaning}
use Rattle.hs_compile.proofs.LivingLemmas.{living-more, living-none}
use Rattle.hs_compile.proofs.database.living_bytes.Goals as goal

pub loop-k-init : goal.loop-k-init
loop-k-init c = (
  omega (arith, c.new-sets.ensures.len),
  subst (λ xs. AreLiving piece_meaning c.args.engines.now xs) (sym c.new-sets.ensures.items) (living-none piece_meaning c.args.engines.now),
)

pub loop-k-preserved : goal.loop-k-preserved
loop-k-preserved c =
    let engines = c.args.engines.now in
    let own : slice_get engines c.loop-k.k ≡ Some c.index-engines-k.result =
    slice_get_read engines (length engines) c.loop-k.k c.index-engines-k.result refl (omega arith) c.index-engines-k.is in (
      omega (arith, c.in_ok-push.ensures.len, c.loop-k.invariant.0),
      subst (λ xs. AreLiving piece_meaning engines xs) (sym c.in_ok-push.ensures.items)
          (living-more piece_meaning engines c.loop-k.sets.items c.living_bytes.result c.loop-k.invariant.1
          (λ e at. subst (λ x. IsClearBehindOthers (piece_meaning x) c.living_bytes.result) (same_Some c.index-engines-k.result e (sym own ∙ (subst (λ n. slice_get engines n ≡ Some e) c.loop-k.invariant.0 at))) c.living_bytes.ensures)),
    )

use Rattle.std.proofs.Common.{ℕ, ap, map, ◌∙◌, refl}
use Rattle.std.proofs.lemmas.Simd.{map-map, zip2_splat, zip2_of_maps, splat_is_map}
use Rattle.hs_base.specs.declared.context.Next.TheVariants as after
use Rattle.hs_bits.proofs.ClassLaneLemmas.{lane-class}
use Rattle.hs_bits.proofs.contexts.Classes.of_lanes.Goals as goal

pub returns : goal.returns
returns c =
    let v = c.args.lanes in
    let long = c.fits-lanes.0 in
    let fits = c.fits-lanes.1 in
    let letters = zip2_of_maps _ _ _ v (zip2_of_maps _ _ _ v (zip2_splat {Y = ℕ} _ v 16 _ long) (splat_is_map v 16 _ long)) (splat_is_map v 16 _ long) in
    let digits = zip2_of_maps _ _ _ v (zip2_splat {Y = ℕ} _ v 16 _ long) (splat_is_map v 16 _ long) in
    let words = zip2_of_maps _ _ _ v (zip2_of_maps _ _ _ v letters digits) (zip2_splat {Y = ℕ} _ v 16 _ long) in
    let newlines = zip2_splat {Y = ℕ} _ v 16 _ long in
    record {
      words = lane-class after.Word v _ _ long fits words refl;
      newlines = lane-class after.Newline v _ _ long fits newlines refl;
      others = lane-class after.Other v _ _ long fits (ap (map _) (zip2_of_maps _ _ _ v words newlines) ∙ map-map _ _ v) refl;
    }

use Rattle.std.proofs.Common.{◌||◌, sym, ap, subst, ◌∙◌}
use Rattle.regex_class.specs.Ranges.{in_ranges, in_image, KeysRise}
use Rattle.hs_utf8.proofs.FoldLemmas.{rising_pairs, are_folds}
use Rattle.hs_utf8.proofs.folding.folds.Goals as goal

pub append_image-requires : goal.append_image-requires
append_image-requires c = subst KeysRise (sym c.fold_pairs.ensures.table) rising_pairs

pub returns : goal.returns
returns c =
    let copied = c.in_ok-all.ensures.items ∙ c.deref.ensures.value in
    are_folds c.in_ok-members.members.ranges.items c.args.ranges.now c.append_image.new.out.items
    c.in_ok-ranges.field-0.ranges.items c.fold_pairs.result.now c.in_ok-members.members.canonical c.in_ok-ranges.field-0.canonical
    c.in_ok-members.ensures
    (λ x. c.in_ok-append_image.ensures.members x ∙ ap (λ l. in_ranges l x || in_image c.fold_pairs.result.now c.in_ok-members.members.ranges.items x) copied)
    c.in_ok-ranges.ensures c.fold_pairs.ensures.meaning

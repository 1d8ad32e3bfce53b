use Rattle.std.proofs.Common.{◌++◌, ◌+◌, ◌∙◌, length, sym, subst}
use Rattle.hs_confirm.specs.Filed.{literals_of, buckets_of}
use Rattle.hs_confirm.specs.PlaceEnds.{ArePlaceEnds}
use Rattle.hs_confirm.proofs.HeadLemmas.{left_behind-empty}
use Rattle.hs_confirm.proofs.place_ends.PlaceEnds.new.Goals as goal

pub returns : goal.returns
returns c =
    let confirm = c.args.confirm.now in
    let text = c.args.history.now ++ c.args.bytes.now in
    let offset = length c.args.history.now + c.args.at in
    subst (λ numbers. ArePlaceEnds (literals_of confirm) (buckets_of confirm) c.args.mask text offset numbers)
    (sym (left_behind-empty confirm.widths confirm.entries.items text offset c.len.result confirm.keyed (c.len.ensures ∙ confirm.entries.ok.0))) c.in_default.ensures

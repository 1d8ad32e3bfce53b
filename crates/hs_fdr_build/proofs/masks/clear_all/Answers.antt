use Rattle.std.proofs.Common.{map, arith}
use Rattle.std.proofs.lemmas.List.{length-map}
use Rattle.std.proofs.lemmas.Option.{slice_get-get_or}
use Rattle.hs_base.specs.LiteralView.{literal_byte, literal_bytes}
use Rattle.hs_fdr_build.specs.MaskPlaces.{HasPlace}
use Rattle.hs_fdr_build.proofs.LiteralListLemmas.{literal-there, number-more, number-all}
use Rattle.hs_fdr_build.proofs.masks.clear_all.Goals as goal

pub loop-number-preserved : goal.loop-number-preserved
loop-number-preserved c =
    let literals = c.args.literals.now in
    let buckets = c.args.buckets.now in
    let n = c.loop-number.number in
    let items = c.as_slice.result.now in
    number-more (HasPlace c.args.width) (map literal_bytes literals) buckets n _ (map literal_byte items) _ _ _
    (literal-there literals n c.index-literals-number.result _ items (omega arith) c.index-literals-number.is c.as_slice.ensures.value)
    (slice_get-get_or buckets n 0 (omega arith)) c.loop-number.invariant c.clear_literal.ensures

pub returns : goal.returns
returns c =
    let literals = c.args.literals.now in
    number-all (HasPlace c.args.width) (map literal_bytes literals) c.args.buckets.now c.loop-number.number _ _ (omega (arith, length-map literals literal_bytes)) c.loop-number.invariant

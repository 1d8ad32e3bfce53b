use Rattle.std.proofs.Common.{◌-◌, map, arith}
use Rattle.std.proofs.lemmas.List.{length-map}
use Rattle.hs_base.specs.LiteralView.{literal_byte}
use Rattle.hs_fdr_build.proofs.PlaceLemmas.{stands, places-none, places-last, places-inner}
use Rattle.hs_fdr_build.proofs.masks.clear_place.Goals as goal

pub returns-then-j-literal : goal.returns-then-j-literal
returns-then-j-literal c = places-none c.args.width c.args.j c.args.bucket (map literal_byte c.args.literal.now) _ (omega (arith, length-map c.args.literal.now literal_byte))

pub returns-then-j-eq0 : goal.returns-then-j-eq0
returns-then-j-eq0 c =
    let literal = c.args.literal.now in
    let x = c.index-literal-last.result in
    places-last c.args.width c.args.j c.args.bucket (map literal_byte literal) (literal_byte x) c.requires.width.0 c.requires.width.1 (omega (arith, length-map literal literal_byte))
    (stands literal x _ _ c.args.j c.if-j-literal.false (omega arith) c.index-literal-last.is) _ _ c.if-j-eq0.true c.clear_last.ensures

pub returns-else-j-eq0 : goal.returns-else-j-eq0
returns-else-j-eq0 c =
    let literal = c.args.literal.now in
    let x = c.index-literal-last.result in
    let y = c.index-literal-last-else-j-eq0.result in
    places-inner c.args.width c.args.j c.args.bucket (map literal_byte literal) (literal_byte x) c.requires.width.0 c.requires.width.1 (omega (arith, length-map literal literal_byte))
    (stands literal x _ _ c.args.j c.if-j-literal.false (omega arith) c.index-literal-last.is)
    (literal_byte y) c.first_place.result _ _ (omega arith) (stands literal y _ _ (c.args.j - 1) (omega arith) (omega arith) c.index-literal-last-else-j-eq0.is) c.first_place.ensures.value c.clear_inner.ensures

use Rattle.std.proofs.Common.{◌≡◌, get_or, length, Some, slice_get, ap, ◌∙◌, arith, take}
use Rattle.std.proofs.lemmas.List.{length-take-le, take_all}
use Rattle.std.proofs.lemmas.Option.{slice_get-get_or}
use Rattle.hs_rose.specs.declared.identifiers.Identifier.{Identifier}
use Rattle.hs_rose.specs.Identifiers.{singles_of}
use Rattle.hs_compile.proofs.LayingLemmas.{no_identifier, singles-few, singles-next}
use Rattle.hs_compile.proofs.laying.count_singles.Goals as goal

pub count_with-count-requires : goal.count_with-count-requires
count_with-count-requires c =
    let few = singles-few (take c.loop-i.i c.args.identifiers.now) in
    let short = length-take-le c.loop-i.i c.args.identifiers.now (omega (arith, c.loop-i-test.true)) in
    record { room = omega (arith, few, short, c.loop-i.invariant, c.loop-i-test.true) }

pub loop-i-preserved : goal.loop-i-preserved
loop-i-preserved c =
    let xs = c.args.identifiers.now in
    let x : Identifier = get_or xs c.loop-i.i no_identifier in
    let at : slice_get xs c.loop-i.i ≡ Some x = slice_get-get_or xs c.loop-i.i no_identifier c.loop-i-test.true in
    omega (arith, c.count_with-count.ensures, c.loop-i.invariant, singles-next xs c.loop-i.i x at)

pub returns : goal.returns
returns c =
    let whole = take_all c.loop-i.i c.args.identifiers.now (omega (arith, c.loop-i-test.false)) in
    c.loop-i.invariant ∙ ap (λ xs. length (singles_of xs)) whole

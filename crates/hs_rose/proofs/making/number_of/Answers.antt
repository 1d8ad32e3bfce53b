use Rattle.std.proofs.Common.{List, ap, length, map, arith}
use Rattle.std.proofs.lemmas.List.{length-map}
use Rattle.std.proofs.lemmas.Option.{slice_get_within}
use Rattle.hs_pieces.specs.Meaning.{plain_piece}
use Rattle.hs_rose.specs.declared.making.Made.{Made}
use Rattle.hs_rose.specs.Made.{model_of}
use Rattle.hs_rose.proofs.making.number_of.Goals as goal

pub returns-in-Some-clause-below : goal.returns-in-Some-clause-below
returns-in-Some-clause-below c =
    let made = c.deref.result.now in
    let within = slice_get_within (map model_of made) c.in-Some.number (plain_piece c.args.piece.now) c.in-Some.ensures in
    let long = ap (λ (ms : List Made). length ms) c.deref.ensures.value in
    omega (arith, within, long, length-map made model_of, c.args.made.now.ok.0)

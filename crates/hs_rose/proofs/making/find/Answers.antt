use Rattle.std.proofs.Common.{◌≡◌, Some, slice_get, sym, ◌∙◌, arith}
use Rattle.std.proofs.lemmas.Bool.{false≢true}
use Rattle.hs_pieces.specs.Meaning.{plain_piece}
use Rattle.hs_rose.specs.Made.{IsMarked, model_of}
use Rattle.hs_rose.proofs.ListLemmas.{each-get, none-more_at, none-new, read-get}
use Rattle.hs_rose.proofs.making.find.Goals as goal

pub loop-number-preserved : goal.loop-number-preserved
loop-number-preserved c marked =
    let all = c.args.made.now in
    let n = c.loop-number.number in
    let other = c.index-made-number.result in
    let at : slice_get all n ≡ Some other = read-get all n other (omega arith) c.index-made-number.is in
    none-more_at model_of all n other (plain_piece c.args.piece.now) at
    (λ e. false≢true (sym c.if-is_of.false ∙ c.is_of.ensures.all (each-get IsMarked all marked n other at) e)) (c.loop-number.invariant marked)

pub returns : goal.returns
returns c marked = none-new model_of c.args.made.now c.loop-number.number (plain_piece c.args.piece.now) (omega arith) (c.loop-number.invariant marked)

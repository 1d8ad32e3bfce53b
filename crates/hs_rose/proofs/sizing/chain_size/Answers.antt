use Rattle.std.proofs.Common.{◌≡◌, Some, slice_get, subst, arith}
use Rattle.std.proofs.lemmas.List.{length-map}
use Rattle.hs_base.specs.Regions.{place_size}
use Rattle.hs_pieces.specs.Meaning.{plain_chain, plain_piece}
use Rattle.hs_rose.specs.Plans.{place_with}
use Rattle.hs_rose.specs.Runnable.{IsRunnable}
use Rattle.hs_rose.proofs.ListLemmas.{each-get, get-map, read-get}
use Rattle.hs_rose.proofs.SizeLemmas.{piece-counted, pieces-counted}
use Rattle.hs_rose.proofs.sizing.chain_size.Goals as goal

pub field_size-size-requires : goal.field_size-size-requires
field_size-size-requires c =
    let items = c.args.chain.now.0.items in
    let k = c.loop-before.before in
    let at : slice_get items k ≡ Some c.index.result.now = read-get items k c.index.result.now (omega (arith, c.len-before-end.ensures, c.args.chain.now.0.ok.0, c.loop-before-test.true)) c.index.ensures in
    record { runnable = each-get IsRunnable (plain_chain c.args.chain.now) c.requires.runnable.pieces k (plain_piece c.index.result.now) (get-map plain_piece items k c.index.result.now at) }

pub loop-before-preserved : goal.loop-before-preserved
loop-before-preserved c =
    let items = c.args.chain.now.0.items in
    let k = c.loop-before.before in
    let piece = c.index.result.now in
    let at : slice_get items k ≡ Some piece = read-get items k piece (omega (arith, c.len-before-end.ensures, c.args.chain.now.0.ok.0, c.loop-before-test.true)) c.index.ensures in (
      piece-counted (plain_chain c.args.chain.now) k c.loop-before.size c.field_size-size.result (plain_piece piece) (get-map plain_piece items k piece at)
          (λ pieces count. subst (λ b. c.field_size-size.result ≡ place_size (place_with b pieces (plain_piece piece))) c.begins_with_look_back-looks_back.ensures (c.field_size-size.ensures.is pieces count))
          c.loop-before.invariant.0,
      omega (arith, c.loop-before.invariant.1, c.field_size-size.ensures.small),
    )

pub returns : goal.returns
returns c =
    pieces-counted (plain_chain c.args.chain.now) c.loop-before.before c.loop-before.size
    (omega (arith, c.len-before-end.ensures, c.args.chain.now.0.ok.0, c.loop-before-test.false, c.loop-before.auto.before-end, length-map c.args.chain.now.0.items plain_piece))
    c.loop-before.invariant.0

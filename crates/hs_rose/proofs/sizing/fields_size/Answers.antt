use Rattle.std.proofs.Common.{◌≡◌, ◌+◌, Some, map, slice_get, arith}
use Rattle.hs_pieces.specs.Meaning.{plain_chain}
use Rattle.hs_rose.specs.Runnable.{IsRunnableChain}
use Rattle.hs_rose.proofs.ListLemmas.{each-get, get-map, read-get}
use Rattle.hs_rose.proofs.SizeLemmas.{chain-counted, part-counted}
use Rattle.hs_rose.proofs.sizing.fields_size.Goals as goal

pub chain_size-requires : goal.chain_size-requires
chain_size-requires c =
    let at : slice_get c.args.chains.now c.loop-k.k ≡ Some c.index-chains-k.result = read-get c.args.chains.now c.loop-k.k c.index-chains-k.result c.loop-k-test.true c.index-chains-k.is in
    record { runnable = each-get IsRunnableChain (map plain_chain c.args.chains.now) c.requires.runnable c.loop-k.k (plain_chain c.index-chains-k.result) (get-map plain_chain c.args.chains.now c.loop-k.k c.index-chains-k.result at) }

pub returns-in_default : goal.returns-in_default
returns-in_default c =
    let at : slice_get c.args.chains.now c.loop-k.k ≡ Some c.index-chains-k.result = read-get c.args.chains.now c.loop-k.k c.index-chains-k.result c.loop-k-test.true c.index-chains-k.is in
    let more = chain-counted (map plain_chain c.args.chains.now) c.loop-k.k c.loop-k.size c.chain_size.result (plain_chain c.index-chains-k.result) (get-map plain_chain c.args.chains.now c.loop-k.k c.index-chains-k.result at) c.chain_size.ensures c.loop-k.invariant in
    let part = part-counted (map plain_chain c.args.chains.now) (c.loop-k.k + 1) (c.loop-k.size + c.chain_size.result) more in
    omega (arith, c.in_default.ensures, part)

pub loop-k-preserved : goal.loop-k-preserved
loop-k-preserved c =
    let at : slice_get c.args.chains.now c.loop-k.k ≡ Some c.index-chains-k.result = read-get c.args.chains.now c.loop-k.k c.index-chains-k.result c.loop-k-test.true c.index-chains-k.is in
    let more = chain-counted (map plain_chain c.args.chains.now) c.loop-k.k c.loop-k.size c.chain_size.result (plain_chain c.index-chains-k.result) (get-map plain_chain c.args.chains.now c.loop-k.k c.index-chains-k.result at) c.chain_size.ensures c.loop-k.invariant in
    omega (arith, c.in-Some.ensures, more)

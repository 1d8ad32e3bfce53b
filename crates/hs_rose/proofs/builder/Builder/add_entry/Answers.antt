use Rattle.std.proofs.Common.{◌≡◌, ◌+◌, ◌++◌, map, take, refl, arith}
use Rattle.std.proofs.lemmas.List.{length-map}
use Rattle.hs_pieces.specs.Meaning.{plain_chain}
use Rattle.hs_rose.specs.Listing.{asked_of, chains_from}
use Rattle.hs_rose.specs.Runnable.{IsRunnableChain}
use Rattle.hs_rose.proofs.BuildLemmas.{chain_at, entry-built, entry-step}
use Rattle.hs_rose.proofs.ListLemmas.{each-get, get-map, read-get}
use Rattle.hs_rose.proofs.builder.Builder.add_entry.Goals as goal

pub add_chain-requires : goal.add_chain-requires
add_chain-requires c =
    let k = c.loop-k.k in
    let item = c.index-chains-k.result in
    each-get IsRunnableChain (map plain_chain c.args.chains.now) c.requires.each k (plain_chain item) (get-map plain_chain c.args.chains.now k item (read-get c.args.chains.now k item (omega arith) c.index-chains-k.is))

pub loop-k-preserved : goal.loop-k-preserved
loop-k-preserved c before built =
    let k = c.loop-k.k in
    let item = c.index-chains-k.result in
    let asked = asked_of c.args.entry.now in
    let cs = map plain_chain c.args.chains.now in
    let number : k + 1 ≡ 1 + k = omega arith in
    entry-step c.add_chain.new.self before c.args.number asked cs k (plain_chain item) (get-map plain_chain c.args.chains.now k item (read-get c.args.chains.now k item (omega arith) c.index-chains-k.is))
    (c.in_ok-add_chain.ensures (before ++ take k (chains_from c.args.number 1 asked cs)) (chain_at c.args.number (1 + k) asked (plain_chain item))
    (record { entry = refl; chain = number; id = refl; least = refl; greatest = refl; looks_back = c.begins_with_look_back.ensures }) refl (c.loop-k.invariant before built))

pub returns : goal.returns
returns c before built =
    entry-built c.loop-k.self before c.args.number (asked_of c.args.entry.now) (map plain_chain c.args.chains.now) c.loop-k.k (omega (arith, length-map c.args.chains.now plain_chain)) (c.loop-k.invariant before built)

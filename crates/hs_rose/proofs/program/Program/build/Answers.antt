use Rattle.std.proofs.Common.{◌+◌, ◌++◌, List, [], map, take, sym, subst, arith}
use Rattle.std.proofs.lemmas.List.{length-map}
use Rattle.hs_base.specs.Chains.{Piece}
use Rattle.hs_base.specs.Lists.{Each}
use Rattle.hs_pieces.specs.declared.piece.Chain.{Chain}
use Rattle.hs_pieces.specs.Meaning.{plain_chain}
use Rattle.hs_rose.specs.Building.{IsBuilt}
use Rattle.hs_rose.specs.Listing.{asked_of, chains_from, listed_chains, listed_from, plain_chains}
use Rattle.hs_rose.specs.Programs.{IsProgramOf, Tables}
use Rattle.hs_rose.specs.Runnable.{AreRunnable}
use Rattle.hs_rose.proofs.BuildLemmas.{list-built, list-step}
use Rattle.hs_rose.proofs.FinishLemmas.{built-numbered, ok-each}
use Rattle.hs_rose.proofs.ListLemmas.{each-get, get-map, read-get}
use Rattle.hs_rose.proofs.program.Program.build.Goals as goal

pub add_entry-requires : goal.add_entry-requires
add_entry-requires c =
    let k = c.loop-k.k in
    let own = c.index-chains-k.result in
    subst (λ (cs : List Chain). AreRunnable (map plain_chain cs)) (sym c.deref.ensures.value)
    (each-get AreRunnable (map plain_chains c.args.chains.now) c.requires.runnable k (plain_chains own) (get-map plain_chains c.args.chains.now k own (read-get c.args.chains.now k own (omega (arith, c.requires.whole)) c.index-chains-k.is)))

pub loop-k-preserved : goal.loop-k-preserved
loop-k-preserved c =
    let k = c.loop-k.k in
    let own = c.index-chains-k.result in
    let es = map asked_of c.args.entries.now in
    let css = map plain_chains c.args.chains.now in
    list-step c.add_entry.new.self es css k _ (asked_of c.index-entries-k.result) (plain_chains own) (omega (arith, length-map c.args.entries.now asked_of)) (omega (arith, length-map c.args.entries.now asked_of, length-map c.args.chains.now plain_chains, c.requires.whole))
    (get-map asked_of c.args.entries.now k c.index-entries-k.result (read-get c.args.entries.now k c.index-entries-k.result (omega arith) c.index-entries-k.is))
    (get-map plain_chains c.args.chains.now k own (read-get c.args.chains.now k own (omega (arith, c.requires.whole)) c.index-chains-k.is)) (omega arith)
    (subst (λ (cs : List Chain). IsBuilt c.add_entry.new.self (listed_from 1 (take k es) (take k css) ++ chains_from (k + 1) 1 (asked_of c.index-entries-k.result) (map plain_chain cs)) []) c.deref.ensures.value
    (c.in_ok-add_entry.ensures (listed_from 1 (take k es) (take k css)) c.loop-k.invariant))

pub finish-requires-clause-numbered : goal.finish-requires-clause-numbered
finish-requires-clause-numbered c =
    let es = map asked_of c.args.entries.now in
    let css = map plain_chains c.args.chains.now in
    built-numbered c.loop-k.builder (listed_chains es css)
    (list-built c.loop-k.builder es css c.loop-k.k (omega (arith, length-map c.args.entries.now asked_of)) (omega (arith, length-map c.args.entries.now asked_of, length-map c.args.chains.now plain_chains, c.requires.whole)) c.loop-k.invariant)

pub returns : goal.returns
returns c =
    let es = map asked_of c.args.entries.now in
    let css = map plain_chains c.args.chains.now in
    ok-each (λ (program : Tables). (chains : List (List (List Piece))) → Each AreRunnable chains → IsBuilt c.loop-k.builder (listed_chains es chains) [] → IsProgramOf program es chains) (λ (program : Tables). IsProgramOf program es css) c.finish.result
    (λ program is. is css c.requires.runnable
    (list-built c.loop-k.builder es css c.loop-k.k (omega (arith, length-map c.args.entries.now asked_of)) (omega (arith, length-map c.args.entries.now asked_of, length-map c.args.chains.now plain_chains, c.requires.whole)) c.loop-k.invariant))
    c.finish.ensures

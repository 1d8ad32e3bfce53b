use Rattle.std.proofs.Common.{List, [], length, map, sym, ap, subst, ◌∙◌, arith}
use Rattle.std.specs.List.{AllZip}
use Rattle.std.specs.List.Sorted.{IsStrictlyIncreasing}
use Rattle.std.proofs.lemmas.List.{length-map}
use Rattle.hs_base.specs.Chains.{Piece}
use Rattle.hs_base.specs.Lists.{Each}
use Rattle.hs_rose.specs.Building.{IsBuilt}
use Rattle.hs_rose.specs.Finishing.{IsFinished}
use Rattle.hs_rose.specs.Identifiers.{AreIdentifiersFor, has_id}
use Rattle.hs_rose.specs.Listing.{asked_of, listed_chains}
use Rattle.hs_rose.specs.Programs.{IsInfoOf, IsProgramOf, Tables}
use Rattle.hs_rose.specs.Runnable.{AreRunnable}
use Rattle.hs_rose.proofs.FinishLemmas.{ok-each, program-built}
use Rattle.hs_rose.proofs.IdentifierLemmas.{identifiers-of}
use Rattle.hs_rose.proofs.builder.Builder.finish.Goals as goal

pub infos_of-requires-clause-rises : goal.infos_of-requires-clause-rises
infos_of-requires-clause-rises c = subst IsStrictlyIncreasing (sym c.deref.ensures.value) c.in_ok-ids.ensures.rises

pub infos_of-requires-clause-few : goal.infos_of-requires-clause-few
infos_of-requires-clause-few c = omega (arith, ap length c.deref.ensures.value, c.in_ok-ids.ensures.few, c.requires.few)

pub infos_of-requires-clause-known : goal.infos_of-requires-clause-known
infos_of-requires-clause-known c id = ap (λ ids. has_id ids id) c.deref.ensures.value ∙ c.in_ok-ids.ensures.same id

pub returns : goal.returns
returns c =
    let es = map asked_of c.args.entries.now in
    let made : AreIdentifiersFor c.in_ok-ids.ids.items es c.in_ok-identifiers.identifiers.items = subst (λ ids. AreIdentifiersFor ids es c.in_ok-identifiers.identifiers.items) c.deref-2.ensures.value c.in_ok-identifiers.ensures in
    ok-each (IsFinished c.in_ok-infos.infos.items c.in_ok-identifiers.identifiers.items c.args.self)
    (λ (program : Tables). (chains : List (List (List Piece))) → Each AreRunnable chains → IsBuilt c.args.self (listed_chains es chains) [] → IsProgramOf program es chains) c.finished.result
    (λ program is chains runnable built. program-built c.args.self c.in_ok-infos.infos.items c.in_ok-identifiers.identifiers.items program es chains built
    (subst (λ ids. AllZip (IsInfoOf ids) c.in_ok-infos.infos.items es) (c.deref.ensures.value ∙ sym made.ids_are) c.in_ok-infos.ensures)
    (identifiers-of c.args.entries.now c.in_ok-ids.ids.items c.in_ok-identifiers.identifiers.items c.in_ok-ids.ensures.rises c.in_ok-ids.ensures.same c.in_ok-ids.ensures.few made) (omega (arith, c.requires.few, length-map c.args.entries.now asked_of)) runnable is)
    c.finished.ensures

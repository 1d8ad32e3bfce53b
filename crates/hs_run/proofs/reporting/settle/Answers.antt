use Rattle.std.proofs.Common.{◌≡◌, ℕ, ◌<◌, length, get_or, set, Some, slice_get, sym, ap, ◌∙◌, inl, inr, arith}
use Rattle.std.proofs.lemmas.Bool.{cases_eq}
use Rattle.std.proofs.lemmas.Option.{same_Some, slice_get-get_or, slice_get_within}
use Rattle.std.proofs.lemmas.List.{length-set}
use Rattle.hs_base.specs.Settling.{settled}
use Rattle.hs_rose.specs.declared.identifiers.Identifier.{Identifier}
use Rattle.hs_run.specs.declared.ends.Ends.{Ends as EndsAbout}
use Rattle.hs_run.specs.declared.kept.Kept.{Kept as KeptOf}
use Rattle.hs_run.specs.Ends.{ends_of, no_ends}
use Rattle.hs_run.specs.Keeping.{plain_kept}
use Rattle.hs_run.proofs.RowLemmas.{set-same, set-other}
use Rattle.hs_run.proofs.ReportingLemmas.{no_identifier, nothing}
use Rattle.hs_run.proofs.reporting.settle.Goals as goal

pub loop-i-preserved : goal.loop-i-preserved
loop-i-preserved c =
    let i : ℕ = c.loop-i.i in
    let inv = c.loop-i.invariant in
    let x : Identifier = get_or c.args.identifiers.now i no_identifier in
    let old : KeptOf = get_or c.loop-i.kept i nothing in
    let e : EndsAbout = get_or c.args.ends.now i no_ends in
    let is_x : slice_get c.args.identifiers.now i ≡ Some x = slice_get-get_or c.args.identifiers.now i no_identifier c.loop-i-test.true in
    let is_old : slice_get c.loop-i.kept i ≡ Some old = slice_get-get_or c.loop-i.kept i nothing (omega (arith, inv.len, c.requires.kept, c.loop-i-test.true)) in
    let is_e : slice_get c.args.ends.now i ≡ Some e = slice_get-get_or c.args.ends.now i no_ends (omega (arith, c.requires.ends, c.loop-i-test.true)) in
    record {
      len = length-set c.loop-i.kept i c.settled.result ∙ inv.len;
      later = λ j above. set-other c.loop-i.kept j i c.settled.result (λ same. let s : j ≡ i = same in omega arith) ∙ inv.later j (omega arith);
      settled = λ j identifier k k' f below at at' at'' at'''.
          elim (cases_eq j i) [
            | inl same ↦
                let p : x ≡ identifier = same_Some x identifier (sym is_x ∙ (ap (slice_get c.args.identifiers.now) (sym same) ∙ at)) in
                let q : old ≡ k = same_Some old k (sym is_old ∙ (inv.later i (omega arith) ∙ (ap (slice_get c.args.kept.now) (sym same) ∙ at'))) in
                let r : e ≡ f = same_Some e f (sym is_e ∙ (ap (slice_get c.args.ends.now) (sym same) ∙ at'')) in
                let s : c.settled.result ≡ k' = same_Some c.settled.result k' (sym (set-same c.loop-i.kept i old c.settled.result is_old) ∙ (ap (slice_get (set c.loop-i.kept i c.settled.result)) (sym same) ∙ at''')) in
                ap plain_kept (sym s)
                ∙ (c.settled.ensures
                ∙ (ap (λ y. settled y.single (plain_kept old) (ends_of e)) p
                ∙ (ap (λ y. settled identifier.single (plain_kept y) (ends_of e)) q ∙ ap (λ y. settled identifier.single (plain_kept k) (ends_of y)) r)))
            | inr apart ↦ inv.settled j identifier k k' f (omega arith) at at' at'' (sym (set-other c.loop-i.kept j i c.settled.result apart) ∙ at''')
          ];
    }

pub returns-clause-settled : goal.returns-clause-settled
returns-clause-settled c j identifier k k' f at at' at'' at''' =
    let below : j < length c.args.identifiers.now = slice_get_within c.args.identifiers.now j identifier at in
    c.loop-i.invariant.settled j identifier k k' f (omega arith) at at' at'' at'''

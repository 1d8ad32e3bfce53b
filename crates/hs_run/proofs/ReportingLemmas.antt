-- One go over the identifiers: the values that tell what is reported.
use Rattle.std.proofs.Common.{◌≡◌, ◌↔◌, ℕ, zero, suc, ◌+◌, ◌<◌, Bool, true, false, List, [], ◌∷◌, ◌++◌, length, take, Some, slice_get, sym, ap, subst, ◌∙◌, arith}
use Rattle.std.proofs.lemmas.List.{length-map}
use Rattle.std.specs.Prelude.{option_map}
use Rattle.std.proofs.lemmas.Option.{same_Some, slice_get-map, slice_get_within}
use Rattle.hs_base.specs.Settling.{pairs_told}
use Rattle.hs_base.proofs.PairListLemmas.{one_told, pairs-next, Tell}
use Rattle.hs_rose.specs.declared.identifiers.Identifier.{Identifier}
use Rattle.hs_rose.specs.Identifiers.{ids_of}
use Rattle.hs_run.specs.declared.ends.Ends.{Ends as EndsAbout}
use Rattle.hs_run.specs.declared.reporting.Moment.{Moment}
use Rattle.hs_run.specs.declared.kept.Kept.{Kept as KeptOf}
use Rattle.hs_run.specs.Ends.{ends_of}
use Rattle.hs_run.specs.Keeping.{plain_kept}
use Rattle.hs_reports.specs.Events.{Through}
use Rattle.hs_run.specs.Reporting.{tells, told_values, pairs_at}
use Rattle.hs_run.proofs.LayoutLemmas.{there}

-- what stands beyond a list, in the goals of a loop over it
abbrev pub no_identifier : Identifier
no_identifier = record { id = record { 0 = 0 }; single = false }

abbrev pub nothing : KeptOf
nothing = record { told = false; here = false; last = false }

pub id-at : (identifiers : List Identifier) (i : ℕ) (x : Identifier) → slice_get identifiers i ≡ Some x → slice_get (ids_of identifiers) i ≡ Some x.id.0
id-at identifiers i x at = slice_get-map (λ y. y.id.0) identifiers i ∙ ap (option_map (λ y. y.id.0)) at

pub value-at : (moment : Moment) (xs : List Identifier) (ks : List KeptOf) (es : List EndsAbout) (i : ℕ) (x : Identifier) (k : KeptOf) (e : EndsAbout) →
    slice_get xs i ≡ Some x → slice_get ks i ≡ Some k → slice_get es i ≡ Some e → slice_get (told_values moment xs ks es) i ≡ Some (tells moment x.single (plain_kept k) (ends_of e))
value-at moment [] ks es i x k e at at' at'' = absurd (cc)
value-at moment (y ∷ xs) [] es i x k e at at' at'' = absurd (cc)
value-at moment (y ∷ xs) (l ∷ ks) [] i x k e at at' at'' = absurd (cc)
value-at moment (y ∷ xs) (l ∷ ks) (f ∷ es) zero x k e at at' at'' =
    let p : y ≡ x = same_Some y x at in
    let q : l ≡ k = same_Some l k at' in
    let r : f ≡ e = same_Some f e at'' in
    ap (λ z. Some (tells moment z.single (plain_kept l) (ends_of f))) p
    ∙ (ap (λ z. Some (tells moment x.single (plain_kept z) (ends_of f))) q ∙ ap (λ z. Some (tells moment x.single (plain_kept k) (ends_of z))) r)
value-at moment (y ∷ xs) (l ∷ ks) (f ∷ es) (suc i) x k e at at' at'' = value-at moment xs ks es i x k e at at' at''

pub pairs-more : (moment : Moment) (xs : List Identifier) (ks : List KeptOf) (es : List EndsAbout) (to i : ℕ) (x : Identifier) (k : KeptOf) (e : EndsAbout) →
    slice_get xs i ≡ Some x → slice_get ks i ≡ Some k → slice_get es i ≡ Some e →
    pairs_told (take (i + 1) (ids_of xs)) (told_values moment xs ks es) to ≡ pairs_told (take i (ids_of xs)) (told_values moment xs ks es) to ++ one_told (tells moment x.single (plain_kept k) (ends_of e)) x.id.0 to
pairs-more moment xs ks es to i x k e at at' at'' =
    pairs-next (ids_of xs) (told_values moment xs ks es) to i x.id.0 (tells moment x.single (plain_kept k) (ends_of e)) (id-at xs i x at) (value-at moment xs ks es i x k e at at' at'')

-- values that tell a property of each identifier, where each does
pub tell-each : (moment : Moment) (xs : List Identifier) (ks : List KeptOf) (es : List EndsAbout) → length ks ≡ length xs → length es ≡ length xs → (Q : ℕ → Type 0) →
    ((i : ℕ) (x : Identifier) (k : KeptOf) (e : EndsAbout) → slice_get xs i ≡ Some x → slice_get ks i ≡ Some k → slice_get es i ≡ Some e →
    (tells moment x.single (plain_kept k) (ends_of e) ≡ true) ↔ Q x.id.0) → Tell (ids_of xs) (told_values moment xs ks es) Q
tell-each moment xs ks es kept ends Q tells-it = record {
  each = λ i id named.
      let below : i < length xs = within xs i id named in
      let (x, at) = there xs i below in
      let (k, at') = there ks i (omega arith) in
      let (e, at'') = there es i (omega arith) in
      let same : x.id.0 ≡ id = same_Some x.id.0 id (sym (id-at xs i x at) ∙ named) in
      let value : Bool = tells moment x.single (plain_kept k) (ends_of e) in
      let is : slice_get (told_values moment xs ks es) i ≡ Some value = value-at moment xs ks es i x k e at at' at'' in
      let it : (value ≡ true) ↔ Q x.id.0 = tells-it i x k e at at' at'' in (
        λ told. subst Q same (it.0 (same_Some value true (sym is ∙ told))),
        λ holds. is ∙ ap (λ v. Some v) (it.1 (subst Q (sym same) holds)),
      );
}
  where
    within : (ys : List Identifier) (i id : ℕ) → slice_get (ids_of ys) i ≡ Some id → i < length ys
    within ys i id named = omega (arith, slice_get_within (ids_of ys) i id named, length-map ys (λ y. y.id.0))

-- what was reported of lists that are the same
pub through-same : {V : Type 0} (Tells : V → ℕ → ℕ → V → Type 0) (start end : V) (moment : Moment) (xs xs' : List Identifier) (ks ks' : List KeptOf) (es es' : List EndsAbout) (to : ℕ) → xs ≡ xs' → ks ≡ ks' → es ≡ es' →
    Through Tells start (pairs_at moment xs ks es to) end → Through Tells start (pairs_at moment xs' ks' es' to) end
through-same Tells start end moment xs xs' ks ks' es es' to same same' same'' through =
    subst (λ v. Through Tells start (pairs_at moment v ks' es' to) end) same
    (subst (λ v. Through Tells start (pairs_at moment xs v es' to) end) same'
    (subst (λ v. Through Tells start (pairs_at moment xs ks v to) end) same'' through))

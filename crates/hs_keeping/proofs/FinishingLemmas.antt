-- Pairs that the end of a stream tells, identifier by identifier.
use Rattle.std.proofs.Common.{◌≡◌, ℕ, ◌+◌, ◌≤◌, Bool, List, length, take, Some, slice_get, sym, ap, subst, ◌∙◌, arith}
use Rattle.std.specs.Option.{option_map}
use Rattle.std.proofs.lemmas.List.{length-map}
use Rattle.std.proofs.lemmas.Option.{slice_get-map}
use Rattle.hs_base.specs.Settling.{pairs_told}
use Rattle.hs_base.proofs.PairListLemmas.{one_told, pairs-all, pairs-next_by, values_by}
use Rattle.hs_reports.specs.Chunks.{pairs_where}
use Rattle.hs_reports.specs.Events.{Through}
use Rattle.hs_reports.specs.Identifiers.{numbers_of}
use Rattle.hs_reports.specs.declared.identifier.Identifier.{Identifier}
use Rattle.hs_reports.proofs.EventLemmas.{through-join}

-- one identifier more
pub through-identifier : {V : Type 0} (Tells : V → ℕ → ℕ → V → Type 0) {start before now : V} (xs : List Identifier) (f : ℕ → Bool) (to k : ℕ) (x : Identifier) (value : Bool) → slice_get xs k ≡ Some x → value ≡ f k →
    Through Tells start (pairs_told (take k (numbers_of xs)) (values_by f (length (numbers_of xs))) to) before → Through Tells before (one_told value x.id.0 to) now → Through Tells start (pairs_told (take (k + 1) (numbers_of xs)) (values_by f (length (numbers_of xs))) to) now
through-identifier Tells {start} {before} {now} xs f to k x value named is told one =
    subst (λ ps. Through Tells start ps now)
    (sym (pairs-next_by (numbers_of xs) f to k x.id.0 (slice_get-map (λ (y : Identifier). y.id.0) xs k ∙ ap (option_map (λ (y : Identifier). y.id.0)) named)))
    (through-join Tells told (subst (λ v. Through Tells before (one_told v x.id.0 to) now) is one))

pub through-identifiers : {V : Type 0} (Tells : V → ℕ → ℕ → V → Type 0) {start now : V} (xs : List Identifier) (f : ℕ → Bool) (to k : ℕ) → length xs ≤ k →
    Through Tells start (pairs_told (take k (numbers_of xs)) (values_by f (length (numbers_of xs))) to) now → Through Tells start (pairs_where (numbers_of xs) f to) now
through-identifiers Tells {start} {now} xs f to k whole told =
    subst (λ ps. Through Tells start ps now) (pairs-all (numbers_of xs) (values_by f (length (numbers_of xs))) to k (omega (arith, whole, length-map xs (λ (x : Identifier). x.id.0)))) told

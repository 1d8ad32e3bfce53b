-- Lists of reports, one after the other.
use Rattle.std.proofs.Common.{◌≡◌, ℕ, Bool, true, false, List, [], ◌∷◌, ◌++◌, sym, subst, append_assoc}
use Rattle.std.proofs.lemmas.List.{append-nil}
use Rattle.hs_base.specs.Told.{Pair}
use Rattle.hs_base.proofs.PairListLemmas.{one_told}
use Rattle.hs_reports.specs.Events.{Through, still, onward}

module _ {V : Type 0} (Tells : V → ℕ → ℕ → V → Type 0) where
  pub through-one : (value : Bool) (id to : ℕ) (start end : V) → value ≡ true → Tells start id to end → Through Tells start (one_told value id to) end
  through-one value id to start end is tells =
      subst (λ v. Through Tells start (one_told v id to) end) (sym is) (onward (record { id = id; to = to }) still tells)

  pub through-no : (value : Bool) (id to : ℕ) (start : V) → value ≡ false → Through Tells start (one_told value id to) start
  through-no value id to start is = subst (λ v. Through Tells start (one_told v id to) start) (sym is) still

  pub through-join : {start between end : V} {xs ys : List Pair} → Through Tells start xs between → Through Tells between ys end → Through Tells start (xs ++ ys) end
  through-join {start} {between} {end} {xs} first still = subst (λ ps. Through Tells start ps between) (sym (append-nil xs)) first
  through-join {start} {between} {end} {xs} first (onward {pairs} p before tells) =
      subst (λ ps. Through Tells start ps end) (append_assoc xs pairs (p ∷ [])) (onward p (through-join first before) tells)

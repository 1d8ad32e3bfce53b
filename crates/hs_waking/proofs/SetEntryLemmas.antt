-- An engine of repeats of one set needs no entry before a byte outside of the set.
use Rattle.std.proofs.Common.{◌≡◌, ◌↔◌, ℕ, zero, suc, ◌+◌, ◌-◌, ◌<◌, ◌≤◌, Bool, true, false, List, [], ◌∷◌, ◌++◌, length, take, replicate, get_or, Some, slice_get, sym, ap, subst, ◌∙◌, inl, inr, arith}
use Rattle.std.specs.Prelude.{EachIndex, slice_index}
use Rattle.std.proofs.lemmas.Bool.{cases_lt}
use Rattle.std.proofs.lemmas.List.{get_or-append-add, get_or-take, take_all}
use Rattle.std.proofs.lemmas.List.FromFn.{length-map-range_with_len}
use Rattle.std.proofs.lemmas.Option.{slice_get-get_or, slice_get_within}
use Rattle.hs_base.specs.declared.byte_set.ByteSet.{ByteSet}
use Rattle.hs_base.specs.declared.context.Prev.{Prev}
use Rattle.hs_base.specs.ByteSets.{has, members}
use Rattle.hs_base.specs.RepeatRows.{IsUnbroken}
use Rattle.hs_base.specs.Spans.{IsByteOf}
use Rattle.hs_base.proofs.ByteSetLemmas.{members-at}
use Rattle.hs_bits.specs.BlockContexts.{prev_before}
use Rattle.hs_engine.specs.Engines.{Meaning}
use Rattle.hs_engine.proofs.AgreementLemmas.{get-append, get-seam}
use Rattle.hs_waking.proofs.EntryLemmas.{all-size, bytes-size, kept-all, kept-next, kept-size, leaves-all}
use Rattle.hs_waking.specs.EntryRows.{IsEntryRow, KeepsFits, RunsBySet, entries_to}
use Rattle.hs_waking.specs.Fits.{FitsTo}
use Rattle.hs_waking.specs.declared.prev_set.PrevSet.{PrevSet}
use Rattle.hs_waking.specs.PrevSets.{has_prev}

-- the entry before one of the bytes
kept-there : (entered : List Bool) (kept : ℕ → Bool) (i k : ℕ) → k < i → slice_get (entered ++ entries_to kept i) (length entered + k) ≡ Some (kept k)
kept-there entered kept zero k below = absurd (omega arith)
kept-there entered kept (suc i) k below =
    ap (λ es. slice_get es (length entered + k)) (kept-next entered kept i)
    ∙ elim (cases_lt k i) [
      | inl before ↦
          get-append (entered ++ entries_to kept i) (kept i ∷ []) (length entered + k) false (omega (arith, kept-size entered kept i)) ∙ kept-there entered kept i k before
      | inr past ↦
          let same : i ≡ k = omega arith in
          let place : length (entered ++ entries_to kept i) ≡ length entered + k = omega (arith, kept-size entered kept i) in
          subst (λ p. slice_get ((entered ++ entries_to kept i) ++ kept i ∷ []) p ≡ Some (kept k)) place
          (get-seam (entered ++ entries_to kept i) (kept i) ∙ ap (λ n. Some (kept n)) same)
    ]

-- so many bytes behind u
byte-there : (u bytes : List ℕ) (i k : ℕ) → i ≤ length bytes → k < i → slice_get (u ++ take i bytes) (length u + k) ≡ Some (get_or bytes k 0)
byte-there u bytes i k within below =
    slice_get-get_or (u ++ take i bytes) (length u + k) 0 (omega (arith, bytes-size u bytes i within))
    ∙ ap (λ b. Some b) (get_or-append-add u (take i bytes) k 0 ∙ get_or-take i bytes k 0 below)

module _ (behind : PrevSet) (set : ByteSet) (each : (prev : Prev) → has_prev behind prev ≡ true) (kept : ℕ → Bool) (prev : Prev) (bytes : List ℕ) (small : EachIndex bytes (λ k. slice_index bytes k < 256)) (keeps : KeepsFits behind (set ∷ []) kept prev bytes) where
  keeps-member : (k : ℕ) → k < length bytes → has set (get_or bytes k 0) ≡ true → kept k ≡ true
  keeps-member k below is = keeps k below (each (prev_before prev bytes k), fits-here) where
    fits-here : FitsTo (slice_get (set ∷ [])) bytes 1 k
    fits-here zero low inside = let same : k ≡ k + 0 = omega arith in subst (λ n. has set (get_or bytes n 0) ≡ true) same is
    fits-here (suc d) low inside = absurd (omega arith)

  module _ (u : List ℕ) (entered : List Bool) (len : length entered ≡ length u) (i : ℕ) (within : i ≤ length bytes) where
    byte-kept : (k : ℕ) → k < i → IsByteOf (members set) (u ++ take i bytes) (length u + k) → kept k ≡ true
    byte-kept k below (b, there, member) =
        let same : b ≡ get_or bytes k 0 = let e : Some b ≡ Some (get_or bytes k 0) = sym there ∙ byte-there u bytes i k within below in cc in
        let truth : Some (has set (get_or bytes k 0)) ≡ Some true = sym (members-at set (get_or bytes k 0) (small k (omega arith))) ∙ subst (λ y. slice_get (members set) y ≡ Some true) same member in
        keeps-member k (omega arith) (cc)

    all-kept : (q : ℕ) → IsUnbroken (members set) (u ++ take i bytes) (entered ++ replicate i true) q → slice_get (entered ++ entries_to kept i) q ≡ Some true
    all-kept q unbroken =
        elim (cases_lt q (length entered)) [
          | inl old ↦
              get-append entered (entries_to kept i) q false old
              ∙ (sym (get-append entered (replicate i true) q false old) ∙ unbroken.is_entered)
          | inr new ↦
              let k : ℕ = q - length entered in
              let short : q < length (entered ++ replicate i true) = slice_get_within (entered ++ replicate i true) q true unbroken.is_entered in
              let below : k < i = omega (arith, all-size entered i) in
              let place : length entered + k ≡ q = omega arith in
              let at_place : q ≡ length u + k = omega (arith, len) in
              let is : kept k ≡ true = byte-kept k below (subst (IsByteOf (members set) (u ++ take i bytes)) at_place (unbroken.inside q (omega arith) unbroken.before)) in
              subst (λ p. slice_get (entered ++ entries_to kept i) p ≡ Some true) place (kept-there entered kept i k below ∙ ap (λ t. Some t) is)
        ]

    unbroken-kept : (q : ℕ) → IsUnbroken (members set) (u ++ take i bytes) (entered ++ replicate i true) q → IsUnbroken (members set) (u ++ take i bytes) (entered ++ entries_to kept i) q
    unbroken-kept q unbroken = record { is_entered = all-kept q unbroken; before = unbroken.before; inside = unbroken.inside }

    unbroken-all : (q : ℕ) → IsUnbroken (members set) (u ++ take i bytes) (entered ++ entries_to kept i) q → IsUnbroken (members set) (u ++ take i bytes) (entered ++ replicate i true) q
    unbroken-all q unbroken = record { is_entered = kept-all entered kept i q unbroken.is_entered; before = unbroken.before; inside = unbroken.inside }

  as-unbroken : (u : List ℕ) (entered : List Bool) → length entered ≡ length u → (q : ℕ) →
      IsUnbroken (members set) (u ++ bytes) (entered ++ entries_to kept (length bytes)) q ↔ IsUnbroken (members set) (u ++ bytes) (entered ++ replicate (length bytes) true) q
  as-unbroken u entered len q =
      subst (λ v. IsUnbroken (members set) (u ++ v) (entered ++ entries_to kept (length bytes)) q ↔ IsUnbroken (members set) (u ++ v) (entered ++ replicate (length bytes) true) q)
      (take_all (length bytes) bytes (omega arith))
      (unbroken-all u entered len (length bytes) (omega arith) q, unbroken-kept u entered len (length bytes) (omega arith) q)

pub set-entry-row : (m : Meaning) (behind : PrevSet) (set : ByteSet) → ((prev : Prev) → has_prev behind prev ≡ true) → RunsBySet m set → IsEntryRow m behind (set ∷ [])
set-entry-row m behind set each by kept prev bytes small keeps = record {
  field = λ tree u region entered told len last.
      by.field region tree (u ++ bytes) (entered ++ entries_to kept (length bytes)) (entered ++ replicate (length bytes) true) told
      (as-unbroken behind set each kept prev bytes small keeps u entered len);
  leaves = λ tree u entered told len last i within next. (
    leaves-all tree (u ++ take i bytes) entered kept i next,
    by.leaves tree (u ++ take i bytes) (entered ++ replicate i true) (entered ++ entries_to kept i) next told
        (unbroken-kept behind set each kept prev bytes small keeps u entered len i within),
  );
}

members-length : (set : ByteSet) → length (members set) ≡ 256
unfolding members
members-length set = length-map-range_with_len (has set) 0 256

-- what lives in a set lives in a wider one
pub runs-wider : (m : Meaning) (set wide : ByteSet) → ((b : ℕ) → b < 256 → has set b ≡ true → has wide b ≡ true) → RunsBySet m set → RunsBySet m wide
runs-wider m set wide wider by = record {
  field = λ region tree u entered other told same.
      by.field region tree u entered other told (λ q. (lives u entered other (λ p. (same p).0) q, lives u other entered (λ p. (same p).1) q));
  leaves = λ tree u entered other next told same. by.leaves tree u entered other next told (lives u entered other same);
} where
  byte-wider : (u : List ℕ) (i : ℕ) → IsByteOf (members set) u i → IsByteOf (members wide) u i
  byte-wider u i (b, there, member) =
      let size : length (members set) ≡ 256 = members-length set in
      let small : b < 256 = omega (arith, size, slice_get_within (members set) b true member) in
      let truth : Some (has set b) ≡ Some true = sym (members-at set b small) ∙ member in
      let inside : has wide b ≡ true = wider b small (cc) in
      (b, there, members-at wide b small ∙ ap (λ t. Some t) inside)

  lives : (u : List ℕ) (entered other : List Bool) → ((q : ℕ) → IsUnbroken (members wide) u entered q → IsUnbroken (members wide) u other q) → (q : ℕ) → IsUnbroken (members set) u entered q → IsUnbroken (members set) u other q
  lives u entered other same q unbroken =
      let wide_one : IsUnbroken (members wide) u entered q =
      record { is_entered = unbroken.is_entered; before = unbroken.before; inside = λ i above below. byte-wider u i (unbroken.inside i above below) } in
      let moved : IsUnbroken (members wide) u other q = same q wide_one in
      record { is_entered = moved.is_entered; before = unbroken.before; inside = unbroken.inside }

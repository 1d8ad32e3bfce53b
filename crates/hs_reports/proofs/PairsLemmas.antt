-- Pairs of some identifiers, with ends from one offset to another.
use Rattle.std.proofs.Common.{ℕ, zero, suc, ◌+◌, ◌≤◌, Bool, true, false, List, [], ◌∷◌, ◌++◌, length, arith}
use Rattle.hs_base.specs.Lists.{Each, IsMember, IsRising}
use Rattle.hs_base.specs.Settling.{pairs_told}
use Rattle.hs_base.specs.Told.{Pair}
use Rattle.hs_base.proofs.ListLemmas.{each-append, rising-append}
use Rattle.hs_base.proofs.PairListLemmas.{values_by}
use Rattle.hs_reports.specs.Chunks.{chunk_pairs, pairs_where}
use Rattle.hs_reports.specs.Pairs.{ArePairsOf}

each-then : {A : Type 0} (P Q : A → Type 0) (xs : List A) → ((x : A) → P x → Q x) → Each P xs → Each Q xs
each-then P Q [] then each = tt
each-then P Q (x ∷ xs) then each = (then x each.0, each-then P Q xs then each.1)

pub pairs-none : (ids : List ℕ) (low high : ℕ) → ArePairsOf ids low high []
pairs-none ids low high = record { named = tt; ends = tt; rising = tt }

pub pairs-widen : (ids : List ℕ) (low high low' high' : ℕ) (pairs : List Pair) → low' ≤ low → high ≤ high' → ArePairsOf ids low high pairs → ArePairsOf ids low' high' pairs
pairs-widen ids low high low' high' pairs down up are = record {
  named = are.named;
  ends =
      each-then (λ (p : Pair). (low ≤ p.to) × (p.to ≤ high)) (λ (p : Pair). (low' ≤ p.to) × (p.to ≤ high')) pairs
      (λ p e. let (above, below) = e in (omega (arith, down, above), omega (arith, up, below))) are.ends;
  rising = are.rising;
}

-- pairs up to an offset, and then pairs from there on
pub pairs-join : (ids : List ℕ) (low mid high : ℕ) (xs ys : List Pair) → low ≤ mid → mid ≤ high → ArePairsOf ids low mid xs → ArePairsOf ids mid high ys → ArePairsOf ids low high (xs ++ ys)
pairs-join ids low mid high xs ys up on first second =
    let wide : ArePairsOf ids low high xs = pairs-widen ids low mid low high xs (omega arith) on first in
    let wide' : ArePairsOf ids low high ys = pairs-widen ids mid high low high ys up (omega arith) second in
    record {
      named = each-append (λ (p : Pair). IsMember p.id ids) xs ys wide.named wide'.named;
      ends = each-append (λ (p : Pair). (low ≤ p.to) × (p.to ≤ high)) xs ys wide.ends wide'.ends;
      rising =
          rising-append (λ (p q : Pair). p.to ≤ q.to) xs ys first.rising second.rising
          (each-then (λ (p : Pair). (low ≤ p.to) × (p.to ≤ mid)) (λ (p : Pair). Each (λ (q : Pair). p.to ≤ q.to) ys) xs
          (λ p e.
          let below : p.to ≤ mid = e.1 in
          each-then (λ (q : Pair). (mid ≤ q.to) × (q.to ≤ high)) (λ (q : Pair). p.to ≤ q.to) ys (λ q f. let above : mid ≤ q.to = f.0 in omega (arith, below, above)) second.ends)
          first.ends);
    }

-- pairs with one end, of identifiers by truth values

told-named : (ids : List ℕ) (values : List Bool) (to : ℕ) (whole : List ℕ) → Each (λ id. IsMember id whole) ids → Each (λ p. IsMember p.id whole) (pairs_told ids values to)
told-named [] values to whole inside = tt
told-named (id ∷ ids) [] to whole inside = tt
told-named (id ∷ ids) (true ∷ values) to whole inside = (inside.0, told-named ids values to whole inside.1)
told-named (id ∷ ids) (false ∷ values) to whole inside = told-named ids values to whole inside.1

told-ends : (ids : List ℕ) (values : List Bool) (to : ℕ) (P : ℕ → Type 0) → P to → Each (λ p. P p.to) (pairs_told ids values to)
told-ends [] values to P holds = tt
told-ends (id ∷ ids) [] to P holds = tt
told-ends (id ∷ ids) (true ∷ values) to P holds = (holds, told-ends ids values to P holds)
told-ends (id ∷ ids) (false ∷ values) to P holds = told-ends ids values to P holds

told-rising : (ids : List ℕ) (values : List Bool) (to : ℕ) → IsRising (λ (p q : Pair). p.to ≤ q.to) (pairs_told ids values to)
told-rising [] values to = tt
told-rising (id ∷ ids) [] to = tt
told-rising (id ∷ ids) (true ∷ values) to = (told-ends ids values to (λ n. to ≤ n) (omega arith), told-rising ids values to)
told-rising (id ∷ ids) (false ∷ values) to = told-rising ids values to

pub pairs-one : (ids whole : List ℕ) (values : List Bool) (to : ℕ) → Each (λ id. IsMember id whole) ids → ArePairsOf whole to to (pairs_told ids values to)
pairs-one ids whole values to inside = record {
  named = told-named ids values to whole inside;
  ends = told-ends ids values to (λ n. (to ≤ n) × (n ≤ to)) (omega arith, omega arith);
  rising = told-rising ids values to;
}

-- what a chunk of so many bytes tells, by any truth values
pub pairs-chunk : (ids whole : List ℕ) (late early : ℕ → ℕ → Bool) (at n : ℕ) → Each (λ id. IsMember id whole) ids → ArePairsOf whole at (at + n) (chunk_pairs ids late early at n)
unfolding chunk_pairs
pairs-chunk ids whole late early at zero inside = pairs-none whole at (at + 0)
pairs-chunk ids whole late early at (suc i) inside =
    let lates = pairs_where ids (λ k. late k i) (at + i) in
    let earlies = pairs_where ids (λ k. early k i) (at + i + 1) in
    let one : ArePairsOf whole (at + i) (at + i) lates = pairs-one ids whole (values_by (λ k. late k i) (length ids)) (at + i) inside in
    let two : ArePairsOf whole (at + i + 1) (at + i + 1) earlies = pairs-one ids whole (values_by (λ k. early k i) (length ids)) (at + i + 1) inside in
    let here : ArePairsOf whole (at + i) (at + suc i) (lates ++ earlies) =
    pairs-join whole (at + i) (at + i) (at + suc i) lates earlies (omega arith) (omega arith) one (pairs-widen whole (at + i + 1) (at + i + 1) (at + i) (at + suc i) earlies (omega arith) (omega arith) two) in
    pairs-join whole at (at + i) (at + suc i) (chunk_pairs ids late early at i) (lates ++ earlies) (omega arith) (omega arith) (pairs-chunk ids whole late early at i inside) here

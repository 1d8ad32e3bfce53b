-- All masks of a list of literals.
use Rattle.std.proofs.Common.{◌≡◌, ℕ, ◌+◌, ◌*◌, ◌/◌, ◌^◌, ◌<◌, List, length, get_or, replicate, take, drop, ◌++◌, refl, sym, ap, subst, ◌∙◌, inl, inr, arith}
use Rattle.std.specs.Int.{bit_at}
use Rattle.std.proofs.lemmas.Bool.{cases_lt}
use Rattle.std.proofs.lemmas.Nat.{div-mul-add, mul-add-lt, same_from_place}
use Rattle.std.proofs.lemmas.Nat.Bits.{bit_at_ones}
use Rattle.std.proofs.lemmas.List.{get_or-replicate, take-append-le, take_all}
use Rattle.hs_base.specs.Literals.{LiteralByte}
use Rattle.hs_fdr_build.specs.Asking.{MayStand, beyond, IsAsked}
use Rattle.hs_fdr_build.specs.Clearing.{IsClear, Clears}
use Rattle.hs_fdr_build.specs.MaskPlaces.{HasPlace, IsPast, IsAskedBy, AreMasksOf}

-- a mask of ones has no bit that is 0
ones : (j b : ℕ) → j < 8 → b < 8 → IsClear (replicate 8 255) j b → ⊥
ones j b h k is =
    let all : bit_at 255 b ≡ 1 = bit_at_ones 8 b k in
    let here : get_or (replicate {A = ℕ} 8 255) j 0 ≡ 255 = get_or-replicate {A = ℕ} 8 j 255 0 h in
    let e : bit_at 255 b ≡ 0 = sym (ap (λ m. bit_at m b) here) ∙ is in
    omega arith

-- the whole of a list that was written to
pub written-back : (new old : List ℕ) (n : ℕ) → length new ≡ length old → n ≡ length old → take n (new ++ drop (length new) old) ≡ new
written-back new old n same whole = take-append-le n new (drop (length new) old) (omega arith) ∙ take_all n new (omega arith)

module _ (width : ℕ) (literals : List (List LiteralByte)) (buckets past filled masks : List ℕ)
    (before : Clears (IsAskedBy IsPast literals buckets) (replicate 8 255) past)
    (same : (at : ℕ) → at < 8 * 2 ^ width → get_or filled at 0 ≡ get_or past (at / 2 ^ width) 0)
    (long : length filled ≡ 8 * 2 ^ width)
    (made : Clears (IsAskedBy (HasPlace width) literals buckets) filled masks) where
  module _ (bucket j v : ℕ) (b : bucket < 8) (p : j < 8) (s : v < 2 ^ width) where
    place : j * 2 ^ width + v < length filled
    place = let h : j * 2 ^ width + v < 2 ^ width * 8 = mul-add-lt j (2 ^ width) v 8 p s in omega arith

    as_past : bit_at (get_or filled (j * 2 ^ width + v) 0) bucket ≡ bit_at (get_or past j 0) bucket
    as_past =
        let row : (j * 2 ^ width + v) / 2 ^ width ≡ j = div-mul-add j (2 ^ width) v s in
        ap (λ m. bit_at m bucket) (same (j * 2 ^ width + v) (omega (arith, place)) ∙ ap (λ k. get_or past k 0) row)

    to_may : (literal : List LiteralByte) → HasPlace width literal (j * 2 ^ width + v) → MayStand width literal j v
    to_may literal (k, _, it) =
        let e = same_from_place j v k it.v (2 ^ width) s it.small it.at in
        subst (λ n. MayStand width literal n v) (sym e.0) (subst (λ u. MayStand width literal k u) (sym e.1) it.may)

    to : IsClear masks (j * 2 ^ width + v) bucket → IsAsked width literals buckets bucket j v
    to is = elim ((made.each (j * 2 ^ width + v) bucket place b).0 is) [
      | inl old ↦ elim ((before.each j bucket p b).0 (sym as_past ∙ old)) [
        | inl one ↦ absurd (ones j bucket p b one)
        | inr asked ↦ record { literal = asked.0; stands = asked.1; may = beyond asked.2 }
      ]
      | inr asked ↦ record { literal = asked.0; stands = asked.1; may = to_may asked.0 asked.2 }
    ]

    from : IsAsked width literals buckets bucket j v → IsClear masks (j * 2 ^ width + v) bucket
    from asked = elim (cases_lt j (length asked.literal)) [
      | inl reaches ↦ (made.each (j * 2 ^ width + v) bucket place b).1 (inr (asked.literal, asked.stands, (j, p, record { v = v; small = s; at = refl; reaches = reaches; may = asked.may })))
      | inr past' ↦ (made.each (j * 2 ^ width + v) bucket place b).1 (inl (as_past ∙ (before.each j bucket p b).1 (inr (asked.literal, asked.stands, past'))))
    ]

  pub masks-are : AreMasksOf width literals buckets masks
  masks-are = record { each = λ bucket j v b p s. (to bucket j v b p s, from bucket j v b p s) }

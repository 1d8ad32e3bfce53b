-- What is kept of the identifiers of a stream, by the bits of its region.
use Rattle.std.proofs.Common.{◌≡◌, ◌↔◌, ℕ, ◌+◌, ◌*◌, ◌<◌, ◌≤◌, Bool, true, false, List, length, Some, slice_get, sym, ap, subst, ◌∙◌, inl, inr, arith}
use Rattle.std.proofs.lemmas.Option.{same_Some, slice_get_within}
use Rattle.hs_base.specs.Bits.{has_bit}
use Rattle.hs_base.specs.Lists.{IsMember}
use Rattle.hs_base.specs.Patterns.{is_single}
use Rattle.hs_base.specs.Regions.{Plan, IsRegion, AreBitsOf, told_at, here_at, last_at, fields_at}
use Rattle.hs_base.specs.Reports.{IsReport}
use Rattle.hs_base.specs.Settling.{AreIdentifiers, IsKept, IsLeftToEnd}
use Rattle.hs_base.proofs.ListLemmas.{each-of_members, one_of-map}
use Rattle.hs_rose.specs.Identifiers.{ids_of}
use Rattle.hs_rose.specs.Identifiers.{singles_of}
use Rattle.hs_run.specs.Keeping.{AreRead, IsSpareBit, plain_kept, singles_before}
use Rattle.hs_run.specs.Programs.{RunsPlan}
use Rattle.hs_run.specs.declared.kept.Kept.{Kept}
use Rattle.hs_rose.specs.declared.identifiers.Identifier.{Identifier}
use Rattle.hs_rose.specs.Programs.{Tables}
use Rattle.hs_run.proofs.DoneLemmas.{rising-ids}
use Rattle.hs_run.proofs.KeepingLemmas.{IsSingleAt, single-at, single-of}
use Rattle.hs_run.proofs.LayoutLemmas.{there}
use Rattle.hs_run.proofs.PlanLayoutLemmas.{plan_layout, ids-count, singles-count}
use Rattle.hs_run.proofs.ReportingLemmas.{id-at}

-- a value that is another tells what that tells
bit-tells : (value bit : Bool) (Q : Type 0) → value ≡ bit → (bit ≡ true) ↔ Q → (value ≡ true) ↔ Q
bit-tells value bit Q same law = (λ is. law.0 (sym same ∙ is), λ holds. same ∙ law.1 holds)

module _ (program : Tables) (plan : Plan) (runs : RunsPlan program plan) where
  id-named : (i : ℕ) (x : Identifier) → slice_get program.identifiers i ≡ Some x → slice_get plan.identifiers i ≡ Some x.id.0
  id-named i x at = subst (λ ys. slice_get ys i ≡ Some x.id.0) runs.ids (id-at program.identifiers i x at)

  single-named : (n : ℕ) (x : Identifier) → slice_get (singles_of program.identifiers) n ≡ Some x → slice_get plan.singles n ≡ Some x.id.0
  single-named n x at = subst (λ ys. slice_get ys n ≡ Some x.id.0) runs.singles (id-at (singles_of program.identifiers) n x at)

  pub are-identifiers : AreIdentifiers plan.patterns (ids_of program.identifiers)
  are-identifiers = record {
    rising = rising-ids program plan runs;
    each = each-of_members (λ x. IsMember x.id (ids_of program.identifiers)) plan.patterns (λ x member.
        subst (λ ys. IsMember x.id ys) (sym runs.ids)
        ((runs.is_plan.named x.id).1 (one_of-map (λ y. x ≡ y) (λ y. y.id ≡ x.id) plan.patterns (λ y same. sym (ap (λ z. z.id) same)) member)));
  }

  -- what is read of a region is what is kept
  pub kept-read : (u r0 r1 : List ℕ) (ks : List Kept) → IsRegion plan u r0 → ((k : ℕ) → k < 8 * fields_at (length plan.singles) (length plan.identifiers) → has_bit r1 k ≡ has_bit r0 k) →
      AreRead (plan_layout plan) r1 program.identifiers ks → (i : ℕ) (x : Identifier) (k : Kept) → slice_get program.identifiers i ≡ Some x → slice_get ks i ≡ Some k → IsKept plan.patterns u x.id.0 (plain_kept k)
  kept-read u r0 r1 ks is bits are i x k at at' =
      let read = are i x k at at' in
      let id : ℕ = x.id.0 in
      let named : slice_get plan.identifiers i ≡ Some id = id-named i x at in
      let below : i < length plan.identifiers = slice_get_within plan.identifiers i id named in
      record {
        told = λ single.
            let is_single_x : x.single ≡ true = runs.single i x at ∙ single in
            let n : ℕ = singles_before program.identifiers i in
            let named_n : slice_get plan.singles n ≡ Some id = single-named n x (single-at program.identifiers i x at is_single_x) in
            let low : n < length plan.singles = slice_get_within plan.singles n id named_n in
            bit-tells k.told (has_bit r0 (8 * told_at + n)) ((to : ℕ) × IsReport plan.patterns u false id to) (read.told is_single_x ∙ bits (8 * told_at + n) (omega (arith, low))) (is.told.each n id named_n);
        here =
            bit-tells k.here (has_bit r0 (8 * here_at (length plan.singles) + i)) (IsReport plan.patterns u false id (length u))
            (read.here ∙ bits (8 * here_at (length plan.singles) + i) (omega (arith, below))) (is.here.each i id named);
        last =
            bit-tells k.last (has_bit r0 (8 * last_at (length plan.singles) (length plan.identifiers) + i)) (IsLeftToEnd plan.patterns u id)
            (read.last ∙ bits (8 * last_at (length plan.singles) (length plan.identifiers) + i) (omega (arith, below))) (is.last.each i id named);
      }

  -- and what is kept is told by the bits of a region into which it was written
  module _ (v r2 r4 : List ℕ) (ks : List Kept) (count : length ks ≡ length program.identifiers) (are : AreRead (plan_layout plan) r2 program.identifiers ks)
      (kept : (i : ℕ) (x : Identifier) (k : Kept) → slice_get program.identifiers i ≡ Some x → slice_get ks i ≡ Some k → IsKept plan.patterns v x.id.0 (plain_kept k))
      (bits : (k : ℕ) → 8 * told_at ≤ k → has_bit r4 k ≡ has_bit r2 k) (spare : (k : ℕ) → IsSpareBit (plan_layout plan) k → has_bit r4 k ≡ false) where
    pub told-bits : AreBitsOf r4 told_at (here_at (length plan.singles)) plan.singles (λ id. (to : ℕ) × IsReport plan.patterns v false id to)
    told-bits = record {
      each = λ n id named.
          let (x, at) = there (singles_of program.identifiers) n (omega (arith, slice_get_within plan.singles n id named, singles-count program plan runs)) in
          let same : x.id.0 ≡ id = same_Some x.id.0 id (sym (single-named n x at) ∙ named) in
          let one : IsSingleAt program.identifiers n x = single-of program.identifiers n x at in
          let (k, at_k) = there ks one.place (omega (arith, count, slice_get_within program.identifiers one.place x one.there)) in
          let keep = kept one.place x k one.there at_k in
          let read = are one.place x k one.there at_k in
          let single : is_single plan.patterns x.id.0 ≡ true = sym (runs.single one.place x one.there) ∙ one.is in
          let bit : has_bit r4 (8 * told_at + n) ≡ k.told = bits (8 * told_at + n) (omega arith) ∙ (ap (λ m. has_bit r2 (8 * told_at + m)) (sym one.number) ∙ sym (read.told one.is)) in
          subst (λ z. (has_bit r4 (8 * told_at + n) ≡ true) ↔ ((to : ℕ) × IsReport plan.patterns v false z to)) same
          (bit-tells (has_bit r4 (8 * told_at + n)) k.told ((to : ℕ) × IsReport plan.patterns v false x.id.0 to) bit (keep.told single));
      spare = λ k low high. spare k (inl (low, high));
    }

    record IsThere (i id : ℕ) : Type 0 where
      x : Identifier
      k : Kept
      at : slice_get program.identifiers i ≡ Some x
      at_k : slice_get ks i ≡ Some k
      same : x.id.0 ≡ id

    is-there : (i id : ℕ) → slice_get plan.identifiers i ≡ Some id → IsThere i id
    is-there i id named =
        let (x, at) = there program.identifiers i (omega (arith, slice_get_within plan.identifiers i id named, ids-count program plan runs)) in
        let (k, at_k) = there ks i (omega (arith, count, slice_get_within program.identifiers i x at)) in
        record { x = x; k = k; at = at; at_k = at_k; same = same_Some x.id.0 id (sym (id-named i x at) ∙ named) }

    pub here-bits : AreBitsOf r4 (here_at (length plan.singles)) (last_at (length plan.singles) (length plan.identifiers)) plan.identifiers (λ id. IsReport plan.patterns v false id (length v))
    here-bits = record {
      each = λ i id named.
          let one : IsThere i id = is-there i id named in
          let place : ℕ = 8 * here_at (length plan.singles) + i in
          let bit : has_bit r4 place ≡ one.k.here = bits place (omega arith) ∙ sym (are i one.x one.k one.at one.at_k).here in
          subst (λ z. (has_bit r4 place ≡ true) ↔ IsReport plan.patterns v false z (length v)) one.same
          (bit-tells (has_bit r4 place) one.k.here (IsReport plan.patterns v false one.x.id.0 (length v)) bit (kept i one.x one.k one.at one.at_k).here);
      spare = λ k low high. spare k (inr (inl (low, high)));
    }

    pub last-bits : AreBitsOf r4 (last_at (length plan.singles) (length plan.identifiers)) (fields_at (length plan.singles) (length plan.identifiers)) plan.identifiers (λ id. IsLeftToEnd plan.patterns v id)
    last-bits = record {
      each = λ i id named.
          let one : IsThere i id = is-there i id named in
          let place : ℕ = 8 * last_at (length plan.singles) (length plan.identifiers) + i in
          let bit : has_bit r4 place ≡ one.k.last = bits place (omega arith) ∙ sym (are i one.x one.k one.at one.at_k).last in
          subst (λ z. (has_bit r4 place ≡ true) ↔ IsLeftToEnd plan.patterns v z) one.same
          (bit-tells (has_bit r4 place) one.k.last (IsLeftToEnd plan.patterns v one.x.id.0) bit (kept i one.x one.k one.at one.at_k).last);
      spare = λ k low high. spare k (inr (inr (low, high)));
    }

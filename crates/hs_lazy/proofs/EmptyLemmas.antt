-- Automata that aren't there yet, and tables that are empty.
use Rattle.std.proofs.Common.{◌≡◌, ℕ, inl, inr, List, [], replicate, length, Option, Some, None, slice_index, refl, sym, ap, subst, ◌∙◌, arith}
use Rattle.std.proofs.lemmas.Bool.{cases_lt}
use Rattle.std.proofs.lemmas.List.{get_or-replicate, get_or_past, length-replicate}
use Rattle.std.proofs.lemmas.Option.{slice_get_within}
use Rattle.hs_engine.specs.Engines.{Meaning}
use Rattle.hs_lazy.specs.declared.cache.Dfas.{Dfas}
use Rattle.hs_lazy.specs.declared.cache.Place.{Place}
use Rattle.hs_lazy.specs.declared.dfa.LazyDfa.{LazyDfa}
use Rattle.hs_lazy.specs.declared.parts.Member.{Member}
use Rattle.hs_lazy.specs.declared.parts.State.{State}
use Rattle.hs_lazy.specs.Parts.{AreMembersApart, AreLeading, AreLive, AreUnknownFrom}
use Rattle.hs_lazy.specs.Tables.{AreDfasOf, engine_at, engine_in, member_by, own_member, place_for}

none-by : (list : List LazyDfa) (p : Option Place) → list ≡ [] → member_by list p ≡ None
none-by list None e = refl
none-by list (Some p) e = subst (λ (l : List LazyDfa). member_by l (Some p) ≡ None) (sym e) refl

pub no-engine : (d : Dfas) (k : ℕ) → d.list.items ≡ [] → engine_at d k ≡ None
unfolding engine_at
no-engine d k e = ap (λ o. engine_in (own_member k o)) (none-by d.list.items (place_for d k) e)

pub not-some : {A B : Type 0} (o : Option A) (x : A) → o ≡ None → o ≡ Some x → B
not-some o x none some = absurd (cc)

pub no-dfas : {E : Type 0} (meaning : E → Meaning) (engines : List E) (d : Dfas) → d.list.items ≡ [] → AreDfasOf meaning engines d
no-dfas meaning engines d none = record {
  there = λ k n is. not-some _ n (no-engine d k none) is;
  listed = λ k n e is there. not-some _ n (no-engine d k none) is;
  sound = λ i dfa is. absurd (omega (arith, slice_get_within d.list.items i dfa is, ap length none));
}

pub no-members : (members : List Member) → members ≡ [] → AreMembersApart members
no-members members none = record {
  rising = λ k m is. absurd (omega (arith, slice_get_within members k m is, ap length none));
  within = λ k m is. absurd (omega (arith, slice_get_within members k m is, ap length none));
  in_turn = λ j k a b low is-a is-b. absurd (omega (arith, slice_get_within members j a is-a, ap length none));
}

pub no-states : (members : List Member) (states : List State) → states ≡ [] → AreLive members states
no-states members states none s st is = absurd (omega (arith, slice_get_within states s st is, ap length none))

zeros : (n k : ℕ) → slice_index (replicate n 0) k ≡ 0
zeros n k = elim (cases_lt k n) [
  | inl low ↦ get_or-replicate n k 0 0 low
  | inr high ↦ get_or_past (replicate n 0) k 0 (omega (arith, high, length-replicate {A = ℕ} n 0))
]

pub zeros-unknown : (rows : List ℕ) (n count : ℕ) → rows ≡ replicate n 0 → AreUnknownFrom rows count
zeros-unknown rows n count is k high = ap (λ l. slice_index l k) is ∙ zeros n k

pub zeros-leading : (rows : List ℕ) (n count : ℕ) → rows ≡ replicate n 0 → AreLeading rows count
zeros-leading rows n count is k known = absurd (known (ap (λ l. slice_index l k) is ∙ zeros n k))

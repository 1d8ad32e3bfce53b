-- The steps of a trace that leave no member.
use Rattle.std.proofs.Common.{◌≡◌, ℕ, ◌+◌, ◌<◌, ◌≤◌, inl, inr, Bool, false, ◌&&◌, ◌||◌, ◌==◌, nat_lt, List, slice_index, sym, ap, subst, ◌∙◌, arith, tests}
use Rattle.std.specs.Int.Bits.{bit_or}
use Rattle.std.proofs.lemmas.Bool.{cases_eq, cases_lt}
use Rattle.std.proofs.lemmas.Nat.{le_or_l, le_or_r}
use Rattle.hs_base.specs.Bits.{has_word_bit}
use Rattle.hs_lazy.specs.declared.cache.ToldEnds.{ToldEnds}
use Rattle.hs_lazy.specs.declared.parts.EndSet.{EndSet}
use Rattle.hs_lazy.specs.Ends.{AreSilent, AreTraceEnds, member_left_before, member_left_behind}
use Rattle.hs_lazy.specs.Images.{IsSameSets}
use Rattle.hs_lazy.specs.Parts.{before_of, behind_of, ends_of, set_of}
use Rattle.hs_lazy.proofs.PartLemmas.{set-zero}

-- words united are no less than each
pub most-more : (trace : List ℕ) (from place all : ℕ) → ((i : ℕ) → from ≤ i → i < place → slice_index trace i ≤ all) →
    (i : ℕ) → from ≤ i → i < place + 1 → slice_index trace i ≤ bit_or all (slice_index trace place)
most-more trace from place all most i high low = elim (cases_lt i place) [
  | inl less ↦ omega (arith, most i high less, le_or_l all (slice_index trace place))
  | inr more ↦
      let same : place ≡ i = omega (arith, low, more) in
      subst (λ k. slice_index trace k ≤ bit_or all (slice_index trace place)) same (le_or_r all (slice_index trace place))
]

-- a step that leaves no member has no set of ends
before-none : (sets : List EndSet) (step m : ℕ) → step < 65536 → before_of (set_of sets (ends_of step)) m ≡ false
before-none sets step m small = ap (λ s. before_of s m) (set-zero sets (ends_of step) (omega (arith, small)))

behind-none : (sets : List EndSet) (step m : ℕ) → step < 65536 → behind_of (set_of sets (ends_of step)) m ≡ false
behind-none sets step m small = ap (λ s. behind_of s m) (set-zero sets (ends_of step) (omega (arith, small)))

both-below : (x : Bool) (i from place : ℕ) → i < from → from ≤ place → (nat_lt i from && x) ≡ (nat_lt i place && x)
both-below x i from place low order = grind (arith, tests)

both-above : (x : Bool) (i from place : ℕ) → place ≤ i → from ≤ place → (nat_lt i from && x) ≡ (nat_lt i place && x)
both-above x i from place high order = grind (arith, tests)

both-unset : (x : Bool) (i from place : ℕ) → x ≡ false → (nat_lt i from && x) ≡ (nat_lt i place && x)
both-unset x i from place unset = grind (arith, tests)

further : (bit : ℕ → Bool) (from place : ℕ) → from ≤ place → ((i : ℕ) → from ≤ i → i < place → bit i ≡ false) →
    (i : ℕ) → (nat_lt i from && bit i) ≡ (nat_lt i place && bit i)
further bit from place order none i = elim (cases_lt i from) [
  | inl low ↦ both-below (bit i) i from place low order
  | inr high ↦ elim (cases_lt i place) [
    | inl before ↦ both-unset (bit i) i from place (none i high before)
    | inr past ↦ both-above (bit i) i from place past order
  ]
]

module _ (sets : List EndSet) (trace : List ℕ) where
  -- the ends of more steps where the further ones are silent
  pub ends-further : (from place : ℕ) (rows : List ToldEnds) → from ≤ place → AreSilent trace from place →
      AreTraceEnds sets trace from rows → AreTraceEnds sets trace place rows
  ends-further from place rows order silent ends = record {
    before = λ m i small. ends.before m i small ∙
        further (λ k. before_of (set_of sets (ends_of (slice_index trace k))) m) from place order
        (λ k high low. before-none sets (slice_index trace k) m (silent k high low)) i;
    behind = λ m i small. ends.behind m i small ∙
        further (λ k. behind_of (set_of sets (ends_of (slice_index trace k))) m) from place order
        (λ k high low. behind-none sets (slice_index trace k) m (silent k high low)) i;
  }

own-more : (x y : Bool) (i : ℕ) → x ≡ y → ((nat_lt i i && x) || ((i == i) && y)) ≡ (nat_lt i (i + 1) && x)
own-more x y i same = grind (arith, tests)

other-more : (x y : Bool) (i place : ℕ) → (i ≡ place → ⊥) → ((nat_lt i place && x) || ((i == place) && y)) ≡ (nat_lt i (place + 1) && x)
other-more x y i place away = grind (arith, tests)

one-more : (bit : ℕ → Bool) (place : ℕ) (y : Bool) → bit place ≡ y → (i : ℕ) →
    ((nat_lt i place && bit i) || ((i == place) && y)) ≡ (nat_lt i (place + 1) && bit i)
one-more bit place y same i = elim (cases_eq i place) [
  | inl here ↦ subst (λ k. ((nat_lt k place && bit k) || ((k == place) && y)) ≡ (nat_lt k (place + 1) && bit k)) (sym here)
      (own-more (bit place) y place same)
  | inr away ↦ other-more (bit i) y i place away
]

none-before : (x y : Bool) (place : ℕ) → x ≡ (nat_lt place place && y) → x ≡ false
none-before x y place is = grind (arith, tests)

module _ (sets : List EndSet) (trace : List ℕ) (place : ℕ) (rows : List ToldEnds) (ends : AreTraceEnds sets trace place rows) where
  -- no member is said to be left where the next step is
  pub fresh-before : (m : ℕ) → m < 256 → member_left_before rows m place ≡ false
  fresh-before m small = none-before _ _ place (ends.before m place small)

  pub fresh-behind : (m : ℕ) → m < 256 → member_left_behind rows m place ≡ false
  fresh-behind m small = none-before _ _ place (ends.behind m place small)

  -- the ends of one more step are taken in
  pub ends-more : (rows' : List ToldEnds) (set : EndSet) → IsSameSets (set_of sets (ends_of (slice_index trace place))) set →
      ((m i : ℕ) → m < 256 → member_left_before rows' m i ≡ (member_left_before rows m i || ((i == place) && has_word_bit set.before m))) →
      ((m i : ℕ) → m < 256 → member_left_behind rows' m i ≡ (member_left_behind rows m i || ((i == place) && has_word_bit set.behind m))) →
      AreTraceEnds sets trace (place + 1) rows'
  ends-more rows' set same before behind = record {
    before = λ m i small. before m i small ∙
        (ap (λ x. x || ((i == place) && has_word_bit set.before m)) (ends.before m i small) ∙
        one-more (λ k. before_of (set_of sets (ends_of (slice_index trace k))) m) place (has_word_bit set.before m) (same.before m) i);
    behind = λ m i small. behind m i small ∙
        (ap (λ x. x || ((i == place) && has_word_bit set.behind m)) (ends.behind m i small) ∙
        one-more (λ k. behind_of (set_of sets (ends_of (slice_index trace k))) m) place (has_word_bit set.behind m) (same.behind m) i);
  }

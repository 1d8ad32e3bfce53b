-- The engines of repeats say what the entries say that live, and each byte of their sets wakes them.
use Rattle.std.proofs.Common.{◌≡◌, ℕ, ◌%◌, ◌<◌, Bool, true, List, [], ◌∷◌, Option, None, Some, refl, sym, subst, inl, inr, arith}
use Rattle.hs_base.specs.declared.byte_set.ByteSet.{ByteSet}
use Rattle.hs_base.specs.declared.context.Next.{Next}
use Rattle.hs_base.specs.declared.context.Prev.{Prev}
use Rattle.hs_base.specs.Bits.{AreZero, has_bit}
use Rattle.hs_base.specs.ByteSets.{has, members}
use Rattle.hs_base.specs.Fields.{Leaves}
use Rattle.hs_base.specs.RepeatRows.{IsAway, IsFirstDistance, IsHeld, IsLastDistance, IsUnbroken}
use Rattle.hs_base.specs.RepeatRows.IsFirstDistance.{none as first_none, some as first_some}
use Rattle.hs_base.specs.RepeatRows.IsLastDistance.{none as last_none, some as last_some}
use Rattle.hs_base.specs.Trees.{class, repeat}
use Rattle.hs_base.proofs.BitLemmas.{zero-bits}
use Rattle.hs_engine.specs.Engines.{AreWakers, IsStart, Meaning}
use Rattle.hs_repeat.specs.RepeatMeanings.{first_meaning, last_meaning, ring_meaning}
use Rattle.hs_repeat.specs.Repeats.{repeat_of}
use Rattle.hs_repeat.proofs.DistanceLemmas.{away-positive}
use Rattle.hs_repeat.proofs.EntryLemmas.{away-leaves, leaves-away, unbroken-new}
use Rattle.hs_repeat.proofs.FirstLemmas as first
use Rattle.hs_repeat.proofs.LastLemmas as last
use Rattle.hs_repeat.proofs.RingLemmas.{ring-start}
use Rattle.hs_waking.specs.declared.prev_set.PrevSet.{PrevSet}
use Rattle.hs_waking.specs.EntryRows.{RunsBySet, TellsBeginnings}
use Rattle.hs_waking.specs.PrevSets.{has_prev}
use Rattle.hs_waking.proofs.AnyLemmas.{true-false, true-or-false}
use Rattle.hs_waking.proofs.SetEntryLemmas.{runs-wider, set-entry-row}
use Rattle.hs_waking.proofs.WakerLemmas.{waker-row}

-- what goes over to other entries of which the same live

module _ (set : List Bool) (u : List ℕ) (entered other : List Bool) (lives : (q : ℕ) → IsUnbroken set u entered q → IsUnbroken set u other q) where
  away-as : (d : ℕ) → IsAway set u entered d → IsAway set u other d
  away-as d away = record { from = away.from; ends = away.ends; unbroken = lives away.from away.unbroken }

  held-as : (m k : ℕ) → IsHeld m set u entered k → IsHeld m set u other k
  held-as m k held = record { from = held.from; unbroken = lives held.from held.unbroken; recent = held.recent; place = held.place }

  repeat-as : (n : ℕ) (m : Option ℕ) (next : Next) → Leaves (repeat (class set) n m) u entered next → Leaves (repeat (class set) n m) u other next
  repeat-as n m next leaves =
      let (d, away, low, high) = leaves-away set n m u entered next leaves in
      away-leaves set n m u other next d (away-as d away) low high

first-as : (n : ℕ) (Away Other : ℕ → Type 0) (value : ℕ) → ((d : ℕ) → Away d → Other d) → ((d : ℕ) → Other d → Away d) → IsFirstDistance n Away value → IsFirstDistance n Other value
first-as n Away Other value to from (first_none zeros nothing) = first_none zeros (λ d other. nothing d (from d other))
first-as n Away Other value to from (first_some far greatest equal) =
    first_some far (record { holds = to far greatest.holds; greatest = λ d other. greatest.greatest d (from d other) }) equal

last-as : (m : ℕ) (Away Other : ℕ → Type 0) (value : ℕ) → ((d : ℕ) → Away d → Other d) → ((d : ℕ) → Other d → Away d) → IsLastDistance m Away value → IsLastDistance m Other value
last-as m Away Other value to from (last_none zeros nothing) = last_none zeros (λ d other. nothing d (from d other))
last-as m Away Other value to from (last_some near within) =
    last_some (record { holds = to value near.holds; least = λ d other. near.least d (from d other) }) within

first-by : (set : ByteSet) (n : ℕ) → RunsBySet (first_meaning set n) set
first-by set n = record {
  field = λ region tree u entered other told same.
      first-as n (IsAway (members set) u entered) (IsAway (members set) u other) _
      (away-as (members set) u entered other (λ q. (same q).0)) (away-as (members set) u other entered (λ q. (same q).1));
  leaves = λ tree u entered other next told lives leaves.
      subst (λ t. Leaves t u other next) (sym told)
      (repeat-as (members set) u entered other lives n None next (subst (λ t. Leaves t u entered next) told leaves));
}

last-by : (set : ByteSet) (m : ℕ) → RunsBySet (last_meaning set m) set
last-by set m = record {
  field = λ region tree u entered other told same.
      last-as m (IsAway (members set) u entered) (IsAway (members set) u other) _
      (away-as (members set) u entered other (λ q. (same q).0)) (away-as (members set) u other entered (λ q. (same q).1));
  leaves = λ tree u entered other next told lives leaves. elim told [
    | inl is ↦
        subst (λ t. Leaves t u other next) (sym is)
        (repeat-as (members set) u entered other lives 0 (Some m) next (subst (λ t. Leaves t u entered next) is leaves))
    | inr is ↦
        subst (λ t. Leaves t u other next) (sym is)
        (repeat-as (members set) u entered other lives 1 (Some m) next (subst (λ t. Leaves t u entered next) is leaves))
  ];
}

ring-by : (set : ByteSet) (n m : ℕ) → RunsBySet (ring_meaning set n m) set
ring-by set n m = record {
  field = λ region tree u entered other told same row k. (
    λ bit. held-as (members set) u entered other (λ q. (same q).0) m k ((row k).0 bit),
    λ held. (row k).1 (held-as (members set) u other entered (λ q. (same q).1) m k held),
  );
  leaves = λ tree u entered other next told lives leaves.
      subst (λ t. Leaves t u other next) (sym told)
      (repeat-as (members set) u entered other lives n (Some m) next (subst (λ t. Leaves t u entered next) told leaves));
}

-- a byte of the set, before which the repeat is entered, doesn't leave the region of the empty stream as it is

module _ (set wide : ByteSet) (b : ℕ) (small : b < 256) (is : has set b ≡ true) where
  one-lives : IsUnbroken (members set) (b ∷ []) (true ∷ []) 0
  one-lives = unbroken-new set [] [] refl b small true is refl

  one-away : IsAway (members set) (b ∷ []) (true ∷ []) 1
  one-away = record { from = 0; ends = refl; unbroken = one-lives }

  away-never : (d : ℕ) → IsAway (members set) [] [] d → ⊥
  away-never d away = let before : away.from < 0 = away.unbroken.before in absurd (omega arith)

  first-start : (n : ℕ) → IsStart (first_meaning set n) []
  first-start n tree told = first_none refl away-never

  first-wakes : (n : ℕ) → 0 < n → AreWakers (first_meaning set n) wide → has wide b ≡ true
  first-wakes n some wakers = elim (true-or-false (has wide b)) [
    | inl inside ↦ inside
    | inr out ↦
        let moved : IsFirstDistance n (IsAway (members set) (b ∷ []) (true ∷ [])) 0 =
        (wakers [] b (first-start n) small out).stays true (repeat_of set n None) [] [] refl refl (first-start n (repeat_of set n None) refl) in
        absurd (first.first-none n (IsAway (members set) (b ∷ []) (true ∷ [])) 0 some (away-positive (members set) (b ∷ []) (true ∷ [])) moved refl 1 one-away)
  ]

  last-start : (m : ℕ) → IsStart (last_meaning set m) []
  last-start m tree told = last_none refl (λ d away within. away-never d away)

  last-wakes : (m : ℕ) → 0 < m → AreWakers (last_meaning set m) wide → has wide b ≡ true
  last-wakes m some wakers = elim (true-or-false (has wide b)) [
    | inl inside ↦ inside
    | inr out ↦
        let moved : IsLastDistance m (IsAway (members set) (b ∷ []) (true ∷ [])) 0 =
        (wakers [] b (last-start m) small out).stays true (repeat_of set 0 (Some m)) [] [] (inl refl) refl (last-start m (repeat_of set 0 (Some m)) (inl refl)) in
        absurd (last.last-none m (IsAway (members set) (b ∷ []) (true ∷ [])) 0 (away-positive (members set) (b ∷ []) (true ∷ [])) moved refl 1 one-away (omega arith))
  ]

  no-bytes : AreZero []
  no-bytes i below = absurd (omega arith)

  ring-wakes : (n m : ℕ) → 0 < m → AreWakers (ring_meaning set n m) wide → has wide b ≡ true
  ring-wakes n m some wakers = elim (true-or-false (has wide b)) [
    | inl inside ↦ inside
    | inr out ↦
        let begun : IsStart (ring_meaning set n m) [] = λ tree told. ring-start (members set) m [] no-bytes in
        let moved = (wakers [] b begun small out).stays true (repeat_of set n (Some m)) [] [] refl refl (ring-start (members set) m [] no-bytes) in
        let held : IsHeld m (members set) (b ∷ []) (true ∷ []) (0 % m) = record { from = 0; unbroken = one-lives; recent = omega arith; place = refl } in
        true-false (has_bit [] (0 % m)) ((moved (0 % m)).1 held) (zero-bits [] no-bytes (0 % m))
  ]

-- so the bytes that wake such an engine tell how its matches begin

wakers-tell : (m : Meaning) (behind : PrevSet) (set wide : ByteSet) → ((prev : Prev) → has_prev behind prev ≡ true) → ((b : ℕ) → b < 256 → has set b ≡ true → has wide b ≡ true) → RunsBySet m set → AreWakers m wide → TellsBeginnings m behind (wide ∷ [])
wakers-tell m behind set wide each wider by wakers = record {
  wakes = waker-row m behind wide each wakers;
  enters = set-entry-row m behind wide each (runs-wider m set wide wider by);
}

pub first-tells : (set wide : ByteSet) (n : ℕ) (behind : PrevSet) → 0 < n → ((prev : Prev) → has_prev behind prev ≡ true) → AreWakers (first_meaning set n) wide → TellsBeginnings (first_meaning set n) behind (wide ∷ [])
first-tells set wide n behind some each wakers =
    wakers-tell (first_meaning set n) behind set wide each (λ b small is. first-wakes set wide b small is n some wakers) (first-by set n) wakers

pub last-tells : (set wide : ByteSet) (m : ℕ) (behind : PrevSet) → 0 < m → ((prev : Prev) → has_prev behind prev ≡ true) → AreWakers (last_meaning set m) wide → TellsBeginnings (last_meaning set m) behind (wide ∷ [])
last-tells set wide m behind some each wakers =
    wakers-tell (last_meaning set m) behind set wide each (λ b small is. last-wakes set wide b small is m some wakers) (last-by set m) wakers

pub ring-tells : (set wide : ByteSet) (n m : ℕ) (behind : PrevSet) → 0 < m → ((prev : Prev) → has_prev behind prev ≡ true) → AreWakers (ring_meaning set n m) wide → TellsBeginnings (ring_meaning set n m) behind (wide ∷ [])
ring-tells set wide n m behind some each wakers =
    wakers-tell (ring_meaning set n m) behind set wide each (λ b small is. ring-wakes set wide b small is n m some wakers) (ring-by set n m) wakers

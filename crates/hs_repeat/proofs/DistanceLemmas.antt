-- Distances of entries that live, as they move over a byte.
use Rattle.std.proofs.Common.{◌≡◌, ◌≢◌, ℕ, ◌+◌, ◌-◌, ◌<◌, Bool, true, false, List, [], ◌∷◌, ◌++◌, length, inl, inr, arith, length-append}
use Rattle.std.specs.Prelude.{◌⊎◌}
use Rattle.hs_base.specs.declared.byte_set.ByteSet.{ByteSet}
use Rattle.hs_base.specs.ByteSets.{has, members}
use Rattle.hs_base.specs.RepeatRows.{IsAway}
use Rattle.hs_repeat.proofs.EntryLemmas.{unbroken-kept, unbroken-new, unbroken-only, unbroken-none}

-- The distances Later are those behind a byte of the set: each of Away is one more, and 1 is new if the repeat is entered.
pub record Moves (Away Later : ℕ → Type 0) (entering : Bool) : Type 0 where
  pub positive : (d : ℕ) → Away d → 0 < d
  pub kept : (d : ℕ) → Away d → Later (d + 1)
  pub enters : entering ≡ true → Later 1
  pub only : (d : ℕ) → Later d → ((d ≡ 1) × (entering ≡ true)) ⊎ ((e : ℕ) × Away e × (d ≡ e + 1))

pub away-positive : (set : List Bool) (u : List ℕ) (entered : List Bool) (d : ℕ) → IsAway set u entered d → 0 < d
away-positive set u entered d away =
    let before : away.from < length u = away.unbroken.before in
    let ends : away.from + d ≡ length u = away.ends in
    omega arith

pub away-moves : (set : ByteSet) (u : List ℕ) (entered : List Bool) (len : length entered ≡ length u) (b : ℕ) (byte : b < 256) (entering : Bool) → has set b ≡ true →
    Moves (IsAway (members set) u entered) (IsAway (members set) (u ++ b ∷ []) (entered ++ entering ∷ [])) entering
away-moves set u entered len b byte entering is = record {
  positive = away-positive (members set) u entered;
  kept = λ d away.
      let ends : away.from + d ≡ length u = away.ends in
      record {
        from = away.from;
        ends = omega (arith, length-append u (b ∷ []));
        unbroken = unbroken-kept set u entered len b byte entering is away.from away.unbroken;
      };
  enters = λ enters. record {
    from = length u;
    ends = omega (arith, length-append u (b ∷ []));
    unbroken = unbroken-new set u entered len b byte entering is enters;
  };
  only = λ d later.
      let ends : later.from + d ≡ length (u ++ b ∷ []) = later.ends in
      elim (unbroken-only set u entered len b byte entering later.from later.unbroken) [
        | inl (same, enters) ↦ inl (omega (arith, length-append u (b ∷ [])), enters)
        | inr old ↦
            let before : later.from < length u = old.before in
            inr (d - 1, record { from = later.from; ends = omega (arith, length-append u (b ∷ [])); unbroken = old }, omega (arith, length-append u (b ∷ [])))
      ];
}

pub away-none : (set : ByteSet) (u : List ℕ) (entered : List Bool) (len : length entered ≡ length u) (b : ℕ) (byte : b < 256) (entering : Bool) → has set b ≡ false →
    (d : ℕ) → IsAway (members set) (u ++ b ∷ []) (entered ++ entering ∷ []) d → ⊥
away-none set u entered len b byte entering isnt d away = unbroken-none set u entered len b byte entering isnt away.from away.unbroken

-- a distance that isn't 0
pub positive : (n : ℕ) → n ≢ 0 → 0 < n
positive n some = omega arith

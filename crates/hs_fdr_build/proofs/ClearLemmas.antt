-- Bits made 0 step by step.
use Rattle.std.proofs.Common.{◌≡◌, ℕ, ◌+◌, ◌*◌, ◌%◌, ◌^◌, ◌<◌, ◌⊎◌, List, length, get_or, refl, sym, ap, subst, ◌∙◌, inl, inr, arith, bit_and, w8, ◌↔◌}
use Rattle.std.proofs.Math.ListN.{set, length-set}
use Rattle.std.specs.Int.{bit_at, bit_not}
use Rattle.std.proofs.lemmas.Bool.{cases_lt, cases_eq}
use Rattle.std.proofs.lemmas.List.{get_or-set_same, get_or-set_other}
use Rattle.std.proofs.lemmas.Nat.Bits.{bit_at_clear_same, bit_at_clear_other}
use Rattle.hs_fdr_build.specs.Clearing.{IsClear, Clears}

-- nothing was made 0
pub clears-none : (Q : ℕ → ℕ → Type 0) (s : List ℕ) → ((at b : ℕ) → Q at b → ⊥) → Clears Q s s
clears-none Q s never = record {
  alike = refl;
  each = λ at b _ _. (λ is. inl is, λ found. elim found [ inl is ↦ is | inr more ↦ absurd (never at b more) ]);
}

-- the same, said in other words, of the places there are
pub clears-map : (Q Q' : ℕ → ℕ → Type 0) (s t : List ℕ) → ((at b : ℕ) → at < length s → b < 8 → Q at b → Q' at b) → ((at b : ℕ) → at < length s → b < 8 → Q' at b → Q at b) → Clears Q s t → Clears Q' s t
clears-map Q Q' s t to from clears = record {
  alike = clears.alike;
  each = λ at b h k. (
    λ is. elim ((clears.each at b h k).0 is) [ inl old ↦ inl old | inr more ↦ inr (to at b h k more) ],
    λ found. elim found [ inl old ↦ (clears.each at b h k).1 (inl old) | inr more ↦ (clears.each at b h k).1 (inr (from at b h k more)) ],
  );
}

-- one after the other
pub clears-then : (Q Q' : ℕ → ℕ → Type 0) (s t u : List ℕ) → Clears Q s t → Clears Q' t u → Clears (λ at b. Q at b ⊎ Q' at b) s u
clears-then Q Q' s t u one two = record {
  alike = two.alike ∙ one.alike;
  each = λ at b h k.
      let h' : at < length t = subst (λ n. at < n) (sym one.alike) h in (
        λ is. elim ((two.each at b h' k).0 is) [
          | inl old ↦ elim ((one.each at b h k).0 old) [ inl older ↦ inl older | inr more ↦ inr (inl more) ]
          | inr more ↦ inr (inr more)
        ],
        λ found. elim found [
          | inl old ↦ (two.each at b h' k).1 (inl ((one.each at b h k).1 (inl old)))
          | inr which ↦ elim which [
            | inl more ↦ (two.each at b h' k).1 (inl ((one.each at b h k).1 (inr more)))
            | inr more ↦ (two.each at b h' k).1 (inr more)
          ]
        ],
      );
}

-- what a loop over the numbers below n has made 0
abbrev pub FromBelow : (ℕ → ℕ → ℕ → Type 0) → ℕ → ℕ → ℕ → Type 0
FromBelow R n at b = (i : ℕ) × (i < n) × R i at b

pub from_below-none : (R : ℕ → ℕ → ℕ → Type 0) (s : List ℕ) → Clears (FromBelow R 0) s s
from_below-none R s = clears-none (FromBelow R 0) s (λ at b (i, below, _). omega arith)

pub from_below-more : (R : ℕ → ℕ → ℕ → Type 0) (n : ℕ) (s t u : List ℕ) → Clears (FromBelow R n) s t → Clears (R n) t u → Clears (FromBelow R (n + 1)) s u
from_below-more R n s t u one two =
    clears-map (λ at b. FromBelow R n at b ⊎ R n at b) (FromBelow R (n + 1)) s u
    (λ at b _ _. widen at b)
    (λ at b _ _ (i, below, is). narrow at b i below is)
    (clears-then (FromBelow R n) (R n) s t u one two)
  where
    widen : (at b : ℕ) → FromBelow R n at b ⊎ R n at b → FromBelow R (n + 1) at b
    widen at b (inl (i, below, is)) = (i, omega arith, is)
    widen at b (inr is) = (n, omega arith, is)

    narrow : (at b i : ℕ) → i < n + 1 → R i at b → FromBelow R n at b ⊎ R n at b
    narrow at b i below is = elim (cases_lt i n) [
      | inl less ↦ inl (i, less, is)
      | inr more ↦ let same : i ≡ n = omega arith in inr (subst (λ m. R m at b) same is)
    ]

module _ (s : List ℕ) (at b : ℕ) (within : at < length s) (small : b < 8) where
  abbrev cleared : ℕ
  cleared = bit_and (get_or s at 0) (bit_not w8 (1 * 2 ^ b % 2 ^ 8))

  at_here : (bucket : ℕ) → bucket < 8 → IsClear (set s at cleared) at bucket ↔ (IsClear s at bucket ⊎ ((at ≡ at) × (bucket ≡ b)))
  at_here bucket h =
      let e : get_or (set s at cleared) at 0 ≡ cleared = get_or-set_same s at cleared 0 within in
      elim (cases_eq bucket b) [
        | inl same ↦ (
          λ is. inr (refl, same),
          λ found. ap (λ x. bit_at x bucket) e ∙ subst (λ k. bit_at cleared k ≡ 0) (sym same) (bit_at_clear_same w8 (get_or s at 0) b small),
        )
        | inr other ↦
            let stays : bit_at cleared bucket ≡ bit_at (get_or s at 0) bucket = bit_at_clear_other w8 (get_or s at 0) b small bucket h other in (
              λ is. inl (sym stays ∙ sym (ap (λ x. bit_at x bucket) e) ∙ is),
              λ found. elim found [
                | inl old ↦ ap (λ x. bit_at x bucket) e ∙ stays ∙ old
                | inr it ↦ absurd (other it.1)
              ],
            )
      ]

  -- one bit
  pub clears-bit : Clears (λ place bucket. (place ≡ at) × (bucket ≡ b)) s (set s at cleared)
  clears-bit = record {
    alike = length-set s at cleared;
    each = λ place bucket _ h. elim (cases_eq place at) [
      | inl same ↦ subst (λ p. IsClear (set s at cleared) p bucket ↔ (IsClear s p bucket ⊎ ((p ≡ at) × (bucket ≡ b)))) (sym same) (at_here bucket h)
      | inr other ↦
          let e : bit_at (get_or (set s at cleared) place 0) bucket ≡ bit_at (get_or s place 0) bucket = ap (λ x. bit_at x bucket) (get_or-set_other s at place cleared 0 other) in (
            λ is. inl (sym e ∙ is),
            λ found. elim found [
              | inl old ↦ e ∙ old
              | inr it ↦ absurd (other it.0)
            ],
          )
    ];
  }

-- Which masks have some context.
use Rattle.std.proofs.Common.{◌≡◌, ℕ, ◌+◌, ◌<◌, ◌≤◌, Bool, true, false, ◌&&◌, ◌||◌, Option, Some, None, IfSome, eqb, refl, sym, ap, ◌∙◌, inl, inr, arith}
use Rattle.std.specs.Prelude.{unwrap_or}
use Rattle.std.proofs.lemmas.Bool.{cases_eq, eq-eqb, ne_eqb}
use Rattle.hs_base.specs.Contexts.{Context}
use Rattle.hs_base.proofs.ContextLemmas.{left_of_either}

pub some-more : (p k : ℕ) (bit old new : Bool) → k < p + 1 → new ≡ ((eqb k p && bit) || old) → (k ≡ p → bit ≡ true) → (k < p → old ≡ true) → new ≡ true
some-more p k bit old new below is here before =
    elim (cases_eq k p) [
      | inl same ↦ is ∙ (ap (λ b. (b && bit) || old) (eq-eqb k p same) ∙ left_of_either bit old (here same))
      | inr apart ↦ is ∙ (ap (λ b. (b && bit) || old) (ne_eqb k p apart) ∙ before (omega arith))
    ]

pub some-few : (p k : ℕ) (bit old new : Bool) → p + 1 ≤ k → new ≡ ((eqb k p && bit) || old) → old ≡ false → new ≡ false
some-few p k bit old new past is before = is ∙ (ap (λ b. (b && bit) || old) (ne_eqb k p (λ same. absurd (omega arith))) ∙ before)

-- a mask that has one context has all or some
pub some-there : (found : Option Bool) (has : Context → Bool) (h : Context) → IfSome found (λ everywhere. (c : Context) → has c ≡ everywhere) → has h ≡ true → unwrap_or found true ≡ true
some-there None has h is here = refl
some-there (Some everywhere) has h is here = sym (is h) ∙ here

-- Masks that are narrowed one after the other.
use Rattle.std.proofs.Common.{◌≡◌, ℕ, ◌+◌, ◌≤◌, Bool, true, false, ◌&&◌, ◌||◌, refl, sym, ap, ◌∙◌, inl, inr, arith}
use Rattle.std.proofs.lemmas.Bool.{cases_eq, eq-eqb, ne_eqb}
use Rattle.hs_glushkov.specs.Ranges.{is_within}
use Rattle.hs_glushkov.proofs.FollowLemmas.{within-none, within-over, within-suc}
use Rattle.hs_glushkov.specs.Parts.{narrowed}

pub narrowed-none : (low k : ℕ) (allowed b : Bool) → b ≡ narrowed (is_within low low k) allowed b
narrowed-none low k allowed b = ap (λ w. narrowed w allowed b) (sym (within-none low k))

pub and-turned : (a b : Bool) → (a && b) ≡ (b && a)
and-turned true true = refl
and-turned true false = refl
and-turned false true = refl
and-turned false false = refl

pub narrowed-more : (low i k : ℕ) (m b before now : Bool) → low ≤ i → (k ≡ i → now ≡ (before && m)) → ((k ≡ i → ⊥) → now ≡ before) →
    before ≡ narrowed (is_within low i k) m b → now ≡ narrowed (is_within low (i + 1) k) m b
narrowed-more low i k m b before now order here there known =
    elim (cases_eq k i) [
      | inl same ↦
          let was : is_within low i k ≡ false = within-over low i k (omega arith) in
          let is : is_within low (i + 1) k ≡ true = within-suc low i k order ∙ ap (λ e. e || is_within low i k) (eq-eqb k i same) in
          let first : before ≡ b = known ∙ ap (λ w. narrowed w m b) was in
          here same ∙ (ap (λ e. e && m) first ∙ (and-turned b m ∙ ap (λ w. narrowed w m b) (sym is)))
      | inr apart ↦
          let is : is_within low (i + 1) k ≡ is_within low i k = within-suc low i k order ∙ ap (λ e. e || is_within low i k) (ne_eqb k i apart) in
          there apart ∙ (known ∙ ap (λ w. narrowed w m b) (sym is))
    ]

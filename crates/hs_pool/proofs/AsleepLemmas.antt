-- Places before which nothing wakes an engine.
use Rattle.std.proofs.Common.{◌≡◌, ◌⊎◌, ℕ, ◌<◌, Bool, true, false, ◌&&◌, nat_lt, inl, inr, bit_and, List, slice_index, length, refl, sym, ap, ◌∙◌}
use Rattle.std.proofs.lemmas.Bool.{lt-ltb}
use Rattle.hs_bits.specs.MemberPlaces.{ArePlacesOf}
use Rattle.hs_bits.specs.WordBits.{word_bit}
use Rattle.hs_bits.proofs.PlaceLemmas.{bit-both}

either-false : (x y : Bool) → (x && y) ≡ false → (x ≡ false) ⊎ (y ≡ false)
either-false true y is = inr is
either-false false y is = inl refl

pub unwoken-at : (enters places : ℕ) (test : ℕ → Bool) (bytes : List ℕ) (i : ℕ) → i < length bytes → ArePlacesOf test bytes (length bytes) places → word_bit (bit_and enters places) i ≡ false →
    (word_bit enters i ≡ false) ⊎ (test (slice_index bytes i) ≡ false)
unfolding word_bit
unwoken-at enters places test bytes i low are none =
    let both : (word_bit enters i && word_bit places i) ≡ false = sym (bit-both enters places i) ∙ none in
    elim (either-false (word_bit enters i) (word_bit places i) both) [
      | inl out ↦ inl out
      | inr unset ↦
          let there : (nat_lt i (length bytes) && test (slice_index bytes i)) ≡ false = sym (are i) ∙ unset in
          let below : nat_lt i (length bytes) ≡ true = lt-ltb i (length bytes) low in
          inr (ap (λ b. b && test (slice_index bytes i)) (sym below) ∙ there)
    ]

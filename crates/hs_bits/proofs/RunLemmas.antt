-- Places of a word, and those in a row behind them.
use Rattle.std.proofs.Common.{◌≡◌, ℕ, ◌-◌, ◌*◌, ◌%◌, ◌<◌, Bool, true, false, ◌&&◌, ◌||◌, bit_and, bit_or, refl, sym, ap, ◌∙◌}
use Rattle.std.specs.Prelude.{nat_le}
use Rattle.hs_bits.specs.WordBits.{word_bit}
use Rattle.hs_bits.proofs.PlaceLemmas.{bit-both, bit-either, bit-up}

-- the first places, and others of the run
pub spread-bit : (first run x i : ℕ) → word_bit (bit_or first (bit_and run x)) i ≡ (word_bit first i || (word_bit run i && word_bit (bit_or first (bit_and run x)) i))
spread-bit first run x i =
    let is : word_bit (bit_or first (bit_and run x)) i ≡ (word_bit first i || (word_bit run i && word_bit x i)) = bit-either first (bit_and run x) i ∙ ap (λ b. word_bit first i || b) (bit-both run x i) in
    is ∙ (again (word_bit first i) (word_bit run i) (word_bit x i) ∙ ap (λ b. word_bit first i || (word_bit run i && b)) (sym is))
  where
    again : (f r x : Bool) → (f || (r && x)) ≡ (f || (r && (f || (r && x))))
    again true r x = refl
    again false true x = refl
    again false false x = refl

-- what a look at a word says
pub looked-at : (class reached again word : ℕ) → word ≡ bit_and class (bit_or reached (bit_and (word * 2 % 18446744073709551616) again)) → (i : ℕ) → i < 64 →
    word_bit word i ≡ (word_bit class i && (word_bit reached i || (nat_le 1 i && (word_bit word (i - 1) && word_bit again i))))
looked-at class reached again word is i small =
    let up : ℕ = word * 2 % 18446744073709551616 in
    ap (λ w. word_bit w i) is
    ∙ (bit-both class (bit_or reached (bit_and up again)) i
    ∙ ap (λ b. word_bit class i && b)
    (bit-either reached (bit_and up again) i
    ∙ ap (λ b. word_bit reached i || b)
    (bit-both up again i ∙ (ap (λ b. b && word_bit again i) (bit-up word 1 i small) ∙ and-grouped (nat_le 1 i) (word_bit word (i - 1)) (word_bit again i)))))
  where
    and-grouped : (a b c : Bool) → ((a && b) && c) ≡ (a && (b && c))
    and-grouped true b c = refl
    and-grouped false b c = refl

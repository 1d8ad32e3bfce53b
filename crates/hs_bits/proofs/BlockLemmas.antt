-- Blocks of bytes behind a stream, and the bits that go with them.
use Rattle.std.proofs.Common.{◌≡◌, ◌↔◌, ℕ, zero, suc, ◌+◌, ◌<◌, ◌≤◌, Bool, true, false, ◌&&◌, ◌||◌, List, [], ◌∷◌, ◌++◌, length, get_or, take, eqb, refl, sym, ap, subst, ◌∙◌, inl, inr, arith, append_assoc, length-append}
use Rattle.std.proofs.lemmas.Bool.{cases_eq, eq-eqb, ne_eqb}
use Rattle.std.proofs.lemmas.List.{take_more, length-take-le}
use Rattle.std.specs.Prelude.{if◌then◌else◌}
use Rattle.hs_base.specs.declared.context.Prev.{Prev}
use Rattle.hs_base.specs.Assertions.{line_feed, is_word_byte}
use Rattle.hs_base.specs.Contexts.{prev_at, prev_by, prev_behind}
use Rattle.hs_base.proofs.NewLemmas.{length-push}
use Rattle.hs_base.proofs.StreamContexts.{slice_get-seam}
use Rattle.hs_bits.specs.WordBits.{word_bit, bits_of, Marks, count_below}

pub length-bits : (word n : ℕ) → length (bits_of word n) ≡ n
length-bits word zero = refl
length-bits word (suc n) = omega (arith, length-append (bits_of word n) (word_bit word n ∷ []), length-bits word n)

-- one bit more
pub bits-more : (word n : ℕ) → bits_of word (n + 1) ≡ bits_of word n ++ word_bit word n ∷ []
bits-more word n = let e : n + 1 ≡ suc n = omega arith in ap (λ k. bits_of word k) e

pub entered-more : (entered : List Bool) (word n : ℕ) → (entered ++ bits_of word n) ++ word_bit word n ∷ [] ≡ entered ++ bits_of word (n + 1)
entered-more entered word n = append_assoc entered (bits_of word n) (word_bit word n ∷ []) ∙ ap (λ v. entered ++ v) (sym (bits-more word n))

-- one byte more of the block
pub block-more : (u bytes : List ℕ) (n : ℕ) → n < length bytes → (u ++ take n bytes) ++ get_or bytes n 0 ∷ [] ≡ u ++ take (n + 1) bytes
block-more u bytes n below = append_assoc u (take n bytes) (get_or bytes n 0 ∷ []) ∙ ap (λ w. u ++ w) (sym (take_more bytes n 0 below))

pub length-block : (u bytes : List ℕ) (n : ℕ) → n ≤ length bytes → length (u ++ take n bytes) ≡ length u + n
length-block u bytes n within = omega (arith, length-append u (take n bytes), length-take-le n bytes within)

pub length-entered : (entered : List Bool) (word n : ℕ) → length (entered ++ bits_of word n) ≡ length entered + n
length-entered entered word n = omega (arith, length-append entered (bits_of word n), length-bits word n)

-- what stands behind one more byte
prev-suc : (u : List ℕ) (b : ℕ) → prev_at (u ++ b ∷ []) (suc (length u)) ≡ prev_by (eqb b line_feed) (is_word_byte b)
unfolding prev_at
prev-suc u b = ap prev_behind (slice_get-seam u b [])

pub prev-push : (u : List ℕ) (b : ℕ) → prev_at (u ++ b ∷ []) (length (u ++ b ∷ [])) ≡ prev_by (eqb b line_feed) (is_word_byte b)
prev-push u b =
    let count : length (u ++ b ∷ []) ≡ suc (length u) = omega (arith, length-push u b) in
    ap (prev_at (u ++ b ∷ [])) count ∙ prev-suc u b

pub prev-next : (bytes u : List ℕ) (n : ℕ) (behind : Prev) → n < length bytes → behind ≡ prev_by (eqb (get_or bytes n 0) line_feed) (is_word_byte (get_or bytes n 0)) →
    behind ≡ prev_at (u ++ take (n + 1) bytes) (length (u ++ take (n + 1) bytes))
prev-next bytes u n behind below is =
    is ∙ (sym (prev-push (u ++ take n bytes) (get_or bytes n 0)) ∙ ap (λ w. prev_at w (length w)) (block-more u bytes n below))

pub or-none : (b : Bool) → (b || false) ≡ b
or-none true = refl
or-none false = refl

-- one bit more of a word
pub marks-more : (n old new : ℕ) (P : ℕ → Type 0) (bit : Bool) → Marks n old P → ((j : ℕ) → word_bit new j ≡ ((eqb j n && bit) || word_bit old j)) → (bit ≡ true) ↔ P n →
    Marks (n + 1) new P
marks-more n old new P bit marks is here =
    let others : (j : ℕ) → (j ≡ n → ⊥) → word_bit new j ≡ word_bit old j = λ j apart. is j ∙ ap (λ t. (t && bit) || word_bit old j) (ne_eqb j n apart) in
    let same : word_bit new n ≡ bit =
    is n ∙ (ap (λ t. (t && bit) || word_bit old n) (eq-eqb n n refl) ∙ (ap (λ t. bit || t) (marks.above n (omega arith)) ∙ or-none bit)) in
    record {
      below = λ i low.
          elim (cases_eq i n) [
            | inl e ↦ subst (λ k. (word_bit new k ≡ true) ↔ P k) (sym e) ((λ set. here.0 (sym same ∙ set)), (λ p. same ∙ here.1 p))
            | inr apart ↦
                let old_is : (word_bit old i ≡ true) ↔ P i = marks.below i (omega arith) in
                ((λ set. old_is.0 (sym (others i apart) ∙ set)), (λ p. others i apart ∙ old_is.1 p))
          ];
      above = λ i high. others i (λ e. absurd (omega arith)) ∙ marks.above i (omega arith);
    }

-- counts

pub count-same : (n : ℕ) (f g : ℕ → Bool) → ((i : ℕ) → i < n → f i ≡ g i) → count_below n f ≡ count_below n g
count-same zero f g same = refl
count-same (suc n) f g same =
    ap (λ b. (if b then 1 else 0) + count_below n f) (same n (omega arith)) ∙ ap (λ k. (if g n then 1 else 0) + k) (count-same n f g (λ i low. same i (omega arith)))

pub count-more : (n : ℕ) (f : ℕ → Bool) → count_below (n + 1) f ≡ (if f n then 1 else 0) + count_below n f
count-more n f = let e : n + 1 ≡ suc n = omega arith in ap (λ k. count_below k f) e

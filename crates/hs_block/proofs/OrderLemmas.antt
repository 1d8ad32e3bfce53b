-- What the rows of tables of positions say, bit by bit.
use Rattle.std.proofs.Common.{◌≡◌, ◌≢◌, ◌↔◌, ℕ, zero, suc, ◌+◌, ◌*◌, ◌/◌, ◌%◌, ◌<◌, ◌≤◌, Bool, true, false, not, ◌&&◌, ◌||◌, List, [], ◌∷◌, ◌++◌, length, get_or, eqb, refl, sym, ap, subst, ◌∙◌, inl, inr, arith}
use Rattle.std.proofs.lemmas.Bool.{cases_eq, cases_lt, eq-eqb, ne_eqb}
use Rattle.std.proofs.lemmas.List.{get_or_append_left, get_or-append-add, get_or_past}
use Rattle.hs_base.specs.Bits.{AreZero, has_word_bit}
use Rattle.hs_bits.specs.WordBits.{word_bit}
use Rattle.hs_bits.proofs.PlaceLemmas.{bit-none}
use Rattle.hs_bits.proofs.WordLemmas.{unset-bits}
use Rattle.hs_engine.specs.declared.follow_rows.FollowRows.{FollowRows}
use Rattle.hs_engine.specs.RowSizes.{square_count}
use Rattle.hs_engine.specs.Rows.{in_square}
use Rattle.hs_block.specs.StreamSets.{in_rows}

-- those that may come before a position in each context
pub record FromBit (rows : FollowRows) (x y : ℕ) (bit : Bool) : Type 0 where
  pub each : (k : ℕ) → bit ≡ true → k < square_count rows.by_context → in_square rows k y x ≡ true
  pub one : rows.by_context ≡ false → bit ≡ in_square rows 0 y x

-- those that may come before it in the contexts of a square, but not in each
abbrev pub RestBit : FollowRows → (width : ℕ) (froms : List ℕ) (number y : ℕ) → Bool → Type 0
RestBit rows width froms r y bit = bit ≡ (in_square rows (r % 12) y (r / 12) && not (in_rows froms width (r / 12) y))

-- those that may come behind it
abbrev pub SuccessorBit : FollowRows → (x y : ℕ) → Bool → Type 0
SuccessorBit rows x y bit = (k : ℕ) → k < square_count rows.by_context → in_square rows k x y ≡ true → y ≢ x → bit ≡ true

-- by position and square
pub rest-there : (rows : FollowRows) (width : ℕ) (froms : List ℕ) (x q y : ℕ) (bit : Bool) → q < 12 → RestBit rows width froms (12 * x + q) y bit → bit ≡ (in_square rows q y x && not (in_rows froms width x y))
rest-there rows width froms x q y bit few is =
    let number : (12 * x + q) / 12 ≡ x = omega arith in
    let square : (12 * x + q) % 12 ≡ q = omega arith in
    is
    ∙ (ap (λ k. in_square rows k y ((12 * x + q) / 12) && not (in_rows froms width ((12 * x + q) / 12) y)) square
    ∙ ap (λ k. in_square rows q y k && not (in_rows froms width k y)) number)

-- The word has a bit for each of the twelve rows of a position that isn't 0.
pub record Asked (rests : List ℕ) (width x word : ℕ) : Type 0 where
  pub few : (q : ℕ) → 12 ≤ q → word_bit word q ≡ false
  pub unasked : (q y : ℕ) → q < 12 → y < 64 * width → word_bit word q ≡ false → in_rows rests width (12 * x + q) y ≡ false

-- one row more
pub asked-more : (rests row : List ℕ) (width x square old new : ℕ) (unset : Bool) → ((y : ℕ) → y < 64 * width → has_word_bit row y ≡ in_rows rests width (12 * x + square) y) → (unset ≡ true) ↔ AreZero row →
    ((k : ℕ) → word_bit new k ≡ ((eqb k square && not unset) || word_bit old k)) →
    ((q y : ℕ) → q < square → y < 64 * width → word_bit old q ≡ false → in_rows rests width (12 * x + q) y ≡ false) →
    (q y : ℕ) → q < square + 1 → y < 64 * width → word_bit new q ≡ false → in_rows rests width (12 * x + q) y ≡ false
asked-more rests row width x square old new unset bits is new_is unasked q y below inside off =
    elim (cases_eq q square) [
      | inl same ↦
          let both : (not unset || word_bit old q) ≡ false = sym (new_is q ∙ ap (λ b. (b && not unset) || word_bit old q) (eq-eqb q square same)) ∙ off in
          subst (λ k. in_rows rests width (12 * x + k) y ≡ false) (sym same) (sym (bits y inside) ∙ unset-bits row (is.0 (left-unset unset (word_bit old q) both)) y)
      | inr apart ↦ unasked q y (omega arith) inside (sym (new_is q ∙ ap (λ b. (b && not unset) || word_bit old q) (ne_eqb q square apart)) ∙ off)
    ]
  where
    left-unset : (a b : Bool) → (not a || b) ≡ false → a ≡ true
    left-unset true b is = refl
    left-unset false b is = absurd (let e : true ≡ false = is in cc)

pub few-more : (square old new : ℕ) (unset : Bool) → ((k : ℕ) → word_bit new k ≡ ((eqb k square && not unset) || word_bit old k)) → ((q : ℕ) → square ≤ q → word_bit old q ≡ false) → (q : ℕ) → square + 1 ≤ q → word_bit new q ≡ false
few-more square old new unset new_is few q past =
    new_is q ∙ (ap (λ b. (b && not unset) || word_bit old q) (ne_eqb q square (λ same. absurd (omega (arith, same, past)))) ∙ few q (omega (arith, past)))

-- words for so many positions, and one more
pub words-more : (rests items new : List ℕ) (width n word : ℕ) → new ≡ items ++ word ∷ [] → length items ≡ n → ((x : ℕ) → x < n → Asked rests width x (get_or items x 0)) → Asked rests width n word →
    (x : ℕ) → x < n + 1 → Asked rests width x (get_or new x 0)
words-more rests items new width n word is count each one x below =
    elim (cases_eq x n) [
      | inl same ↦
          let here : get_or new x 0 ≡ word = ap (λ l. get_or l x 0) is ∙ (ap (λ k. get_or (items ++ word ∷ []) k 0) (same ∙ sym count ∙ sym-add) ∙ get_or-append-add items (word ∷ []) 0 0) in
          subst (λ w. Asked rests width x w) (sym here) (subst (λ k. Asked rests width k word) (sym same) one)
      | inr apart ↦
          let here : get_or new x 0 ≡ get_or items x 0 = ap (λ l. get_or l x 0) is ∙ get_or_append_left items (word ∷ []) 0 x (omega (arith, count, apart, below)) in
          subst (λ w. Asked rests width x w) (sym here) (each x (omega (arith, apart, below)))
    ]
  where
    sym-add : length items ≡ length items + 0
    sym-add = omega arith

-- beyond them no bit is set
pub few-asked : (rests items : List ℕ) (width n x q : ℕ) → length items ≡ n → ((x : ℕ) → x < n → Asked rests width x (get_or items x 0)) → 12 ≤ q → word_bit (get_or items x 0) q ≡ false
few-asked rests items width n x q count each past =
    elim (cases_lt x n) [
      | inl below ↦ (each x below).few q past
      | inr beyond ↦ ap (λ w. word_bit w q) (get_or_past items x 0 (omega (arith, count, beyond))) ∙ bit-none q
    ]

-- the words of the twelve contexts
pub twelve : (P : (number word : ℕ) → Type 0) (a b c d e f g h i j k l : ℕ) → P 0 a → P 1 b → P 2 c → P 3 d → P 4 e → P 5 f → P 6 g → P 7 h → P 8 i → P 9 j → P 10 k → P 11 l →
    (q : ℕ) → q < 12 → P q (get_or (a ∷ b ∷ c ∷ d ∷ e ∷ f ∷ g ∷ h ∷ i ∷ j ∷ k ∷ l ∷ []) q 0)
twelve P a b c d e f g h i j k l p0 p1 p2 p3 p4 p5 p6 p7 p8 p9 p10 p11 zero low = p0
twelve P a b c d e f g h i j k l p0 p1 p2 p3 p4 p5 p6 p7 p8 p9 p10 p11 (suc zero) low = p1
twelve P a b c d e f g h i j k l p0 p1 p2 p3 p4 p5 p6 p7 p8 p9 p10 p11 (suc (suc zero)) low = p2
twelve P a b c d e f g h i j k l p0 p1 p2 p3 p4 p5 p6 p7 p8 p9 p10 p11 (suc (suc (suc zero))) low = p3
twelve P a b c d e f g h i j k l p0 p1 p2 p3 p4 p5 p6 p7 p8 p9 p10 p11 (suc (suc (suc (suc zero)))) low = p4
twelve P a b c d e f g h i j k l p0 p1 p2 p3 p4 p5 p6 p7 p8 p9 p10 p11 (suc (suc (suc (suc (suc zero))))) low = p5
twelve P a b c d e f g h i j k l p0 p1 p2 p3 p4 p5 p6 p7 p8 p9 p10 p11 (suc (suc (suc (suc (suc (suc zero)))))) low = p6
twelve P a b c d e f g h i j k l p0 p1 p2 p3 p4 p5 p6 p7 p8 p9 p10 p11 (suc (suc (suc (suc (suc (suc (suc zero))))))) low = p7
twelve P a b c d e f g h i j k l p0 p1 p2 p3 p4 p5 p6 p7 p8 p9 p10 p11 (suc (suc (suc (suc (suc (suc (suc (suc zero)))))))) low = p8
twelve P a b c d e f g h i j k l p0 p1 p2 p3 p4 p5 p6 p7 p8 p9 p10 p11 (suc (suc (suc (suc (suc (suc (suc (suc (suc zero))))))))) low = p9
twelve P a b c d e f g h i j k l p0 p1 p2 p3 p4 p5 p6 p7 p8 p9 p10 p11 (suc (suc (suc (suc (suc (suc (suc (suc (suc (suc zero)))))))))) low = p10
twelve P a b c d e f g h i j k l p0 p1 p2 p3 p4 p5 p6 p7 p8 p9 p10 p11 (suc (suc (suc (suc (suc (suc (suc (suc (suc (suc (suc zero))))))))))) low = p11
twelve P a b c d e f g h i j k l p0 p1 p2 p3 p4 p5 p6 p7 p8 p9 p10 p11 (suc (suc (suc (suc (suc (suc (suc (suc (suc (suc (suc (suc q)))))))))))) low = absurd (omega (arith, low))

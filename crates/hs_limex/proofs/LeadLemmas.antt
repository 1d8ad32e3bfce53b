-- The positions that live ones lead to.
use Rattle.std.proofs.Common.{◌≡◌, ℕ, ◌+◌, ◌-◌, ◌*◌, ◌/◌, ◌%◌, ◌<◌, ◌≤◌, Bool, true, false, ◌&&◌, ◌||◌, List, get_or, eqb, bit_and, refl, sym, ap, ◌∙◌, ◌⊎◌, inl, inr, arith}
use Rattle.std.specs.Prelude.{nat_lt, nat_le}
use Rattle.std.specs.Int.{bit_at}
use Rattle.std.proofs.lemmas.Bool.{cases_eq, cases_lt}
use Rattle.hs_base.proofs.ContextLemmas.{first_of_both, second_of_both, of_both, of_either, left_of_either, right_of_either}
use Rattle.hs_base.proofs.ContextSetLemmas.{bit-and}
use Rattle.hs_base.specs.Bits.{has_word_bit}
use Rattle.hs_bits.specs.LowestBits.{IsLowestBit, AreBitsBehind}
use Rattle.hs_engine.specs.AnyBelow.{any_below}
use Rattle.hs_limex.specs.Leading.{near_leads}
use Rattle.hs_limex.specs.SingleWords.{is_set}
use Rattle.hs_limex.specs.WordTables.{in_table}
use Rattle.hs_limex.specs.declared.word_rows.WordRows.{WordRows}
use Rattle.hs_limex.proofs.PlainLemmas.{not-true, same-truth, some-any, true-false}
use Rattle.hs_limex.proofs.SingleLemmas.{left-stays, no-bit}
use Rattle.hs_limex.proofs.StepLemmas.{any-some_below}

-- a bit of two words, where it lies among those of two rows
pub word-both : (live far : List ℕ) (place b : ℕ) → b < 64 → is_set (bit_and (get_or live place 0) (get_or far place 0)) b ≡ (has_word_bit live (64 * place + b) && has_word_bit far (64 * place + b))
unfolding has_word_bit
word-both live far place b small =
    let x : ℕ = 64 * place + b in
    let word : x / 64 ≡ place = omega arith in
    let bit : x % 64 ≡ b = omega arith in
    bit-and (get_or live place 0) (get_or far place 0) b
    ∙ sym (ap (λ i. eqb (bit_at (get_or live i 0) (x % 64)) 1 && eqb (bit_at (get_or far i 0) (x % 64)) 1) word ∙ ap (λ i. eqb (bit_at (get_or live place 0) i) 1 && eqb (bit_at (get_or far place 0) i) 1) bit)

-- where the position is live and in the row, what leads on is what follows it
pub both-on : (live far on : Bool) → (live && far) ≡ true → (live && (far && on)) ≡ on
both-on true true on both = refl
both-on true false on both = absurd (let e : false ≡ true = both in cc)
both-on false far on both = absurd (let e : false ≡ true = both in cc)

-- A bit was set or one of a word passes the test; where one does that isn't left, the bit is set.
pub record LeadsBut (test : ℕ → Bool) (place left : ℕ) (old now : Bool) : Type 0 where
  pub sound : now ≡ true → (old ≡ true) ⊎ ((b : ℕ) × (b < 64) × (test (64 * place + b) ≡ true))
  pub kept : old ≡ true → now ≡ true
  pub whole : (b : ℕ) → b < 64 → test (64 * place + b) ≡ true → is_set left b ≡ false → now ≡ true

-- before the first one, where all that pass are left
pub leads-none : (live far : List ℕ) (on : ℕ → Bool) (place : ℕ) (old : Bool) → LeadsBut (λ x. has_word_bit live x && (has_word_bit far x && on x)) place (bit_and (get_or live place 0) (get_or far place 0)) old old
leads-none live far on place old = record {
  sound = λ is. inl is;
  kept = λ is. is;
  whole = λ b small is gone.
      let x : ℕ = 64 * place + b in
      let from : has_word_bit live x ≡ true = first_of_both (has_word_bit live x) (has_word_bit far x && on x) is in
      let apart : has_word_bit far x ≡ true = first_of_both (has_word_bit far x) (on x) (second_of_both (has_word_bit live x) (has_word_bit far x && on x) is) in
      true-false (is_set (bit_and (get_or live place 0) (get_or far place 0)) b) (word-both live far place b small ∙ of_both (has_word_bit live x) (has_word_bit far x) from apart) gone;
}

-- over the lowest one
pub leads-more : (test : ℕ → Bool) (place left low rest : ℕ) (old before on now : Bool) → IsLowestBit left low → AreBitsBehind left low rest → low < 64 → test (64 * place + low) ≡ on → now ≡ (on || before) →
    LeadsBut test place left old before → LeadsBut test place rest old now
leads-more test place left low rest old before on now lowest behind small same step known = record {
  sound = λ is.
      elim (of_either on before (sym step ∙ is)) [
        | inl new ↦ inr (low, small, same ∙ new)
        | inr was ↦ known.sound was
      ];
  kept = λ is. step ∙ right_of_either on before (known.kept is);
  whole = λ b below is gone.
      step
      ∙ elim (cases_eq b low) [
        | inl here ↦ left_of_either on before (sym same ∙ (ap (λ i. test (64 * place + i)) (sym here) ∙ is))
        | inr apart ↦ right_of_either on before (known.whole b below is (not-true (is_set left b) (λ set. true-false (is_set rest b) (left-stays left low rest lowest behind b apart set) gone)))
      ];
}

-- where none is left
pub leads-all : (test : ℕ → Bool) (place : ℕ) (old now first : Bool) → LeadsBut test place 0 old now → old ≡ (any_below (64 * place) test || first) → now ≡ (any_below (64 * place + 64) test || first)
leads-all test place old now first leads known = same-truth now (any_below (64 * place + 64) test || first) there back
  where
    there : now ≡ true → (any_below (64 * place + 64) test || first) ≡ true
    there is = elim (leads.sound is) [
      | inl was ↦ elim (of_either (any_below (64 * place) test) first (sym known ∙ was)) [
        | inl some ↦
            let (x, below, passes) = any-some_below (64 * place) test some in
            left_of_either (any_below (64 * place + 64) test) first (some-any (64 * place + 64) test x (omega arith) passes)
        | inr set ↦ right_of_either (any_below (64 * place + 64) test) first set
      ]
      | inr new ↦
          let (b, small, passes) = new in
          left_of_either (any_below (64 * place + 64) test) first (some-any (64 * place + 64) test (64 * place + b) (omega arith) passes)
    ]

    back : (any_below (64 * place + 64) test || first) ≡ true → now ≡ true
    back is = elim (of_either (any_below (64 * place + 64) test) first is) [
      | inl some ↦
          let (x, below, passes) = any-some_below (64 * place + 64) test some in
          elim (cases_lt x (64 * place)) [
            | inl before ↦ leads.kept (known ∙ left_of_either (any_below (64 * place) test) first (some-any (64 * place) test x before passes))
            | inr here ↦
                let at : 64 * place + (x - 64 * place) ≡ x = omega arith in
                leads.whole (x - 64 * place) (omega arith) (ap test at ∙ passes) (no-bit (x - 64 * place))
          ]
      | inr set ↦ leads.kept (known ∙ right_of_either (any_below (64 * place) test) first set)
    ]

-- over a distance that isn't used nothing leads on
pub near-used : (near : WordRows) (live : List ℕ) (span count number k : ℕ) → number < 24 → span ≤ count → count ≤ 8 → ((n i : ℕ) → n < 192 → in_table near n i ≡ true → n % 8 < span) →
    any_below count (near_leads near live number k) ≡ any_below span (near_leads near live number k)
near-used near live span count number k few least most used = same-truth (any_below count test) (any_below span test) there back
  where
    test : ℕ → Bool
    test = near_leads near live number k

    there : any_below count test ≡ true → any_below span test ≡ true
    there some =
        let (d, below, leads) = any-some_below count test some in
        let bit : Bool = in_table near (8 * number + d) (k - d) in
        let both : Bool = has_word_bit live (k - d) && bit in
        let inside = second_of_both (nat_lt k (64 * near.width)) (nat_le d k && both) leads in
        let set : bit ≡ true = second_of_both (has_word_bit live (k - d)) bit (second_of_both (nat_le d k) both inside) in
        let place : (8 * number + d) % 8 ≡ d = omega arith in
        some-any span test d (omega (arith, place, used (8 * number + d) (k - d) (omega arith) set)) leads

    back : any_below span test ≡ true → any_below count test ≡ true
    back some = let (d, below, leads) = any-some_below span test some in some-any count test d (omega arith) leads

-- Levels as words, and the row that they make.
use Rattle.std.proofs.Common.{◌≡◌, ℕ, zero, suc, ◌<◌, true, false, List, [], ◌∷◌, ◌++◌, length, slice_get, sym, ap, subst, ◌∙◌, inl, inr, arith, length-append}
use Rattle.std.proofs.lemmas.Bool.{cases_lt}
use Rattle.hs_base.specs.declared.byte_set.ByteSet.{ByteSet}
use Rattle.hs_base.specs.declared.context.Next.{Next}
use Rattle.hs_base.specs.declared.context.Prev.{Prev}
use Rattle.hs_base.specs.declared.context.Prev.TheVariants as before
use Rattle.hs_base.specs.Bits.{has_word_bit}
use Rattle.hs_base.specs.ByteSets.{has}
use Rattle.hs_base.specs.Contexts.{Context}
use Rattle.hs_engine.specs.declared.automaton.Automaton.{Automaton}
use Rattle.hs_engine.specs.Automata.{accepts, follows, in_set, takes}
use Rattle.hs_engine.specs.Between.{between}
use Rattle.hs_engine.proofs.AgreementLemmas.{get-append, get-seam}
use Rattle.hs_waking.proofs.AnyLemmas.{true-false}
use Rattle.hs_waking.specs.Rows.{HasLevelFrom, IsAtLevelFrom, IsRowFrom}

-- what holds behind each of the four holds of every context
pub of-prev : (P : Context → Type 0) → ((n : Next) → P (between before.Start n)) → ((n : Next) → P (between before.Word n)) → ((n : Next) → P (between before.Newline n)) →
    ((n : Next) → P (between before.Other n)) → (c : Context) → P c
of-prev P start word newline other c = by-prev c.prev c.next
  where
    by-prev : (p : Prev) (n : Next) → P (between p n)
    by-prev before.Start n = start n
    by-prev before.Word n = word n
    by-prev before.Newline n = newline n
    by-prev before.Other n = other n

-- the row of the first level alone
pub one-level : (a : Automaton) (first : ℕ) (set : ByteSet) (words : List ℕ) → has_word_bit words first ≡ true →
    ((x b : ℕ) → b < 256 → has_word_bit words x ≡ true → takes a x b ≡ true → has set b ≡ true) → IsRowFrom a first (set ∷ [])
one-level a first set words level bytes = record {
  some = omega arith;
  sets = firsts;
  ends = λ d x c below at_level is. absurd (omega arith);
}
  where
    firsts : (d x b : ℕ) → d < 1 → IsAtLevelFrom a first d x → b < 256 → takes a x b ≡ true → in_set (slice_get (set ∷ []) d) b ≡ true
    firsts zero x b below same small member = bytes x b small (subst (λ y. has_word_bit words y ≡ true) (sym same) level) member
    firsts (suc d) x b below at_level small member = absurd (omega arith)

-- one level more, behind one that doesn't accept
pub level-more : (a : Automaton) (first : ℕ) (row : List ByteSet) (set : ByteSet) (words next : List ℕ) → IsRowFrom a first row → ((d : ℕ) → suc d ≡ length row → HasLevelFrom a first d words) →
    ((x : ℕ) (c : Context) → has_word_bit words x ≡ true → accepts a x c ≡ false) → ((x y : ℕ) (c : Context) → has_word_bit words x ≡ true → follows a x y c ≡ true → has_word_bit next y ≡ true) →
    ((x b : ℕ) → b < 256 → has_word_bit next x ≡ true → takes a x b ≡ true → has set b ≡ true) → IsRowFrom a first (row ++ set ∷ []) × ((d : ℕ) → suc d ≡ length (row ++ set ∷ []) → HasLevelFrom a first d next)
level-more a first row set words next is level rejects step bytes = (
  record {
    some = omega (arith, length-append row (set ∷ []));
    sets = sets;
    ends = λ d x c below at_level accept.
        elim (cases_lt (suc d) (length row)) [
          | inl less ↦ is.ends d x c less at_level accept
          | inr last ↦ true-false (accepts a x c) accept (rejects x c (level d (omega (arith, length-append row (set ∷ []))) x at_level))
        ];
  },
  has-next,
)
  where
    has-next : (d : ℕ) → suc d ≡ length (row ++ set ∷ []) → HasLevelFrom a first d next
    has-next zero last y at_level = absurd (let some : 0 < length row = is.some in omega (arith, length-append row (set ∷ [])))
    has-next (suc d) last y (x, c, at_level, follow) = step x y c (level d (omega (arith, length-append row (set ∷ []))) x at_level) follow

    sets : (d x b : ℕ) → d < length (row ++ set ∷ []) → IsAtLevelFrom a first d x → b < 256 → takes a x b ≡ true → in_set (slice_get (row ++ set ∷ []) d) b ≡ true
    sets d x b below at_level small member =
        elim (cases_lt d (length row)) [
          | inl less ↦ ap (λ o. in_set o b) (get-append row (set ∷ []) d set less) ∙ is.sets d x b less at_level small member
          | inr past ↦
              let place : length row ≡ d = omega (arith, length-append row (set ∷ [])) in
              let here : has set b ≡ true = bytes x b small (has-next d (omega (arith, length-append row (set ∷ []))) x at_level) member in
              ap (λ k. in_set (slice_get (row ++ set ∷ []) k) b) (sym place) ∙ (ap (λ o. in_set o b) (get-seam row set) ∙ here)
        ]

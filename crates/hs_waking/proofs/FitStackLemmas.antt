-- The levels of rows.
use Rattle.std.proofs.Common.{◌≡◌, ℕ, ◌+◌, ◌<◌, ◌≤◌, ◌&&◌, nat_lt, Bool, false, List, [], length, take, get_or, set, Option, slice_get, sym, ap, subst, ◌∙◌, refl, inl, inr, arith}
use Rattle.std.specs.Prelude.{slice_index, slice_index_or}
use Rattle.std.proofs.lemmas.Bool.{cases_eq}
use Rattle.std.proofs.lemmas.List.{get_or-set_same, get_or-set_other, get_or-take, length-take}
use Rattle.hs_base.specs.declared.byte_set.ByteSet.{ByteSet}
use Rattle.hs_base.specs.declared.context.Prev.{Prev}
use Rattle.hs_base.specs.Bits.{has_word_bit}
use Rattle.hs_bits.specs.BlockContexts.{prev_before}
use Rattle.hs_engine.specs.Automata.{in_set}
use Rattle.hs_engine.specs.AnyBelow.{any_below}
use Rattle.hs_waking.proofs.AnyLemmas.{none-any, true-false}
use Rattle.hs_waking.proofs.FitLemmas.{none-fits, open-first}
use Rattle.hs_waking.specs.FitStacks.{AreOpen, AreOpenOf}
use Rattle.hs_waking.specs.Fits.{FitsNowhere, IsRowBy, row_numbers}
use Rattle.hs_waking.specs.PrevSets.{has_prev}
use Rattle.hs_waking.specs.declared.prev_set.PrevSet.{PrevSet}
use Rattle.hs_waking.specs.declared.wake_row.WakeRow.{WakeRow}

-- places are open for rows that are alike up to there
open-same : (begun begun' : ℕ → Bool) (row row' : ℕ → Option ByteSet) (bytes : List ℕ) (n : ℕ) (places : List ℕ) → ((p : ℕ) → begun p ≡ begun' p) → ((d : ℕ) → d < n → row d ≡ row' d) → AreOpen begun row bytes n places → AreOpen begun' row' bytes n places
open-same begun begun' row row' bytes n places begins alike are p small = (
  λ set.
      let (inside, may, fits) = (are p small).0 set in
      (inside, sym (begins p) ∙ may, λ d below behind. ap (λ o. in_set o (get_or bytes (p + d) 0)) (sym (alike d below)) ∙ fits d below behind),
  λ all.
      let (inside, may, fits) = all in
      (are p small).1 (inside, begins p ∙ may, λ d below behind. ap (λ o. in_set o (get_or bytes (p + d) 0)) (alike d below) ∙ fits d below behind),
)

pub open-alike : (row other : WakeRow) (sets : List ByteSet) (prev : Prev) (bytes : List ℕ) (n : ℕ) (places : List ℕ) → row.behind ≡ other.behind → ((d : ℕ) → d < n → slice_index row.numbers d ≡ slice_index other.numbers d) → AreOpenOf row sets prev bytes n places → AreOpenOf other sets prev bytes n places
open-alike row other sets prev bytes n places behind numbers =
    open-same (λ p. has_prev row.behind (prev_before prev bytes p)) (λ p. has_prev other.behind (prev_before prev bytes p)) (λ d. slice_get sets (slice_index row.numbers d)) (λ d. slice_get sets (slice_index other.numbers d)) bytes n places
    (λ p. ap (λ (b : PrevSet). has_prev b (prev_before prev bytes p)) behind) (λ d below. ap (slice_get sets) (numbers d below))

-- the numbers of a row are those up to its count
pub open-cut : (row : WakeRow) (sets : List ByteSet) (prev : Prev) (bytes : List ℕ) (n : ℕ) (places : List ℕ) → n ≤ row.count → AreOpenOf row sets prev bytes n places → AreOpen (λ p. has_prev row.behind (prev_before prev bytes p)) (λ d. slice_get sets (get_or (take row.count row.numbers) d 0)) bytes n places
open-cut row sets prev bytes n places within =
    open-same (λ p. has_prev row.behind (prev_before prev bytes p)) (λ p. has_prev row.behind (prev_before prev bytes p)) (λ d. slice_get sets (slice_index row.numbers d)) (λ d. slice_get sets (get_or (take row.count row.numbers) d 0)) bytes n places
    (λ p. refl) (λ d below. ap (slice_get sets) (sym (get_or-take row.count row.numbers d 0 (omega (arith, below, within)))))

-- one level more
pub levels-more : (row : WakeRow) (sets : List ByteSet) (prev : Prev) (bytes : List ℕ) (levels : List (List ℕ)) (places : List ℕ) (n m : ℕ) → m ≡ n + 1 → n < length levels → ((d : ℕ) → d < n → AreOpenOf row sets prev bytes d (slice_index_or levels d [])) → AreOpenOf row sets prev bytes n places →
    (d : ℕ) → d < m → AreOpenOf row sets prev bytes d (slice_index_or (set levels n places) d [])
levels-more row sets prev bytes levels places n m next room known own d below =
    elim (cases_eq d n) [
      | inl same ↦
          subst (λ k. AreOpenOf row sets prev bytes k (slice_index_or (set levels n places) k [])) (sym same)
          (subst (AreOpenOf row sets prev bytes n) (sym (get_or-set_same levels n places [] room)) own)
      | inr apart ↦ subst (AreOpenOf row sets prev bytes d) (sym (get_or-set_other levels n d places [] apart)) (known d (omega (arith, below, next, apart)))
    ]

-- the first level
pub begun-level : (row other : WakeRow) (sets : List ByteSet) (prev : Prev) (bytes : List ℕ) (levels : List (List ℕ)) (places : List ℕ) → 0 < length levels → row.behind ≡ other.behind → ((p : ℕ) → p < 512 → has_word_bit places p ≡ (nat_lt p (length bytes) && has_prev row.behind (prev_before prev bytes p))) →
    (d : ℕ) → d < 1 → AreOpenOf other sets prev bytes d (slice_index_or (set levels 0 places) d [])
begun-level row other sets prev bytes levels places room behind are =
    levels-more other sets prev bytes levels places 0 1 (omega arith) room (λ d low. absurd (omega arith))
    (open-alike row other sets prev bytes 0 places behind (λ d low. absurd (omega arith)) (open-first (λ p. has_prev row.behind (prev_before prev bytes p)) (λ d. slice_get sets (slice_index row.numbers d)) bytes places are))

-- a row that has a level without a place fits nowhere
pub dead-nowhere : (row other : WakeRow) (sets own : List ByteSet) (prev : Prev) (bytes : List ℕ) (n : ℕ) (places : List ℕ) → row.behind ≡ other.behind → ((d : ℕ) → d < n → slice_index row.numbers d ≡ slice_index other.numbers d) → n ≤ length (row_numbers other) →
    AreOpenOf row sets prev bytes n places → any_below 512 (has_word_bit places) ≡ false → length bytes ≤ 512 → IsRowBy (row_numbers other) sets own → FitsNowhere other.behind own prev bytes
dead-nowhere row other sets own prev bytes n places behind numbers within are none few by p inside fits =
    let small : p < 512 = omega (arith, inside, few) in
    let cut = open-cut other sets prev bytes n places (omega (arith, within, length-take other.count other.numbers)) (open-alike row other sets prev bytes n places behind numbers are) in
    let both = none-fits (λ q. has_prev other.behind (prev_before prev bytes q)) (row_numbers other) sets own bytes n places by within cut none p small in
    true-false (has_word_bit places p) (both.1 (inside, fits)) (none-any 512 (has_word_bit places) none p small)

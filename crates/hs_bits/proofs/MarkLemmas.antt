-- Marks by words and their summary.
use Rattle.std.proofs.Common.{◌≡◌, ◌⊎◌, ℕ, zero, suc, ◌+◌, ◌*◌, ◌/◌, ◌%◌, ◌^◌, ◌<◌, ◌≤◌, Bool, true, false, not, ◌||◌, List, ◌++◌, length, take, drop, get_or, replicate, slice_set, eqb, bit_or, Some, None, refl, sym, ap, subst, ◌∙◌, inl, inr, arith, length-set}
use Rattle.std.specs.Prelude.{if◌then◌else◌}
use Rattle.std.specs.Int.{bit_at}
use Rattle.std.specs.Int.Bits.{or_self}
use Rattle.std.specs.Slice.Scan.{HoldsNowhere}
use Rattle.std.proofs.lemmas.Bool.{cases_eq, cases_lt, eq-eqb, ne_eqb, lt-ltb, false≢true}
use Rattle.std.proofs.lemmas.List.{append-nil, get_or-set_same, get_or-set_other, take_all}
use Rattle.std.proofs.lemmas.Nat.Bits.{bit_at-zero, bit_at_above}
use Rattle.std.proofs.lemmas.Nat.{pow-add}
use Rattle.std.proofs.Math.ListN.{drop_of_length-le}
use Rattle.std.proofs.Math.Nat.{div-div-eq-div-mul}
use Rattle.hs_base.specs.Bits.{AreZero, has_word_bit}
use Rattle.hs_base.proofs.BitLemmas.{zero-all}
use Rattle.hs_bits.specs.LowestBits.{IsLowestBit}
use Rattle.hs_bits.specs.NextBits.{IsNextBit, IsNextBitIn, is_in_either}
use Rattle.hs_bits.proofs.NextLemmas.{next-in_word, next-same, none-left, nowhere-join}
use Rattle.hs_bits.proofs.WordLemmas.{words-past, words-zero}
use Rattle.hs_bits.specs.Marks.{IsSummed}

shr-bit : (n s i : ℕ) → bit_at (n / 2 ^ s) i ≡ bit_at n (s + i)
shr-bit n s i = ap (λ m. m % 2) (div-div-eq-div-mul n (2 ^ s) (2 ^ i) ∙ ap (λ m. n / m) (sym (pow-add 2 s i)))

same-either : (words : List ℕ) (w rest s : ℕ) → rest ≡ get_or words w 0 / 2 ^ s → rest ≡ bit_or (get_or words w 0) (get_or words w 0) / 2 ^ s
same-either words w rest s is = is ∙ ap (λ n. n / 2 ^ s) (sym (or_self (get_or words w 0)))

either-of : (b : Bool) → (b || b) ≡ b
either-of true = refl
either-of false = refl

-- no bit is left in a word
none-in : (words : List ℕ) (w s rest : ℕ) → s < 64 → rest ≡ get_or words w 0 / 2 ^ s → rest ≡ 0 → HoldsNowhere (has_word_bit words) (64 * w + s) (64 * (w + 1))
none-in words w s rest low is empty k above below =
    sym (either-of (has_word_bit words k)) ∙ none-left words words w s rest low (same-either words w rest s is) empty k above below

-- the lowest bit of what is left of a word is the next one
pub first-in : (words : List ℕ) (from w s rest place k : ℕ) → s < 64 → rest ≡ get_or words w 0 / 2 ^ s → IsLowestBit rest place → get_or words w 0 < 2 ^ 64 → from ≤ 64 * w + s → HoldsNowhere (has_word_bit words) from (64 * w + s) →
    w < length words → s + place < 64 → k ≡ (64 * w + s) + place → IsNextBitIn (has_word_bit words) from (64 * length words) (Some k)
first-in words from w s rest place k low is lowest fits order none there within at =
    let below : k < 64 * length words = omega arith in
    let own = next-in_word words words from w s rest place (64 * length words) low (same-either words w rest s is) lowest fits fits order (λ j above under. ap (λ b. b || b) (none j above under)) k at in
    next-same words from (64 * length words) (Some k) (subst (λ (b : Bool). IsNextBitIn (is_in_either words words) from (64 * length words) (if b then Some k else None)) (lt-ltb k (64 * length words) below) own)

-- beyond the words nothing is marked
pub none-past : (words : List ℕ) (from : ℕ) → length words ≤ from / 64 → IsNextBitIn (has_word_bit words) from (64 * length words) None
none-past words from past k above below = words-past words k (omega arith)

blank-word : (words : List ℕ) (w : ℕ) → get_or words w 0 ≡ 0 → (k : ℕ) → k / 64 ≡ w → has_word_bit words k ≡ false
unfolding has_word_bit
blank-word words w none k at = ap (λ v. eqb (bit_at (get_or words v 0) (k % 64)) 1) at ∙ ap (λ n. eqb (bit_at n (k % 64)) 1) none ∙ ap (λ n. eqb n 1) (bit_at-zero (k % 64))

unset-zero : (n : ℕ) (b : Bool) → b ≡ not (eqb n 0) → b ≡ false → n ≡ 0
unset-zero n b is unset =
    elim (cases_eq n 0) [
      | inl e ↦ e
      | inr apart ↦ absurd (false≢true (sym unset ∙ is ∙ ap not (ne_eqb n 0 apart)))
    ]

set-some : (n : ℕ) (b : Bool) → b ≡ not (eqb n 0) → b ≡ true → n ≡ 0 → ⊥
set-some n b is set none = false≢true (sym (ap not (eq-eqb n 0 none)) ∙ sym is ∙ set)

-- words whose summary bits are not set have no bit
none-between : (words summary : List ℕ) (from end : ℕ) → IsSummed words summary → end ≤ length words → HoldsNowhere (has_word_bit summary) from end → HoldsNowhere (has_word_bit words) (64 * from) (64 * end)
none-between words summary from end summed within none k above below =
    let w = k / 64 in
    let unset : has_word_bit summary w ≡ false = none w (omega arith) (omega arith) in
    blank-word words w (unset-zero (get_or words w 0) (has_word_bit summary w) (summed.is w (omega arith)) unset) k refl

-- the word of the next bit of the summary
pub summary-word : (words summary : List ℕ) (from end w : ℕ) → IsSummed words summary → end ≤ length words → IsNextBit (has_word_bit summary) from end w → get_or words w 0 ≡ 0 → ⊥
summary-word words summary from end w summed within next none = set-some (get_or words w 0) (has_word_bit summary w) (summed.is w (omega (arith, next.high))) next.is none

-- nothing up to that word
pub none-to : (words summary : List ℕ) (from rest w : ℕ) → IsSummed words summary → rest ≡ get_or words (from / 64) 0 / 2 ^ (from % 64) → rest ≡ 0 → w ≤ length words → HoldsNowhere (has_word_bit summary) (from / 64 + 1) w → from / 64 + 1 ≤ w →
    HoldsNowhere (has_word_bit words) from (64 * w)
none-to words summary from rest w summed is empty within none after =
    let start : 64 * (from / 64) + from % 64 ≡ from = omega arith in
    nowhere-join (has_word_bit words) from (64 * (from / 64 + 1)) (64 * w)
    (subst (λ n. HoldsNowhere (has_word_bit words) n (64 * (from / 64 + 1))) start (none-in words (from / 64) (from % 64) rest (omega arith) is empty))
    (none-between words summary (from / 64 + 1) w summed within none)

-- nothing at all
pub none-last : (words summary : List ℕ) (from rest : ℕ) → IsSummed words summary → rest ≡ get_or words (from / 64) 0 / 2 ^ (from % 64) → rest ≡ 0 → from / 64 < length words → HoldsNowhere (has_word_bit summary) (from / 64 + 1) (length words) →
    HoldsNowhere (has_word_bit words) from (64 * length words)
none-last words summary from rest summed is empty there none = none-to words summary from rest (length words) summed is empty (omega arith) none (omega arith)

-- the lowest bit of the rest of a word is one of the word
pub word-within : (word s place : ℕ) → s < 64 → IsLowestBit (word / 2 ^ s) place → word < 2 ^ 64 → s + place < 64
word-within word s place low lowest fits =
    elim (cases_lt (s + place) 64) [
      | inl below ↦ below
      | inr above ↦
          let set : bit_at (word / 2 ^ s) place ≡ 1 = lowest.is in
          let moved : bit_at (word / 2 ^ s) place ≡ bit_at word (s + place) = shr-bit word s place in
          let high : bit_at word (s + place) ≡ 0 = bit_at_above word 64 (s + place) fits above in
          absurd (omega arith)
    ]

-- no bit of words that are 0
pub zero-marks : (words : List ℕ) (count : ℕ) → words ≡ replicate {A = ℕ} count 0 → (k : ℕ) → has_word_bit words k ≡ false
zero-marks words count zeros k = words-zero words (λ i. ap (λ xs. get_or xs i 0) zeros ∙ zero-at count i) k where
  zero-at : (n i : ℕ) → get_or (replicate {A = ℕ} n 0) i 0 ≡ 0
  zero-at zero i = refl
  zero-at (suc n) zero = refl
  zero-at (suc n) (suc i) = zero-at n i

pub summed-none : (words summary : List ℕ) (count more : ℕ) → words ≡ replicate {A = ℕ} count 0 → summary ≡ replicate {A = ℕ} more 0 → length words ≡ count → length summary ≡ more → count ≤ 64 * more → 64 * more < 2 ^ 63 → 64 * count < 2 ^ 63 → IsSummed words summary
summed-none words summary count more zeros zeros' len len' room small small' = record {
  room = omega arith;
  small = omega arith;
  small_summary = omega arith;
  is = λ w low. zero-marks summary more zeros' w ∙ ap (λ n. not (eqb n 0)) (sym (word-zero count w)) ∙ ap (λ xs. not (eqb (get_or xs w 0) 0)) (sym zeros);
} where
  word-zero : (n i : ℕ) → get_or (replicate {A = ℕ} n 0) i 0 ≡ 0
  word-zero zero i = refl
  word-zero (suc n) zero = refl
  word-zero (suc n) (suc i) = word-zero n i

-- a word is written, and its bit of the summary
summed-write : (words summary now : List ℕ) (w word : ℕ) → IsSummed words summary → w < length words → length now ≡ length summary → has_word_bit now w ≡ not (eqb word 0) → ((k : ℕ) → (k ≡ w → ⊥) → has_word_bit now k ≡ has_word_bit summary k) →
    IsSummed (slice_set words w word) now
summed-write words summary now w word summed there len put others =
    let count : length (slice_set words w word) ≡ length words = length-set words w word in record {
      room = omega (arith, count, summed.room, len);
      small = omega (arith, count, summed.small);
      small_summary = omega (arith, summed.small_summary, len);
      is = λ v low. by_case v (omega (arith, count)) (cases_eq v w);
    } where
      by_case : (v : ℕ) → v < length words → (v ≡ w) ⊎ (v ≡ w → ⊥) → has_word_bit now v ≡ not (eqb (get_or (slice_set words w word) v 0) 0)
      by_case v low (inl same) = ap (λ n. has_word_bit now n) same ∙ put ∙ ap (λ n. not (eqb n 0)) (sym (get_or-set_same words w word 0 there)) ∙ ap (λ n. not (eqb (get_or (slice_set words w word) n 0) 0)) (sym same)
      by_case v low (inr apart) = others v apart ∙ summed.is v low ∙ ap (λ n. not (eqb n 0)) (sym (get_or-set_other words w v word 0 apart))

pub summed-written : (words summary new now : List ℕ) (w : ℕ) (some : Bool) → IsSummed words summary → w < length words → new ≡ slice_set words w (get_or new w 0) → some ≡ not (eqb (get_or new w 0) 0) → length now ≡ length summary → has_word_bit now w ≡ some →
    ((k : ℕ) → (k ≡ w → ⊥) → has_word_bit now k ≡ has_word_bit summary k) → IsSummed new now
summed-written words summary new now w some summed there new_is some_is len put others =
    subst (λ ws. IsSummed ws now) (sym new_is) (summed-write words summary now w (get_or new w 0) summed there len (put ∙ some_is) others)

-- a list that is written whole
pub whole-written : (new old : List ℕ) (n : ℕ) → length new ≡ length old → n ≡ length old → take n (new ++ drop (length new) old) ≡ new
whole-written new old n same count =
    let past : length old ≤ length new = omega arith in
    ap (λ v. take n (new ++ v)) (drop_of_length-le old past) ∙ ap (λ v. take n v) (append-nil new) ∙ take_all n new (omega arith)

pub summed-whole : (words summary words' summary' new now : List ℕ) (w n n' : ℕ) (some : Bool) → IsSummed words summary → words' ≡ words → summary' ≡ summary → w < length words → new ≡ slice_set words' w (get_or new w 0) →
    some ≡ not (eqb (get_or new w 0) 0) → length now ≡ length summary' → has_word_bit now w ≡ some → ((k : ℕ) → (k ≡ w → ⊥) → has_word_bit now k ≡ has_word_bit summary' k) → n ≡ length words → n' ≡ length summary →
    IsSummed (take n (new ++ drop (length new) words)) (take n' (now ++ drop (length now) summary))
summed-whole words summary words' summary' new now w n n' some summed same same' there new_is some_is len put others count count' =
    let wide : length new ≡ length words = ap length new_is ∙ length-set words' w (get_or new w 0) ∙ ap length same in
    let own = summed-written words summary new now w some summed there (new_is ∙ ap (λ ws. slice_set ws w (get_or new w 0)) same) some_is (len ∙ ap length same') put (λ k apart. others k apart ∙ ap (λ ws. has_word_bit ws k) same') in
    subst (λ ws. IsSummed ws (take n' (now ++ drop (length now) summary))) (sym (whole-written new words n wide count))
    (subst (λ ws. IsSummed new ws) (sym (whole-written now summary n' (len ∙ ap length same') count')) own)

-- all marks are taken away
pub summed-clear : (words summary words' summary' new now : List ℕ) (n n' : ℕ) → IsSummed words summary → words' ≡ words → summary' ≡ summary → length new ≡ length words' → length now ≡ length summary' → AreZero new → AreZero now → n ≡ length words → n' ≡ length summary →
    IsSummed (take n (new ++ drop (length new) words)) (take n' (now ++ drop (length now) summary))
summed-clear words summary words' summary' new now n n' summed same same' len len' zeros zeros' count count' =
    let wide : length new ≡ length words = len ∙ ap length same in
    let wide' : length now ≡ length summary = len' ∙ ap length same' in
    let own : IsSummed new now = record {
      room = omega (arith, wide, wide', summed.room);
      small = omega (arith, wide, summed.small);
      small_summary = omega (arith, wide', summed.small_summary);
      is = λ w low. words-zero now (zero-all now zeros') w ∙ sym (ap (λ m. not (eqb m 0)) (zero-all new zeros w));
    } in
    subst (λ ws. IsSummed ws (take n' (now ++ drop (length now) summary))) (sym (whole-written new words n wide count))
    (subst (λ ws. IsSummed new ws) (sym (whole-written now summary n' wide' count')) own)

pub clear-marks : (words words' new : List ℕ) (n : ℕ) → words' ≡ words → length new ≡ length words' → AreZero new → n ≡ length words → (k : ℕ) → has_word_bit (take n (new ++ drop (length new) words)) k ≡ false
clear-marks words words' new n same len zeros count k =
    ap (λ ws. has_word_bit ws k) (whole-written new words n (len ∙ ap length same) count) ∙ words-zero new (zero-all new zeros) k

-- The numbers below one are marked as a row tells, and the others as they were.
pub record AreRowMarks (row old new : List ℕ) (from : ℕ) : Type 0 where
  pub room : length new ≡ length old
  pub below : (k : ℕ) → k < from → has_word_bit new k ≡ (has_word_bit row k || has_word_bit old k)
  pub above : (k : ℕ) → from ≤ k → has_word_bit new k ≡ has_word_bit old k

module _ (row old : List ℕ) where
  pub row-none : AreRowMarks row old old 0
  row-none = record { room = refl; below = λ k low. absurd (omega arith); above = λ k high. refl }

  -- up to the next one, and that one
  pub row-more : (mid new : List ℕ) (from k : ℕ) → IsNextBit (has_word_bit row) from (64 * length row) k → length new ≡ length mid → has_word_bit new k ≡ true → ((j : ℕ) → (j ≡ k → ⊥) → has_word_bit new j ≡ has_word_bit mid j) →
      AreRowMarks row old mid from → AreRowMarks row old new (k + 1)
  row-more mid new from k next len put others are = record {
    room = len ∙ are.room;
    below = λ j low. by_place j low (cases_eq j k);
    above = λ j high. others j (λ same. absurd (omega arith)) ∙ are.above j (omega (arith, next.low));
  } where
    by_place : (j : ℕ) → j < k + 1 → (j ≡ k) ⊎ (j ≡ k → ⊥) → has_word_bit new j ≡ (has_word_bit row j || has_word_bit old j)
    by_place j low (inl same) = ap (λ n. has_word_bit new n) same ∙ put ∙ sym (ap (λ b. b || has_word_bit old j) (ap (λ n. has_word_bit row n) same ∙ next.is))
    by_place j low (inr apart) = others j apart ∙ elim (cases_lt j from) [
      | inl inner ↦ are.below j inner
      | inr past ↦ are.above j past ∙ sym (ap (λ b. b || has_word_bit old j) (next.least j past (omega (arith, low, apart))))
    ]

  pub row-all : (new : List ℕ) (from : ℕ) → HoldsNowhere (has_word_bit row) from (64 * length row) → AreRowMarks row old new from → (k : ℕ) → has_word_bit new k ≡ (has_word_bit row k || has_word_bit old k)
  row-all new from none are k = elim (cases_lt k from) [
    | inl inner ↦ are.below k inner
    | inr past ↦ are.above k past ∙ sym (ap (λ b. b || has_word_bit old k) (unset (cases_lt k (64 * length row)) past))
  ] where
    unset : (k < 64 * length row) ⊎ (64 * length row ≤ k) → from ≤ k → has_word_bit row k ≡ false
    unset (inl inside) past = none k past inside
    unset (inr beyond) past = words-past row k beyond

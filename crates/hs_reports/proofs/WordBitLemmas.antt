-- Bits of words that are put together.
use Rattle.std.proofs.Common.{◌≡◌, ℕ, zero, suc, ◌+◌, ◌-◌, ◌*◌, ◌/◌, ◌%◌, ◌^◌, ◌<◌, ◌≤◌, Bool, true, false, not, ◌||◌, ◌&&◌, cond, eqb, leb, bit_and, bit_or, refl, sym, ap, ◌∙◌, inl, inr, arith}
use Rattle.std.specs.Int.{bit_at}
use Rattle.std.proofs.lemmas.Bool.{le-leb, lt-leb, ne_eqb, and_right, cases_lt}
use Rattle.std.proofs.lemmas.Nat.{one_shl, or_lt}
use Rattle.std.proofs.lemmas.Nat.Bits.{shr_and_one, ones_shl, ones_shr, bit_at_mask_inside, bit_at_mask_below, bit_at_ones, bit_at_ones_above}
use Rattle.hs_base.proofs.ByteSetLemmas.{bit-or as or-bits, bit-not as not-bits, or-false}
use Rattle.hs_base.proofs.ContextSetLemmas.{bit-and as and-bits, bit-empty, bit-all, bit-one as one-bits}
use Rattle.hs_bits.proofs.WordLemmas.{shl-bit, and-true, and-none}
use Rattle.hs_reports.specs.Terminals.{is_within_bounds}
use Rattle.hs_reports.specs.WordBits.{word_bit, bit_before}

pub bit-is : (word i : ℕ) → word_bit word i ≡ eqb (bit_at word i) 1
unfolding word_bit
bit-is word i = refl

pub bit-asked : (word i : ℕ) → eqb (bit_and (word / 2 ^ i) 1) 1 ≡ word_bit word i
unfolding word_bit
bit-asked word i = ap (λ n. eqb n 1) (shr_and_one word i)

pub bit-and : (x y i : ℕ) → word_bit (bit_and x y) i ≡ (word_bit x i && word_bit y i)
unfolding word_bit
bit-and x y i = and-bits x y i

pub bit-or : (x y i : ℕ) → word_bit (bit_or x y) i ≡ (word_bit x i || word_bit y i)
unfolding word_bit
bit-or x y i = or-bits x y i

pub bit-not : (x i : ℕ) → x < 2 ^ 64 → i < 64 → word_bit (2 ^ 64 - 1 - x) i ≡ not (word_bit x i)
unfolding word_bit
bit-not x i small below = not-bits x i small below

pub bit-zero : (i : ℕ) → word_bit 0 i ≡ false
unfolding word_bit
bit-zero i = bit-empty i

pub bit-one : (k i : ℕ) → k < 64 → word_bit (1 * 2 ^ k % 2 ^ 64) i ≡ eqb i k
unfolding word_bit
bit-one k i small = ap (λ n. eqb (bit_at n i) 1) (one_shl k 64 small) ∙ one-bits k i

-- the bits of a word one place on, and the first one

bit-on : (word i : ℕ) → i < 64 → word_bit (word * 2 ^ 1 % 2 ^ 64) i ≡ (leb 1 i && word_bit word (i - 1))
unfolding word_bit
bit-on word i below = shl-bit word 1 i below

bit-low : (first : Bool) (i : ℕ) → word_bit (cond first 1 0) i ≡ (eqb i 0 && first)
unfolding word_bit
bit-low true i = one-bits 0 i ∙ sym (and-true (eqb i 0))
bit-low false i = bit-empty i ∙ sym (and-none (eqb i 0))

bit-joined : (word i : ℕ) (first : Bool) → ((leb 1 i && word_bit word (i - 1)) || word_bit (cond first 1 0) i) ≡ bit_before first word i
bit-joined word zero first = bit-low first 0
bit-joined word (suc i) first =
    let here : suc i - 1 ≡ i = omega arith in
    let is : word_bit (cond first 1 0) (suc i) ≡ false = bit-low first (suc i) ∙ ap (λ b. b && first) (ne_eqb (suc i) 0 (λ e. absurd (omega arith))) in
    ap (λ b. (b && word_bit word (suc i - 1)) || word_bit (cond first 1 0) (suc i)) (le-leb 1 (suc i) (omega arith))
    ∙ (ap (λ n. word_bit word n || word_bit (cond first 1 0) (suc i)) here
    ∙ (ap (λ b. word_bit word i || b) is ∙ or-false (word_bit word i)))

pub bit-up : (word low i : ℕ) (first : Bool) → i < 64 → low ≡ cond first 1 0 → word_bit (bit_or (word * 2 ^ 1 % 2 ^ 64) low) i ≡ bit_before first word i
bit-up word low i first below is =
    bit-or (word * 2 ^ 1 % 2 ^ 64) low i
    ∙ (ap (λ b. b || word_bit low i) (bit-on word i below)
    ∙ (ap (λ n. (leb 1 i && word_bit word (i - 1)) || word_bit n i) is ∙ bit-joined word i first))

-- the ends of which the pair isn't told as one behind the byte before
pub bit-untold : (before behind low i : ℕ) (first : Bool) → low < 2 ^ 64 → i < 64 → low ≡ cond first 1 0 →
    word_bit (bit_and before (2 ^ 64 - 1 - bit_or (behind * 2 ^ 1 % 2 ^ 64) low)) i ≡ (word_bit before i && not (bit_before first behind i))
bit-untold before behind low i first fits below is =
    let earlier : ℕ = bit_or (behind * 2 ^ 1 % 2 ^ 64) low in
    let small : earlier < 2 ^ 64 = or_lt 64 (behind * 2 ^ 1 % 2 ^ 64) low (omega arith) fits in
    bit-and before (2 ^ 64 - 1 - earlier) i
    ∙ (ap (λ b. word_bit before i && b) (bit-not earlier i small below) ∙ ap (λ b. word_bit before i && not b) (bit-up behind low i first below is))

-- a word at one place alone
pub bit-at_one : (word p i : ℕ) → p < 64 → word_bit (bit_and word (1 * 2 ^ p % 2 ^ 64)) i ≡ (word_bit word i && eqb i p)
bit-at_one word p i small = bit-and word (1 * 2 ^ p % 2 ^ 64) i ∙ ap (λ b. word_bit word i && b) (bit-one p i small)

pub bit-at_one_without : (word other p i : ℕ) → other < 2 ^ 64 → p < 64 → i < 64 →
    word_bit (bit_and (bit_and word (1 * 2 ^ p % 2 ^ 64)) (2 ^ 64 - 1 - other)) i ≡ ((word_bit word i && eqb i p) && not (word_bit other i))
bit-at_one_without word other p i fits small below =
    bit-and (bit_and word (1 * 2 ^ p % 2 ^ 64)) (2 ^ 64 - 1 - other) i
    ∙ (ap (λ b. b && word_bit (2 ^ 64 - 1 - other) i) (bit-at_one word p i small) ∙ ap (λ b. (word_bit word i && eqb i p) && b) (bit-not other i fits below))

-- places within bounds

le-same : (a b c d : ℕ) → (a ≤ b → c ≤ d) → (c ≤ d → a ≤ b) → leb a b ≡ leb c d
le-same a b c d up down = elim (cases_lt b a) [
  | inl above ↦ lt-leb a b above ∙ sym (elim (cases_lt d c) [ inl over ↦ lt-leb c d over | inr within ↦ absurd (let it : a ≤ b = down within in omega arith) ])
  | inr within ↦ le-leb a b within ∙ sym (le-leb c d (up within))
]

pub places-from : (k i : ℕ) → k < 64 → i < 64 → word_bit ((2 ^ 64 - 1) * 2 ^ k % 2 ^ 64) i ≡ leb k i
unfolding word_bit
places-from k i small below =
    ap (λ n. eqb (bit_at n i) 1) (ones_shl 64 k (omega arith))
    ∙ elim (cases_lt i k) [
      | inl under ↦ ap (λ n. eqb n 1) (bit_at_mask_below k 64 i under) ∙ sym (lt-leb k i under)
      | inr above ↦ ap (λ n. eqb n 1) (bit_at_mask_inside k 64 i above below) ∙ sym (le-leb k i above)
    ]

pub places-none : (k i : ℕ) → 64 ≤ k → i < 64 → word_bit 0 i ≡ leb k i
places-none k i above below = bit-zero i ∙ sym (lt-leb k i (omega arith))

pub places-to : (last i : ℕ) → last < 63 → word_bit ((2 ^ 64 - 1) / 2 ^ (63 - last)) i ≡ leb i last
unfolding word_bit
places-to last i small =
    let width : 64 - (63 - last) ≡ last + 1 = omega arith in
    ap (λ n. eqb (bit_at n i) 1) (ones_shr 64 (63 - last) (omega arith) ∙ ap (λ k. 2 ^ k - 1) width)
    ∙ elim (cases_lt last i) [
      | inl above ↦ ap (λ n. eqb n 1) (bit_at_ones_above (last + 1) i (omega arith)) ∙ sym (lt-leb i last above)
      | inr within ↦ ap (λ n. eqb n 1) (bit_at_ones (last + 1) i (omega arith)) ∙ sym (le-leb i last within)
    ]

pub places-all : (last i : ℕ) → 63 ≤ last → i < 64 → word_bit (2 ^ 64 - 1) i ≡ leb i last
unfolding word_bit
places-all last i above below = bit-all 64 i below ∙ sym (le-leb i last (omega arith))

pub bound-both : (from to least greatest at first i : ℕ) → at ≤ greatest → first ≡ least - at → word_bit from i ≡ leb first i → word_bit to i ≡ leb i (greatest - at) →
    word_bit (bit_and from to) i ≡ is_within_bounds least greatest (at + i)
bound-both from to least greatest at first i within is low high =
    bit-and from to i
    ∙ (ap (λ b. b && word_bit to i) (low ∙ le-same first i least (at + i) (λ h. omega arith) (λ h. omega arith))
    ∙ ap (λ b. leb least (at + i) && b) (high ∙ le-same i (greatest - at) (at + i) greatest (λ h. omega arith) (λ h. omega arith)))

pub bound-none : (least greatest at i : ℕ) → greatest < at → word_bit 0 i ≡ is_within_bounds least greatest (at + i)
bound-none least greatest at i past = bit-zero i ∙ sym (and_right (leb least (at + i)) (leb (at + i) greatest) (lt-leb (at + i) greatest (omega arith)))

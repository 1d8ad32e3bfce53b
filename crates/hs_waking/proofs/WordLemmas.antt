-- Words of a chunk.
use Rattle.std.proofs.Common.{◌≡◌, ◌≢◌, ◌↔◌, ◌⊎◌, [], ◌∷◌, zero, suc, ℕ, ◌+◌, ◌-◌, ◌*◌, ◌/◌, ◌%◌, ◌^◌, ◌<◌, ◌≤◌, Bool, true, false, not, ◌&&◌, ◌||◌, nat_lt, List, length, get_or, set, take, drop, replicate, Some, slice_get, eqb, bit_or, bit_and, refl, sym, ap, subst, ◌∙◌, inl, inr, arith}
use Rattle.std.specs.Prelude.{nat_le, min}
use Rattle.std.specs.Int.{bit_at}
use Rattle.std.proofs.lemmas.Bool.{cases_eq, cases_lt, eq-eqb, ne_eqb, lt-ltb, le-ltb, lt-leb, le-leb}
use Rattle.std.proofs.lemmas.Bool.Decides.{nat_tests}
use Rattle.std.proofs.lemmas.List.{get_or-replicate, length-replicate, get_or-set_same, get_or-set_other, get_or_past, get_or-take, get_or-drop}
use Rattle.std.proofs.lemmas.Nat.Bits.{bit_at_ones}
use Rattle.hs_base.specs.declared.byte_set.ByteSet.{ByteSet}
use Rattle.hs_base.specs.ByteSets.{has}
use Rattle.hs_base.specs.Bits.{has_word_bit}
use Rattle.hs_engine.specs.AnyBelow.{any_below}
use Rattle.hs_waking.proofs.AnyLemmas.{any-some, none-any, true-false, true-or-false}
use Rattle.hs_base.proofs.ByteSetLemmas.{bit-not}
use Rattle.hs_bits.proofs.WordLemmas.{or-none, words-zero}
use Rattle.hs_waking.specs.PlaceBits.{is_behind, place_bit}
use Rattle.hs_waking.proofs.PlaceLemmas.{bit-both, bit-either, bit-none, bit-shifted, bit-up}
use Rattle.hs_waking.proofs.PlaceLemmas.{no-bits, past-word}
use Rattle.hs_waking.specs.ChunkWords.{is_open_at}

-- the bit of a place in a row of words
pub row-bit : (words : List ℕ) (k : ℕ) → has_word_bit words k ≡ place_bit (get_or words (k / 64) 0) (k % 64)
unfolding has_word_bit place_bit
row-bit words k = refl

-- a word that is written
pub bit-set : (words : List ℕ) (at v k : ℕ) → at < length words → k / 64 ≡ at → has_word_bit (set words at v) k ≡ eqb (bit_at v (k % 64)) 1
unfolding has_word_bit
bit-set words at v k within same =
    ap (λ n. eqb (bit_at (get_or (set words at v) n 0) (k % 64)) 1) same ∙ ap (λ n. eqb (bit_at n (k % 64)) 1) (get_or-set_same words at v 0 within)

pub bit-kept : (words : List ℕ) (at v k : ℕ) → (k / 64 ≡ at → ⊥) → has_word_bit (set words at v) k ≡ has_word_bit words k
unfolding has_word_bit
bit-kept words at v k apart = ap (λ n. eqb (bit_at n (k % 64)) 1) (get_or-set_other words at (k / 64) v 0 apart)

-- the nine words of a set
pub row-part : (words : List ℕ) (n p : ℕ) → p < 576 → has_word_bit (take (9 * n + 9 - 9 * n) (drop (9 * n) words)) p ≡ has_word_bit words (576 * n + p)
unfolding has_word_bit
row-part words n p few =
    let place : 9 * n + p / 64 ≡ (576 * n + p) / 64 = omega arith in
    let bit : p % 64 ≡ (576 * n + p) % 64 = omega arith in
    let read : get_or (take (9 * n + 9 - 9 * n) (drop (9 * n) words)) (p / 64) 0 ≡ get_or words ((576 * n + p) / 64) 0 =
    get_or-take (9 * n + 9 - 9 * n) (drop (9 * n) words) (p / 64) 0 (omega arith) ∙ (get_or-drop (9 * n) words (p / 64) 0 ∙ ap (λ k. get_or words k 0) place) in
    ap (λ w. eqb (bit_at w (p % 64)) 1) read ∙ ap (λ k. eqb (bit_at (get_or words ((576 * n + p) / 64) 0) k) 1) bit

-- one block more of the words of a set

pub filled : (words bytes : List ℕ) (test : ℕ → Bool) (n block v : ℕ) → 9 * n + 9 ≤ length words → block < 9 →
    ((p : ℕ) → p < 64 * block → has_word_bit words (576 * n + p) ≡ (nat_le (length bytes) p || test (get_or bytes p 0))) →
    ((i : ℕ) → i < 64 → eqb (bit_at v i) 1 ≡ (nat_le (length bytes) (64 * block + i) || test (get_or bytes (64 * block + i) 0))) → (p : ℕ) → p < 64 * (block + 1) →
    has_word_bit (set words (9 * n + block) v) (576 * n + p) ≡ (nat_le (length bytes) p || test (get_or bytes p 0))
filled words bytes test n block v room small known word p few =
    elim (cases_lt p (64 * block)) [
      | inl before ↦ bit-kept words (9 * n + block) v (576 * n + p) (λ same. omega arith) ∙ known p before
      | inr past ↦
          let bit : (576 * n + p) % 64 ≡ p - 64 * block = omega arith in
          let place : 64 * block + (p - 64 * block) ≡ p = omega arith in
          bit-set words (9 * n + block) v (576 * n + p) (omega arith) (omega arith)
          ∙ (ap (λ i. eqb (bit_at v i) 1) bit
          ∙ (word (p - 64 * block) (omega arith) ∙ ap (λ k. nat_le (length bytes) k || test (get_or bytes k 0)) place))
    ]

pub filled-others : (words : List ℕ) (n block v b : ℕ) → block < 9 → (b / 576 ≡ n → ⊥) → has_word_bit (set words (9 * n + block) v) b ≡ has_word_bit words b
filled-others words n block v b small apart = bit-kept words (9 * n + block) v b (λ same. apart (omega arith))

-- words without a bit
pub words-blank : (words : List ℕ) (count k : ℕ) → words ≡ replicate count 0 → has_word_bit words k ≡ false
words-blank words count k zeros =
    words-zero words (λ i.
    ap (λ ws. get_or ws i 0) zeros
    ∙ elim (cases_lt i count) [
      | inl below ↦ get_or-replicate count i 0 0 below
      | inr above ↦ get_or_past (replicate count 0) i 0 (omega (arith, length-replicate {A = ℕ} count 0))
    ]) k

-- the words of one set more are known
pub learnt : (words now known knows : List ℕ) (sets : List ByteSet) (bytes : List ℕ) (n : ℕ) (s : ByteSet) → slice_get sets n ≡ Some s →
    ((k : ℕ) → has_word_bit known k ≡ true → (p : ℕ) → p < 576 → has_word_bit words (576 * k + p) ≡ is_open_at (slice_get sets k) bytes p) →
    ((p : ℕ) → p < 576 → has_word_bit now (576 * n + p) ≡ (nat_le (length bytes) p || has s (get_or bytes p 0))) →
    ((b : ℕ) → (b / 576 ≡ n → ⊥) → has_word_bit now b ≡ has_word_bit words b) →
    ((k : ℕ) → has_word_bit knows k ≡ (eqb k n || has_word_bit known k)) → (k : ℕ) → has_word_bit knows k ≡ true → (p : ℕ) → p < 576 →
    has_word_bit now (576 * k + p) ≡ is_open_at (slice_get sets k) bytes p
learnt words now known knows sets bytes n s there old places others bits k is p few =
    elim (cases_eq k n) [
      | inl same ↦
          ap (λ m. has_word_bit now (576 * m + p)) same
          ∙ (places p few ∙ (ap (λ o. is_open_at o bytes p) (sym there) ∙ ap (λ m. is_open_at (slice_get sets m) bytes p) (sym same)))
      | inr apart ↦
          let before : has_word_bit known k ≡ true = sym (bits k ∙ ap (λ b. b || has_word_bit known k) (ne_eqb k n apart)) ∙ is in
          others (576 * k + p) (λ same. apart (omega arith)) ∙ old k before p few
    ]

-- 64 bits that begin in one word and go on in the next

-- the bits of the word behind, moved up in two steps
up-twice : (x d i : ℕ) → i < 64 → d < 64 → place_bit (x * 2 % 18446744073709551616 * 2 ^ (63 - d) % 18446744073709551616) i ≡ (nat_le (64 - d) i && place_bit x (i - (64 - d)))
up-twice x d i below near =
    bit-up (x * 2 % 18446744073709551616) (63 - d) i below
    ∙ elim (cases_lt i (63 - d)) [
      | inl less ↦ rw (lt-leb (63 - d) i less, lt-leb (64 - d) i (omega arith)) refl
      | inr past ↦
          let one : place_bit (x * 2 % 18446744073709551616) (i - (63 - d)) ≡ (nat_le 1 (i - (63 - d)) && place_bit x (i - (63 - d) - 1)) = bit-up x 1 (i - (63 - d)) (omega arith) in
          ap (λ b. b && place_bit (x * 2 % 18446744073709551616) (i - (63 - d))) (le-leb (63 - d) i past)
          ∙ (one
          ∙ (ap (λ b. b && place_bit x (i - (63 - d) - 1)) (let e : nat_le 1 (i - (63 - d)) ≡ nat_le (64 - d) i = grind (arith, nat_tests) in e)
          ∙ ap (λ k. nat_le (64 - d) i && place_bit x k) (let e : i - (63 - d) - 1 ≡ i - (64 - d) = omega arith in e)))
    ]

module _ (word behind d i : ℕ) (near : d < 64) (small : i < 64) where
  abbrev Low : ℕ
  Low = word / 2 ^ d

  abbrev High : ℕ
  High = behind * 2 % 18446744073709551616 * 2 ^ (63 - d) % 18446744073709551616

  pub moved-low : i + d < 64 → place_bit (bit_or Low High) i ≡ place_bit word (i + d)
  moved-low below =
      let place : d + i ≡ i + d = omega arith in
      bit-either Low High i
      ∙ (ap (λ b. place_bit Low i || b) (up-twice behind d i small near ∙ ap (λ b. b && place_bit behind (i - (64 - d))) (lt-leb (64 - d) i (omega arith)))
      ∙ (or-none (place_bit Low i) ∙ (bit-shifted word d i ∙ ap (place_bit word) place)))

  pub moved-high : word < 2 ^ 64 → 64 ≤ i + d → place_bit (bit_or Low High) i ≡ place_bit behind (i + d - 64)
  moved-high fits past =
      let place : i - (64 - d) ≡ i + d - 64 = omega arith in
      bit-either Low High i
      ∙ (ap (λ b. b || place_bit High i) (bit-shifted word d i ∙ past-word word (d + i) fits (omega arith))
      ∙ (up-twice behind d i small near ∙ (ap (λ b. b && place_bit behind (i - (64 - d))) (le-leb (64 - d) i (omega arith)) ∙ ap (place_bit behind) place)))

-- the places behind the last byte besides

bit-flipped : (x i : ℕ) → x < 2 ^ 64 → i < 64 → place_bit (18446744073709551615 - x) i ≡ not (place_bit x i)
unfolding place_bit
bit-flipped x i fits below = bit-not x i fits below

or-true : (b : Bool) → (b || true) ≡ true
or-true true = refl
or-true false = refl

pub open-bit : (word low len start i : ℕ) (test : Bool) → low < 2 ^ 64 → i < 64 → eqb (bit_at word i) 1 ≡ (nat_lt (start + i) len && test) →
    ((k : ℕ) → place_bit low k ≡ nat_lt k (min (len - start) 64)) → eqb (bit_at (bit_or word (18446744073709551615 - low)) i) 1 ≡ (nat_le len (start + i) || test)
unfolding place_bit
open-bit word low len start i test fits below word_is low_is =
    bit-either word (18446744073709551615 - low) i
    ∙ (ap (λ b. eqb (bit_at word i) 1 || b) (bit-flipped low i fits below ∙ ap not (low_is i))
    ∙ elim (cases_lt (start + i) len) [
      | inl inside ↦
          rw (lt-ltb i (min (len - start) 64) (omega arith), lt-leb len (start + i) inside)
          (or-none (eqb (bit_at word i) 1) ∙ (word_is ∙ ap (λ b. b && test) (lt-ltb (start + i) len inside)))
      | inr past ↦ rw (le-ltb i (min (len - start) 64) (omega arith), le-leb len (start + i) past) (or-true (eqb (bit_at word i) 1))
    ])

-- places of a chunk

-- one word more of those before a place
pub before-more : (words : List ℕ) (n low end p : ℕ) → n < length words → ((q : ℕ) → q < 64 * n → has_word_bit words q ≡ nat_lt q end) →
    ((k : ℕ) → place_bit low k ≡ nat_lt k (min (end - 64 * n) 64)) → p < 64 * (n + 1) → has_word_bit (set words n low) p ≡ nat_lt p end
unfolding place_bit
before-more words n low end p within known low_is few =
    elim (cases_lt p (64 * n)) [
      | inl before ↦ bit-kept words n low p (λ same. omega arith) ∙ known p before
      | inr past ↦
          bit-set words n low p within (omega arith)
          ∙ (low_is (p % 64)
          ∙ elim (cases_lt p end) [
            | inl inside ↦ lt-ltb (p % 64) (min (end - 64 * n) 64) (omega arith) ∙ sym (lt-ltb p end inside)
            | inr behind ↦ le-ltb (p % 64) (min (end - 64 * n) 64) (omega arith) ∙ sym (le-ltb p end behind)
          ])
    ]

-- a word of which some bits are kept
set-both : (words : List ℕ) (n next : ℕ) → n < length words → (q : ℕ) → q / 64 ≡ n → has_word_bit (set words n (bit_and (get_or words n 0) next)) q ≡ (has_word_bit words q && place_bit next (q % 64))
unfolding place_bit
set-both words n next within q here =
    bit-set words n (bit_and (get_or words n 0) next) q within here
    ∙ (bit-both (get_or words n 0) next (q % 64)
    ∙ ap (λ b. b && place_bit next (q % 64)) (ap (λ k. place_bit (get_or words k 0) (q % 64)) (sym here) ∙ sym (row-bit words q)))

-- each bit of a full word is set
ones : (k : ℕ) → k < 64 → place_bit 18446744073709551615 k ≡ true
unfolding place_bit
ones k below = ap (λ b. eqb b 1) (bit_at_ones 64 k below)

-- one word more of those that are kept
module _ (words class : List ℕ) (old : ℕ → Bool) (n d next : ℕ) (within : n < length words) (near : d < 64)
    (low : (i : ℕ) → i + d < 64 → place_bit next i ≡ place_bit (get_or class n 0) (i + d))
    (high : (i : ℕ) → i < 64 → 64 ≤ i + d → place_bit next i ≡ place_bit (get_or class (n + 1) 0) (i + d - 64)) where
  -- the bit so far on in the class
  next-is : (p : ℕ) → p / 64 ≡ n → place_bit next (p % 64) ≡ has_word_bit class (p + d)
  next-is p here =
      elim (cases_lt (p % 64 + d) 64) [
        | inl below ↦
            let place : n ≡ (p + d) / 64 = omega arith in
            let bit : p % 64 + d ≡ (p + d) % 64 = omega arith in
            low (p % 64) below ∙ (ap (place_bit (get_or class n 0)) bit ∙ (ap (λ k. place_bit (get_or class k 0) ((p + d) % 64)) place ∙ sym (row-bit class (p + d))))
        | inr past ↦
            let place : n + 1 ≡ (p + d) / 64 = omega arith in
            let bit : p % 64 + d - 64 ≡ (p + d) % 64 = omega arith in
            high (p % 64) (omega arith) past
            ∙ (ap (place_bit (get_or class (n + 1) 0)) bit ∙ (ap (λ k. place_bit (get_or class k 0) ((p + d) % 64)) place ∙ sym (row-bit class (p + d))))
      ]

  pub kept-more : ((p : ℕ) → p < 64 * n → has_word_bit words p ≡ (old p && has_word_bit class (p + d))) → ((p : ℕ) → 64 * n ≤ p → has_word_bit words p ≡ old p) → (p : ℕ) → p < 64 * (n + 1) →
      has_word_bit (set words n (bit_and (get_or words n 0) next)) p ≡ (old p && has_word_bit class (p + d))
  kept-more known later p few =
      elim (cases_lt p (64 * n)) [
        | inl before ↦ bit-kept words n (bit_and (get_or words n 0) next) p (λ same. omega arith) ∙ known p before
        | inr past ↦
            let here : p / 64 ≡ n = omega arith in
            set-both words n next within p here ∙ (ap (λ b. b && place_bit next (p % 64)) (later p past) ∙ ap (λ b. old p && b) (next-is p here))
      ]

-- words united
either-zero : (a b : ℕ) → bit_or a b ≡ 0 → (a ≡ 0) × (b ≡ 0)
either-zero a b none = (
  no-bits a (λ k. left-none (place_bit a k) (place_bit b k) (unset k)),
  no-bits b (λ k. right-none (place_bit a k) (place_bit b k) (unset k)),
)
  where
    unset : (k : ℕ) → (place_bit a k || place_bit b k) ≡ false
    unset k = sym (bit-either a b k) ∙ (ap (λ w. place_bit w k) none ∙ bit-none k)

    left-none : (x y : Bool) → (x || y) ≡ false → x ≡ false
    left-none true y e = e
    left-none false y e = refl

    right-none : (x y : Bool) → (x || y) ≡ false → y ≡ false
    right-none true y e = absurd (let f : true ≡ false = e in cc)
    right-none false y e = e

zero-either : (a b : ℕ) → a ≡ 0 → b ≡ 0 → bit_or a b ≡ 0
zero-either a b left right = no-bits (bit_or a b) (λ k. bit-either a b k ∙ (ap (λ w. place_bit w k || place_bit b k) left ∙ (ap (λ w. place_bit 0 k || place_bit w k) right ∙ (ap (λ t. t || place_bit 0 k) (bit-none k) ∙ bit-none k))))

pub any-more : (words : List ℕ) (any n : ℕ) → (any ≡ 0) ↔ ((j : ℕ) → j < n → get_or words j 0 ≡ 0) → (bit_or any (get_or words n 0) ≡ 0) ↔ ((j : ℕ) → j < n + 1 → get_or words j 0 ≡ 0)
any-more words any n known = (
  λ none j below.
      let (before, here) = either-zero any (get_or words n 0) none in
      elim (cases_lt j n) [
        | inl less ↦ known.0 before j less
        | inr past ↦ let same : n ≡ j = omega arith in subst (λ k. get_or words k 0 ≡ 0) same here
      ],
  λ zeros. zero-either any (get_or words n 0) (known.1 (λ j less. zeros j (omega arith))) (zeros n (omega arith)),
)

-- a word is 0 where its places have no bit
word-unset : (words : List ℕ) (j : ℕ) → get_or words j 0 < 2 ^ 64 → ((p : ℕ) → p / 64 ≡ j → has_word_bit words p ≡ false) → get_or words j 0 ≡ 0
word-unset words j fits unset =
    no-bits (get_or words j 0) (λ k.
    elim (cases_lt k 64) [
      | inr past ↦ past-word (get_or words j 0) k fits past
      | inl small ↦
          let place : j ≡ (64 * j + k) / 64 = omega arith in
          let bit : k ≡ (64 * j + k) % 64 = omega arith in
          ap (place_bit (get_or words j 0)) bit
          ∙ (ap (λ n. place_bit (get_or words n 0) ((64 * j + k) % 64)) place ∙ (sym (row-bit words (64 * j + k)) ∙ unset (64 * j + k) (sym place)))
    ])

pub none-is : (places : List ℕ) (any : ℕ) → ((j : ℕ) → j < 8 → get_or places j 0 < 2 ^ 64) → (any ≡ 0) ↔ ((j : ℕ) → j < 8 → get_or places j 0 ≡ 0) → eqb any 0 ≡ not (any_below 512 (has_word_bit places))
none-is places any fits zero_is =
    elim (true-or-false (any_below 512 (has_word_bit places))) [
      | inl some ↦
          let (p, below, set) = any-some 512 (has_word_bit places) some in
          let apart : any ≢ 0 =
          λ none. true-false (has_word_bit places p) set (row-bit places p ∙ (ap (λ w. place_bit w (p % 64)) (zero_is.0 none (p / 64) (omega arith)) ∙ bit-none (p % 64))) in
          ne_eqb any 0 apart ∙ sym (ap not some)
      | inr none ↦
          let zero : any ≡ 0 = zero_is.1 (λ j small. word-unset places j (fits j small) (λ p here. none-any 512 (has_word_bit places) none p (omega arith))) in
          eq-eqb any 0 zero ∙ sym (ap not none)
    ]

-- all of them
pub all-ones : (p end : ℕ) → end ≡ 512 → p < 512 → has_word_bit (replicate 8 18446744073709551615) p ≡ nat_lt p end
unfolding has_word_bit
all-ones p end all below =
    ap (λ w. eqb (bit_at w (p % 64)) 1) (get_or-replicate 8 (p / 64) 18446744073709551615 0 (omega arith))
    ∙ (ap (λ b. eqb b 1) (bit_at_ones 64 (p % 64) (omega arith)) ∙ sym (lt-ltb p end (omega arith)))

-- the words of the places before

pub later-first : (word : ℕ) (first : Bool) (class : List ℕ) (p : ℕ) → p + 63 < 64 → ((first ≡ true) × (word ≡ 9223372036854775808)) ⊎ ((first ≡ false) × (word ≡ 0)) →
    has_word_bit (word ∷ 0 ∷ 0 ∷ 0 ∷ 0 ∷ 0 ∷ 0 ∷ 0 ∷ 0 ∷ []) (p + 63) ≡ is_behind first class p
unfolding has_word_bit
later-first word first class zero low (inl (is, top)) = ap (λ w. eqb (bit_at w 63) 1) top ∙ sym is
later-first word first class zero low (inr (not, none)) = ap (λ w. eqb (bit_at w 63) 1) none ∙ sym not
later-first word first class (suc p) low either = absurd (omega arith)

pub later-more : (words class : List ℕ) (first : Bool) (n : ℕ) → 1 ≤ n → n < length words → ((p : ℕ) → p + 63 < 64 * n → has_word_bit words (p + 63) ≡ is_behind first class p) →
    (p : ℕ) → p + 63 < 64 * (n + 1) → has_word_bit (set words n (get_or class (n - 1) 0)) (p + 63) ≡ is_behind first class p
unfolding place_bit has_word_bit
later-more words class first n some within known zero low = bit-kept words n (get_or class (n - 1) 0) 63 (λ same. absurd (omega (arith, some))) ∙ known 0 (omega (arith, some))
later-more words class first n some within known (suc p) low =
    elim (cases_lt (suc p + 63) (64 * n)) [
      | inl before ↦ bit-kept words n (get_or class (n - 1) 0) (suc p + 63) (λ same. absurd (omega arith)) ∙ known (suc p) before
      | inr past ↦
          let here : (suc p + 63) / 64 ≡ n = omega arith in
          let word : n - 1 ≡ p / 64 = omega arith in
          let bit : (suc p + 63) % 64 ≡ p % 64 = omega arith in
          bit-set words n (get_or class (n - 1) 0) (suc p + 63) within here
          ∙ (ap (λ k. eqb (bit_at (get_or class k 0) ((suc p + 63) % 64)) 1) word
          ∙ (ap (λ k. eqb (bit_at (get_or class (p / 64) 0) k) 1) bit ∙ sym (row-bit class p)))
    ]

-- The places of a chunk, through its blocks.
use Rattle.std.proofs.Common.{◌≡◌, ◌↔◌, ℕ, zero, suc, ◌+◌, ◌*◌, ◌/◌, ◌%◌, ◌<◌, ◌≤◌, Bool, true, false, List, [], ◌∷◌, ◌++◌, length, get_or, take, drop, slice_index, refl, sym, ap, subst, ◌∙◌, inl, inr, arith, append_assoc, length-drop}
use Rattle.std.proofs.Math.Seq.{take-add}
use Rattle.std.proofs.lemmas.List.{get_or-take, get_or-drop, length-take-le, take_all}
use Rattle.std.proofs.lemmas.Bool.{cases_lt}
use Rattle.hs_base.specs.declared.context.Next.TheVariants as after
use Rattle.hs_base.specs.Chains.{Piece}
use Rattle.hs_base.specs.Contexts.{class_of}
use Rattle.hs_base.specs.Leaving.{LeavesAt}
use Rattle.hs_bits.specs.WordBits.{word_bit, Marks}
use Rattle.hs_bits.proofs.PlaceLemmas.{bit-none}
use Rattle.hs_nodes.specs.declared.ends.ChunkEnds.{ChunkEnds}
use Rattle.hs_nodes.specs.Blocks.{block, front}
use Rattle.hs_nodes.specs.Left.{AreLeftIn}
use Rattle.hs_nodes.proofs.RunLemmas.{AreNowhereFrom}

take-less : {A : Type 0} (r n : ℕ) (xs : List A) → r ≤ n → take r (take n xs) ≡ take r xs
take-less zero n xs low = refl
take-less (suc r) zero xs low = absurd (omega arith)
take-less (suc r) (suc n) [] low = refl
take-less (suc r) (suc n) (x ∷ xs) low = ap (λ v. x ∷ v) (take-less r n xs (omega arith))

-- the bytes of a block are those of the chunk
pub length-block_of : (bytes : List ℕ) (j r : ℕ) → r < 64 → 64 * j + r < length bytes → r < length (block bytes j)
unfolding block
length-block_of bytes j r small below =
    let rest = length-drop (64 * j) bytes in
    elim (cases_lt (length (drop (64 * j) bytes)) 64) [
      | inl short ↦ let all : length (take 64 (drop (64 * j) bytes)) ≡ length (drop (64 * j) bytes) = ap length (take_all 64 (drop (64 * j) bytes) (omega arith)) in omega (arith, rest, all)
      | inr long ↦ let whole : length (take 64 (drop (64 * j) bytes)) ≡ 64 = length-take-le 64 (drop (64 * j) bytes) long in omega (arith, rest, whole)
    ]

pub block-within : (bytes : List ℕ) (j r : ℕ) → r < length (block bytes j) → (r < 64) × (64 * j + r < length bytes)
unfolding block
block-within bytes j r below =
    let rest = length-drop (64 * j) bytes in
    elim (cases_lt (length (drop (64 * j) bytes)) 64) [
      | inl short ↦ let all : length (take 64 (drop (64 * j) bytes)) ≡ length (drop (64 * j) bytes) = ap length (take_all 64 (drop (64 * j) bytes) (omega arith)) in (omega (arith, rest, all), omega (arith, rest, all))
      | inr long ↦ let whole : length (take 64 (drop (64 * j) bytes)) ≡ 64 = length-take-le 64 (drop (64 * j) bytes) long in (omega (arith, rest, whole), omega (arith, rest, whole))
    ]

pub block-byte : (bytes : List ℕ) (j r : ℕ) → r < 64 → get_or (block bytes j) r 0 ≡ get_or bytes (64 * j + r) 0
unfolding block
block-byte bytes j r small = get_or-take 64 (drop (64 * j) bytes) r 0 small ∙ get_or-drop (64 * j) bytes r 0

pub block-front : (u bytes : List ℕ) (j r : ℕ) → r ≤ 64 → front u bytes j ++ take r (block bytes j) ≡ u ++ take (64 * j + r) bytes
unfolding front block
block-front u bytes j r small =
    append_assoc u (take (64 * j) bytes) (take r (take 64 (drop (64 * j) bytes)))
    ∙ ap (λ v. u ++ v) (ap (λ v. take (64 * j) bytes ++ v) (take-less r 64 (drop (64 * j) bytes) small) ∙ sym (take-add (64 * j) r bytes))

-- the pieces are left nowhere in the chunk
pub record AreLeftNowhere (pieces : List Piece) (u bytes : List ℕ) : Type 0 where
  pub before : (i : ℕ) → i < length bytes → LeavesAt pieces (u ++ take i bytes) (class_of (get_or bytes i 0)) → ⊥
  pub behind : (i : ℕ) → i < length bytes → LeavesAt pieces (u ++ take (i + 1) bytes) after.Unknown → ⊥

no-truth : {A : Type 0} (b : Bool) → b ≡ false → (A → ⊥) → (b ≡ true) ↔ A
no-truth b none not = (λ set. absurd (let both : true ≡ false = sym set ∙ none in cc), λ a. absurd (not a))

none-marks : (n word : ℕ) (P : ℕ → Type 0) → word ≡ 0 → ((i : ℕ) → i < n → P i → ⊥) → Marks n word P
none-marks n word P none not = record {
  below = λ i low. no-truth (word_bit word i) (ap (λ w. word_bit w i) none ∙ bit-none i) (not i low);
  above = λ i high. ap (λ w. word_bit w i) none ∙ bit-none i;
}

-- words that are 0 tell so
pub nowhere-left : (pieces : List Piece) (u bytes : List ℕ) (ends : ChunkEnds) → AreNowhereFrom 0 ends → AreLeftNowhere pieces u bytes → AreLeftIn pieces u bytes ends
nowhere-left pieces u bytes ends zero_ends none = record {
  each = λ j small. record {
    before_is = none-marks (length (block bytes j)) (slice_index ends.before j) (λ r. LeavesAt pieces (front u bytes j ++ take r (block bytes j)) (class_of (slice_index (block bytes j) r))) (zero_ends.before j (omega arith)) (λ r low leaves.
        let within = block-within bytes j r low in
        none.before (64 * j + r) within.1
        (subst (λ v. LeavesAt pieces v (class_of (get_or bytes (64 * j + r) 0))) (block-front u bytes j r (omega (arith, within.0)))
        (subst (λ b. LeavesAt pieces (front u bytes j ++ take r (block bytes j)) (class_of b)) (block-byte bytes j r within.0) leaves)));
    behind_is = none-marks (length (block bytes j)) (slice_index ends.behind j) (λ r. LeavesAt pieces (front u bytes j ++ take (r + 1) (block bytes j)) after.Unknown) (zero_ends.behind j (omega arith)) (λ r low leaves.
        let within = block-within bytes j r low in
        let next : 64 * j + (r + 1) ≡ (64 * j + r) + 1 = omega arith in
        none.behind (64 * j + r) within.1
        (subst (λ n. LeavesAt pieces (u ++ take n bytes) after.Unknown) next (subst (λ v. LeavesAt pieces v after.Unknown) (block-front u bytes j (r + 1) (omega (arith, within.0))) leaves)));
  };
}

marked-none : (n word : ℕ) (P : ℕ → Type 0) → Marks n word P → word ≡ 0 → (i : ℕ) → i < n → P i → ⊥
marked-none n word P marks none i low p = let both : true ≡ false = sym ((marks.below i low).1 p) ∙ (ap (λ w. word_bit w i) none ∙ bit-none i) in cc

-- and are told so
pub left-nowhere : (pieces : List Piece) (u bytes : List ℕ) (ends : ChunkEnds) → length bytes ≤ 512 → AreNowhereFrom 0 ends → AreLeftIn pieces u bytes ends → AreLeftNowhere pieces u bytes
left-nowhere pieces u bytes ends few zero_ends left = record {
  before = λ i low leaves.
      let j = i / 64 in
      let r = i % 64 in
      let there : 64 * j + r ≡ i = omega arith in
      let below = length-block_of bytes j r (omega arith) (omega arith) in
      marked-none (length (block bytes j)) (slice_index ends.before j) (λ r. LeavesAt pieces (front u bytes j ++ take r (block bytes j)) (class_of (slice_index (block bytes j) r))) (left.each j (omega arith)).before_is (zero_ends.before j (omega arith)) r below
      (subst (λ b. LeavesAt pieces (front u bytes j ++ take r (block bytes j)) (class_of b)) (sym (block-byte bytes j r (omega arith) ∙ ap (λ n. get_or bytes n 0) there))
      (subst (λ v. LeavesAt pieces v (class_of (get_or bytes i 0))) (sym (block-front u bytes j r (omega arith) ∙ ap (λ n. u ++ take n bytes) there)) leaves));
  behind = λ i low leaves.
      let j = i / 64 in
      let r = i % 64 in
      let there : 64 * j + (r + 1) ≡ i + 1 = omega arith in
      let below = length-block_of bytes j r (omega arith) (omega arith) in
      marked-none (length (block bytes j)) (slice_index ends.behind j) (λ r. LeavesAt pieces (front u bytes j ++ take (r + 1) (block bytes j)) after.Unknown) (left.each j (omega arith)).behind_is (zero_ends.behind j (omega arith)) r below
      (subst (λ v. LeavesAt pieces v after.Unknown) (sym (block-front u bytes j (r + 1) (omega arith) ∙ ap (λ n. u ++ take n bytes) there)) leaves);
}

-- the words tell of each place of the chunk
pub left-flat : (pieces : List Piece) (u bytes : List ℕ) (ends : ChunkEnds) → length bytes ≤ 512 → AreLeftIn pieces u bytes ends → (i : ℕ) → i < length bytes →
    (word_bit (slice_index ends.before (i / 64)) (i % 64) ≡ true) ↔ LeavesAt pieces (u ++ take i bytes) (class_of (get_or bytes i 0))
left-flat pieces u bytes ends few left i low =
    let j = i / 64 in
    let r = i % 64 in
    let there : 64 * j + r ≡ i = omega arith in
    let below = length-block_of bytes j r (omega arith) (omega arith) in
    let told = (left.each j (omega arith)).before_is.below r below in
    let byte : get_or (block bytes j) r 0 ≡ get_or bytes i 0 = block-byte bytes j r (omega arith) ∙ ap (λ n. get_or bytes n 0) there in
    let stream : front u bytes j ++ take r (block bytes j) ≡ u ++ take i bytes = block-front u bytes j r (omega arith) ∙ ap (λ n. u ++ take n bytes) there in (
      λ set. subst (λ v. LeavesAt pieces v (class_of (get_or bytes i 0))) stream (subst (λ b. LeavesAt pieces (front u bytes j ++ take r (block bytes j)) (class_of b)) byte (told.0 set)),
      λ leaves. told.1 (subst (λ b. LeavesAt pieces (front u bytes j ++ take r (block bytes j)) (class_of b)) (sym byte) (subst (λ v. LeavesAt pieces v (class_of (get_or bytes i 0))) (sym stream) leaves)),
    )

-- The blocks of a chunk.
use Rattle.std.proofs.Common.{◌≡◌, ◌⊎◌, ℕ, zero, suc, ◌+◌, ◌*◌, ◌-◌, ◌<◌, ◌≤◌, List, [], ◌∷◌, ◌++◌, length, get_or, take, drop, min, refl, sym, ap, ◌∙◌, inl, inr, arith, eqb, length-drop}
use Rattle.std.proofs.Math.Seq.{take-add}
use Rattle.std.proofs.Math.ListN.{drop_of_length-le}
use Rattle.std.proofs.lemmas.List.{append-nil, get_or-append-add, take_all}
use Rattle.hs_base.specs.Assertions.{line_feed, is_word_byte}
use Rattle.hs_base.specs.Contexts.{prev_at, prev_by}
use Rattle.hs_bits.proofs.BlockLemmas.{block-more, length-block, prev-push}
use Rattle.hs_nodes.specs.Blocks.{block, front}

-- a block is what is sliced
slice-block : (bytes : List ℕ) (number end : ℕ) → (end ≡ 64 * number + 64) ⊎ (end ≡ length bytes) → end ≤ 64 * number + 64 → end ≤ length bytes → take (end - 64 * number) (drop (64 * number) bytes) ≡ block bytes number
unfolding block
slice-block bytes number end (inl is) low high = let whole : end - 64 * number ≡ 64 = omega arith in ap (λ n. take n (drop (64 * number) bytes)) whole
slice-block bytes number end (inr is) low high =
    let rest = drop (64 * number) bytes in
    let count : length rest ≡ length bytes - 64 * number = length-drop (64 * number) bytes in
    take_all (end - 64 * number) rest (omega (arith, count)) ∙ sym (take_all 64 rest (omega (arith, count)))

end-cases : (a b end : ℕ) → end ≡ min a b → (end ≡ a) ⊎ (end ≡ b)
end-cases a b end is = grind arith

pub slice-block_to : (bytes : List ℕ) (number end : ℕ) → end ≡ min (64 * number + 64) (length bytes) → 64 * number < length bytes → take (end - 64 * number) (drop (64 * number) bytes) ≡ block bytes number
slice-block_to bytes number end is below = slice-block bytes number end (end-cases (64 * number + 64) (length bytes) end is) (omega arith) (omega arith)

pub front-none : (u bytes : List ℕ) → front u bytes 0 ≡ u
unfolding front
front-none u bytes = append-nil u

-- behind one more block
pub front-more : (u bytes : List ℕ) (j n : ℕ) → n ≡ j + 1 → front u bytes n ≡ front u bytes j ++ block bytes j
unfolding front block
front-more u bytes j n next =
    let more : 64 * n ≡ 64 * j + 64 = omega arith in
    ap (λ k. u ++ take k bytes) more ∙ ap (λ v. u ++ v) (take-add (64 * j) 64 bytes) ∙ sym (append_back u (take (64 * j) bytes) (take 64 (drop (64 * j) bytes))) where
      append_back : (xs ys zs : List ℕ) → (xs ++ ys) ++ zs ≡ xs ++ (ys ++ zs)
      append_back [] ys zs = refl
      append_back (x ∷ xs) ys zs = ap (λ v. x ∷ v) (append_back xs ys zs)

pub front-all : (u bytes : List ℕ) (n : ℕ) → length bytes ≤ 64 * n → front u bytes n ≡ u ++ bytes
unfolding front
front-all u bytes n enough = ap (λ v. u ++ v) (take_all (64 * n) bytes enough)

pub length-front : (u bytes : List ℕ) (j : ℕ) → 64 * j ≤ length bytes → length (front u bytes j) ≡ length u + 64 * j
unfolding front
length-front u bytes j within = length-block u bytes (64 * j) within

-- behind the last block comes none
pub block-past : (bytes : List ℕ) (j : ℕ) → length bytes ≤ 64 * j → block bytes j ≡ []
unfolding block
block-past bytes j past = ap (λ v. take 64 v) (drop_of_length-le bytes past)

-- what stands before a block
pub prev-first : (u bytes : List ℕ) (j : ℕ) → j ≡ 0 → prev_at u (length u) ≡ prev_at (front u bytes j) (length (front u bytes j))
prev-first u bytes j none =
    let same : front u bytes j ≡ u = ap (λ n. front u bytes n) none ∙ front-none u bytes in
    ap (λ v. prev_at v (length v)) (sym same)

pub prev-later : (u bytes : List ℕ) (j : ℕ) → (j ≡ 0 → ⊥) → 64 * j ≤ length bytes → prev_by (eqb (get_or bytes (64 * j - 1) 0) line_feed) (is_word_byte (get_or bytes (64 * j - 1) 0)) ≡ prev_at (front u bytes j) (length (front u bytes j))
unfolding front
prev-later u bytes j some within =
    let last = 64 * j - 1 in
    let next : last + 1 ≡ 64 * j = omega arith in
    let more : (u ++ take last bytes) ++ get_or bytes last 0 ∷ [] ≡ u ++ take (64 * j) bytes = block-more u bytes last (omega arith) ∙ ap (λ n. u ++ take n bytes) next in
    sym (prev-push (u ++ take last bytes) (get_or bytes last 0)) ∙ ap (λ v. prev_at v (length v)) more

-- the past bytes and those of the chunk
pub byte-past : (past bytes : List ℕ) (place : ℕ) → place < length past → get_or past place 0 ≡ get_or (past ++ bytes) place 0
byte-past [] bytes place low = absurd (omega arith)
byte-past (b ∷ past) bytes zero low = refl
byte-past (b ∷ past) bytes (suc place) low = byte-past past bytes place (omega arith)

pub byte-own : (past bytes : List ℕ) (place rest : ℕ) → place ≡ length past + rest → get_or bytes rest 0 ≡ get_or (past ++ bytes) place 0
byte-own past bytes place rest is = sym (ap (λ n. get_or (past ++ bytes) n 0) is ∙ get_or-append-add past bytes rest 0)

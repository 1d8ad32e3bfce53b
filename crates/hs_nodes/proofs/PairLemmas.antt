-- An expression that looks back, and the literal behind it: both are left where the literal ends, if the expression is
-- left before its first byte.
use Rattle.std.proofs.Common.{◌≡◌, ◌↔◌, ℕ, zero, suc, ◌+◌, ◌-◌, ◌*◌, ◌/◌, ◌%◌, ◌<◌, ◌≤◌, Bool, true, false, ◌&&◌, List, [], ◌∷◌, ◌++◌, length, map, get_or, take, drop, slice_get, slice_index, Option, Some, refl, sym, ap, subst, ◌∙◌, inl, inr, arith, append_assoc, bit_and, bit_or}
use Rattle.std.specs.Prelude.{nat_lt, if◌then◌else◌}
use Rattle.std.proofs.lemmas.Bool.{cases_eq, cases_lt}
use Rattle.std.proofs.lemmas.List.{take-append-drop}
use Rattle.std.proofs.lemmas.Option.{same_Some, slice_get-get_or}
use mir.Val.{bool_byte}
use Rattle.hs_base.specs.declared.context.Mask.{Mask}
use Rattle.hs_base.specs.declared.context.Next.{Next}
use Rattle.hs_base.specs.declared.context.Next.TheVariants as after
use Rattle.hs_base.specs.Bits.{has_word_bit}
use Rattle.hs_base.specs.Chains.{Piece, lit, nfa, piece_tree, IsFitChain}
use Rattle.hs_base.specs.Contexts.{class_of, then_bytes, then_ended}
use Rattle.hs_base.specs.Leaving.{LeavesAt, LeavesBehind}
use Rattle.hs_base.specs.LiteralEnds.{EndsAt, IsTaken}
use Rattle.hs_base.specs.LiteralRows.{IsEnteredBefore}
use Rattle.hs_base.specs.Literals.{LiteralByte, literal_set}
use Rattle.hs_base.specs.Lists.{Each}
use Rattle.hs_base.specs.Spans.{Spans, CatSpans}
use Rattle.hs_base.specs.Trees as trees
use Rattle.hs_base.specs.Trees.{Tree, Trees, trees_of}
use Rattle.hs_base.proofs.ChainStreamLemmas.{last-leaves, leaves-last, leaving-begins}
use Rattle.hs_base.proofs.ListLemmas.{each-left}
use Rattle.hs_base.proofs.LiteralRowLemmas.{literal-spans_end, literals-leave_behind}
use Rattle.hs_bits.specs.WordBits.{word_bit, count_below}
use Rattle.hs_bits.proofs.BlockLemmas.{length-block}
use Rattle.hs_block.proofs.LiteralBlockLemmas.{ends-stay, never-empty}
use Rattle.hs_bits.proofs.PlaceLemmas.{bit-both, bit-none, later-first, later-next, less-is, not-less}
use Rattle.hs_engine.specs.Engines.{Meaning}
use Rattle.hs_nodes.specs.declared.hits.ChunkHits.{ChunkHits}
use Rattle.hs_nodes.specs.Blocks.{block, front}
use Rattle.hs_nodes.specs.Hits.{AreChunkHits, hit_count, is_hit_at}
use Rattle.hs_nodes.specs.Left.{AreLeft, nowhere_words}
use Rattle.hs_nodes.specs.LookBacks.{AreLeftAt, FindsPair, IsPair, LeavesBack, LeavesPair, TellsPair}
use Rattle.hs_nodes.proofs.FlatLemmas.{AreLeftNowhere, block-front, block-within}
use Rattle.hs_nodes.proofs.LiteralLemmas.{hit-later}
use Rattle.hs_nodes.proofs.RunLemmas.{nowhere-none}

-- the literal and its last bytes

abbrev lit_trees : List LiteralByte → Trees
lit_trees xs = trees_of (map (λ x. trees.class (literal_set x)) xs)

lit-width : (w : List ℕ) (ended : Bool) (xs : List LiteralByte) (i j : ℕ) → CatSpans w ended (lit_trees xs) i j → i + length xs ≡ j
lit-width w ended [] i j span = omega (arith, span)
lit-width w ended (x ∷ xs) i j (m, one, rest) =
    let e : m ≡ i + 1 = one.1 in
    let e' : m + length xs ≡ j = lit-width w ended xs m j rest in
    omega arith

taken-length : {literal : List LiteralByte} {bytes : List ℕ} → IsTaken literal bytes → length literal ≡ length bytes
taken-length IsTaken.none = refl
taken-length (IsTaken.next here others) = ap suc (taken-length others)

pub ends-within : (xs : List LiteralByte) (w : List ℕ) (end : ℕ) → EndsAt xs w end → length xs ≤ end
ends-within xs w end ends = let size : length xs ≡ length ends.taken = taken-length ends.is in omega (arith, size, ends.at)

module _ (xs : List LiteralByte) (w : List ℕ) (some : 1 ≤ length xs) (each : Each (λ b. b < 256) w) where
  literal-ends : length xs ≤ length w → Spans w false (piece_tree (lit xs)) (length w - length xs) (length w) ↔ EndsAt xs w (length w)
  literal-ends within =
      let e : length w - length xs + length xs ≡ length w = omega (arith, within) in
      subst (λ j. Spans w false (piece_tree (lit xs)) (length w - length xs) j ↔ EndsAt xs w j) e (literal-spans_end xs w false (length w - length xs) some each)

  everywhere-before : length xs ≤ length w → IsEnteredBefore [] (length xs) w
  everywhere-before within =
      let place : ℕ = length w - length xs in
      let there : place < length w = omega (arith, within, some) in
      record {
        byte = get_or w place 0;
        there = slice_get-get_or w place 0 there;
        entered = (leaving-begins (take place w) (class_of (get_or w place 0))).0 refl;
      }

  -- a literal that is entered everywhere is left where it ends
  pub first-leaves : (rest : List Piece) → IsFitChain (lit xs ∷ rest) → (next : Next) → LeavesAt (lit xs ∷ []) w next ↔ EndsAt xs w (length w)
  first-leaves rest fit next = (
    λ left. elim (leaves-last [] rest (lit xs) w next fit left) [
      | inl behind ↦
          let wide : behind.from + length xs ≡ length w = lit-width (then_bytes w next) (then_ended next) xs behind.from (length w) behind.spans in
          let within : length xs ≤ length w = omega (arith, wide) in
          (literal-ends within).0 ((literals-leave_behind [] xs w next some within).0 behind).1
      | inr both ↦ absurd (never-empty xs w next some both.1)
    ],
    λ ends.
        let within = ends-within xs w (length w) ends in
        last-leaves [] rest (lit xs) w next fit (inl ((literals-leave_behind [] xs w next some within).1 (everywhere-before within, (literal-ends within).1 ends))),
  )

  -- and behind any pieces it is left only where it ends
  pub behind-ends : (pieces : List Piece) (next : Next) → LeavesBehind pieces (lit xs) w next → EndsAt xs w (length w)
  behind-ends pieces next behind =
      let wide : behind.from + length xs ≡ length w = lit-width (then_bytes w next) (then_ended next) xs behind.from (length w) behind.spans in
      let within : length xs ≤ length w = omega (arith, wide) in
      (literal-ends within).0 ((literals-leave_behind pieces xs w next some within).0 behind).1

module _ (tree : Tree) (xs : List LiteralByte) (rest : List Piece) (w : List ℕ) (some : 1 ≤ length xs) (each : Each (λ b. b < 256) w) (fit : IsFitChain (nfa tree ∷ lit xs ∷ rest)) where
  span-ends : length xs ≤ length w → Spans w false (piece_tree (lit xs)) (length w - length xs) (length w) ↔ EndsAt xs w (length w)
  span-ends within = literal-ends xs w some each within

  behind-leaves : (next : Next) → (EndsAt xs w (length w) × IsEnteredBefore (nfa tree ∷ []) (length xs) w) ↔ LeavesBehind (nfa tree ∷ []) (lit xs) w next
  behind-leaves next = (
    λ both.
        let within = ends-within xs w (length w) both.0 in
        (literals-leave_behind (nfa tree ∷ []) xs w next some within).1 (both.1, (span-ends within).1 both.0),
    λ behind.
        let wide : behind.from + length xs ≡ length w = lit-width (then_bytes w next) (then_ended next) xs behind.from (length w) behind.spans in
        let within : length xs ≤ length w = omega (arith, wide) in
        let both = (literals-leave_behind (nfa tree ∷ []) xs w next some within).0 behind in
        ((span-ends within).0 both.1, both.0),
  )

  pub pair-leaves : (next : Next) → LeavesAt (nfa tree ∷ lit xs ∷ []) w next ↔ (EndsAt xs w (length w) × IsEnteredBefore (nfa tree ∷ []) (length xs) w)
  pair-leaves next = (
    λ left. elim (leaves-last (nfa tree ∷ []) rest (lit xs) w next fit left) [
      | inl behind ↦ (behind-leaves next).1 behind
      | inr both ↦ absurd (never-empty xs w next some both.1)
    ],
    λ both. last-leaves (nfa tree ∷ []) rest (lit xs) w next fit (inl ((behind-leaves next).0 both)),
  )

-- the chunk up to a place

upto : (u bytes : List ℕ) (i : ℕ) → u ++ bytes ≡ (u ++ take i bytes) ++ drop i bytes
upto u bytes i = ap (λ v. u ++ v) (sym (take-append-drop i bytes)) ∙ sym (append_assoc u (take i bytes) (drop i bytes))

pub small-to : (u bytes : List ℕ) (i : ℕ) → Each (λ b. b < 256) (u ++ bytes) → Each (λ b. b < 256) (u ++ take i bytes)
small-to u bytes i each = each-left (λ b. b < 256) (u ++ take i bytes) (drop i bytes) (subst (λ v. Each (λ b. b < 256) v) (upto u bytes i) each)

pub ends-to : (xs : List LiteralByte) (u bytes : List ℕ) (i : ℕ) → i ≤ length bytes → EndsAt xs (u ++ bytes) (length u + i) ↔ EndsAt xs (u ++ take i bytes) (length (u ++ take i bytes))
ends-to xs u bytes i within =
    let size : length (u ++ take i bytes) ≡ length u + i = length-block u bytes i within in
    let stays = ends-stay xs (u ++ take i bytes) (drop i bytes) (length u + i) (omega (arith, size)) in (
      λ ends. subst (λ n. EndsAt xs (u ++ take i bytes) n) (sym size) (stays.1 (subst (λ v. EndsAt xs v (length u + i)) (upto u bytes i) ends)),
      λ ends. subst (λ v. EndsAt xs v (length u + i)) (sym (upto u bytes i)) (stays.0 (subst (λ n. EndsAt xs (u ++ take i bytes) n) size ends)),
    )

-- a literal that is entered everywhere is left in a chunk where it ends
pub first-left : (xs : List LiteralByte) (rest : List Piece) (u bytes : List ℕ) (own : ChunkHits) → 1 ≤ length xs → IsFitChain (lit xs ∷ rest) → Each (λ b. b < 256) (u ++ bytes) → AreChunkHits own xs u bytes → AreLeftAt own (lit xs ∷ []) u bytes
first-left xs rest u bytes own some fit small are i within next =
    let left = first-leaves xs (u ++ take i bytes) some (small-to u bytes i small) rest fit next in
    let ends = ends-to xs u bytes i within in
    let told = are i within in (
      λ set. left.1 (ends.0 (told.0 set)),
      λ leaves. told.1 (ends.1 (left.0 leaves)),
    )

take-front : {A : Type 0} (n : ℕ) (xs ys : List A) → n ≤ length xs → take n (xs ++ ys) ≡ take n xs
take-front zero xs ys low = refl
take-front (suc n) [] ys low = absurd (omega arith)
take-front (suc n) (x ∷ xs) ys low = ap (λ v. x ∷ v) (take-front n xs ys (omega arith))

get-front : (n : ℕ) (xs ys : List ℕ) → n < length xs → get_or (xs ++ ys) n 0 ≡ get_or xs n 0
get-front n [] ys low = absurd (omega arith)
get-front zero (x ∷ xs) ys low = refl
get-front (suc n) (x ∷ xs) ys low = get-front n xs ys (omega arith)

-- a pair of which the literal ends nowhere in the chunk
pub pair-passed : (tree : Tree) (xs : List LiteralByte) (rest : List Piece) (u bytes : List ℕ) (own : ChunkHits) → 1 ≤ length xs → IsFitChain (nfa tree ∷ lit xs ∷ rest) → Each (λ b. b < 256) (u ++ bytes) → AreChunkHits own xs u bytes → ((i : ℕ) → i ≤ length bytes → is_hit_at own i ≡ false) →
    AreLeftNowhere (nfa tree ∷ lit xs ∷ []) u bytes
pair-passed tree xs rest u bytes own some fit small are none = record {
  before = λ i low leaves. refuted i (omega arith) (class_of (get_or bytes i 0)) leaves;
  behind = λ i low leaves. refuted (i + 1) (omega arith) after.Unknown leaves;
} where
  refuted : (i : ℕ) → i ≤ length bytes → (next : Next) → LeavesAt (nfa tree ∷ lit xs ∷ []) (u ++ take i bytes) next → ⊥
  refuted i within next leaves =
      let both = (pair-leaves tree xs rest (u ++ take i bytes) some (small-to u bytes i small) fit next).0 leaves in
      let set : is_hit_at own i ≡ true = (are i within).1 ((ends-to xs u bytes i within).1 both.0) in
      let clash : true ≡ false = sym set ∙ none i within in absurd (cc)

-- how often a literal ends

count-grow : (a b : ℕ) (test : ℕ → Bool) → a ≤ b → count_below a test ≤ count_below b test
count-grow zero b test low = omega arith
count-grow (suc a) zero test low = absurd (omega arith)
count-grow (suc a) (suc b) test low = elim (cases_eq a b) [
  | inl same ↦ subst (λ n. count_below (suc a) test ≤ count_below (suc n) test) same (omega arith)
  | inr apart ↦ let more = count-grow (suc a) b test (omega arith) in omega (arith, more)
]

count-hit : (k : ℕ) (test : ℕ → Bool) → test k ≡ true → count_below (suc k) test ≡ 1 + count_below k test
count-hit k test set = ap (λ (b : Bool). (if b then 1 else 0) + count_below k test) set

pub hits-grow : (hits : ChunkHits) (from end : ℕ) → from ≤ end → hit_count hits from ≤ hit_count hits end
hits-grow hits from end low = count-grow (suc from) (suc end) (is_hit_at hits) (omega arith)

pub hits-start : (hits : ChunkHits) → hits.at_start ≡ true → hit_count hits 0 ≡ 1
hits-start hits set = count-hit 0 (is_hit_at hits) set

hits-more : (hits : ChunkHits) (from k : ℕ) → from ≤ k → is_hit_at hits (k + 1) ≡ true → hit_count hits from + 1 ≤ hit_count hits (k + 1)
hits-more hits from k low set =
    let grow : count_below (suc from) (is_hit_at hits) ≤ count_below (k + 1) (is_hit_at hits) = count-grow (suc from) (k + 1) (is_hit_at hits) (omega arith) in
    let hit : count_below (suc (k + 1)) (is_hit_at hits) ≡ 1 + count_below (k + 1) (is_hit_at hits) = count-hit (k + 1) (is_hit_at hits) set in
    omega (arith, grow, hit)

row-none : (k : ℕ) → has_word_bit nowhere_words k ≡ false
unfolding has_word_bit word_bit
row-none k = ap (λ w. word_bit w (k % 64)) (nowhere-none.before (k / 64) (omega arith)) ∙ bit-none (k % 64)

-- The places before one of them are told by a row of words.
pub record AreFound (m : Meaning) (null : Option Mask) (len at : ℕ) (past bytes : List ℕ) (hits : ChunkHits) (row : List ℕ) (n : ℕ) : Type 0 where
  pub told : (k : ℕ) → k < n → k < length bytes → TellsPair m null len at past bytes hits (k + 1) (has_word_bit row k)
  pub unset : (k : ℕ) → n ≤ k → has_word_bit row k ≡ false

module _ (m : Meaning) (null : Option Mask) (len at : ℕ) (past bytes : List ℕ) (hits : ChunkHits) (some : 1 ≤ len) where
  module _ (tree : Tree) (xs : List LiteralByte) (u : List ℕ) (is : IsPair m null len at past bytes hits tree xs u) where
    pair-at : (i : ℕ) (next : Next) → LeavesAt (nfa tree ∷ lit xs ∷ []) (u ++ take i bytes) next ↔ (EndsAt xs (u ++ take i bytes) (length (u ++ take i bytes)) × IsEnteredBefore (nfa tree ∷ []) (length xs) (u ++ take i bytes))
    pair-at i next = pair-leaves tree xs is.rest (u ++ take i bytes) (omega (arith, some, is.count)) (small-to u bytes i is.stream.small) is.fit next

    hit-ends : (i : ℕ) → i ≤ length bytes → (is_hit_at hits i ≡ true) ↔ EndsAt xs (u ++ take i bytes) (length (u ++ take i bytes))
    hit-ends i within = (λ set. (ends-to xs u bytes i within).0 ((is.ends i within).0 set), λ ends. (is.ends i within).1 ((ends-to xs u bytes i within).1 ends))

    back-pair : (i place : ℕ) (leaves : Bool) (next : Next) → i ≤ length bytes → place + len ≡ 64 + i → LeavesBack m null at past bytes place leaves → is_hit_at hits i ≡ true → (leaves ≡ true) ↔ LeavesAt (nfa tree ∷ lit xs ∷ []) (u ++ take i bytes) next
    back-pair i place leaves next within place_is back set =
        let w : List ℕ = u ++ take i bytes in
        let size : length w ≡ length u + i = length-block u bytes i within in
        let ends : EndsAt xs w (length w) = (hit-ends i within).0 set in
        let room : length xs ≤ length w = ends-within xs w (length w) ends in
        let n : ℕ = length w - length xs in
        let same : length u + place - 64 ≡ n = omega (arith, place_is, size, is.count) in
        let below : n < length w = omega (arith, room, some, is.count) in
        let front_is : take (length u + place - 64) (u ++ bytes) ≡ take n w = ap (λ k. take k (u ++ bytes)) same ∙ (ap (λ v. take n v) (upto u bytes i) ∙ take-front n w (drop i bytes) (omega (arith, below))) in
        let byte_is : get_or (u ++ bytes) (length u + place - 64) 0 ≡ get_or w n 0 = ap (λ k. get_or (u ++ bytes) k 0) same ∙ (ap (λ v. get_or v n 0) (upto u bytes i) ∙ get-front n w (drop i bytes) below) in
        let there : slice_get w n ≡ Some (get_or w n 0) = slice_get-get_or w n 0 below in
        let law : (leaves ≡ true) ↔ LeavesAt (nfa tree ∷ []) (take n w) (class_of (get_or w n 0)) =
        subst (λ v. (leaves ≡ true) ↔ LeavesAt (nfa tree ∷ []) v (class_of (get_or w n 0))) front_is
        (subst (λ b. (leaves ≡ true) ↔ LeavesAt (nfa tree ∷ []) (take (length u + place - 64) (u ++ bytes)) (class_of b)) byte_is (back tree (lit xs ∷ is.rest) u is.runs is.null_is is.narrow is.fit is.stream)) in (
          λ has. (pair-at i next).1 (ends, record { byte = get_or w n 0; there = there; entered = law.0 has }),
          λ left.
              let entered = ((pair-at i next).0 left).1 in
              let one : entered.byte ≡ get_or w n 0 = same_Some entered.byte (get_or w n 0) (sym entered.there ∙ there) in
              law.1 (subst (λ b. LeavesAt (nfa tree ∷ []) (take n w) (class_of b)) one entered.entered),
        )

  -- the pair is left there where its literal ends and the expression is left before it
  pub pair-left : (i place : ℕ) (leaves : Bool) → i ≤ length bytes → place + len ≡ 64 + i → LeavesBack m null at past bytes place leaves → LeavesPair m null len at past bytes hits i leaves
  pair-left i place leaves within place_is back tree xs u next is set = back-pair tree xs u is i place leaves next within place_is back set

  -- it doesn't end where fewer bytes than it has have come
  pub pair-early : (i : ℕ) → i ≤ length bytes → at + i < len → LeavesPair m null len at past bytes hits i false
  pair-early i within early tree xs u next is set =
      let room : length xs ≤ length u + i = ends-within xs (u ++ bytes) (length u + i) ((is.ends i within).0 set) in
      absurd (omega (arith, room, early, is.count, is.stream.offset))

  -- and it isn't left where its literal doesn't end
  pub pair-hit : (i : ℕ) (leaves : Bool) → is_hit_at hits i ≡ true → LeavesPair m null len at past bytes hits i leaves → TellsPair m null len at past bytes hits i leaves
  pair-hit i leaves set left tree xs u next is = left tree xs u next is set

  pub pair-unhit : (i : ℕ) (leaves : Bool) → i ≤ length bytes → is_hit_at hits i ≡ false → leaves ≡ false → TellsPair m null len at past bytes hits i leaves
  pair-unhit i leaves within none off tree xs u next is = (
    λ set. absurd (let clash : true ≡ false = sym set ∙ off in cc),
    λ left.
        let set : is_hit_at hits i ≡ true = (hit-ends tree xs u is i within).1 ((pair-at tree xs u is i next).0 left).0 in
        let clash : true ≡ false = sym set ∙ none in absurd (cc),
  )

  pub found-none : AreFound m null len at past bytes hits nowhere_words 0
  found-none = record { told = λ k low within. absurd (omega arith); unset = λ k high. row-none k }

  hit-bit : (k : ℕ) → is_hit_at hits (k + 1) ≡ has_word_bit hits.behind k
  unfolding has_word_bit word_bit
  hit-bit k = let next : k + 1 ≡ suc k = omega arith in ap (λ i. is_hit_at hits i) next

  pub pair-ticks : (from k before now start : ℕ) → from ≤ k → has_word_bit hits.behind k ≡ true → before ≤ start + 16 * hit_count hits from → now ≤ before + 16 → now ≤ start + 16 * hit_count hits (k + 1)
  pair-ticks from k before now start low set so_far here = let more = hits-more hits from k low (hit-bit k ∙ set) in omega (arith, more, so_far, here)

  -- those that are passed over
  pub found-pass : (row : List ℕ) (n k : ℕ) → ((j : ℕ) → n ≤ j → j < k → has_word_bit hits.behind j ≡ false) → n ≤ k → AreFound m null len at past bytes hits row n → AreFound m null len at past bytes hits row k
  found-pass row n k none up is = record {
    told = λ j low within. elim (cases_lt j n) [
      | inl before ↦ is.told j before within
      | inr high ↦ pair-unhit (j + 1) (has_word_bit row j) (omega (arith, within)) (hit-bit j ∙ none j high low) (is.unset j high)
    ];
    unset = λ j high. is.unset j (omega arith);
  }

  -- and one where the literal ends
  pub found-visit : (row new : List ℕ) (k : ℕ) (leaves : Bool) → has_word_bit hits.behind k ≡ true → LeavesPair m null len at past bytes hits (k + 1) leaves → has_word_bit new k ≡ leaves → ((j : ℕ) → (j ≡ k → ⊥) → has_word_bit new j ≡ has_word_bit row j) → AreFound m null len at past bytes hits row k → AreFound m null len at past bytes hits new (k + 1)
  found-visit row new k leaves set left here others is = record {
    told = λ j low within. elim (cases_eq j k) [
      | inl same ↦ subst (λ i. TellsPair m null len at past bytes hits (i + 1) (has_word_bit new i)) (sym same) (subst (λ b. TellsPair m null len at past bytes hits (k + 1) b) (sym here) (pair-hit (k + 1) leaves (hit-bit k ∙ set) left))
      | inr apart ↦ subst (λ b. TellsPair m null len at past bytes hits (j + 1) b) (sym (others j apart)) (is.told j (omega arith) within)
    ];
    unset = λ j high. others j (let up : j ≡ k → ⊥ = λ same. absurd (omega arith) in up) ∙ is.unset j (omega arith);
  }

  -- all of them
  pub found-all : (start : Bool) (row : List ℕ) (n : ℕ) → length bytes ≤ n → TellsPair m null len at past bytes hits 0 start → AreFound m null len at past bytes hits row n → FindsPair m null len at past bytes hits (record { at_start = start; behind = row })
  unfolding has_word_bit word_bit
  found-all start row n all first is tree xs u pair zero within next = first tree xs u next pair
  found-all start row n all first is tree xs u pair (suc i) within next =
      let later : i + 1 ≡ suc i = omega arith in
      subst (λ k. (has_word_bit row i ≡ true) ↔ LeavesAt (nfa tree ∷ lit xs ∷ []) (u ++ take k bytes) next) later (is.told i (omega arith) (omega arith) tree xs u next pair)

-- the words of a block

both-true : (low set : Bool) → low ≡ true → (low && set) ≡ set
both-true true set e = refl
both-true false set e = absurd (cc)

both-false : (low set : Bool) → low ≡ false → (low && set) ≡ false
both-false true set e = absurd (cc)
both-false false set e = refl

pub block-left : (left : ChunkHits) (pieces : List Piece) (u bytes : List ℕ) (j count all before behind : ℕ) → length (block bytes j) ≡ count → ((i : ℕ) → word_bit all i ≡ nat_lt i count) → ((i : ℕ) → i < 64 → word_bit before i ≡ is_hit_at left (64 * j + i)) → behind ≡ slice_index left.behind j →
    AreLeftAt left pieces u bytes → AreLeft pieces (front u bytes j) (block bytes j) (bit_and all before) (bit_and all behind)
block-left left pieces u bytes j count all before behind size low_is before_is behind_is are = record {
  before_is = record {
    below = λ i low.
        let within = block-within bytes j i low in
        let bit : word_bit (bit_and all before) i ≡ is_hit_at left (64 * j + i) = bit-both all before i ∙ (both-true (word_bit all i) (word_bit before i) (low_is i ∙ less-is i count (omega (arith, low, size))) ∙ before_is i within.0) in
        let next : Next = class_of (slice_index (block bytes j) i) in
        let told = are (64 * j + i) (omega (arith, within.1)) next in
        let there : front u bytes j ++ take i (block bytes j) ≡ u ++ take (64 * j + i) bytes = block-front u bytes j i (omega (arith, within.0)) in (
          λ set. subst (λ v. LeavesAt pieces v next) (sym there) (told.0 (sym bit ∙ set)),
          λ leaves. bit ∙ told.1 (subst (λ v. LeavesAt pieces v next) there leaves),
        );
    above = λ i high. bit-both all before i ∙ both-false (word_bit all i) (word_bit before i) (low_is i ∙ not-less i count (omega (arith, high, size)));
  };
  behind_is = record {
    below = λ i low.
        let within = block-within bytes j i low in
        let later : 64 * j + suc i ≡ 64 * j + (i + 1) = omega arith in
        let bit : word_bit (bit_and all behind) i ≡ is_hit_at left (64 * j + (i + 1)) =
        bit-both all behind i ∙ (both-true (word_bit all i) (word_bit behind i) (low_is i ∙ less-is i count (omega (arith, low, size))) ∙ (ap (λ x. word_bit x i) behind_is ∙ (hit-later left j i within.0 ∙ ap (λ k. is_hit_at left k) later))) in
        let told = are (64 * j + (i + 1)) (omega (arith, within.1)) after.Unknown in
        let there : front u bytes j ++ take (i + 1) (block bytes j) ≡ u ++ take (64 * j + (i + 1)) bytes = block-front u bytes j (i + 1) (omega (arith, within.0)) in (
          λ set. subst (λ v. LeavesAt pieces v after.Unknown) (sym there) (told.0 (sym bit ∙ set)),
          λ leaves. bit ∙ told.1 (subst (λ v. LeavesAt pieces v after.Unknown) there leaves),
        );
    above = λ i high. bit-both all behind i ∙ both-false (word_bit all i) (word_bit behind i) (low_is i ∙ not-less i count (omega (arith, high, size)));
  };
}

-- of no byte
pub past-left : (pieces : List Piece) (u bytes : List ℕ) → bytes ≡ [] → AreLeft pieces u bytes 0 0
past-left pieces u bytes none =
    let empty : length bytes ≡ 0 = ap length none in
    record {
      before_is = record { below = λ i low. absurd (omega (arith, empty, low)); above = λ i high. bit-none i };
      behind_is = record { below = λ i low. absurd (omega (arith, empty, low)); above = λ i high. bit-none i };
    }

-- the bits before the bytes of a block
pub places-before : (left : ChunkHits) (j word : ℕ) (start : Bool) → start ≡ is_hit_at left (64 * j) → word ≡ slice_index left.behind j → (i : ℕ) → i < 64 → word_bit (bit_or (word * 2 % 18446744073709551616) (bool_byte start)) i ≡ is_hit_at left (64 * j + i)
places-before left j word start first is zero low = let same : 64 * j ≡ 64 * j + 0 = omega arith in later-first word start ∙ (first ∙ ap (λ k. is_hit_at left k) same)
places-before left j word start first is (suc i) low = later-next word start i low ∙ (ap (λ x. word_bit x i) is ∙ hit-later left j i (omega arith))

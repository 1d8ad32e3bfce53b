-- Where pieces are entered everywhere, and where an expression has the empty span.
use Rattle.std.proofs.Common.{◌≡◌, ◌⊎◌, ◌↔◌, ℕ, zero, suc, ◌+◌, ◌*◌, ◌<◌, ◌≤◌, true, false, List, [], ◌∷◌, ◌++◌, length, take, slice_get, slice_index, Some, refl, sym, ap, subst, ◌∙◌, inl, inr, arith, length-append}
use Rattle.std.specs.Prelude.{nat_lt}
use Rattle.hs_base.specs.declared.context.Mask.{Mask}
use Rattle.hs_base.specs.declared.context.Next.{Next}
use Rattle.hs_base.specs.declared.context.Next.TheVariants as after
use Rattle.hs_base.specs.declared.context.Prev.{Prev}
use Rattle.hs_base.specs.Contexts.{class_of, prev_at}
use Rattle.hs_base.specs.Leaving.{IsEmptyAt}
use Rattle.hs_base.specs.Trees.{Tree}
use Rattle.hs_base.proofs.ChainStreamLemmas.{leaving-begins}
use Rattle.hs_bits.specs.BlockContexts as of_block
use Rattle.hs_bits.specs.declared.contexts.Contexts.{Contexts}
use Rattle.hs_bits.specs.WordBits.{word_bit, Marks}
use Rattle.hs_bits.proofs.PlaceLemmas.{bit-none, less-is, not-less}
use Rattle.hs_nodes.specs.declared.ends.ChunkEnds.{ChunkEnds}
use Rattle.hs_nodes.specs.Blocks.{EndsBehind, block, front}
use Rattle.hs_nodes.specs.Contexts.{AreChunkContexts, IsNull}
use Rattle.hs_nodes.specs.Left.{AreLeft}
use Rattle.hs_nodes.specs.Pieces.{AreEmpty, AreEmptyAt}
use Rattle.hs_nodes.proofs.ChunkLemmas.{block-past}
use Rattle.hs_nodes.proofs.RunLemmas.{AreMoreEnds, AreNowhereFrom}

-- no pieces are left everywhere in a block
pub left-everywhere : (u bytes : List ℕ) (all : ℕ) → ((i : ℕ) → word_bit all i ≡ nat_lt i (length bytes)) → AreLeft [] u bytes all all
left-everywhere u bytes all is = record {
  before_is = record {
    below = λ i low. ((λ set. (leaving-begins (u ++ take i bytes) (class_of (slice_index bytes i))).0 refl), (λ leaves. is i ∙ less-is i (length bytes) low));
    above = λ i high. is i ∙ not-less i (length bytes) high;
  };
  behind_is = record {
    below = λ i low. ((λ set. (leaving-begins (u ++ take (i + 1) bytes) after.Unknown).0 refl), (λ leaves. is i ∙ less-is i (length bytes) low));
    above = λ i high. is i ∙ not-less i (length bytes) high;
  };
}

-- and in the first so many blocks
abbrev pub AreEverywhereTo : (bytes : List ℕ) (ends : ChunkEnds) (n : ℕ) → Type 0
AreEverywhereTo bytes ends n = (u : List ℕ) (j : ℕ) → j < n → AreLeft [] (front u bytes j) (block bytes j) (slice_index ends.before j) (slice_index ends.behind j)

-- of each block so far it is told by its words
module _ (P : ℕ → (before behind : ℕ) → Type 0) (ends ends' : ChunkEnds) (j n before behind : ℕ) (next : n ≡ j + 1) (more : AreMoreEnds ends ends' j before behind) (here : P j before behind) (so_far : (i : ℕ) → i < j → P i (slice_index ends.before i) (slice_index ends.behind i)) where
  told-by : (i : ℕ) → (i < j) ⊎ (i ≡ j) → P i (slice_index ends'.before i) (slice_index ends'.behind i)
  told-by i (inl low) = subst (λ w. P i w (slice_index ends'.behind i)) (sym (more.before_other i (omega arith))) (subst (λ w. P i (slice_index ends.before i) w) (sym (more.behind_other i (omega arith))) (so_far i low))
  told-by i (inr same) = subst (λ k. P k (slice_index ends'.before k) (slice_index ends'.behind k)) (sym same) (subst (λ w. P j w (slice_index ends'.behind j)) (sym more.before_here) (subst (λ w. P j before w) (sym more.behind_here) here))

  cases : (i : ℕ) → i < n → (i < j) ⊎ (i ≡ j)
  cases i low = grind (arith, next)

  pub told-more : (i : ℕ) → i < n → P i (slice_index ends'.before i) (slice_index ends'.behind i)
  told-more i low = told-by i (cases i low)

split : (n i : ℕ) → (i < n) ⊎ (n ≤ i)
split n i = grind arith

-- of all blocks
pub told-all : (P : ℕ → (before behind : ℕ) → Type 0) (bytes : List ℕ) (ends : ChunkEnds) (n : ℕ) → length bytes ≤ 64 * n → AreNowhereFrom n ends → ((j : ℕ) → block bytes j ≡ [] → P j 0 0) → ((i : ℕ) → i < n → P i (slice_index ends.before i) (slice_index ends.behind i)) →
    (i : ℕ) → P i (slice_index ends.before i) (slice_index ends.behind i)
told-all P bytes ends n all none past told i = by_split (split n i) where
  by_split : (i < n) ⊎ (n ≤ i) → P i (slice_index ends.before i) (slice_index ends.behind i)
  by_split (inl low) = told i low
  by_split (inr high) = subst (λ w. P i w (slice_index ends.behind i)) (sym (none.before i high)) (subst (λ w. P i 0 w) (sym (none.behind i high)) (past i (block-past bytes i (omega arith))))

pub left-empty : (u bytes : List ℕ) → bytes ≡ [] → AreLeft [] u bytes 0 0
left-empty u bytes none = left-everywhere u bytes 0 (λ i. bit-none i ∙ sym (not-less i (length bytes) (let empty : length bytes ≡ 0 = ap length none in omega arith)))

-- where an expression is empty in a block without a byte
pub empty-past : (tree : Tree) (u bytes : List ℕ) → bytes ≡ [] → AreEmpty tree u bytes 0 0
empty-past tree u bytes none = let empty : length bytes ≡ 0 = ap length none in record { before_is = λ i low. absurd (omega arith); behind_is = λ i low. absurd (omega arith) }

-- nowhere
pub empty-never : (tree : Tree) (u bytes : List ℕ) (before behind : ℕ) → before ≡ 0 → behind ≡ 0 → ((v : List ℕ) (next : Next) → IsEmptyAt tree v next → ⊥) → AreEmpty tree u bytes before behind
empty-never tree u bytes before behind none none' never = record {
  before_is = λ i low. ((λ set. absurd (let both : true ≡ false = sym set ∙ (ap (λ w. word_bit w i) none ∙ bit-none i) in cc)), (λ empty. absurd (never (u ++ take i bytes) (class_of (slice_index bytes i)) empty)));
  behind_is = λ i low. ((λ set. absurd (let both : true ≡ false = sym set ∙ (ap (λ w. word_bit w i) none' ∙ bit-none i) in cc)), (λ empty. absurd (never (u ++ take (i + 1) bytes) after.Unknown empty)));
}

-- what is told of all places is told of those that are asked
pub empty-asked : {tree : Tree} {u bytes : List ℕ} {before behind : ℕ} → (asked asked' : ℕ) → AreEmpty tree u bytes before behind → AreEmptyAt tree u bytes asked asked' before behind
empty-asked asked asked' are = record { before_is = λ i low set. are.before_is i low; behind_is = λ i low set. are.behind_is i low }

-- where none is asked, any words tell it
pub empty-unasked : (tree : Tree) (u bytes : List ℕ) (asked asked' before behind : ℕ) → asked ≡ 0 → asked' ≡ 0 → AreEmptyAt tree u bytes asked asked' before behind
empty-unasked tree u bytes asked asked' before behind none none' = record {
  before_is = λ i low set. absurd (let both : true ≡ false = sym set ∙ (ap (λ w. word_bit w i) none ∙ bit-none i) in cc);
  behind_is = λ i low set. absurd (let both : true ≡ false = sym set ∙ (ap (λ w. word_bit w i) none' ∙ bit-none i) in cc);
}

-- where the expression is empty nowhere from there on
pub empty-later : (tree : Tree) (u bytes : List ℕ) (j asked asked' before behind : ℕ) → before ≡ 0 → behind ≡ 0 → ((v : List ℕ) (next : Next) → length u ≤ length v → IsEmptyAt tree v next → ⊥) → AreEmptyAt tree (front u bytes j) (block bytes j) asked asked' before behind
unfolding front
empty-later tree u bytes j asked asked' before behind none none' never = record {
  before_is = λ i low set. (
    λ told. absurd (let both : true ≡ false = sym told ∙ (ap (λ w. word_bit w i) none ∙ bit-none i) in cc),
    λ empty. absurd (never ((u ++ take (64 * j) bytes) ++ take i (block bytes j)) (class_of (slice_index (block bytes j) i)) (longer i) empty),
  );
  behind_is = λ i low set. (
    λ told. absurd (let both : true ≡ false = sym told ∙ (ap (λ w. word_bit w i) none' ∙ bit-none i) in cc),
    λ empty. absurd (never ((u ++ take (64 * j) bytes) ++ take (i + 1) (block bytes j)) after.Unknown (longer (i + 1)) empty),
  );
} where
  longer : (i : ℕ) → length u ≤ length ((u ++ take (64 * j) bytes) ++ take i (block bytes j))
  longer i = omega (arith, length-append (u ++ take (64 * j) bytes) (take i (block bytes j)), length-append u (take (64 * j) bytes))

both-ways : {A B C : Type 0} → A ↔ B → B ↔ C → A ↔ C
both-ways f g = (λ a. g.0 (f.0 a), λ c. f.1 (g.1 c))

-- in the contexts of a mask
pub empty-in : (tree : Tree) (mask : Mask) (u bytes : List ℕ) (before behind : ℕ) → IsNull (Some mask) tree → Marks (length bytes) before (of_block.HasContextBefore mask u bytes) → Marks (length bytes) behind (of_block.HasContextBehind mask u bytes) → AreEmpty tree u bytes before behind
empty-in tree mask u bytes before behind null is is' = record {
  before_is = λ i low. both-ways (is.below i low) (null (u ++ take i bytes) (class_of (slice_index bytes i)));
  behind_is = λ i low. both-ways (is'.below i low) (null (u ++ take (i + 1) bytes) after.Unknown);
}

pub mask-empty : (tree : Tree) (mask : Mask) (prev : Prev) (at : ℕ) (u bytes : List ℕ) (contexts : List Contexts) (c : Contexts) (j before behind : ℕ) → 64 * j < length bytes → IsNull (Some mask) tree → EndsBehind u prev at → AreChunkContexts contexts prev at bytes → slice_get contexts j ≡ Some c →
    of_block.TellsBefore c mask before → of_block.TellsBehind c mask behind → AreEmpty tree (front u bytes j) (block bytes j) before behind
mask-empty tree mask prev at u bytes contexts c j before behind below null stands are there tells tells' =
    let own = are.each j below in
    let both : Some own.0 ≡ Some c = sym own.1 ∙ there in
    let same : own.0 ≡ c = cc in
    let of : of_block.AreContexts c (prev_at (front u bytes j) (length (front u bytes j))) (block bytes j) = subst (λ (d : Contexts). of_block.AreContexts d (prev_at (front u bytes j) (length (front u bytes j))) (block bytes j)) same (own.2 u stands) in
    empty-in tree mask (front u bytes j) (block bytes j) before behind null (tells (prev_at (front u bytes j) (length (front u bytes j))) (front u bytes j) (block bytes j) of refl) (tells' (prev_at (front u bytes j) (length (front u bytes j))) (front u bytes j) (block bytes j) of refl)

-- the contexts of one more block
pub contexts-more : (contexts now : List Contexts) (c : Contexts) (prev : Prev) (at : ℕ) (bytes : List ℕ) (j : ℕ) → now ≡ contexts ++ c ∷ [] → length contexts ≡ j →
    ((i : ℕ) → i < j → (d : Contexts) × (slice_get contexts i ≡ Some d) × ((u : List ℕ) → EndsBehind u prev at → of_block.AreContexts d (prev_at (front u bytes i) (length (front u bytes i))) (block bytes i))) →
    ((u : List ℕ) → EndsBehind u prev at → of_block.AreContexts c (prev_at (front u bytes j) (length (front u bytes j))) (block bytes j)) →
    (i : ℕ) → i < j + 1 → (d : Contexts) × (slice_get now i ≡ Some d) × ((u : List ℕ) → EndsBehind u prev at → of_block.AreContexts d (prev_at (front u bytes i) (length (front u bytes i))) (block bytes i))
contexts-more contexts now c prev at bytes j is count so_far here i low = by_split (split j i) where
  get-left : (xs ys : List Contexts) (k : ℕ) (x : Contexts) → slice_get xs k ≡ Some x → slice_get (xs ++ ys) k ≡ Some x
  get-left [] ys k x at' = absurd (cc)
  get-left (a ∷ xs) ys zero x at' = at'
  get-left (a ∷ xs) ys (suc k) x at' = get-left xs ys k x at'

  get-behind : (xs : List Contexts) (x : Contexts) → slice_get (xs ++ x ∷ []) (length xs) ≡ Some x
  get-behind [] x = refl
  get-behind (a ∷ xs) x = get-behind xs x

  by_split : (i < j) ⊎ (j ≤ i) → (d : Contexts) × (slice_get now i ≡ Some d) × ((u : List ℕ) → EndsBehind u prev at → of_block.AreContexts d (prev_at (front u bytes i) (length (front u bytes i))) (block bytes i))
  by_split (inl below) = let own = so_far i below in (own.0, subst (λ zs. slice_get zs i ≡ Some own.0) (sym is) (get-left contexts (c ∷ []) i own.0 own.1), own.2)
  by_split (inr high) =
      let same : i ≡ j = omega arith in
      let last : length contexts ≡ i = omega arith in (
        c,
        subst (λ zs. slice_get zs i ≡ Some c) (sym is) (subst (λ k. slice_get (contexts ++ c ∷ []) k ≡ Some c) last (get-behind contexts c)),
        λ u stands. subst (λ k. of_block.AreContexts c (prev_at (front u bytes k) (length (front u bytes k))) (block bytes k)) (sym same) (here u stands),
      )

-- A pair of which each match begins where the stream does is left nowhere in a chunk that begins far behind.
use Rattle.std.proofs.Common.{◌≡◌, ℕ, ◌+◌, ◌-◌, ◌≤◌, ◌<◌, Bool, true, false, ◌&&◌, List, [], ◌∷◌, ◌++◌, length, get_or, take, Some, eqb, nat_eq, refl, sym, ap, ◌∙◌, inl, inr, arith}
use Rattle.std.specs.Cmp.Lexicographic.{pointwise, same_text}
use Rattle.std.specs.Int.{bit_at}
use Rattle.std.proofs.lemmas.Bool.{eqb-true}
use Rattle.std.proofs.lemmas.List.{length-take-le}
use Rattle.hs_base.specs.declared.byte_set.ByteSet.{ByteSet}
use Rattle.hs_base.specs.declared.context.Mask.{Mask}
use Rattle.hs_base.specs.declared.context.Next.{Next}
use Rattle.hs_base.specs.declared.context.Next.TheVariants as after
use Rattle.hs_base.specs.declared.context.Prev.{Prev}
use Rattle.hs_base.specs.declared.context.Prev.TheVariants as before
use Rattle.hs_base.specs.ByteSets.{has}
use Rattle.hs_base.specs.Chains.{Piece, lit, nfa, IsFitChain}
use Rattle.hs_base.specs.Contexts.{Context, class_of, context_number, context_of, is_start}
use Rattle.hs_base.specs.ContextSets.{has_context}
use Rattle.hs_base.specs.Leaving.{IsAtMostWide, IsEmptyAt, LeavesAt}
use Rattle.hs_base.specs.Lists.{Each}
use Rattle.hs_base.specs.Literals.{LiteralByte}
use Rattle.hs_base.specs.Trees.{Tree}
use Rattle.hs_base.proofs.BitOnceLemmas.{each-below}
use Rattle.hs_base.proofs.ChainStreamLemmas.{leaves-last}
use Rattle.hs_bits.proofs.BlockLemmas.{length-block}
use Rattle.hs_engine.specs.Engines.{Meaning}
use Rattle.hs_waking.proofs.PrevLemmas.{empty-has}
use Rattle.hs_nodes.specs.declared.hits.ChunkHits.{ChunkHits}
use Rattle.hs_nodes.specs.declared.table.LookBackPair.{LookBackPair}
use Rattle.hs_nodes.specs.Contexts.{IsNull}
use Rattle.hs_nodes.specs.Edges.{HasEdges}
use Rattle.hs_nodes.specs.Left.{nowhere}
use Rattle.hs_nodes.specs.Left.{AreLeftIn}
use Rattle.hs_nodes.specs.Hits.{is_hit_at}
use Rattle.hs_nodes.specs.LookBacks.{AreLeftAt, TakesPair}
use Rattle.hs_nodes.specs.Nodes.{window_size}
use Rattle.hs_nodes.specs.Openings.{BeginsAtStart}
use Rattle.hs_nodes.proofs.EdgeLemmas.{behind-byte, nowhere-ends}
use Rattle.hs_nodes.proofs.FlatLemmas.{AreLeftNowhere, nowhere-left}
use Rattle.hs_nodes.proofs.PairLemmas.{ends-within, pair-leaves, small-to}
use Rattle.hs_nodes.proofs.RunLemmas.{nowhere-none}

-- where nothing is hit, nothing is left
pub unhit-nowhere : (left : ChunkHits) (pieces : List Piece) (u bytes : List ℕ) → ((i : ℕ) → is_hit_at left i ≡ false) → AreLeftAt left pieces u bytes → AreLeftIn pieces u bytes nowhere
unhit-nowhere left pieces u bytes none are = nowhere-left pieces u bytes nowhere nowhere-none (record {
  before = λ i low leaves. unset i ((are i (omega (arith, low)) (class_of (get_or bytes i 0))).1 leaves);
  behind = λ i low leaves. unset (i + 1) ((are (i + 1) (omega (arith, low)) after.Unknown).1 leaves);
}) where
  unset : (i : ℕ) → is_hit_at left i ≡ true → ⊥
  unset i set = let both : true ≡ false = sym set ∙ none i in absurd (cc)

-- a set whose words are those of none has no byte
pub empty-last : (last : ByteSet) (r : Bool) → r ≡ pointwise nat_eq last.words (0 ∷ 0 ∷ 0 ∷ 0 ∷ []) → r ≡ true → (b : ℕ) → b < 256 → has last b ≡ false
empty-last last r is equal b small =
    let same : last.words ≡ (0 ∷ 0 ∷ 0 ∷ 0 ∷ []) = same_text last.words (0 ∷ 0 ∷ 0 ∷ 0 ∷ []) (sym (sym is ∙ equal)) in
    ap (λ (ws : List ℕ). has (record { words = ws }) b) same ∙ empty-has b small

-- where the mask has contexts of the start alone, the expression has no empty span behind a byte

both-left : (a b c : Bool) → c ≡ (a && b) → c ≡ true → b ≡ true
both-left true b c is set = sym is ∙ set
both-left false b c is set = absurd (let clash : true ≡ false = sym set ∙ is in cc)

start-is : (prev : Prev) → is_start prev ≡ true → prev ≡ before.Start
start-is before.Start e = refl
start-is before.Word e = absurd (cc)
start-is before.Newline e = absurd (cc)
start-is before.Other e = absurd (cc)

has-same : (a b : Mask) → eqb a.bits b.bits ≡ true → (c : Context) → has_context a c ≡ has_context b c
unfolding has_context
has-same a b same c = ap (λ n. eqb (bit_at n (context_number c)) 1) (eqb-true a.bits b.bits same)

pub mask-apart : (tree : Tree) (mask both start : Mask) (u : List ℕ) (next : Next) → IsNull (Some mask) tree → ((c : Context) → has_context start c ≡ is_start c.prev) → ((c : Context) → has_context both c ≡ (has_context mask c && has_context start c)) → eqb both.bits mask.bits ≡ true → 1 ≤ length u → IsEmptyAt tree u next → ⊥
mask-apart tree mask both start u next null start_is both_is same some empty =
    let c : Context = context_of u next in
    let set : has_context mask c ≡ true = (null u next).1 empty in
    let so : has_context mask c ≡ (has_context mask c && has_context start c) = sym (has-same both mask same c) ∙ both_is c in
    let first : is_start c.prev ≡ true = sym (start_is c) ∙ both-left (has_context mask c) (has_context start c) (has_context mask c) so set in
    behind-byte u (length u) some (omega arith) (start-is c.prev first)

-- a pair of which each match begins where the stream does is left nowhere
module _ (m : Meaning) (pair : LookBackPair) (edges : HasEdges m pair.behind pair.last) (begins : BeginsAtStart pair) (tree : Tree) (xs : List LiteralByte) (rest : List Piece) (u bytes : List ℕ) (runs : m.is_for tree) (null_is : IsNull pair.null tree) (narrow : IsAtMostWide window_size tree) (some : 1 ≤ length xs) (short : length xs ≤ 32)
    (fit : IsFitChain (nfa tree ∷ lit xs ∷ rest)) (far : 48 < length u) (small_all : Each (λ b. b < 256) (u ++ bytes)) where
  before-literal : (w : List ℕ) (n : ℕ) (next : Next) → Each (λ b. b < 256) w → n ≤ length w → 16 < n → LeavesAt (nfa tree ∷ []) (take n w) next → ⊥
  before-literal w n next small within far_off left = elim (leaves-last [] (lit xs ∷ rest) (nfa tree) (take n w) next fit left) [
    | inl ends ↦
        nowhere-ends m tree pair.behind pair.last runs narrow edges w n (get_or w (n - 1) 0) next small within
        (λ k same. let one : k ≡ n - 1 = omega (arith, same) in ap (λ j. get_or w j 0) one) (begins.matches n (get_or w (n - 1) 0) (each-below w small (n - 1)) far_off) ends
    | inr both ↦ begins.empty tree (take n w) next null_is (omega (arith, far_off, length-take-le n w within)) both.1
  ]

  refuted : (i : ℕ) (next : Next) → i ≤ length bytes → LeavesAt (nfa tree ∷ lit xs ∷ []) (u ++ take i bytes) next → ⊥
  refuted i next within leaves =
      let w : List ℕ = u ++ take i bytes in
      let small : Each (λ b. b < 256) w = small-to u bytes i small_all in
      let both = (pair-leaves tree xs rest w some small fit next).0 leaves in
      let size : length w ≡ length u + i = length-block u bytes i within in
      let room : length xs ≤ length w = ends-within xs w (length w) both.0 in
      before-literal w (length w - length xs) (class_of both.1.byte) small (omega arith) (omega (arith, size, room, short, far)) both.1.entered

  pub past-none : AreLeftNowhere (nfa tree ∷ lit xs ∷ []) u bytes
  past-none = record {
    before = λ i low leaves. refuted i (class_of (get_or bytes i 0)) (omega (arith, low)) leaves;
    behind = λ i low leaves. refuted (i + 1) after.Unknown (omega (arith, low)) leaves;
  }

pub pair-past : (m : Meaning) (pair : LookBackPair) (at : ℕ) (past bytes : List ℕ) (hits : ChunkHits) → 1 ≤ pair.len → pair.len ≤ 32 → HasEdges m pair.behind pair.last → BeginsAtStart pair → 48 < at → TakesPair m pair.null pair.len at past bytes hits nowhere
pair-past m pair at past bytes hits some short edges begins far tree xs u is =
    nowhere-left (nfa tree ∷ lit xs ∷ []) u bytes nowhere nowhere-none
    (past-none m pair edges begins tree xs is.rest u bytes is.runs is.null_is is.narrow (omega (arith, some, is.count)) (omega (arith, short, is.count)) is.fit (omega (arith, far, is.stream.offset)) is.stream.small)

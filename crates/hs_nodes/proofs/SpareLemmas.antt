-- Literals that need no run though the pieces before them are left.
use Rattle.std.proofs.Common.{◌≡◌, ◌⊎◌, ℕ, zero, suc, ◌+◌, ◌-◌, ◌/◌, ◌%◌, ◌<◌, ◌≤◌, Bool, true, false, ◌&&◌, List, [], ◌∷◌, ◌++◌, length, get_or, take, slice_get, slice_index, Option, Some, refl, sym, subst, ◌∙◌, inl, inr, arith, append_assoc, length-append}
use Rattle.std.specs.Prelude.{not}
use Rattle.std.proofs.lemmas.Bool.{cases_lt}
use Rattle.std.proofs.lemmas.List.{append-nil, get_or-append-add, take-append-le, take_all}
use Rattle.std.proofs.lemmas.Option.{slice_get-get_or}
use Rattle.std.proofs.Math.Seq.{take-append-add}
use Rattle.hs_base.specs.declared.context.Next.{Next}
use Rattle.hs_base.specs.declared.context.Next.TheVariants as after
use Rattle.hs_base.specs.declared.context.Prev.{Prev}
use Rattle.hs_base.specs.Bits.{AreZero, has_bit, has_word_bit}
use Rattle.hs_base.specs.Chains.{Piece, lit, piece_tree, IsFitChain}
use Rattle.hs_base.specs.Contexts.{class_of}
use Rattle.hs_base.specs.Leaving.{AreEntered, IsEmptyAt, LeavesAt, LeavesBehind}
use Rattle.hs_base.specs.LiteralRows.{IsEnteredBack}
use Rattle.hs_base.specs.Literals.{LiteralByte}
use Rattle.hs_base.specs.Lists.{Each}
use Rattle.hs_base.proofs.ChainStreamLemmas.{leaves-last}
use Rattle.hs_base.proofs.EntryLemmas.{entries-grow}
use Rattle.hs_base.proofs.SpanLemmas.{byte-append}
use Rattle.hs_bits.specs.WordBits.{word_bit}
use Rattle.hs_bits.proofs.BlockLemmas.{block-more}
use Rattle.hs_bits.proofs.WordLemmas.{unset-bits}
use Rattle.hs_block.proofs.LiteralBlockLemmas.{never-empty}
use Rattle.hs_engine.specs.Engines.{Meaning}
use Rattle.hs_nodes.specs.declared.ends.ChunkEnds.{ChunkEnds}
use Rattle.hs_nodes.specs.declared.hits.ChunkHits.{ChunkHits}
use Rattle.hs_nodes.specs.declared.table.NodeKind.{NodeKind}
use Rattle.hs_nodes.specs.declared.table.NodeKind.TheVariants.{Engine, Literal, FirstLiteral, LookBack}
use Rattle.hs_nodes.specs.Hits.{AreChunkHits, KeepsEntries, is_hit_at}
use Rattle.hs_nodes.specs.Left.{AreLeftIn}
use Rattle.hs_nodes.specs.Nodes.{AreHitsOf, HoldsPiece, IsKindSound, MayRest, RunsPiece}
use Rattle.hs_nodes.specs.Pieces.{IsHeldBy}
use Rattle.hs_nodes.specs.Sparing.{AreQuiet, IsLiteralThere, IsSpared, IsUnhit}
use Rattle.hs_nodes.specs.Walks.{StandsBehind}
use Rattle.hs_nodes.proofs.FlatLemmas.{AreLeftNowhere, left-flat}
use Rattle.hs_nodes.proofs.PairLemmas.{behind-ends, ends-to, small-to}
use Rattle.hs_nodes.proofs.RestLemmas.{IsPassed}
use Rattle.hs_waking.specs.EntryRows.{entries_to}

-- hits of which all words are 0 are nowhere

both-are : (a b : Bool) → (not a && b) ≡ true → (a ≡ false) × (b ≡ true)
both-are true b both = absurd (let no : false ≡ true = both in cc)
both-are false b both = (refl, both)

zero-hits : (hits : ChunkHits) → hits.at_start ≡ false → AreZero hits.behind → (i : ℕ) → is_hit_at hits i ≡ false
unfolding has_word_bit word_bit
zero-hits hits start zeros zero = start
zero-hits hits start zeros (suc i) = unset-bits hits.behind zeros i

pub hits-nowhere : (hits : ChunkHits) (unset : Bool) → (unset ≡ true → AreZero hits.behind) → (not hits.at_start && unset) ≡ true → (i : ℕ) → is_hit_at hits i ≡ false
hits-nowhere hits unset zeros both i = let parts = both-are hits.at_start unset both in zero-hits hits parts.0 (zeros parts.1) i

-- a literal of no more bytes, of which the hits are nowhere
both-set : (a b : Bool) → (a && b) ≡ true → (a ≡ true) × (b ≡ true)
both-set true b both = (refl, both)
both-set false b both = absurd (let no : false ≡ true = both in cc)

pub less-quiet : (len last count : ℕ) (enters : ChunkEnds) → len ≤ last → AreQuiet last count enters → AreQuiet len count enters
less-quiet len last count enters few quiet i low late = quiet i low (omega (arith, few, late))

pub spared-literal : (hits : List ChunkHits) (kind : NodeKind) (number len last count : ℕ) (enters : ChunkEnds) → kind ≡ Literal number len → len ≤ last → AreQuiet last count enters → IsUnhit number hits → IsSpared kind hits count enters
spared-literal hits kind number len last count enters is few quiet none = subst (λ (k : NodeKind). IsSpared k hits count enters) (sym is) (less-quiet len last count enters few quiet, none)

-- pieces over a chunk, at places of which they are entered
module _ (pieces : List Piece) (u bytes : List ℕ) (enters : ChunkEnds) (few : length bytes ≤ 512) (left : AreLeftIn pieces u bytes enters) (entered : List Bool) (are : AreEntered pieces u entered) where
  abbrev kept : ℕ → Bool
  kept i = word_bit (slice_index enters.before (i / 64)) (i % 64)

  entered-upto : (i : ℕ) → i ≤ length bytes → AreEntered pieces (u ++ take i bytes) (entered ++ entries_to kept i)
  entered-upto zero within = subst (λ v. AreEntered pieces v (entered ++ [])) (sym (append-nil u)) (subst (λ es. AreEntered pieces u es) (sym (append-nil entered)) are)
  entered-upto (suc i) within =
      let own = entered-upto i (omega arith) in
      let next : i + 1 ≡ suc i = omega arith in
      subst (λ es. AreEntered pieces (u ++ take (suc i) bytes) es) (append_assoc entered (entries_to kept i) (kept i ∷ []))
      (subst (λ n. AreEntered pieces (u ++ take n bytes) ((entered ++ entries_to kept i) ++ kept i ∷ [])) next
      (subst (λ v. AreEntered pieces v ((entered ++ entries_to kept i) ++ kept i ∷ [])) (block-more u bytes i (omega arith))
      (entries-grow pieces (u ++ take i bytes) (entered ++ entries_to kept i) (get_or bytes i 0) (kept i) own (left-flat pieces u bytes enters few left i (omega arith)))))

  pub entered-chunk : AreEntered pieces (u ++ bytes) (entered ++ entries_to kept (length bytes))
  entered-chunk = subst (λ v. AreEntered pieces (u ++ v) (entered ++ entries_to kept (length bytes))) (take_all (length bytes) bytes (omega arith)) (entered-upto (length bytes) (omega arith))

  module _ (m : ℕ) (part : List ℕ) (unset : (k : ℕ) → has_bit part k ≡ false) (early : AreQuiet (suc m) (length bytes) enters) (field : (k : ℕ) → IsEnteredBack (suc m) u entered k → ⊥) where
    abbrev now : List Bool
    now = entered ++ entries_to kept (length bytes)

    -- an entry before the chunk would count before it, too
    old-entry : (from k b : ℕ) → k < suc m → from + suc k ≡ length u + length bytes → from < length u → slice_get (u ++ bytes) from ≡ Some b → LeavesAt pieces (take from (u ++ bytes)) (class_of b) → ⊥
    old-entry from k b below ends low there leaves =
        let old : slice_get u from ≡ Some b = sym (byte-append u bytes from low) ∙ there in
        let same : take from (u ++ bytes) ≡ take from u = take-append-le from u bytes (omega arith) in
        field (length u - suc from) (record {
          below = omega (arith, below, ends, low);
          from = from;
          ends = omega (arith, low);
          is_entered = (are.each from b old).1 (subst (λ v. LeavesAt pieces v (class_of b)) same leaves);
        })

    -- and there is none before one of its last bytes
    new-entry : (i : ℕ) → i < length bytes → length bytes ≤ i + suc m → LeavesAt pieces (take (length u + i) (u ++ bytes)) (class_of (get_or (u ++ bytes) (length u + i) 0)) → ⊥
    unfolding has_word_bit word_bit
    new-entry i low late leaves =
        let byte : get_or (u ++ bytes) (length u + i) 0 ≡ get_or bytes i 0 = get_or-append-add u bytes i 0 in
        let stream : take (length u + i) (u ++ bytes) ≡ u ++ take i bytes = take-append-add u bytes i in
        let set : kept i ≡ true = (left-flat pieces u bytes enters few left i low).1 (subst (λ v. LeavesAt pieces v (class_of (get_or bytes i 0))) stream (subst (λ b. LeavesAt pieces (take (length u + i) (u ++ bytes)) (class_of b)) byte leaves)) in
        let none : kept i ≡ false = early i low late in
        let both : true ≡ false = sym set ∙ none in absurd (cc)

    no-entry : (k : ℕ) → IsEnteredBack (suc m) (u ++ bytes) now k → ⊥
    no-entry k back =
        let size = length-append u bytes in
        let there = slice_get-get_or (u ++ bytes) back.from 0 (omega (arith, back.ends)) in
        let leaves = (entered-chunk.each back.from (get_or (u ++ bytes) back.from 0) there).0 back.is_entered in
        elim (cases_lt back.from (length u)) [
          | inl low ↦ old-entry back.from k (get_or (u ++ bytes) back.from 0) back.below (back.ends ∙ size) low there leaves
          | inr high ↦
              let place : back.from ≡ length u + (back.from - length u) = omega arith in
              new-entry (back.from - length u) (omega (arith, back.ends, size)) (omega (arith, back.ends, back.below, size))
              (subst (λ n. LeavesAt pieces (take n (u ++ bytes)) (class_of (get_or (u ++ bytes) n 0))) place leaves)
        ]

    pub spared-held : (literal : List LiteralByte) → IsHeldBy (KeepsEntries (suc m) part) pieces (lit literal) (u ++ bytes)
    spared-held literal = record {
      entered = now;
      are = entered-chunk;
      field = λ k. (λ set. absurd (let both : true ≡ false = sym set ∙ unset k in cc), λ back. absurd (no-entry k back));
    }

-- a literal that ends nowhere in the chunk is left nowhere
module _ (pieces rest : List Piece) (literal : List LiteralByte) (u bytes : List ℕ) (own : ChunkHits) (fit : IsFitChain (pieces ++ lit literal ∷ rest)) (some : 1 ≤ length literal) (small : Each (λ b. b < 256) (u ++ bytes)) (are : AreChunkHits own literal u bytes) (none : (i : ℕ) → is_hit_at own i ≡ false) where
  refuted : (i : ℕ) → i ≤ length bytes → (next : Next) → LeavesBehind pieces (lit literal) (u ++ take i bytes) next ⊎ (LeavesAt pieces (u ++ take i bytes) next × IsEmptyAt (piece_tree (lit literal)) (u ++ take i bytes) next) → ⊥
  refuted i within next (inl behind) =
      let ends = behind-ends literal (u ++ take i bytes) some (small-to u bytes i small) pieces next behind in
      let set : is_hit_at own i ≡ true = (are i within).1 ((ends-to literal u bytes i within).1 ends) in
      let both : true ≡ false = sym set ∙ none i in absurd (cc)
  refuted i within next (inr both) = never-empty literal (u ++ take i bytes) next some both.1

  pub spared-nowhere : AreLeftNowhere (pieces ++ lit literal ∷ []) u bytes
  spared-nowhere = record {
    before = λ i low leaves. refuted i (omega arith) (class_of (get_or bytes i 0)) (leaves-last pieces rest (lit literal) (u ++ take i bytes) (class_of (get_or bytes i 0)) fit leaves);
    behind = λ i low leaves. refuted (i + 1) (omega arith) after.Unknown (leaves-last pieces rest (lit literal) (u ++ take (i + 1) bytes) after.Unknown fit leaves);
  }

-- a node that is spared
module _ {E : Type 0} (meaning : E → Meaning) (engines : List E) where
  pub literal-there : (kind : NodeKind) (literals size room : ℕ) → literals ≤ room → IsKindSound meaning engines literals kind size → IsLiteralThere room kind
  literal-there (Engine number null) literals size room more sound = tt
  literal-there (Literal number len) literals size room more sound = omega (arith, more, sound.0)
  literal-there (FirstLiteral number len) literals size room more sound = tt
  literal-there (LookBack pair) literals size room more sound = tt

  pub node-spared : (kind : NodeKind) (count size : ℕ) (parent : Option ℕ) (literals : List (List LiteralByte)) (hits : List ChunkHits) (pieces before rest : List Piece) (piece : Piece) (part u : List ℕ) (prev : Prev) (bytes : List ℕ) (enters : ChunkEnds) → IsKindSound meaning engines count kind size → count ≡ length hits → RunsPiece meaning engines literals kind before piece →
      StandsBehind kind parent pieces before → IsFitChain (before ++ piece ∷ rest) → length bytes ≤ 512 → Each (λ b. b < 256) (u ++ bytes) → AreHitsOf literals hits u bytes → MayRest meaning engines kind parent hits part prev bytes → IsSpared kind hits (length bytes) enters → AreLeftIn pieces u bytes enters →
      HoldsPiece meaning engines kind before piece part u → IsPassed meaning engines kind before piece part u bytes
  node-spared (Engine number null) count size parent literals hits pieces before rest piece part u prev bytes enters sound same of behind fit few small hits_are may spared left held = absurd spared
  node-spared (Literal number len) count size parent literals hits pieces before rest piece part u prev bytes enters sound same of behind fit few small hits_are may spared left held =
      let there = slice_get-get_or hits number no-hits (omega (arith, sound.0)) in
      let own = get_or hits number no-hits in
      let value = of.value in
      let long : len ≡ suc (len - 1) = omega (arith, sound.1) in
      let entered_left : AreLeftIn before u bytes enters = subst (λ ps. AreLeftIn ps u bytes enters) (sym behind) left in
      let own_held : IsHeldBy (KeepsEntries (suc (len - 1)) part) before (lit value) u = subst (λ n. IsHeldBy (KeepsEntries n part) before (lit value) u) long (subst (λ p. IsHeldBy (KeepsEntries len part) before p u) of.is held) in
      let on = spared-held before u bytes enters few entered_left own_held.entered own_held.are (len - 1) part may.0 (subst (λ n. AreQuiet n (length bytes) enters) long spared.0)
      (λ k back. let set = (own_held.field k).1 back in let both : true ≡ false = sym set ∙ may.0 k in absurd (cc)) value in
      let none = spared-nowhere before rest value u bytes own (subst (λ p. IsFitChain (before ++ p ∷ rest)) of.is fit) (omega (arith, of.count, sound.1)) small (hits_are number value own of.there there) (spared.1 own there) in
      record {
        held = subst (λ p. IsHeldBy (KeepsEntries len part) before p (u ++ bytes)) (sym of.is) (subst (λ n. IsHeldBy (KeepsEntries n part) before (lit value) (u ++ bytes)) (sym long) on);
        left = subst (λ p. AreLeftNowhere (before ++ p ∷ []) u bytes) (sym of.is) none;
      } where
        no-hits : ChunkHits
        no-hits = record { at_start = false; behind = [] }
  node-spared (FirstLiteral number len) count size parent literals hits pieces before rest piece part u prev bytes enters sound same of behind fit few small hits_are may spared left held = absurd spared
  node-spared (LookBack pair) count size parent literals hits pieces before rest piece part u prev bytes enters sound same of behind fit few small hits_are may spared left held = absurd spared

-- Nodes that are passed over.
use Rattle.std.proofs.Common.{◌≡◌, ◌⊎◌, ◌↔◌, ℕ, zero, suc, ◌+◌, ◌-◌, ◌<◌, ◌≤◌, Bool, true, false, ◌&&◌, List, [], ◌∷◌, ◌++◌, length, get_or, take, replicate, slice_get, Option, Some, None, refl, sym, ap, subst, ◌∙◌, inl, inr, arith, append_assoc}
use Rattle.std.specs.Prelude.{nat_lt}
use Rattle.std.proofs.lemmas.List.{append-nil, replicate_more, take_all}
use Rattle.std.proofs.lemmas.Option.{slice_get-get_or}
use Rattle.hs_base.specs.declared.context.Mask.{Mask}
use Rattle.hs_base.specs.declared.context.Next.{Next}
use Rattle.hs_base.specs.declared.context.Next.TheVariants as after
use Rattle.hs_base.specs.Bits.{has_bit}
use Rattle.hs_base.specs.Chains.{Piece, lit, nfa, piece_tree, IsFitChain}
use Rattle.hs_base.specs.declared.context.Prev.{Prev}
use Rattle.hs_base.specs.Contexts.{class_of, prev_at}
use Rattle.hs_base.specs.Leaving.{AreEntered, IsEmptyAt, LeavesAt, LeavesBehind}
use Rattle.hs_base.specs.LiteralRows.{TellsEntries, shifted}
use Rattle.hs_base.specs.Literals.{LiteralByte}
use Rattle.hs_base.specs.Lists.{Each}
use Rattle.hs_base.proofs.ChainStreamLemmas.{leaves-last, leaving-begins}
use Rattle.hs_base.proofs.EntryLemmas.{entries-grow, leaves-listed}
use Rattle.hs_base.proofs.ListLemmas.{each-right}
use Rattle.hs_base.proofs.LiteralRowLemmas.{literals-leave, literals-step}
use Rattle.hs_bits.proofs.BlockLemmas.{block-more}
use Rattle.hs_block.proofs.LiteralBlockLemmas.{never-empty}
use Rattle.hs_engine.specs.Engines.{Meaning}
use Rattle.hs_lazy.specs.Runs.{IsRunThrough}
use Rattle.hs_nodes.specs.declared.hits.ChunkHits.{ChunkHits}
use Rattle.hs_nodes.specs.declared.table.NodeKind.{NodeKind}
use Rattle.hs_nodes.specs.declared.table.NodeKind.TheVariants.{Engine, Literal, FirstLiteral, LookBack}
use Rattle.hs_nodes.specs.Contexts.{IsNull}
use Rattle.hs_nodes.specs.Hits.{AreChunkHits, KeepsEntries, is_hit_at}
use Rattle.hs_nodes.specs.Nodes.{AreHitsOf, HoldsPiece, IsAtRest, IsKindSound, IsLiteralOf, IsUnwoken, MayRest, RunsPiece}
use Rattle.hs_nodes.specs.Pieces.{IsHeld, IsHeldBy}
use Rattle.hs_nodes.specs.Walks.{StandsBehind}
use Rattle.hs_nodes.proofs.FlatLemmas.{AreLeftNowhere}
use Rattle.hs_nodes.proofs.KindLemmas.{one-value}
use Rattle.hs_nodes.proofs.PairLemmas.{first-left, pair-passed}
use Rattle.hs_nodes.proofs.PassLemmas.{passed-all, passed-nowhere}

no-truth : {A : Type 0} → (A → ⊥) → (false ≡ true) ↔ A
no-truth not = (λ set. absurd (cc), λ a. absurd (not a))

-- each byte of a chunk is one
pub byte-small : (bytes : List ℕ) (i : ℕ) → Each (λ b. b < 256) bytes → i < length bytes → get_or bytes i 0 < 256
byte-small [] i each low = absurd (omega arith)
byte-small (b ∷ bytes) zero each low = each.0
byte-small (b ∷ bytes) (suc i) each low = byte-small bytes i each.1 (omega arith)

-- an engine behind pieces that are left nowhere
pub engine-passed : (m : Meaning) (pieces rest : List Piece) (piece : Piece) (part u bytes : List ℕ) → IsFitChain (pieces ++ piece ∷ rest) → m.is_for (piece_tree piece) → m.always ≡ false → IsAtRest m part → Each (λ b. b < 256) bytes → AreLeftNowhere pieces u bytes →
    IsHeld m pieces piece part u → IsHeld m pieces piece part (u ++ bytes) × AreLeftNowhere (pieces ++ piece ∷ []) u bytes
engine-passed m pieces rest piece part u bytes fit runs never rests small none held =
    let enters = λ (i : ℕ). false in (
      passed-all m pieces rest piece part u bytes enters fit runs never (λ i low. no-truth (none.before i low)) (λ i low. rests.quiet.stays never (get_or bytes i 0) (byte-small bytes i small low)) rests.quiet.leaves_nothing held,
      passed-nowhere m pieces rest piece part u bytes enters fit runs never (λ i low. no-truth (none.before i low)) (λ i low. rests.quiet.stays never (get_or bytes i 0) (byte-small bytes i small low)) rests.quiet.leaves_nothing held
          (λ i low leaves empty. none.before i low leaves) (λ i low leaves empty. none.behind i low leaves),
    )

-- a first engine in which a chunk wakes nothing
module _ (m : Meaning) (rest : List Piece) (piece : Piece) (part u : List ℕ) (prev : Prev) (bytes : List ℕ) (last : prev ≡ prev_at u (length u)) (fit : IsFitChain (piece ∷ rest)) (runs : m.is_for (piece_tree piece)) (null : IsNull None (piece_tree piece)) (unwoken : IsUnwoken m None part prev bytes) (held : IsHeld m [] piece part u) where
  -- its entries behind so many bytes
  entries-to : (i : ℕ) → i ≤ length bytes → AreEntered [] (u ++ take i bytes) (held.entered ++ replicate i true)
  entries-to zero within = subst (λ v. AreEntered [] v (held.entered ++ [])) (sym (append-nil u)) (subst (λ es. AreEntered [] u es) (sym (append-nil held.entered)) held.are)
  entries-to (suc i) within =
      let own = entries-to i (omega arith) in
      let next : i + 1 ≡ suc i = omega arith in
      subst (λ es. AreEntered [] (u ++ take (suc i) bytes) es) (append_assoc held.entered (replicate i true) (true ∷ []) ∙ ap (λ es. held.entered ++ es) (replicate_more i true ∙ ap (λ n. replicate n true) next))
      (subst (λ n. AreEntered [] (u ++ take n bytes) ((held.entered ++ replicate i true) ++ true ∷ [])) next
      (subst (λ v. AreEntered [] v ((held.entered ++ replicate i true) ++ true ∷ [])) (block-more u bytes i (omega arith))
      (entries-grow [] (u ++ take i bytes) (held.entered ++ replicate i true) (get_or bytes i 0) true own (leaving-begins (u ++ take i bytes) (class_of (get_or bytes i 0))))))

  -- what it does over the chunk
  run : IsRunThrough (m.field part (piece_tree piece)) (piece_tree piece) u held.entered bytes (λ i. false) (λ i. false)
  run = unwoken.asleep (piece_tree piece) u held.entered runs held.are.count last held.field

  not-before : (i : ℕ) → i < length bytes → LeavesBehind [] piece (u ++ take i bytes) (class_of (get_or bytes i 0)) → ⊥
  not-before i low leaves =
      let told : false ≡ true = (run.before_is i low).1 ((leaves-listed [] piece (u ++ take i bytes) (held.entered ++ replicate i true) (class_of (get_or bytes i 0)) (entries-to i (omega arith))).0 leaves) in cc

  not-after : (i : ℕ) → i < length bytes → LeavesBehind [] piece (u ++ take (i + 1) bytes) after.Unknown → ⊥
  not-after i low leaves =
      let told : false ≡ true = (run.behind_is i low).1 ((leaves-listed [] piece (u ++ take (i + 1) bytes) (held.entered ++ replicate (i + 1) true) after.Unknown (entries-to (i + 1) (omega arith))).0 leaves) in cc

  not-empty : (v : List ℕ) (next : Next) → (LeavesBehind [] piece v next → ⊥) → LeavesBehind [] piece v next ⊎ (LeavesAt [] v next × IsEmptyAt (piece_tree piece) v next) → ⊥
  not-empty v next not (inl leaves) = not leaves
  not-empty v next not (inr both) = null v next both.1

  pub engine-asleep : IsHeld m [] piece part (u ++ bytes) × AreLeftNowhere (piece ∷ []) u bytes
  engine-asleep = (
    record {
      entered = held.entered ++ replicate (length bytes) true;
      are = subst (λ v. AreEntered [] (u ++ v) (held.entered ++ replicate (length bytes) true)) (take_all (length bytes) bytes (omega arith)) (entries-to (length bytes) (omega arith));
      field = run.field;
    },
    record {
      before = λ i low leaves. not-empty (u ++ take i bytes) (class_of (get_or bytes i 0)) (not-before i low) (leaves-last [] rest piece (u ++ take i bytes) (class_of (get_or bytes i 0)) fit leaves);
      behind = λ i low leaves. not-empty (u ++ take (i + 1) bytes) after.Unknown (not-after i low) (leaves-last [] rest piece (u ++ take (i + 1) bytes) after.Unknown fit leaves);
    },
  )

-- a literal without entries
module _ (pieces rest : List Piece) (literal : List LiteralByte) (m : ℕ) (part u bytes : List ℕ) (fit : IsFitChain (pieces ++ lit literal ∷ rest)) (count : length literal ≡ suc m) (unset : (k : ℕ) → has_bit part k ≡ false) (none : AreLeftNowhere pieces u bytes)
    (held : IsHeldBy (KeepsEntries (suc m) part) pieces (lit literal) u) where
  unset-on : (v : List ℕ) (entered : List Bool) (b : ℕ) → length entered ≡ length v → TellsEntries (suc m) (has_bit part) v entered → TellsEntries (suc m) (has_bit part) (v ++ b ∷ []) (entered ++ false ∷ [])
  unset-on v entered b len tells k =
      let moved = literals-step (suc m) (has_bit part) v entered b false len tells k in
      (λ set. moved.0 (none-shifted k ∙ (let both : true ≡ false = sym set ∙ unset k in absurd (cc))), λ back. let set = moved.1 back in absurd (let both : true ≡ false = sym set ∙ none-shifted k in cc)) where
        none-shifted : (k : ℕ) → shifted (suc m) false (has_bit part) k ≡ false
        none-shifted zero = and-none (nat_lt 0 (suc m)) where
          and-none : (a : Bool) → (a && false) ≡ false
          and-none true = refl
          and-none false = refl
        none-shifted (suc k) = ap (λ b. nat_lt (suc k) (suc m) && b) (unset k) ∙ and-none (nat_lt (suc k) (suc m)) where
          and-none : (a : Bool) → (a && false) ≡ false
          and-none true = refl
          and-none false = refl

  kept-to : (i : ℕ) → i ≤ length bytes → IsHeldBy (KeepsEntries (suc m) part) pieces (lit literal) (u ++ take i bytes)
  kept-to zero within = subst (λ v. IsHeldBy (KeepsEntries (suc m) part) pieces (lit literal) v) (sym (append-nil u)) held
  kept-to (suc i) within =
      let own = kept-to i (omega arith) in
      let next : i + 1 ≡ suc i = omega arith in
      subst (λ n. IsHeldBy (KeepsEntries (suc m) part) pieces (lit literal) (u ++ take n bytes)) next
      (subst (λ v. IsHeldBy (KeepsEntries (suc m) part) pieces (lit literal) v) (block-more u bytes i (omega arith)) (record {
        entered = own.entered ++ false ∷ [];
        are = entries-grow pieces (u ++ take i bytes) own.entered (get_or bytes i 0) false own.are (no-truth (none.before i (omega arith)));
        field = unset-on (u ++ take i bytes) own.entered (get_or bytes i 0) own.are.count own.field;
      }))

  kept-all : IsHeldBy (KeepsEntries (suc m) part) pieces (lit literal) (u ++ bytes)
  kept-all = subst (λ v. IsHeldBy (KeepsEntries (suc m) part) pieces (lit literal) (u ++ v)) (take_all (length bytes) bytes (omega arith)) (kept-to (length bytes) (omega arith))

  not-behind : (i : ℕ) → i ≤ length bytes → (next : Next) → LeavesBehind pieces (lit literal) (u ++ take i bytes) next → ⊥
  not-behind i within next leaves =
      let own = kept-to i within in
      let out = (literals-leave literal m (has_bit part) (u ++ take i bytes) own.entered next count own.are.count own.field).0 ((leaves-listed pieces (lit literal) (u ++ take i bytes) own.entered next own.are).0 leaves) in
      let both : true ≡ false = sym out.0 ∙ unset m in absurd (cc)

  refuted : (i : ℕ) → i ≤ length bytes → (next : Next) → LeavesBehind pieces (lit literal) (u ++ take i bytes) next ⊎ (LeavesAt pieces (u ++ take i bytes) next × IsEmptyAt (piece_tree (lit literal)) (u ++ take i bytes) next) → ⊥
  refuted i within next (inl leaves) = not-behind i within next leaves
  refuted i within next (inr both) = never-empty literal (u ++ take i bytes) next (omega arith) both.1

  pub literal-passed : IsHeldBy (KeepsEntries (suc m) part) pieces (lit literal) (u ++ bytes) × AreLeftNowhere (pieces ++ lit literal ∷ []) u bytes
  literal-passed = (
    kept-all,
    record {
      before = λ i low leaves. refuted i (omega arith) (class_of (get_or bytes i 0)) (leaves-last pieces rest (lit literal) (u ++ take i bytes) (class_of (get_or bytes i 0)) fit leaves);
      behind = λ i low leaves. refuted (i + 1) (omega arith) after.Unknown (leaves-last pieces rest (lit literal) (u ++ take (i + 1) bytes) after.Unknown fit leaves);
    },
  )

-- a first literal that ends nowhere in the chunk
module _ (rest : List Piece) (literal : List LiteralByte) (m : ℕ) (u bytes : List ℕ) (own : ChunkHits) (fit : IsFitChain (lit literal ∷ rest)) (count : length literal ≡ suc m) (short : suc m ≤ 32) (small : Each (λ b. b < 256) (u ++ bytes)) (are : AreChunkHits own literal u bytes)
    (none : (i : ℕ) → i ≤ length bytes → is_hit_at own i ≡ false) where
  clash : (i : ℕ) → i ≤ length bytes → (next : Next) → LeavesAt (lit literal ∷ []) (u ++ take i bytes) next → ⊥
  clash i within next leaves =
      let set : is_hit_at own i ≡ true = (first-left literal rest u bytes own (omega (arith, count)) fit small are i within next).1 leaves in
      let both : true ≡ false = sym set ∙ none i within in absurd (cc)

  pub first-passed : AreLeftNowhere (lit literal ∷ []) u bytes
  first-passed = record {
    before = λ i low leaves. clash i (omega arith) (class_of (get_or bytes i 0)) leaves;
    behind = λ i low leaves. clash (i + 1) (omega arith) after.Unknown leaves;
  }

-- the pieces before a node that is passed over: none, or such that are left nowhere
pub data ArePassed (parent : Option ℕ) (pieces : List Piece) (u bytes : List ℕ) : Type 0 where
  root : parent ≡ None → pieces ≡ [] → ArePassed parent pieces u bytes
  behind : (parent ≡ None → ⊥) → AreLeftNowhere pieces u bytes → ArePassed parent pieces u bytes

-- the pieces before a node's own, as far as its kind asks
abbrev pub IsPassedBy : NodeKind → (parent : Option ℕ) (pieces : List Piece) (u bytes : List ℕ) → Type 0
IsPassedBy (Engine number null) parent pieces u bytes = ArePassed parent pieces u bytes
IsPassedBy (Literal number len) parent pieces u bytes = ArePassed parent pieces u bytes
IsPassedBy (FirstLiteral number len) parent pieces u bytes = ArePassed parent pieces u bytes
IsPassedBy (LookBack pair) parent pieces u bytes = Unit {0}

pub stands-passed : (kind : NodeKind) (parent : Option ℕ) (pieces before : List Piece) (u bytes : List ℕ) → StandsBehind kind parent pieces before → ArePassed parent pieces u bytes → IsPassedBy kind parent before u bytes
stands-passed (Engine number null) parent pieces before u bytes same passed = subst (λ ps. ArePassed parent ps u bytes) (sym same) passed
stands-passed (Literal number len) parent pieces before u bytes same passed = subst (λ ps. ArePassed parent ps u bytes) (sym same) passed
stands-passed (FirstLiteral number len) parent pieces before u bytes same passed = subst (λ ps. ArePassed parent ps u bytes) (sym same) passed
stands-passed (LookBack pair) parent pieces before u bytes alone passed = tt

module _ {E : Type 0} (meaning : E → Meaning) (engines : List E) where
  engine-rests : (number : ℕ) (null : Option Mask) (parent : Option ℕ) (hits : List ChunkHits) (pieces rest : List Piece) (piece : Piece) (part u : List ℕ) (prev : Prev) (bytes : List ℕ) (e : E) → prev ≡ prev_at u (length u) → slice_get engines number ≡ Some e → (meaning e).is_for (piece_tree piece) → IsNull null (piece_tree piece) → (meaning e).always ≡ false →
      IsFitChain (pieces ++ piece ∷ rest) → Each (λ b. b < 256) bytes → MayRest meaning engines (Engine number null) parent hits part prev bytes → ArePassed parent pieces u bytes → IsHeld (meaning e) pieces piece part u → IsHeld (meaning e) pieces piece part (u ++ bytes) × AreLeftNowhere (pieces ++ piece ∷ []) u bytes
  engine-rests number null parent hits pieces rest piece part u prev bytes e last there runs null_is never fit small may (root no_parent no_pieces) held =
      let own = may e there in
      let unwoken = own.1 no_parent in
      let done = engine-asleep (meaning e) rest piece part u prev bytes last (subst (λ ps. IsFitChain (ps ++ piece ∷ rest)) no_pieces fit) runs (subst (λ (n : Option Mask). IsNull n (piece_tree piece)) unwoken.never_empty null_is)
      (record { never_empty = refl; asleep = unwoken.asleep }) (subst (λ ps. IsHeld (meaning e) ps piece part u) no_pieces held) in
      (subst (λ ps. IsHeld (meaning e) ps piece part (u ++ bytes)) (sym no_pieces) done.0, subst (λ ps. AreLeftNowhere (ps ++ piece ∷ []) u bytes) (sym no_pieces) done.1)
  engine-rests number null parent hits pieces rest piece part u prev bytes e last there runs null_is never fit small may (behind some none) held =
      engine-passed (meaning e) pieces rest piece part u bytes fit runs never (may e there).0 small none held

  -- what a node leaves that is passed over
  pub record IsPassed (kind : NodeKind) (pieces : List Piece) (piece : Piece) (part u bytes : List ℕ) : Type 0 where
    pub held : HoldsPiece meaning engines kind pieces piece part (u ++ bytes)
    pub left : AreLeftNowhere (pieces ++ piece ∷ []) u bytes

  pub literal-rests : (number len : ℕ) (parent : Option ℕ) (literals : List (List LiteralByte)) (hits : List ChunkHits) (pieces rest : List Piece) (piece : Piece) (part u : List ℕ) (prev : Prev) (bytes : List ℕ) (len' : ℕ) → len ≡ suc len' → IsLiteralOf literals number len piece → IsFitChain (pieces ++ piece ∷ rest) →
      MayRest meaning engines (Literal number len) parent hits part prev bytes → ArePassed parent pieces u bytes → HoldsPiece meaning engines (Literal number len) pieces piece part u → IsPassed (Literal number len) pieces piece part u bytes
  literal-rests number len parent literals hits pieces rest piece part u prev bytes m long of fit may (root no_parent no_pieces) held = absurd (may.1 no_parent)
  literal-rests number len parent literals hits pieces rest piece part u prev bytes m long of fit may (behind some none) held =
      let done = literal-passed pieces rest of.value m part u bytes (subst (λ p. IsFitChain (pieces ++ p ∷ rest)) of.is fit) (of.count ∙ long) may.0 none (subst (λ n. IsHeldBy (KeepsEntries n part) pieces (lit of.value) u) long (subst (λ p. IsHeldBy (KeepsEntries len part) pieces p u) of.is held)) in
      record {
        held = subst (λ p. IsHeldBy (KeepsEntries len part) pieces p (u ++ bytes)) (sym of.is) (subst (λ n. IsHeldBy (KeepsEntries n part) pieces (lit of.value) (u ++ bytes)) (sym long) done.0);
        left = subst (λ p. AreLeftNowhere (pieces ++ p ∷ []) u bytes) (sym of.is) done.1;
      }

  pub node-rests : (kind : NodeKind) (count size : ℕ) (parent : Option ℕ) (literals : List (List LiteralByte)) (hits : List ChunkHits) (pieces rest : List Piece) (piece : Piece) (part u : List ℕ) (prev : Prev) (bytes : List ℕ) → prev ≡ prev_at u (length u) → IsKindSound meaning engines count kind size → count ≡ length hits → RunsPiece meaning engines literals kind pieces piece →
      IsFitChain (pieces ++ piece ∷ rest) → Each (λ b. b < 256) (u ++ bytes) → AreHitsOf literals hits u bytes → MayRest meaning engines kind parent hits part prev bytes → IsPassedBy kind parent pieces u bytes → HoldsPiece meaning engines kind pieces piece part u →
      IsPassed kind pieces piece part u bytes
  node-rests (Engine number null) count size parent literals hits pieces rest piece part u prev bytes last sound same of fit small hits_are may passed held =
      let done = engine-rests number null parent hits pieces rest piece part u prev bytes of.value last of.there of.runs of.null_is (sound.each of.value of.there).1 fit (each-right (λ b. b < 256) u bytes small) may passed (held of.value of.there) in record {
        held = λ other there'. subst (λ v. IsHeld (meaning v) pieces piece part (u ++ bytes)) (one-value of.value other (slice_get engines number) of.there there') done.0;
        left = done.1;
      }
  node-rests (Literal number len) count size parent literals hits pieces rest piece part u prev bytes last sound same of fit small hits_are may passed held =
      let long : len ≡ suc (len - 1) = omega (arith, sound.1) in
      literal-rests number len parent literals hits pieces rest piece part u prev bytes (len - 1) long of fit may passed held
  node-rests (FirstLiteral number len) count size parent literals hits pieces rest piece part u prev bytes last sound same of fit small hits_are may passed held =
      let there = slice_get-get_or hits number no-hits (omega (arith, sound.0)) in
      let own = get_or hits number no-hits in
      let value = of.1.value in
      let long : length value ≡ suc (len - 1) = omega (arith, of.1.count, sound.1) in
      let fit' : IsFitChain (lit value ∷ rest) = subst (λ p. IsFitChain (p ∷ rest)) of.1.is (subst (λ ps. IsFitChain (ps ++ piece ∷ rest)) of.0 fit) in
      let done = first-passed rest value (len - 1) u bytes own fit' long (omega (arith, sound.1, sound.2)) small (hits_are number value own of.1.there there) (may own there) in record {
        held = tt;
        left = subst (λ ps. AreLeftNowhere (ps ++ piece ∷ []) u bytes) (sym of.0) (subst (λ p. AreLeftNowhere (p ∷ []) u bytes) (sym of.1.is) done);
      } where
        no-hits : ChunkHits
        no-hits = record { at_start = false; behind = [] }
  node-rests (LookBack pair) count size parent literals hits pieces rest piece part u prev bytes last sound same of fit small hits_are may passed held =
      let there = slice_get-get_or hits pair.literal no-hits (omega (arith, sound.1)) in
      let own = get_or hits pair.literal no-hits in
      let value = of.literal.value in
      let fit' : IsFitChain (nfa of.tree ∷ lit value ∷ rest) = subst (λ p. IsFitChain (nfa of.tree ∷ p ∷ rest)) of.literal.is (subst (λ ps. IsFitChain (ps ++ piece ∷ rest)) of.before fit) in
      let done = pair-passed of.tree value rest u bytes own (omega (arith, of.literal.count, sound.2)) fit' small (hits_are pair.literal value own of.literal.there there) (may own there) in record {
        held = tt;
        left = subst (λ ps. AreLeftNowhere (ps ++ piece ∷ []) u bytes) (sym of.before) (subst (λ p. AreLeftNowhere (nfa of.tree ∷ p ∷ []) u bytes) (sym of.literal.is) done);
      } where
        no-hits : ChunkHits
        no-hits = record { at_start = false; behind = [] }

-- A node over a chunk, by its kind.
use Rattle.std.proofs.Common.{◌≡◌, ℕ, zero, suc, ◌<◌, ◌≤◌, true, false, get_or, length, arith, List, [], ◌∷◌, ◌++◌, slice_get, Option, Some, None, refl, sym, ap, subst, ◌∙◌}
use Rattle.std.specs.Option.{ForSome}
use Rattle.hs_base.specs.declared.context.Mask.{Mask}
use Rattle.hs_base.specs.declared.context.Prev.{Prev}
use Rattle.hs_base.specs.Chains.{Piece, lit, nfa, piece_tree, IsFitChain}
use Rattle.hs_base.specs.Trees.{Tree}
use Rattle.hs_engine.specs.Engines.{Meaning}
use Rattle.hs_nodes.specs.declared.ends.ChunkEnds.{ChunkEnds}
use Rattle.hs_nodes.specs.declared.hits.ChunkHits.{ChunkHits}
use Rattle.hs_nodes.specs.declared.table.NodeKind.TheVariants.{Engine, Literal, FirstLiteral, LookBack}
use Rattle.hs_nodes.specs.Blocks.{EndsBehind}
use Rattle.hs_nodes.specs.declared.table.LookBackPair.{LookBackPair}
use Rattle.hs_nodes.specs.declared.table.NodeKind.{NodeKind}
use Rattle.hs_nodes.specs.Contexts.{IsNull, NeedsContexts, asks_contexts}
use Rattle.hs_nodes.specs.Hits.{KeepsEntries, TakesLiteralPart}
use Rattle.hs_nodes.specs.Left.{AreLeftIn}
use Rattle.hs_nodes.specs.LookBacks.{AreLeftAt, TakesPair}
use Rattle.hs_nodes.specs.Nodes.{HoldsPiece, IsEnteredBy, IsPieceRun, IsWellPart, TakesPiece}
use Rattle.hs_nodes.specs.Pieces.{AreEmptyIn, IsHeld, IsHeldBy, TakesChunk}
use Rattle.hs_nodes.specs.Walks.{StandsBehind}
use Rattle.hs_nodes.proofs.PairLemmas.{first-left}

pub one-value : {A : Type 0} (x y : A) (o : Option A) → o ≡ Some x → o ≡ Some y → x ≡ y
one-value x y o at at' = let both : Some x ≡ Some y = sym at ∙ at' in cc

-- what is read doesn't depend on what is read beyond the end
pub same-default : {A : Type 0} (xs : List A) (i : ℕ) (d e : A) → i < length xs → get_or xs i d ≡ get_or xs i e
same-default [] i d e low = absurd (omega arith)
same-default (x ∷ xs) zero d e low = refl
same-default (x ∷ xs) (suc i) d e low = same-default xs i d e (omega arith)

-- a node that doesn't ask for contexts needs none
pub asks-none : (kind : NodeKind) → asks_contexts kind ≡ false → NeedsContexts kind → ⊥
asks-none (Engine number None) unasked needs = needs
asks-none (Engine number (Some mask)) unasked needs = let both : true ≡ false = unasked in cc
asks-none (Literal number len) unasked needs = needs
asks-none (FirstLiteral number len) unasked needs = needs
asks-none (LookBack pair) unasked needs = needs

-- the contexts that a mask needs
pub needed-contexts : (number : ℕ) (null : Option Mask) (P : Type 0) → (NeedsContexts (Engine number null) → P) → ForSome null (λ mask. P)
needed-contexts number None P needs mask is = absurd (cc)
needed-contexts number (Some own) P needs mask is = needs tt

module _ {E : Type 0} (meaning : E → Meaning) (engines : List E) where
  pub engine-takes : (number : ℕ) (null : Option Mask) (old new : List ℕ) (prev : Prev) (at : ℕ) (past bytes : List ℕ) (hits : List ChunkHits) (enters empty ends : ChunkEnds) (e : E) → slice_get engines number ≡ Some e →
      ((tree : Tree) (u : List ℕ) → IsNull null tree → EndsBehind u prev at → AreEmptyIn tree u bytes enters empty) → TakesChunk (meaning e) old new prev at bytes enters empty ends → TakesPiece meaning engines (Engine number null) old new prev at past bytes hits enters ends
  engine-takes number null old new prev at past bytes hits enters empty ends e there empties takes literals pieces rest piece u of fit stands past_is bytes_are hits_are left held =
      let same : of.value ≡ e = one-value of.value e (slice_get engines number) of.there there in
      let runs : (meaning e).is_for (piece_tree piece) = subst (λ v. (meaning v).is_for (piece_tree piece)) same of.runs in
      let run = takes pieces rest piece u fit runs stands (empties (piece_tree piece) u of.null_is stands) left (held e there) in record {
        held = λ other there'. subst (λ v. IsHeld (meaning v) pieces piece new (u ++ bytes)) (one-value e other (slice_get engines number) there there') run.held;
        left = run.left;
      }

  -- what the one engine keeps may stand there
  pub engine-well : (number : ℕ) (null : Option Mask) (part : List ℕ) (at : ℕ) (e : E) → slice_get engines number ≡ Some e → (meaning e).well part at → IsWellPart meaning engines (Engine number null) part at
  engine-well number null part at e there well other there' = subst (λ v. (meaning v).well part at) (one-value e other (slice_get engines number) there there') well

  pub literal-takes : (number len : ℕ) (old new : List ℕ) (prev : Prev) (at : ℕ) (past bytes : List ℕ) (hits : List ChunkHits) (enters ends : ChunkEnds) (own : ChunkHits) → slice_get hits number ≡ Some own → TakesLiteralPart len old new bytes own enters ends →
      TakesPiece meaning engines (Literal number len) old new prev at past bytes hits enters ends
  literal-takes number len old new prev at past bytes hits enters ends own there takes literals pieces rest piece u of fit stands past_is bytes_are hits_are left held =
      let run = takes pieces rest of.value u (subst (λ p. IsFitChain (pieces ++ p ∷ rest)) of.is fit) of.count bytes_are (hits_are number of.value own of.there there) left (subst (λ p. IsHeldBy (KeepsEntries len old) pieces p u) of.is held) in
      subst (λ p. IsPieceRun meaning engines (Literal number len) pieces p new u bytes ends) (sym of.is) (record { held = run.held; left = run.left })

  pub first-takes : (number len : ℕ) (old new : List ℕ) (prev : Prev) (at : ℕ) (past bytes : List ℕ) (hits : List ChunkHits) (enters ends : ChunkEnds) (own : ChunkHits) → 1 ≤ len → slice_get hits number ≡ Some own →
      ((pieces : List Piece) (u : List ℕ) → AreLeftAt own pieces u bytes → AreLeftIn pieces u bytes ends) → TakesPiece meaning engines (FirstLiteral number len) old new prev at past bytes hits enters ends
  first-takes number len old new prev at past bytes hits enters ends own some there ends_are literals pieces rest piece u of fit stands past_is bytes_are hits_are left held =
      let value = of.1.value in
      let fit' : IsFitChain (lit value ∷ rest) = subst (λ p. IsFitChain (p ∷ rest)) of.1.is (subst (λ ps. IsFitChain (ps ++ piece ∷ rest)) of.0 fit) in
      let both : AreLeftIn (lit value ∷ []) u bytes ends =
      ends_are (lit value ∷ []) u (first-left value rest u bytes own (omega (arith, some, of.1.count)) fit' bytes_are (hits_are number value own of.1.there there)) in
      record { held = tt; left = subst (λ ps. AreLeftIn (ps ++ piece ∷ []) u bytes ends) (sym of.0) (subst (λ p. AreLeftIn (p ∷ []) u bytes ends) (sym of.1.is) both) }

  pub pair-takes : (pair : LookBackPair) (old new : List ℕ) (prev : Prev) (at : ℕ) (past bytes : List ℕ) (hits : List ChunkHits) (enters ends : ChunkEnds) (e : E) (own : ChunkHits) → slice_get engines pair.engine ≡ Some e → slice_get hits pair.literal ≡ Some own →
      TakesPair (meaning e) pair.null pair.len at past bytes own ends → TakesPiece meaning engines (LookBack pair) old new prev at past bytes hits enters ends
  pair-takes pair old new prev at past bytes hits enters ends e own there hit takes literals pieces rest piece u of fit stands past_is bytes_are hits_are left held =
      let value = of.literal.value in
      let same : of.engine.value ≡ e = one-value of.engine.value e (slice_get engines pair.engine) of.engine.there there in
      let fit' : IsFitChain (nfa of.tree ∷ lit value ∷ rest) = subst (λ p. IsFitChain (nfa of.tree ∷ p ∷ rest)) of.literal.is (subst (λ ps. IsFitChain (ps ++ piece ∷ rest)) of.before fit) in
      let both : AreLeftIn (nfa of.tree ∷ lit value ∷ []) u bytes ends = takes of.tree value u (record {
        runs = subst (λ v. (meaning v).is_for of.tree) same of.engine.runs;
        null_is = of.engine.null_is;
        narrow = of.narrow;
        count = of.literal.count;
        rest = rest;
        fit = fit';
        stream = record { offset = stands.offset; past_is = past_is; small = bytes_are };
        ends = hits_are pair.literal value own of.literal.there hit;
      }) in
      record { held = tt; left = subst (λ ps. AreLeftIn (ps ++ piece ∷ []) u bytes ends) (sym of.before) (subst (λ p. AreLeftIn (nfa of.tree ∷ p ∷ []) u bytes ends) (sym of.literal.is) both) }

snoc-some : {A : Type 0} (xs : List A) (x : A) → xs ++ x ∷ [] ≡ [] → ⊥
snoc-some [] x e = absurd (cc)
snoc-some (a ∷ xs) x e = absurd (cc)

-- of equal lists the last members are equal
pub snoc-last : {A : Type 0} (xs ys : List A) (x y : A) → xs ++ x ∷ [] ≡ ys ++ y ∷ [] → x ≡ y
snoc-last [] [] x y e = cc
snoc-last [] (b ∷ ys) x y e = let none : ys ++ y ∷ [] ≡ [] = cc in absurd (snoc-some ys y none)
snoc-last (a ∷ xs) [] x y e = let none : xs ++ x ∷ [] ≡ [] = cc in absurd (snoc-some xs x none)
snoc-last (a ∷ xs) (b ∷ ys) x y e = let rest : xs ++ x ∷ [] ≡ ys ++ y ∷ [] = cc in snoc-last xs ys x y rest

-- a node that doesn't look back stands behind the pieces of its parent
pub stands-same : (kind : NodeKind) (parent : Option ℕ) (pieces before : List Piece) → ((pair : LookBackPair) → kind ≡ LookBack pair → ⊥) → StandsBehind kind parent pieces before → before ≡ pieces
stands-same (Engine number null) parent pieces before other same = same
stands-same (Literal number len) parent pieces before other same = same
stands-same (FirstLiteral number len) parent pieces before other same = same
stands-same (LookBack pair) parent pieces before other alone = absurd (other pair refl)

-- where the pieces before a node's own are left
pub stands-entered : (kind : NodeKind) (parent : Option ℕ) (pieces before : List Piece) (u bytes : List ℕ) (enters : ChunkEnds) → StandsBehind kind parent pieces before → AreLeftIn pieces u bytes enters → IsEnteredBy kind before u bytes enters
stands-entered (Engine number null) parent pieces before u bytes enters same left = subst (λ ps. AreLeftIn ps u bytes enters) (sym same) left
stands-entered (Literal number len) parent pieces before u bytes enters same left = subst (λ ps. AreLeftIn ps u bytes enters) (sym same) left
stands-entered (FirstLiteral number len) parent pieces before u bytes enters same left = subst (λ ps. AreLeftIn ps u bytes enters) (sym same) left
stands-entered (LookBack pair) parent pieces before u bytes enters alone left = tt

module _ {E : Type 0} (meaning : E → Meaning) (engines : List E) where
  -- what is kept of a node's own piece
  pub stands-held : (kind : NodeKind) (parent : Option ℕ) (own pieces before : List Piece) (piece : Piece) (part u : List ℕ) → StandsBehind kind parent pieces before → own ≡ before ++ piece ∷ [] → ((p : Piece) → own ≡ pieces ++ p ∷ [] → HoldsPiece meaning engines kind pieces p part u) →
      HoldsPiece meaning engines kind before piece part u
  stands-held (Engine number null) parent own pieces before piece part u same is held = subst (λ ps. HoldsPiece meaning engines (Engine number null) ps piece part u) (sym same) (held piece (is ∙ ap (λ ps. ps ++ piece ∷ []) same))
  stands-held (Literal number len) parent own pieces before piece part u same is held = subst (λ ps. HoldsPiece meaning engines (Literal number len) ps piece part u) (sym same) (held piece (is ∙ ap (λ ps. ps ++ piece ∷ []) same))
  stands-held (FirstLiteral number len) parent own pieces before piece part u same is held = tt
  stands-held (LookBack pair) parent own pieces before piece part u alone is held = tt

  pub held-stands : (kind : NodeKind) (parent : Option ℕ) (own pieces before : List Piece) (piece : Piece) (part u : List ℕ) → StandsBehind kind parent pieces before → own ≡ before ++ piece ∷ [] → HoldsPiece meaning engines kind before piece part u →
      (p : Piece) → own ≡ pieces ++ p ∷ [] → HoldsPiece meaning engines kind pieces p part u
  held-stands (Engine number null) parent own pieces before piece part u same is held p other =
      subst (λ q. HoldsPiece meaning engines (Engine number null) pieces q part u) (snoc-last before pieces piece p (sym is ∙ other)) (subst (λ ps. HoldsPiece meaning engines (Engine number null) ps piece part u) same held)
  held-stands (Literal number len) parent own pieces before piece part u same is held p other =
      subst (λ q. HoldsPiece meaning engines (Literal number len) pieces q part u) (snoc-last before pieces piece p (sym is ∙ other)) (subst (λ ps. HoldsPiece meaning engines (Literal number len) ps piece part u) same held)
  held-stands (FirstLiteral number len) parent own pieces before piece part u same is held p other = tt
  held-stands (LookBack pair) parent own pieces before piece part u alone is held p other = tt

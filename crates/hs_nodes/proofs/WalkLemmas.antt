-- A walk over nodes, up to one of them.
use Rattle.std.proofs.Common.{◌≡◌, ◌⊎◌, ℕ, zero, suc, ◌+◌, ◌-◌, ◌<◌, ◌≤◌, Bool, true, false, List, [], ◌∷◌, ◌++◌, length, take, slice_get, Option, Some, None, refl, sym, ap, subst, ◌∙◌, inl, inr, arith}
use Rattle.std.proofs.lemmas.Option.{same_Some, slice_get_within}
use Rattle.hs_base.specs.declared.context.Mask.{Mask}
use Rattle.hs_base.specs.declared.context.Prev.{Prev}
use Rattle.hs_base.specs.Chains.{Piece}
use Rattle.hs_base.specs.Lists.{Each}
use Rattle.hs_base.specs.Literals.{LiteralByte}
use Rattle.hs_engine.specs.Engines.{Meaning}
use Rattle.hs_nodes.specs.declared.ends.ChunkEnds.{ChunkEnds}
use Rattle.hs_nodes.specs.declared.hits.ChunkHits.{ChunkHits}
use Rattle.hs_nodes.specs.declared.table.Node.{Node}
use Rattle.hs_nodes.specs.declared.table.NodeKind.{NodeKind}
use Rattle.hs_nodes.specs.declared.table.NodeKind.TheVariants.{Engine, Literal, FirstLiteral, LookBack}
use Rattle.hs_nodes.specs.declared.table.NodeTable.{NodeTable}
use Rattle.hs_nodes.specs.Blocks.{EndsBehind, IsPast}
use Rattle.hs_nodes.specs.Left.{AreLeftIn, nowhere}
use Rattle.hs_bits.specs.Marks.{is_marked}
use Rattle.hs_nodes.specs.Nodes.{AreHitsOf, HoldsPiece, IsWellPart, MayRest, RunsPiece, most_ticks}
use Rattle.hs_nodes.specs.declared.lone.LoneNodes.{LoneNodes}
use Rattle.hs_nodes.specs.Lone.{AreLoneIn, IsLoneNode, is_spent_node, is_told_of}
use Rattle.hs_nodes.specs.Openings.{AreOthersSound, MayNodesBePassed}
use Rattle.hs_nodes.specs.Sparing.{IsSpared, IsUntouched}
use Rattle.hs_nodes.specs.Walks.{AreMoreMarks, AreNodesHeld, AreNodesOf, AreNodesWell, ChangesMarked, IsAmongChildren, IsNodeHeld, IsNodeCaughtUp, IsNodeOf, IsNodeRun, IsTableSound, StandsBehind, MayNodesRest, TakesNodes, node_ends, entering_ends, node_part, nodes_ticks, parent_pieces}
use Rattle.hs_nodes.proofs.FlatLemmas.{AreLeftNowhere, left-nowhere, nowhere-left}
use Rattle.hs_nodes.proofs.KindLemmas.{held-stands, one-value, stands-entered, stands-held}
use Rattle.hs_nodes.proofs.NodeLemmas.{marks-none, there, unmarked-before}
use Rattle.hs_nodes.proofs.OverLemmas.{node-over, over-well}
use Rattle.hs_nodes.proofs.RestLemmas.{ArePassed, IsPassed, root, behind, node-rests, stands-passed}
use Rattle.hs_nodes.proofs.RunLemmas.{nowhere-none}
use Rattle.hs_nodes.proofs.SpareLemmas.{node-spared}

parent-cases : (parent : Option ℕ) → (parent ≡ None) ⊎ ((p : ℕ) × (parent ≡ Some p))
parent-cases None = inl refl
parent-cases (Some p) = inr (p, refl)

-- an engine without a parent stands behind no pieces
stands-none : (kind : NodeKind) (number : ℕ) (null : Option Mask) → kind ≡ Engine number null → (parent : Option ℕ) → parent ≡ None → (pieces : ℕ → List Piece) (before : List Piece) → StandsBehind kind parent (parent_pieces pieces parent) before → before ≡ []
stands-none kind number null kind_is parent none pieces before stands =
    let behind : StandsBehind (Engine number null) None [] before = subst (λ (k : NodeKind). StandsBehind k None [] before) kind_is (subst (λ (q : Option ℕ). StandsBehind kind q (parent_pieces pieces q) before) none stands) in
    behind

-- the parent of a node isn't spent
pub parent-asked : {E : Type 0} (meaning : E → Meaning) (table : NodeTable E) (lone : LoneNodes) (told : List ℕ) → AreLoneIn meaning table lone → (k p : ℕ) (node : Node) → slice_get table.nodes.items k ≡ Some node → node.parent ≡ Some p → is_spent_node lone told p ≡ false
parent-asked meaning table lone told are k p node at_k of = by (slice_get lone.identifiers.items p) refl where
  by : (i : Option (Option ℕ)) → slice_get lone.identifiers.items p ≡ i → is_told_of told i ≡ false
  by None is = refl
  by (Some None) is = refl
  by (Some (Some id)) is = absurd ((are.each p id is).childless k node at_k of)

-- the steps of a lone node
pub lone-ticks : {E : Type 0} (table : NodeTable E) (k : ℕ) (own : Node) → slice_get table.nodes.items k ≡ Some own → IsLoneNode table k → (hits : List ChunkHits) (count : ℕ) → most_ticks own.kind hits count ≡ count
lone-ticks table k own at lone hits count =
    ap (λ (kind : NodeKind). most_ticks kind hits count) (ap (λ (node : Node). node.kind) (one-value own lone.node (slice_get table.nodes.items k) at lone.there) ∙ lone.kind_is)

-- and one that is spent is a lone one
pub spent-lone : {E : Type 0} (meaning : E → Meaning) (table : NodeTable E) (lone : LoneNodes) (told : List ℕ) → AreLoneIn meaning table lone → (k : ℕ) → is_spent_node lone told k ≡ true → IsLoneNode table k
spent-lone meaning table lone told are k over = by (slice_get lone.identifiers.items k) refl over where
  by : (i : Option (Option ℕ)) → slice_get lone.identifiers.items k ≡ i → is_told_of told i ≡ true → IsLoneNode table k
  by None is set = absurd (cc)
  by (Some None) is set = absurd (cc)
  by (Some (Some id)) is set = are.each k id is

module _ {E : Type 0} (meaning : E → Meaning) (table : NodeTable E) where
  abbrev pub nodes : List Node
  nodes = table.nodes.items

  -- what a node keeps that may rest may stand at any offset
  pub rest-well : (kind : NodeKind) (parent : Option ℕ) (hits : List ChunkHits) (part : List ℕ) (prev : Prev) (bytes : List ℕ) (at : ℕ) → MayRest meaning table.engines.items kind parent hits part prev bytes → IsWellPart meaning table.engines.items kind part at
  rest-well (Engine number null) parent hits part prev bytes at may = λ e there'. (may e there').0.well at
  rest-well (Literal number len) parent hits part prev bytes at may = record { spare = λ k high. may.0 k; early = λ k high. may.0 k }
  rest-well (FirstLiteral number len) parent hits part prev bytes at may = tt
  rest-well (LookBack pair) parent hits part prev bytes at may = tt

  -- the nodes before one of them are done
  pub record AreDone (spent : ℕ → Bool) (pieces : ℕ → List Piece) (region u bytes : List ℕ) (ends : List ChunkEnds) (n : ℕ) : Type 0 where
    pub left : (k : ℕ) → k < n → spent k ≡ false → AreLeftIn (pieces k) u bytes (node_ends ends k)
    pub held : (k : ℕ) (node : Node) → k < n → slice_get table.nodes.items k ≡ Some node → IsNodeHeld meaning table pieces region (u ++ bytes) k node

  -- and so for all pieces, behind any stream
  abbrev pub TakesTo : (spent : ℕ → Bool) (old new : List ℕ) (prev : Prev) (at : ℕ) (past bytes : List ℕ) (hits : List ChunkHits) (ends : List ChunkEnds) (n : ℕ) → Type 0
  TakesTo spent old new prev at past bytes hits ends n =
      (literals : List (List LiteralByte)) (pieces : ℕ → List Piece) (u : List ℕ) →
      AreNodesOf meaning table literals pieces →
      EndsBehind u prev at →
      IsPast past u →
      Each (λ b. b < 256) (u ++ bytes) →
      AreHitsOf literals hits u bytes →
      AreNodesHeld meaning table pieces old u →
      AreDone spent pieces new u bytes ends n

  -- the children of a node that is left are marked, but for those that need no run
  abbrev pub ChildrenMarked : (marks : List ℕ) (hits : List ChunkHits) (bytes : List ℕ) (n : ℕ) (left : ChunkEnds) → Type 0
  ChildrenMarked marks hits bytes n left =
      (k : ℕ) (node : Node) →
      IsAmongChildren table.child_starts.items table.children.items n k →
      slice_get table.nodes.items k ≡ Some node →
      (is_marked marks k ≡ true) ⊎ IsSpared node.kind hits (length bytes) left

  -- how far a walk has come
  pub record IsWalk (spent pass : ℕ → Bool) (first : List ℕ) (marks_first : List ℕ) (prev : Prev) (at : ℕ) (past bytes : List ℕ) (hits : List ChunkHits) (region : List ℕ) (ends : List ChunkEnds) (marks : List ℕ) (n : ℕ) : Type 0 where
    pub within : n ≤ length table.nodes.items
    pub more : AreMoreMarks (length table.nodes.items) marks_first marks
    pub changes : ChangesMarked meaning table marks first region ends
    pub later : (k : ℕ) (node : Node) → n ≤ k → slice_get table.nodes.items k ≡ Some node → (node_ends ends k ≡ nowhere) × (node_part region node ≡ node_part first node)
    pub passed : (k : ℕ) → pass k ≡ true → node_ends ends k ≡ nowhere
    pub parents : (k p : ℕ) (node : Node) → n ≤ k → slice_get table.nodes.items k ≡ Some node → is_marked marks k ≡ false → node.parent ≡ Some p → p < n → IsUntouched node.kind hits (length bytes) (node_ends ends p)
    pub well : (k : ℕ) (node : Node) → k < n → slice_get table.nodes.items k ≡ Some node → IsWellPart meaning table.engines.items node.kind (node_part region node) (at + length bytes)
    pub takes : TakesTo spent first region prev at past bytes hits ends n

  module _ (first : List ℕ) (marks_first : List ℕ) (prev : Prev) (at : ℕ) (past bytes : List ℕ) (hits : List ChunkHits) (literals_count : ℕ) (sound : IsTableSound meaning table literals_count (length first)) (few : length bytes ≤ 512) (pass spent : ℕ → Bool) (asked : (k p : ℕ) (node : Node) → slice_get table.nodes.items k ≡ Some node → node.parent ≡ Some p → spent p ≡ false) where
    -- nothing is done yet
    pub walk-none : (ends : List ChunkEnds) → ((k : ℕ) → node_ends ends k ≡ nowhere) → ((k : ℕ) → is_marked marks_first k ≡ true → k < length table.nodes.items) → IsWalk spent pass first marks_first prev at past bytes hits first ends marks_first 0
    walk-none ends clear below = record {
      within = omega arith;
      more = marks-none (length table.nodes.items) marks_first below;
      changes = record { len = refl; unmarked = λ k node there' none. (clear k, refl); outside = λ i out. refl };
      later = λ k node high there'. (clear k, refl);
      passed = λ k set. clear k;
      parents = λ k p node high there' none of low. absurd (omega arith);
      well = λ k node low there'. absurd (omega arith);
      takes = λ literals pieces u of stands past_is small hits_are held. record { left = λ k low asked_for. absurd (omega arith); held = λ k node low there'. absurd (omega arith) };
    }

    module _ (rests : MayNodesRest meaning table marks_first hits first prev bytes) (others : AreOthersSound meaning table pass (length hits)) (over : MayNodesBePassed meaning table pass first at) (region : List ℕ) (ends : List ChunkEnds) (marks : List ℕ) where
      -- the pieces before a node that is passed over
      passed-before : (n : ℕ) (node : Node) (pieces : ℕ → List Piece) (u : List ℕ) → slice_get table.nodes.items n ≡ Some node → ((p : ℕ) → node.parent ≡ Some p → node_ends ends p ≡ nowhere) → ((p : ℕ) → p < n → spent p ≡ false → AreLeftIn (pieces p) u bytes (node_ends ends p)) →
          ArePassed node.parent (parent_pieces pieces node.parent) u bytes
      passed-before n node pieces u at_n zeros left = by (parent-cases node.parent) where
        by : (node.parent ≡ None) ⊎ ((p : ℕ) × (node.parent ≡ Some p)) → ArePassed node.parent (parent_pieces pieces node.parent) u bytes
        by (inl no_parent) = root no_parent (ap (λ (q : Option ℕ). parent_pieces pieces q) no_parent)
        by (inr (p, is)) =
            let low : p < n = sound.earlier n p node at_n is in
            let zero_left : AreLeftIn (pieces p) u bytes nowhere = subst (λ (e : ChunkEnds). AreLeftIn (pieces p) u bytes e) (zeros p is) (left p low (asked n p node at_n is)) in
            behind (λ no_parent. let both : None ≡ Some p = sym no_parent ∙ is in absurd (cc))
            (subst (λ (q : Option ℕ). AreLeftNowhere (parent_pieces pieces q) u bytes) (sym is) (left-nowhere (pieces p) u bytes nowhere few nowhere-none zero_left))

      below-or : (n k : ℕ) → k < n + 1 → (k < n) ⊎ (k ≡ n)
      below-or n k low = grind arith

      -- a node is passed over that isn't marked, or is one of those that are
      pub walk-pass : (n m : ℕ) → m ≡ n + 1 → n < length table.nodes.items → ((pass n ≡ false) × (is_marked marks n ≡ false)) ⊎ (pass n ≡ true) → IsWalk spent pass first marks_first prev at past bytes hits region ends marks n → IsWalk spent pass first marks_first prev at past bytes hits region ends marks m
      walk-pass n m next below why walk = subst (λ k. IsWalk spent pass first marks_first prev at past bytes hits region ends marks k) (sym next) (record {
        within = omega arith;
        more = walk.more;
        changes = walk.changes;
        later = λ k other high at_k. walk.later k other (omega arith) at_k;
        passed = walk.passed;
        parents = λ k p other high at_k none' of low. parent-zero k p other high at_k none' of (below-or n p low);
        well = λ k other low at_k. well-by k other at_k (below-or n k low);
        takes = λ literals pieces u of stands past_is small hits_are held. done-more literals pieces u of stands past_is small hits_are held;
      }) where
        own : (x : Node) × (slice_get table.nodes.items n ≡ Some x)
        own = there table.nodes.items n below

        may : is_marked marks n ≡ false → MayRest meaning table.engines.items own.0.kind own.0.parent hits (node_part first own.0) prev bytes
        may none = rests n own.0 own.1 (unmarked-before marks_first marks n walk.more.kept none)

        later_own : (node_ends ends n ≡ nowhere) × (node_part region own.0 ≡ node_part first own.0)
        later_own = walk.later n own.0 (omega arith) own.1

        parent-zero : (k p : ℕ) (other : Node) → n + 1 ≤ k → slice_get table.nodes.items k ≡ Some other → is_marked marks k ≡ false → other.parent ≡ Some p → (p < n) ⊎ (p ≡ n) → IsUntouched other.kind hits (length bytes) (node_ends ends p)
        parent-zero k p other high at_k none' of (inl low) = walk.parents k p other (omega arith) at_k none' of low
        parent-zero k p other high at_k none' of (inr same) = inl (ap (λ i. node_ends ends i) same ∙ later_own.0)

        own-passed : (literals : List (List LiteralByte)) (pieces : ℕ → List Piece) (u : List ℕ) (is : IsNodeOf meaning table literals pieces n own.0) → Each (λ b. b < 256) (u ++ bytes) → AreHitsOf literals hits u bytes → IsNodeHeld meaning table pieces first u n own.0 → EndsBehind u prev at →
            ((p : ℕ) → p < n → spent p ≡ false → AreLeftIn (pieces p) u bytes (node_ends ends p)) → IsPassed meaning table.engines.items own.0.kind is.before is.piece (node_part first own.0) u bytes
        own-passed literals pieces u is small hits_are held stands left = by why where
          own_held : HoldsPiece meaning table.engines.items own.0.kind is.before is.piece (node_part first own.0) u
          own_held = stands-held meaning table.engines.items own.0.kind own.0.parent (pieces n) (parent_pieces pieces own.0.parent) is.before is.piece (node_part first own.0) u is.behind is.own held

          rests-by : pass n ≡ false → is_marked marks n ≡ false → ((p : ℕ) → own.0.parent ≡ Some p → node_ends ends p ≡ nowhere) → IsPassed meaning table.engines.items own.0.kind is.before is.piece (node_part first own.0) u bytes
          rests-by other none zeros =
              node-rests meaning table.engines.items own.0.kind (length hits) (own.0.end - own.0.start) own.0.parent literals hits is.before is.rest is.piece (node_part first own.0) u prev bytes stands.behind (others n own.0 own.1 other) refl is.runs is.fit small hits_are (may none)
              (stands-passed own.0.kind own.0.parent (parent_pieces pieces own.0.parent) is.before u bytes is.behind (passed-before n own.0 pieces u own.1 zeros left)) own_held

          spared-by : pass n ≡ false → is_marked marks n ≡ false → (p : ℕ) → own.0.parent ≡ Some p → IsSpared own.0.kind hits (length bytes) (node_ends ends p) → IsPassed meaning table.engines.items own.0.kind is.before is.piece (node_part first own.0) u bytes
          spared-by other none p of spared =
              node-spared meaning table.engines.items own.0.kind (length hits) (own.0.end - own.0.start) own.0.parent literals hits (parent_pieces pieces own.0.parent) is.before is.rest is.piece (node_part first own.0) u prev bytes (node_ends ends p) (others n own.0 own.1 other) refl is.runs is.behind is.fit few small hits_are (may none)
              spared (subst (λ (q : Option ℕ). AreLeftIn (parent_pieces pieces q) u bytes (node_ends ends p)) (sym of) (left p (sound.earlier n p own.0 own.1 of) (asked n p own.0 own.1 of))) own_held

          unmarked-by : pass n ≡ false → is_marked marks n ≡ false → (own.0.parent ≡ None) ⊎ ((p : ℕ) × (own.0.parent ≡ Some p)) → IsPassed meaning table.engines.items own.0.kind is.before is.piece (node_part first own.0) u bytes
          unmarked-by other none (inl no_parent) = rests-by other none (λ p of. let both : None ≡ Some p = sym no_parent ∙ of in absurd (cc))
          unmarked-by other none (inr (p, of)) = elim (walk.parents n p own.0 (omega arith) own.1 none of (sound.earlier n p own.0 own.1 of)) [
            | inl zero_ends ↦ rests-by other none (λ q of'. let same : p ≡ q = same_Some p q (sym of ∙ of') in subst (λ i. node_ends ends i ≡ nowhere) same zero_ends)
            | inr spared ↦ spared-by other none p of spared
          ]

          over-by : pass n ≡ true → IsPassed meaning table.engines.items own.0.kind is.before is.piece (node_part first own.0) u bytes
          over-by set =
              node-over meaning table.engines.items own.0.kind literals_count (own.0.end - own.0.start) at own.0.parent literals (parent_pieces pieces own.0.parent) is.before is.rest is.piece (node_part first own.0) u bytes stands.offset (sound.kinds n own.0 own.1) is.runs is.behind is.fit small (over.each n own.0 own.1 set)
              (stands-passed own.0.kind own.0.parent (parent_pieces pieces own.0.parent) is.before u bytes is.behind (passed-before n own.0 pieces u own.1 (λ p of. walk.passed p (over.behind n p own.0 own.1 set of)) left)) own_held

          by : ((pass n ≡ false) × (is_marked marks n ≡ false)) ⊎ (pass n ≡ true) → IsPassed meaning table.engines.items own.0.kind is.before is.piece (node_part first own.0) u bytes
          by (inl (other, none)) = unmarked-by other none (parent-cases own.0.parent)
          by (inr set) = over-by set

        well-first : ((pass n ≡ false) × (is_marked marks n ≡ false)) ⊎ (pass n ≡ true) → IsWellPart meaning table.engines.items own.0.kind (node_part first own.0) (at + length bytes)
        well-first (inl (other, none)) = rest-well own.0.kind own.0.parent hits (node_part first own.0) prev bytes (at + length bytes) (may none)
        well-first (inr set) = over-well meaning table.engines.items own.0.kind own.0.parent (node_part first own.0) at (at + length bytes) (over.each n own.0 own.1 set)

        own-well : IsWellPart meaning table.engines.items own.0.kind (node_part region own.0) (at + length bytes)
        own-well = subst (λ ps. IsWellPart meaning table.engines.items own.0.kind ps (at + length bytes)) (sym later_own.1) (well-first why)

        well-by : (k : ℕ) (other : Node) → slice_get table.nodes.items k ≡ Some other → (k < n) ⊎ (k ≡ n) → IsWellPart meaning table.engines.items other.kind (node_part region other) (at + length bytes)
        well-by k other at_k (inl low) = walk.well k other low at_k
        well-by k other at_k (inr same) =
            let is : own.0 ≡ other = one-value own.0 other (slice_get table.nodes.items n) own.1 (ap (λ i. slice_get table.nodes.items i) (sym same) ∙ at_k) in
            subst (λ (nd : Node). IsWellPart meaning table.engines.items nd.kind (node_part region nd) (at + length bytes)) is own-well

        done-more : (literals : List (List LiteralByte)) (pieces : ℕ → List Piece) (u : List ℕ) → AreNodesOf meaning table literals pieces → EndsBehind u prev at → IsPast past u → Each (λ b. b < 256) (u ++ bytes) → AreHitsOf literals hits u bytes → AreNodesHeld meaning table pieces first u →
            AreDone spent pieces region u bytes ends (n + 1)
        done-more literals pieces u of stands past_is small hits_are held =
            let done = walk.takes literals pieces u of stands past_is small hits_are held in
            let is = of n own.0 own.1 in
            let passed = own-passed literals pieces u is small hits_are (held n own.0 own.1) stands done.left in
            let zero_left : AreLeftIn (pieces n) u bytes (node_ends ends n) = subst (λ (e : ChunkEnds). AreLeftIn (pieces n) u bytes e) (sym later_own.0) (subst (λ ps. AreLeftIn ps u bytes nowhere) (sym is.own) (nowhere-left (is.before ++ is.piece ∷ []) u bytes nowhere nowhere-none passed.left)) in
            let own_held : IsNodeHeld meaning table pieces region (u ++ bytes) n own.0 =
            held-stands meaning table.engines.items own.0.kind own.0.parent (pieces n) (parent_pieces pieces own.0.parent) is.before is.piece (node_part region own.0) (u ++ bytes) is.behind is.own
            (subst (λ ps. HoldsPiece meaning table.engines.items own.0.kind is.before is.piece ps (u ++ bytes)) (sym later_own.1) passed.held) in record {
              left = λ k low asked_for. elim (below-or n k low) [ inl under ↦ done.left k under asked_for | inr same ↦ subst (λ i. AreLeftIn (pieces i) u bytes (node_ends ends i)) (sym same) zero_left ];
              held = λ k other low at_k. elim (below-or n k low) [
                | inl under ↦ done.held k other under at_k
                | inr same ↦
                    let same_node : own.0 ≡ other = one-value own.0 other (slice_get table.nodes.items n) own.1 (ap (λ i. slice_get table.nodes.items i) (sym same) ∙ at_k) in
                    subst (λ i. IsNodeHeld meaning table pieces region (u ++ bytes) i other) (sym same) (subst (λ (nd : Node). IsNodeHeld meaning table pieces region (u ++ bytes) n nd) same_node own_held)
              ];
            }

      why-by : (n : ℕ) → is_marked marks n ≡ false → (b : Bool) → pass n ≡ b → ((pass n ≡ false) × (is_marked marks n ≡ false)) ⊎ (pass n ≡ true)
      why-by n none true is = inr is
      why-by n none false is = inl (is, none)

      -- and so are all up to one of them
      pub walk-to : (n d m : ℕ) → m ≡ n + d → m ≤ length table.nodes.items → ((k : ℕ) → n ≤ k → k < m → is_marked marks k ≡ false) → IsWalk spent pass first marks_first prev at past bytes hits region ends marks n → IsWalk spent pass first marks_first prev at past bytes hits region ends marks m
      walk-to n zero m same within none walk = let is : n ≡ m = omega arith in subst (λ k. IsWalk spent pass first marks_first prev at past bytes hits region ends marks k) is walk
      walk-to n (suc d) m same within none walk =
          let before : IsWalk spent pass first marks_first prev at past bytes hits region ends marks (n + d) = walk-to n d (n + d) refl (omega arith) (λ k low high. none k low (omega arith)) walk in
          walk-pass (n + d) m (omega arith) (omega arith) (why-by (n + d) (none (n + d) (omega arith) (omega arith)) (pass (n + d)) refl) before

    module _ (all : ChunkEnds) (everywhere : (u : List ℕ) → AreLeftIn [] u bytes all) (region region' : List ℕ) (ends ends' : List ChunkEnds) (marks marks' : List ℕ) (n m : ℕ) (next : m ≡ n + 1) (own : Node) (at_n : slice_get table.nodes.items n ≡ Some own) (marked : is_marked marks n ≡ true) (other : pass n ≡ false)
        (run : IsNodeRun meaning table n own region region' prev at past bytes hits all ends ends') (sized : length region' ≡ length region) (grown : AreMoreMarks (length table.nodes.items) marks marks')
        (children : (node_ends ends' n ≡ nowhere) ⊎ ChildrenMarked marks' hits bytes n (node_ends ends' n)) (walk : IsWalk spent pass first marks_first prev at past bytes hits region ends marks n) where
      below-next : (k : ℕ) → k < m → (k < n) ⊎ (k ≡ n)
      below-next k low = grind (arith, next)

      marked' : is_marked marks' n ≡ true
      marked' = grown.kept n marked

      apart : (k : ℕ) → is_marked marks' k ≡ false → k ≡ n → ⊥
      apart k none same = let both : true ≡ false = sym marked' ∙ (ap (λ i. is_marked marks' i) (sym same) ∙ none) in absurd (cc)

      all-marks : AreMoreMarks (length table.nodes.items) marks_first marks'
      all-marks = record { room = grown.room ∙ walk.more.room; kept = λ k set. grown.kept k (walk.more.kept k set); below = grown.below }

      parent-by : (k p : ℕ) (node : Node) → slice_get table.nodes.items k ≡ Some node → n + 1 ≤ k → is_marked marks' k ≡ false → node.parent ≡ Some p → (p < n) ⊎ (p ≡ n) → (node_ends ends' n ≡ nowhere) ⊎ ChildrenMarked marks' hits bytes n (node_ends ends' n) → IsUntouched node.kind hits (length bytes) (node_ends ends' p)
      parent-by k p node at_k high none of (inl low) told = subst (λ (e : ChunkEnds). IsUntouched node.kind hits (length bytes) e) (sym (run.ends_stay p (λ same. absurd (omega arith)))) (walk.parents k p node (omega arith) at_k (unmarked-before marks marks' k grown.kept none) of low)
      parent-by k p node at_k high none of (inr same) (inl zero_ends) = inl (ap (λ i. node_ends ends' i) same ∙ zero_ends)
      parent-by k p node at_k high none of (inr same) (inr told) =
          let among : IsAmongChildren table.child_starts.items table.children.items n k = sound.among k n node at_k (of ∙ ap Some same) in
          elim (told k node among at_k) [
            | inl set ↦ let both : true ≡ false = sym set ∙ none in absurd (cc)
            | inr spared ↦ inr (subst (λ i. IsSpared node.kind hits (length bytes) (node_ends ends' i)) (sym same) spared)
          ]

      well-by : (k : ℕ) (node : Node) → slice_get table.nodes.items k ≡ Some node → (k < n) ⊎ (k ≡ n) → IsWellPart meaning table.engines.items node.kind (node_part region' node) (at + length bytes)
      well-by k node at_k (inl low) = subst (λ ps. IsWellPart meaning table.engines.items node.kind ps (at + length bytes)) (sym (run.parts_stay k node (λ same. absurd (omega arith)) at_k)) (walk.well k node low at_k)
      well-by k node at_k (inr same) =
          let is : own ≡ node = one-value own node (slice_get table.nodes.items n) at_n (ap (λ i. slice_get table.nodes.items i) (sym same) ∙ at_k) in
          subst (λ (nd : Node). IsWellPart meaning table.engines.items nd.kind (node_part region' nd) (at + length bytes)) is run.well

      entering-left : (pieces : ℕ → List Piece) (u : List ℕ) → ((p : ℕ) → p < n → spent p ≡ false → AreLeftIn (pieces p) u bytes (node_ends ends p)) → (parent : Option ℕ) → own.parent ≡ parent → AreLeftIn (parent_pieces pieces parent) u bytes (entering_ends parent all ends)
      entering-left pieces u left None is = everywhere u
      entering-left pieces u left (Some p) is = left p (sound.earlier n p own at_n is) (asked n p own at_n is)

      done-next : TakesTo spent first region' prev at past bytes hits ends' m
      done-next literals pieces u of stands past_is small hits_are held =
          let done = walk.takes literals pieces u of stands past_is small hits_are held in
          let is = of n own at_n in
          let start : HoldsPiece meaning table.engines.items own.kind is.before is.piece (node_part region own) u =
          subst (λ ps. HoldsPiece meaning table.engines.items own.kind is.before is.piece ps u) (sym (walk.later n own (omega arith) at_n).1)
          (stands-held meaning table.engines.items own.kind own.parent (pieces n) (parent_pieces pieces own.parent) is.before is.piece (node_part first own) u is.behind is.own (held n own at_n)) in
          let result =
          run.takes literals is.before is.rest is.piece u is.runs is.fit stands past_is small hits_are
          (stands-entered own.kind own.parent (parent_pieces pieces own.parent) is.before u bytes (entering_ends own.parent all ends) is.behind (entering-left pieces u done.left own.parent refl)) start in
          let own_left : AreLeftIn (pieces n) u bytes (node_ends ends' n) = subst (λ ps. AreLeftIn ps u bytes (node_ends ends' n)) (sym is.own) result.left in
          let own_held : IsNodeHeld meaning table pieces region' (u ++ bytes) n own =
          held-stands meaning table.engines.items own.kind own.parent (pieces n) (parent_pieces pieces own.parent) is.before is.piece (node_part region' own) (u ++ bytes) is.behind is.own result.held in record {
            left = λ k low asked_for. elim (below-next k low) [
              | inl under ↦ subst (λ (e : ChunkEnds). AreLeftIn (pieces k) u bytes e) (sym (run.ends_stay k (λ same. absurd (omega arith)))) (done.left k under asked_for)
              | inr same ↦ subst (λ i. AreLeftIn (pieces i) u bytes (node_ends ends' i)) (sym same) own_left
            ];
            held = λ k node low at_k. elim (below-next k low) [
              | inl under ↦ λ piece ends_with. subst (λ ps. HoldsPiece meaning table.engines.items node.kind (parent_pieces pieces node.parent) piece ps (u ++ bytes)) (sym (run.parts_stay k node (λ same. absurd (omega arith)) at_k)) (done.held k node under at_k piece ends_with)
              | inr same ↦
                  let same_node : own ≡ node = one-value own node (slice_get table.nodes.items n) at_n (ap (λ i. slice_get table.nodes.items i) (sym same) ∙ at_k) in
                  subst (λ i. IsNodeHeld meaning table pieces region' (u ++ bytes) i node) (sym same) (subst (λ (nd : Node). IsNodeHeld meaning table pieces region' (u ++ bytes) n nd) same_node own_held)
            ];
          }

      -- the node is run
      pub walk-visit : IsWalk spent pass first marks_first prev at past bytes hits region' ends' marks' m
      walk-visit =
          let low = slice_get_within table.nodes.items n own at_n in record {
            within = omega arith;
            more = all-marks;
            changes = record {
              len = sized ∙ walk.changes.len;
              unmarked = λ k node at_k none.
                  let ne = apart k none in
                  let old = walk.changes.unmarked k node at_k (unmarked-before marks marks' k grown.kept none) in
                  (run.ends_stay k ne ∙ old.0, run.parts_stay k node ne at_k ∙ old.1);
              outside = λ i out. run.outside i (out n own at_n) ∙ walk.changes.outside i out;
            };
            later = λ k node high at_k.
                let ne : k ≡ n → ⊥ = λ same. absurd (omega arith) in
                let old = walk.later k node (omega arith) at_k in
                (run.ends_stay k ne ∙ old.0, run.parts_stay k node ne at_k ∙ old.1);
            passed = λ k set. run.ends_stay k (λ same. let both : true ≡ false = sym set ∙ (ap pass same ∙ other) in absurd (cc)) ∙ walk.passed k set;
            parents = λ k p node high at_k none of under. parent-by k p node at_k (omega arith) none of (below-next p under) children;
            well = λ k node under at_k. well-by k node at_k (below-next k under);
            takes = done-next;
          }

    -- one that is spent catches up
    module _ (region region' : List ℕ) (ends : List ChunkEnds) (marks : List ℕ) (n m : ℕ) (next : m ≡ n + 1) (own : Node) (at_n : slice_get table.nodes.items n ≡ Some own) (marked : is_marked marks n ≡ true) (over : spent n ≡ true) (lone : IsLoneNode table n)
        (run : IsNodeCaughtUp meaning table n own region region' prev at bytes) (sized : length region' ≡ length region) (walk : IsWalk spent pass first marks_first prev at past bytes hits region ends marks n) where
      under-next : (k : ℕ) → k < m → (k < n) ⊎ (k ≡ n)
      under-next k low = grind (arith, next)

      not-spent : (k : ℕ) → spent k ≡ false → k ≡ n → ⊥
      not-spent k asked_for same = let both : true ≡ false = sym over ∙ (ap spent (sym same) ∙ asked_for) in absurd (cc)

      own_node : lone.node ≡ own
      own_node = one-value lone.node own (slice_get table.nodes.items n) lone.there at_n

      before-none : (pieces : ℕ → List Piece) (before : List Piece) → StandsBehind own.kind own.parent (parent_pieces pieces own.parent) before → before ≡ []
      before-none pieces before stands = stands-none own.kind lone.number lone.null (ap (λ (nd : Node). nd.kind) (sym own_node) ∙ lone.kind_is) own.parent (ap (λ (nd : Node). nd.parent) (sym own_node) ∙ lone.no_parent) pieces before stands

      part-same : (k : ℕ) (node : Node) → (k ≡ n → ⊥) → slice_get table.nodes.items k ≡ Some node → node_part region' node ≡ node_part region node
      part-same k node apart at_k = run.parts_stay k node apart at_k

      well-at : (k : ℕ) (node : Node) → slice_get table.nodes.items k ≡ Some node → (k < n) ⊎ (k ≡ n) → IsWellPart meaning table.engines.items node.kind (node_part region' node) (at + length bytes)
      well-at k node at_k (inl low) = subst (λ ps. IsWellPart meaning table.engines.items node.kind ps (at + length bytes)) (sym (part-same k node (λ same. absurd (omega arith)) at_k)) (walk.well k node low at_k)
      well-at k node at_k (inr same) =
          let is : own ≡ node = one-value own node (slice_get table.nodes.items n) at_n (ap (λ i. slice_get table.nodes.items i) (sym same) ∙ at_k) in
          subst (λ (nd : Node). IsWellPart meaning table.engines.items nd.kind (node_part region' nd) (at + length bytes)) is run.well

      done-caught : TakesTo spent first region' prev at past bytes hits ends m
      done-caught literals pieces u of stands past_is small hits_are held =
          let done = walk.takes literals pieces u of stands past_is small hits_are held in
          let is = of n own at_n in
          let none : is.before ≡ [] = before-none pieces is.before is.behind in
          let start : HoldsPiece meaning table.engines.items own.kind is.before is.piece (node_part region own) u =
          subst (λ ps. HoldsPiece meaning table.engines.items own.kind is.before is.piece ps u) (sym (walk.later n own (omega arith) at_n).1)
          (stands-held meaning table.engines.items own.kind own.parent (pieces n) (parent_pieces pieces own.parent) is.before is.piece (node_part first own) u is.behind is.own (held n own at_n)) in
          let carried : HoldsPiece meaning table.engines.items own.kind [] is.piece (node_part region' own) (u ++ bytes) =
          run.carries literals is.piece u (subst (λ ps. RunsPiece meaning table.engines.items literals own.kind ps is.piece) none is.runs) stands (subst (λ ps. HoldsPiece meaning table.engines.items own.kind ps is.piece (node_part region own) u) none start) in
          let own_held : IsNodeHeld meaning table pieces region' (u ++ bytes) n own =
          held-stands meaning table.engines.items own.kind own.parent (pieces n) (parent_pieces pieces own.parent) is.before is.piece (node_part region' own) (u ++ bytes) is.behind is.own
          (subst (λ ps. HoldsPiece meaning table.engines.items own.kind ps is.piece (node_part region' own) (u ++ bytes)) (sym none) carried) in record {
            left = λ k low asked_for. elim (under-next k low) [ inl under ↦ done.left k under asked_for | inr same ↦ absurd (not-spent k asked_for same) ];
            held = λ k node low at_k. elim (under-next k low) [
              | inl under ↦ λ piece ends_with. subst (λ ps. HoldsPiece meaning table.engines.items node.kind (parent_pieces pieces node.parent) piece ps (u ++ bytes)) (sym (part-same k node (λ same. absurd (omega arith)) at_k)) (done.held k node under at_k piece ends_with)
              | inr same ↦
                  let same_node : own ≡ node = one-value own node (slice_get table.nodes.items n) at_n (ap (λ i. slice_get table.nodes.items i) (sym same) ∙ at_k) in
                  subst (λ i. IsNodeHeld meaning table pieces region' (u ++ bytes) i node) (sym same) (subst (λ (nd : Node). IsNodeHeld meaning table pieces region' (u ++ bytes) n nd) same_node own_held)
            ];
          }

      pub walk-caught : IsWalk spent pass first marks_first prev at past bytes hits region' ends marks m
      walk-caught =
          let low = slice_get_within table.nodes.items n own at_n in record {
            within = omega arith;
            more = walk.more;
            changes = record {
              len = sized ∙ walk.changes.len;
              unmarked = λ k node at_k none.
                  let ne : k ≡ n → ⊥ = λ same. let both : true ≡ false = sym marked ∙ (ap (λ i. is_marked marks i) (sym same) ∙ none) in absurd (cc) in
                  let old = walk.changes.unmarked k node at_k none in
                  (old.0, part-same k node ne at_k ∙ old.1);
              outside = λ i out. run.outside i (out n own at_n) ∙ walk.changes.outside i out;
            };
            later = λ k node high at_k.
                let old = walk.later k node (omega arith) at_k in
                (old.0, part-same k node (λ same. absurd (omega arith)) at_k ∙ old.1);
            passed = walk.passed;
            parents = λ k p node high at_k none of under. elim (under-next p under) [
              | inl before ↦ walk.parents k p node (omega arith) at_k none of before
              | inr same ↦ absurd (not-spent p (asked k p node at_k of) same)
            ];
            well = λ k node under at_k. well-at k node at_k (under-next k under);
            takes = done-caught;
          }

    -- all nodes
    pub walk-well : (region : List ℕ) (ends : List ChunkEnds) (marks : List ℕ) → IsWalk spent pass first marks_first prev at past bytes hits region ends marks (length table.nodes.items) → AreNodesWell meaning table region (at + length bytes)
    walk-well region ends marks walk k node at_k = walk.well k node (slice_get_within table.nodes.items k node at_k) at_k

    pub walk-takes : (region : List ℕ) (ends : List ChunkEnds) (marks : List ℕ) → IsWalk spent pass first marks_first prev at past bytes hits region ends marks (length table.nodes.items) → TakesNodes meaning table spent first region prev at past bytes hits ends
    walk-takes region ends marks walk literals pieces u of stands past_is small hits_are held =
        let done = walk.takes literals pieces u of stands past_is small hits_are held in record {
          held = λ k node at_k. done.held k node (slice_get_within table.nodes.items k node at_k) at_k;
          left = done.left;
        }

-- the steps of the nodes up to one of them

ticks-next : (xs : List Node) (k : ℕ) (hits : List ChunkHits) (count : ℕ) (node : Node) → slice_get xs k ≡ Some node → nodes_ticks (take (suc k) xs) hits count ≡ nodes_ticks (take k xs) hits count + most_ticks node.kind hits count
ticks-next [] k hits count node at = absurd (cc)
ticks-next (x ∷ xs) zero hits count node at = let same : x ≡ node = same_Some x node at in ap (λ (n : Node). most_ticks n.kind hits count + 0) same ∙ omega arith
ticks-next (x ∷ xs) (suc k) hits count node at = let more = ticks-next xs k hits count node at in omega (arith, more)

pub ticks-more : (xs : List Node) (k : ℕ) (hits : List ChunkHits) (count : ℕ) (node : Node) → slice_get xs k ≡ Some node → nodes_ticks (take (k + 1) xs) hits count ≡ nodes_ticks (take k xs) hits count + most_ticks node.kind hits count
ticks-more xs k hits count node at = let next : k + 1 ≡ suc k = omega arith in ap (λ n. nodes_ticks (take n xs) hits count) next ∙ ticks-next xs k hits count node at

pub ticks-grow : (xs : List Node) (k n : ℕ) (hits : List ChunkHits) (count : ℕ) → k ≤ n → nodes_ticks (take k xs) hits count ≤ nodes_ticks (take n xs) hits count
ticks-grow xs zero n hits count low = omega arith
ticks-grow [] (suc k) n hits count low = omega arith
ticks-grow (x ∷ xs) (suc k) zero hits count low = absurd (omega arith)
ticks-grow (x ∷ xs) (suc k) (suc n) hits count low = let more = ticks-grow xs k n hits count (omega arith) in omega (arith, more)

pub ticks-all : (xs : List Node) (k : ℕ) (hits : List ChunkHits) (count : ℕ) → nodes_ticks (take k xs) hits count ≤ nodes_ticks xs hits count
ticks-all xs zero hits count = omega arith
ticks-all [] (suc k) hits count = omega arith
ticks-all (x ∷ xs) (suc k) hits count = let more = ticks-all xs k hits count in omega (arith, more)

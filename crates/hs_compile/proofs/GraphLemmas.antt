-- What the nodes of a graph run.
use Rattle.std.proofs.Common.{◌≡◌, ℕ, zero, suc, ◌<◌, ◌≤◌, ◌^◌, Bool, true, List, [], ◌∷◌, ◌++◌, length, map, take, drop, Option, Some, None, slice_get, sym, ap, subst, ◌∙◌, inl, inr, arith}
use Rattle.std.proofs.lemmas.List.{length-take-le}
use Rattle.std.proofs.lemmas.Option.{same_Some, slice_get_within}
use Rattle.hs_base.specs.Chains.{Piece, lit, nfa, IsFitChain}
use Rattle.hs_base.specs.KeptPieces.{form_of, nothing}
use Rattle.hs_base.specs.Regions.{Place}
use Rattle.hs_layout.specs.Layouts.{Laid}
use Rattle.hs_nodes.specs.Walks.{IsNodeOf, StandsBehind, parent_pieces}
use Rattle.hs_nodes.specs.declared.graph.Graph.{Graph}
use Rattle.hs_nodes.specs.declared.table.Node.{Node}
use Rattle.hs_nodes.specs.declared.table.NodeKind.{NodeKind}
use Rattle.hs_pieces.specs.LookBack.{begins_with_look_back}
use Rattle.hs_rose.specs.declared.engine.PieceEngine.{PieceEngine}
use Rattle.hs_rose.specs.declared.info.ChainInfo.{ChainInfo}
use Rattle.hs_rose.specs.declared.kind.Kind.TheVariants as kinds
use Rattle.hs_rose.specs.declared.role.Role.{Role}
use Rattle.hs_rose.specs.Kinds.{number_if_literal, place_kind}
use Rattle.hs_rose.specs.Listing.{Asked, ListedPiece}
use Rattle.hs_rose.specs.PieceEngines.{piece_meaning}
use Rattle.hs_rose.specs.Programs.{Names, Tables, IsProgramOf}
use Rattle.hs_rose.proofs.ListLemmas.{take-get}
use Rattle.hs_rose.proofs.ListedLemmas.{piece_of}
use Rattle.hs_compile.specs.declared.building.GraphParts.{GraphParts}
use Rattle.hs_compile.specs.GraphBuilding.{AreParts, IsGraphOf, same_identifier}
use Rattle.hs_compile.specs.GraphEnds.{AreChainEnds}
use Rattle.hs_compile.specs.GraphLists.{AreChildren, LieByNode}
use Rattle.hs_compile.specs.GraphKinds.{IsKindOf, IsPairOf}
use Rattle.hs_compile.specs.GraphNodes.{AreNodes, IsLinked, IsNodeOfRole, IsOwnNode, begins, behind, goes_on}
use Rattle.hs_compile.specs.GraphTables.{LooksBack}
use Rattle.hs_compile.proofs.JoinLemmas.{HasChain, HasPieceAt, a_literal, LiteralAt, all_pieces, first-role, has-chain, literal-at, looks-first, narrow-tree, pair, piece-of-role, place_of, second-role}
use Rattle.hs_compile.proofs.KindLemmas.{Serves, bare-places, pair-behind, serves, serves-pair, stands-behind}
use Rattle.hs_compile.proofs.GraphListLemmas.{get-read}
use Rattle.hs_compile.proofs.KeyLemmas.{same-place}

-- a graph with the nodes and terminals of a program
pub record GraphIs (t : Tables) (l : Laid) (graph : Graph PieceEngine) : Type 0 where
  pub paths : List (List ℕ)
  pub owned : List ℕ
  pub few : length graph.table.nodes.items < 2 ^ 32
  pub path_count : length graph.table.nodes.items ≡ length paths
  pub nodes : AreNodes t l paths owned graph.table.nodes.items graph.copies.items
  pub children : AreChildren graph.table.nodes.items graph.table.child_starts.items graph.table.children.items
  pub start_count : length graph.terminal_starts.items ≡ suc (suc (length graph.table.nodes.items))
  pub by_node : LieByNode graph.terminal_starts.items graph.terminals.items
  pub ends : AreChainEnds t paths (length graph.table.nodes.items) graph.terminals.items
  pub engines : graph.table.engines.items ≡ t.engines
  pub identifiers : graph.identifiers.items ≡ map same_identifier t.identifiers

pub graph-is : (t : Tables) (l : Laid) (parts : GraphParts) (graph : Graph PieceEngine) → AreParts t l parts → IsGraphOf t parts graph → GraphIs t l graph
graph-is t l parts graph are is =
    let nodes = parts.nodes.nodes.items in
    let count : length nodes ≡ length graph.table.nodes.items = ap length (sym is.nodes) in record {
      paths = are.paths;
      owned = are.nodes.owned;
      few = subst (λ n. n < 2 ^ 32) count are.few;
      path_count = sym count ∙ are.nodes.count;
      nodes = subst (λ ns. AreNodes t l are.paths are.nodes.owned ns graph.copies.items) (sym is.nodes)
          (subst (λ cs. AreNodes t l are.paths are.nodes.owned nodes cs) (sym is.copies) are.nodes.are);
      children = subst (λ ns. AreChildren ns graph.table.child_starts.items graph.table.children.items) (sym is.nodes)
          (subst (λ ss. AreChildren nodes ss graph.table.children.items) (sym is.child_starts) (subst (λ cs. AreChildren nodes parts.child_starts.items cs) (sym is.children) are.children));
      start_count = ap length is.terminal_starts ∙ (are.ends.start_count ∙ ap (λ n. suc (suc n)) count);
      by_node = subst (λ ss. LieByNode ss graph.terminals.items) (sym is.terminal_starts) (subst (λ xs. LieByNode parts.ends.starts.items xs) (sym is.terminals) are.ends.by_node);
      ends = subst (λ n. AreChainEnds t are.paths n graph.terminals.items) count
          (subst (λ xs. AreChainEnds t are.paths (length nodes) xs) (sym is.terminals) are.ends.are);
      engines = is.engines;
      identifiers = is.identifiers;
    }

-- the pieces up to one, and those of the role of a node
abbrev pub up_to : Option ListedPiece → List Piece
up_to None = []
up_to (Some x) = x.place.pieces ++ x.place.piece ∷ []

abbrev pub of_role : List ListedPiece → Option ℕ → List Piece
of_role xs None = []
of_role xs (Some i) = up_to (slice_get xs i)

module _ (t : Tables) (entries : List Asked) (chains : List (List (List Piece))) (is : IsProgramOf t entries chains) (l : Laid) (graph : Graph PieceEngine) (g : GraphIs t l graph) where
  abbrev pub node_pieces : ℕ → List Piece
  node_pieces k = of_role (all_pieces t entries chains is) (slice_get g.owned k)

  pub own-pieces : (k i : ℕ) (x : ListedPiece) → slice_get g.owned k ≡ Some i → slice_get (all_pieces t entries chains is) i ≡ Some x → node_pieces k ≡ x.place.pieces ++ x.place.piece ∷ []
  own-pieces k i x owns at = ap (of_role (all_pieces t entries chains is)) owns ∙ ap up_to at

  -- where the node stands
  pub record HasPlace (k : ℕ) (node : Node) : Type 0 where
    pub i : ℕ
    pub owns : slice_get g.owned k ≡ Some i
    pub own : IsOwnNode t l g.paths k i node
    pub chain : HasChain t entries chains is own.is.number own.is.chain
    pub at : HasPieceAt t entries chains is own.is.chain chain.chain i own.is.role

  pub has-place : (k : ℕ) (node : Node) → slice_get graph.table.nodes.items k ≡ Some node → HasPlace k node
  has-place k node there =
      let (i, owns) = get-read g.owned k (omega (arith, g.nodes.count, slice_get_within graph.table.nodes.items k node there)) in
      let own = g.nodes.each k i node there owns in
      let chain = has-chain t entries chains is own.is.number own.is.chain own.is.chain_there in
      record { i = i; owns = owns; own = own; chain = chain; at = piece-of-role t entries chains is own.is.number own.is.chain chain i own.is.role own.is.low own.is.high own.is.role_there }

  -- the pieces of a node are those of each role that has it
  pub shared-pieces : (k j : ℕ) (x : ListedPiece) → k < length g.owned → IsNodeOfRole t g.paths k j → slice_get (all_pieces t entries chains is) j ≡ Some x → node_pieces k ≡ x.place.pieces ++ x.place.piece ∷ []
  shared-pieces k j x known is_node at =
      let (node, there) = get-read graph.table.nodes.items k (omega (arith, known, g.nodes.count)) in
      let own = has-place k node there in
      let y = piece_of own.chain.chain own.at.m own.at.piece in
      own-pieces k own.i y own.owns own.at.there
      ∙ ap (λ (p : Place). p.pieces ++ p.piece ∷ []) (same-place t entries chains is g.paths k own.i j y x own.own.is is_node own.at.there at)

  -- a role that has a node doesn't look back
  alone-at : (p j : ℕ) (q : Role) → IsNodeOfRole t g.paths p j → slice_get t.roles j ≡ Some q → LooksBack q → ⊥
  alone-at p j q is_node at back = is_node.alone (subst LooksBack (same_Some q is_node.role (sym at ∙ is_node.role_there)) back)

  module _ (number : ℕ) (c : ChainInfo) (own : HasChain t entries chains is number c) (k i : ℕ) (r : Role) (low : c.first ≤ i) (high : i < c.end) (there : slice_get t.roles i ≡ Some r) (alone : LooksBack r → ⊥)
      (at : HasPieceAt t entries chains is c own.chain i r) where
    abbrev looks : Bool
    looks = begins_with_look_back own.chain.pieces

    abbrev before : List Piece
    before = take at.m own.chain.pieces

    m-within : at.m ≤ length own.chain.pieces
    m-within = omega (arith, slice_get_within own.chain.pieces at.m at.piece at.at)

    -- what the node runs, and behind what
    abbrev Runs : Option ℕ → NodeKind → Type 0
    Runs parent kind = Serves t is.models is.engines graph g.engines kind before at.piece (form_of looks before at.piece) × StandsBehind kind parent (parent_pieces node_pieces parent) before

    runs-first : (parent : Option ℕ) (kind : NodeKind) → i ≡ c.first → parent ≡ None → IsKindOf t r kind → Runs parent kind
    runs-first parent kind first none is_kind =
        let zero_is : at.m ≡ 0 = omega (arith, first, at.number_is) in
        let empty : before ≡ [] = ap (λ n. take n own.chain.pieces) zero_is in (
          serves t is.models is.engines graph g.engines r looks before alone (λ bare. empty) at.piece kind at.role.kind_is at.role.names at.runnable is_kind,
          subst (λ q. StandsBehind kind q (parent_pieces node_pieces q) before) (sym none) (stands-behind t r kind None [] before is_kind empty),
        )

    -- the pieces of the node before
    pieces-before : (j p : ℕ) → c.first < i → suc j ≡ i → p < length g.owned → IsNodeOfRole t g.paths p j → before ≡ node_pieces p
    pieces-before j p later next known is_node =
        let (q, q_there) = get-read t.roles j (omega (arith, next, slice_get_within t.roles i r there)) in
        let last = piece-of-role t entries chains is number c own j q (omega (arith, later, next)) (omega (arith, next, high)) q_there in
        let more : at.m ≡ suc last.m = omega (arith, at.number_is, last.number_is, next) in
        ap (λ n. take n own.chain.pieces) more ∙ (take-get own.chain.pieces last.m last.piece last.at ∙ sym (shared-pieces p j (piece_of own.chain last.m last.piece) known is_node last.there))

    -- a literal of which nothing is kept isn't behind a piece that has a node of its own
    never-bare : (j p : ℕ) → c.first < i → suc j ≡ i → IsNodeOfRole t g.paths p j → r.kind ≡ kinds.BareLiteral → before ≡ []
    never-bare j p later next is_node bare =
        by-piece at.piece at.role.kind_is (literal-at looks before at.piece r.number r.number (ap (λ n. number_if_literal n r.number) (sym at.role.kind_is ∙ bare)))
      where
        not-looked : looks ≡ true → length before ≡ 1 → ⊥
        not-looked back one =
            let size : length before ≡ at.m = length-take-le at.m own.chain.pieces m-within in
            let first = first-role t entries chains is number c own back in
            let first_kind : first.r.kind ≡ kinds.LookBack = first.role.kind_is ∙ ap (λ b. place_kind (place_of b [] (nfa (pair t entries chains is number c own back).tree))) back in
            alone-at p j first.r is_node (ap (slice_get t.roles) (omega (arith, size, one, at.number_is, next)) ∙ first.role_there) first_kind

        by-piece : (piece : Piece) → r.kind ≡ place_kind (place_of looks before piece) → LiteralAt piece → before ≡ []
        by-piece piece is_kind (a_literal xs same) = elim (bare-places looks before xs (sym (is_kind ∙ ap (λ p. place_kind (place_of looks before p)) same) ∙ bare)) [
          | inl empty ↦ empty
          | inr looked ↦ absurd (not-looked looked.0 looked.1)
        ]

    runs-later : (parent : Option ℕ) (kind : NodeKind) (j p : ℕ) → c.first < i → suc j ≡ i → parent ≡ Some p → p < length g.owned → IsNodeOfRole t g.paths p j → IsKindOf t r kind → Runs parent kind
    runs-later parent kind j p later next some known is_node is_kind = (
      serves t is.models is.engines graph g.engines r looks before alone (λ bare. never-bare j p later next is_node bare) at.piece kind at.role.kind_is at.role.names at.runnable is_kind,
      subst (λ q. StandsBehind kind q (parent_pieces node_pieces q) before) (sym some) (stands-behind t r kind (Some p) (node_pieces p) before is_kind (pieces-before j p later next known is_node)),
    )

    runs-pair : (parent : Option ℕ) (kind : NodeKind) (j : ℕ) (q : Role) → c.first < i → suc j ≡ i → slice_get t.roles j ≡ Some q → parent ≡ None → IsPairOf t q r kind → Runs parent kind
    runs-pair parent kind j q later next q_there none is_pair =
        let (first_is, back) = looks-first t entries chains is number c own j q (omega (arith, later, next)) (omega (arith, next, high)) q_there is_pair.looks_back in
        let two = pair t entries chains is number c own back in
        let first = first-role t entries chains is number c own back in
        let second = second-role t entries chains is number c own back in
        let one_is : at.m ≡ 1 = omega (arith, at.number_is, next, first_is) in
        let q_is : first.r ≡ q = same_Some first.r q (sym first.role_there ∙ (ap (slice_get t.roles) (omega (arith, first_is)) ∙ q_there)) in
        let r_is : second.r ≡ r = same_Some second.r r (sym second.role_there ∙ (ap (slice_get t.roles) (omega (arith, first_is, next)) ∙ there)) in
        let names : Names t.literals is.models q.number q.null (nfa two.tree) = subst (λ (s : Role). Names t.literals is.models s.number s.null (nfa two.tree)) q_is first.role.names in
        let names' : Names t.literals is.models r.number r.null (lit two.value) = subst (λ (s : Role). Names t.literals is.models s.number s.null (lit two.value)) r_is second.role.names in
        let own_serves = serves-pair t is.models is.engines graph g.engines q r two.tree two.value kind names names' first.runnable second.runnable (narrow-tree two.tree two.narrow) is_pair in
        let front : nfa two.tree ∷ [] ≡ before = sym (ap (λ n. take n own.chain.pieces) one_is ∙ ap (take 1) two.is_chain) in
        let piece_is : lit two.value ≡ at.piece = same_Some (lit two.value) at.piece (sym (ap (slice_get own.chain.pieces) one_is ∙ ap (λ ps. slice_get ps 1) two.is_chain) ∙ at.at) in
        let form : nothing ≡ form_of looks before at.piece = ap (λ b. form_of b (nfa two.tree ∷ []) (lit two.value)) (sym back) ∙ (ap (λ ps. form_of looks ps (lit two.value)) front ∙ ap (form_of looks before) piece_is) in (
          subst (λ f. Serves t is.models is.engines graph g.engines kind before at.piece f) form
              (subst (λ p. Serves t is.models is.engines graph g.engines kind before p nothing) piece_is (subst (λ ps. Serves t is.models is.engines graph g.engines kind ps (lit two.value) nothing) front own_serves)),
          pair-behind t q r kind parent (parent_pieces node_pieces parent) before is_pair none,
        )

    pub runs-by : (parent : Option ℕ) (kind : NodeKind) → k < length g.owned → IsLinked t g.paths c.first k i r parent kind → Runs parent kind
    runs-by parent kind known (begins first none is_kind) = runs-first parent kind first none is_kind
    runs-by parent kind known (behind j q later next q_there none is_pair) = runs-pair parent kind j q later next q_there none is_pair
    runs-by parent kind known (goes_on j p later next some below is_node is_kind) = runs-later parent kind j p later next some (omega (arith, below, known)) is_node is_kind

  -- A node runs its piece behind those before it, and keeps the fields of their form.
  pub record RunsPlace (k : ℕ) (node : Node) (place : HasPlace k node) : Type 0 where
    pub serves : Serves t is.models is.engines graph g.engines node.kind (take place.at.m place.chain.chain.pieces) place.at.piece
        (form_of (begins_with_look_back place.chain.chain.pieces) (take place.at.m place.chain.chain.pieces) place.at.piece)
    pub stands : StandsBehind node.kind node.parent (parent_pieces node_pieces node.parent) (take place.at.m place.chain.chain.pieces)

  pub runs-place : (k : ℕ) (node : Node) (place : HasPlace k node) → RunsPlace k node place
  runs-place k node place =
      let own = place.own in
      let (one, two) = runs-by own.is.number own.is.chain place.chain k place.i own.is.role own.is.low own.is.high own.is.role_there own.is.alone place.at node.parent node.kind (slice_get_within g.owned k place.i place.owns) own.linked in
      record { serves = one; stands = two }

  pub node-pieces : (k : ℕ) (node : Node) (place : HasPlace k node) → node_pieces k ≡ take place.at.m place.chain.chain.pieces ++ place.at.piece ∷ []
  node-pieces k node place = own-pieces k place.i (piece_of place.chain.chain place.at.m place.at.piece) place.owns place.at.there

  -- the chain goes on behind it
  chain-parts : (xs : List Piece) (m : ℕ) (piece : Piece) → slice_get xs m ≡ Some piece → xs ≡ take m xs ++ piece ∷ drop (suc m) xs
  chain-parts [] m piece at = absurd (cc)
  chain-parts (x ∷ xs) zero piece at = let e : x ≡ piece = cc in ap (λ y. y ∷ xs) e
  chain-parts (x ∷ xs) (suc m) piece at = ap (λ ys. x ∷ ys) (chain-parts xs m piece at)

  pub is-node-of : (k : ℕ) (node : Node) (place : HasPlace k node) → IsFitChain place.chain.chain.pieces → IsNodeOf piece_meaning graph.table t.literals node_pieces k node
  is-node-of k node place fit =
      let runs = runs-place k node place in record {
        before = take place.at.m place.chain.chain.pieces;
        piece = place.at.piece;
        rest = drop (suc place.at.m) place.chain.chain.pieces;
        behind = runs.stands;
        own = node-pieces k node place;
        runs = runs.serves.runs;
        fit = subst IsFitChain (chain-parts place.chain.chain.pieces place.at.m place.at.piece place.at.at) fit;
      }

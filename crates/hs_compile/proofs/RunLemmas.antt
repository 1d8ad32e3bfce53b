-- A graph of a program runs the plan of its patterns.
use Rattle.std.proofs.Common.{◌≡◌, ◌⊎◌, ℕ, zero, suc, ◌+◌, ◌<◌, Bool, true, List, [], ◌∷◌, ◌++◌, length, map, take, Some, None, slice_get, refl, sym, ap, subst, ◌∙◌, inl, inr, arith}
use Rattle.std.specs.Prelude.{flat_map, slice_index}
use Rattle.std.specs.List.{AllZip}
use Rattle.std.proofs.Math.Seq.{take-length}
use Rattle.std.proofs.lemmas.Bool.{false≢true}
use Rattle.std.proofs.lemmas.Option.{same_Some, slice_get_past, slice_get_within}
use Rattle.hs_base.specs.Chains.{Piece, lit, nfa, rep, chains_of}
use Rattle.hs_base.specs.KeptPieces.{Form, form_of}
use Rattle.hs_base.specs.Lists.{Each, OneOf}
use Rattle.hs_base.specs.Patterns.{Pattern, is_single}
use Rattle.hs_base.specs.Regions.{Place, Plan, list_places, place_form, plan_starts}
use Rattle.hs_layout.specs.Layouts.{Laid}
use Rattle.hs_nodes.specs.Graphs.{HasField, HasNode, IsNodeFor, IsOwnField, KeepsFields, RunsPlan, keeps, keeps_field}
use Rattle.hs_nodes.specs.Graphs as nodes
use Rattle.hs_nodes.specs.declared.graph.Graph.{Graph}
use Rattle.hs_nodes.specs.declared.table.Node.{Node}
use Rattle.hs_nodes.specs.declared.table.NodeKind.{NodeKind}
use Rattle.hs_nodes.specs.declared.table.NodeKind.TheVariants.{Engine, Literal, FirstLiteral, LookBack}
use Rattle.hs_reports.specs.Identifiers.{numbers_of}
use Rattle.hs_reports.specs.Terminals.{AreTerminals, IsTerminalOf}
use Rattle.hs_reports.specs.declared.identifier.Identifier as reports
use Rattle.hs_reports.specs.declared.terminal.Terminal.{Terminal}
use Rattle.hs_rose.specs.declared.engine.PieceEngine.{PieceEngine}
use Rattle.hs_rose.specs.declared.info.ChainInfo.{ChainInfo}
use Rattle.hs_rose.specs.declared.info.EntryInfo.{EntryInfo}
use Rattle.hs_rose.specs.declared.kind.Kind.TheVariants as kinds
use Rattle.hs_rose.specs.Identifiers.{ids_of, singles_of}
use Rattle.hs_rose.specs.Kinds.{kind_for, place_kind}
use Rattle.hs_rose.specs.Listing.{Asked, ListedChain, ListedPiece}
use Rattle.hs_rose.specs.PieceEngines.{piece_meaning}
use Rattle.hs_rose.specs.Programs.{Tables, IsProgramOf, IsRoleOf}
use Rattle.hs_rose.proofs.ListLemmas.{get-map, map-get, take-get, zip-right}
use Rattle.hs_rose.proofs.ListedLemmas.{chains-count, piece_of}
use Rattle.hs_compile.specs.GraphBuilding.{same_identifier}
use Rattle.hs_compile.specs.GraphEnds.{IsEndOf, IsLastNode, by_none, by_role}
use Rattle.hs_compile.specs.GraphNodes.{HasNodeOf, IsAmongCopies, IsNodeOfRole, owns, shares}
use Rattle.hs_rose.specs.Plans.{AsksFor, IsFitPattern, plan_of}
use Rattle.hs_compile.specs.GraphTables.{IsLaidFor}
use Rattle.hs_compile.proofs.GraphLemmas.{GraphIs, HasPlace, has-place, is-node-of, node-pieces, node_pieces, runs-place, shared-pieces}
use Rattle.hs_compile.proofs.IdentifierLemmas.{same-numbers, same-singles}
use Rattle.hs_compile.proofs.JoinLemmas as join
use Rattle.hs_compile.proofs.JoinLemmas.{all_pieces, has-chain, has-info, listed, looks-at, piece-of-role}
use Rattle.hs_compile.proofs.GraphListLemmas.{each-of_get, get-read}
use Rattle.hs_compile.proofs.KeyLemmas.{same-place}
use Rattle.hs_rose.proofs.PlanLemmas.{is-plan, single-of}
use Rattle.hs_compile.proofs.RowLemmas.{HasRow, Row, all-spans, has-row, plan-laid, plan-places, row-listed, rows_of}

-- rows of patterns

own-row : (Q : Pattern → List Piece → Type 0) (x : Pattern) (cs : List (List Piece)) (more : List Row) (j : ℕ) (row : Row) → slice_get (map (λ chain. record { pattern = x; chain = chain }) cs ++ more) j ≡ Some row → Q row.pattern row.chain →
    OneOf (Q x) cs ⊎ ((i : ℕ) × (slice_get more i ≡ Some row))
own-row Q x [] more j row at is = inr (j, at)
own-row Q x (c ∷ cs) more zero row at is = let e : record { pattern = x; chain = c } ≡ row = cc in inl (inl (subst (λ (r : Row). Q r.pattern r.chain) (sym e) is))
own-row Q x (c ∷ cs) more (suc j) row at is = elim (own-row Q x cs more j row at is) [ inl one ↦ inl (inr one) | inr later ↦ inr later ]

one-row : (Q : Pattern → List Piece → Type 0) (P : List Pattern) (j : ℕ) (row : Row) → slice_get (flat_map rows_of P) j ≡ Some row → Q row.pattern row.chain → OneOf (λ x. OneOf (Q x) (chains_of x.tree)) P
one-row Q [] j row at is = absurd (cc)
one-row Q (x ∷ P) j row at is = elim (own-row Q x (chains_of x.tree) (flat_map rows_of P) j row at is) [
  | inl one ↦ inl one
  | inr later ↦ inr (one-row Q P later.0 row later.1 is)
]

own-each : (Q : Pattern → List Piece → Type 0) (x : Pattern) (cs : List (List Piece)) (more : List Row) → ((j : ℕ) (row : Row) → slice_get (map (λ chain. record { pattern = x; chain = chain }) cs ++ more) j ≡ Some row → Q row.pattern row.chain) →
    Each (Q x) cs × ((j : ℕ) (row : Row) → slice_get more j ≡ Some row → Q row.pattern row.chain)
own-each Q x [] more all = (tt, all)
own-each Q x (c ∷ cs) more all =
    let (each, rest) = own-each Q x cs more (λ j row at. all (suc j) row at) in
    ((all 0 (record { pattern = x; chain = c }) refl, each), rest)

each-row : (Q : Pattern → List Piece → Type 0) (P : List Pattern) → ((j : ℕ) (row : Row) → slice_get (flat_map rows_of P) j ≡ Some row → Q row.pattern row.chain) → Each (λ x. Each (Q x) (chains_of x.tree)) P
each-row Q [] all = tt
each-row Q (x ∷ P) all =
    let (each, rest) = own-each Q x (chains_of x.tree) (flat_map rows_of P) all in
    (each, each-row Q P rest)

one-of_get : {A : Type 0} (Q : A → Type 0) (xs : List A) (k : ℕ) (x : A) → slice_get xs k ≡ Some x → Q x → OneOf Q xs
one-of_get Q [] k x at is = absurd (cc)
one-of_get Q (y ∷ xs) zero x at is = let e : y ≡ x = cc in inl (subst Q (sym e) is)
one-of_get Q (y ∷ xs) (suc k) x at is = inr (one-of_get Q xs k x at is)

-- nothing is kept of what looks back
looks-unkept : (p : Place) → place_kind p ≡ kinds.LookBack → keeps (place_form p) ≡ true → ⊥
looks-unkept p back some = by-piece p.looks_back p.pieces p.piece (looks-at p.looks_back p.pieces p.piece back) back some
  where
    by-piece : (l : Bool) (ps : List Piece) (piece : Piece) → (l ≡ true) × (ps ≡ []) → place_kind (join.place_of l ps piece) ≡ kinds.LookBack → keeps (form_of l ps piece) ≡ true → ⊥
    by-piece l ps (lit xs) is back some = no-literal (ap (λ qs. kind_for (form_of l qs (lit xs)) (lit xs)) (sym is.1) ∙ back)
      where
        no-literal : kinds.BareLiteral ≡ kinds.LookBack → ⊥
        no-literal e = cc
    by-piece l ps (nfa tree) is back some = false≢true (sym (ap (λ b. keeps (form_of b ps (nfa tree))) is.0 ∙ ap (λ qs. keeps (form_of true qs (nfa tree))) is.1) ∙ some)
    by-piece l ps (rep set n None) is back some = let e : kinds.First ≡ kinds.LookBack = back in cc
    by-piece l ps (rep set zero (Some m)) is back some = let e : kinds.Last ≡ kinds.LookBack = back in cc
    by-piece l ps (rep set (suc zero) (Some m)) is back some = let e : kinds.Last ≡ kinds.LookBack = back in cc
    by-piece l ps (rep set (suc (suc n)) (Some m)) is back some = let e : kinds.Ring ≡ kinds.LookBack = back in cc

module _ (t : Tables) (entries : List Asked) (P : List Pattern) (is : IsProgramOf t entries (map (λ x. chains_of x.tree) P)) (asks : AllZip AsksFor entries P) (fit : Each IsFitPattern P) (l : Laid) (laid : IsLaidFor t l)
    (graph : Graph PieceEngine) (g : GraphIs t l graph) where
  abbrev chains : List (List (List Piece))
  chains = map (λ x. chains_of x.tree) P

  abbrev plan : Plan
  plan = plan_of t P

  abbrev pieces : ℕ → List Piece
  pieces = node_pieces t entries chains is l graph g

  no-pieces : pieces (length graph.table.nodes.items) ≡ []
  no-pieces = ap (Rattle.hs_compile.proofs.GraphLemmas.of_role (all_pieces t entries chains is)) (slice_get_past g.owned (length graph.table.nodes.items) (omega (arith, g.nodes.count)))

  -- terminals

  module _ (x : Terminal) (j : ℕ) (c : ChainInfo) (there : slice_get t.chains j ≡ Some c) (end : IsEndOf t g.paths (length graph.table.nodes.items) c x) where
    abbrev own : join.HasChain t entries chains is j c
    own = has-chain t entries chains is j c there

    last-pieces : IsLastNode t g.paths (length graph.table.nodes.items) c x.node → pieces x.node ≡ own.chain.pieces
    last-pieces (by_role i some last is_node) =
        let r = is_node.role in
        let r_there = is_node.role_there in
        let known : x.node < length g.owned = omega (arith, slice_get_within g.paths x.node is_node.path is_node.path_there, g.path_count, g.nodes.count) in
        let at = piece-of-role t entries chains is j c own i r (omega (arith, some, last)) (omega (arith, last)) r_there in
        let whole : suc at.m ≡ length own.chain.pieces = omega (arith, at.number_is, last, own.first, own.end) in
        shared-pieces t entries chains is l graph g x.node i (piece_of own.chain at.m at.piece) known is_node at.there
        ∙ (sym (take-get own.chain.pieces at.m at.piece at.at) ∙ (ap (λ n. take n own.chain.pieces) whole ∙ take-length own.chain.pieces))
    last-pieces (by_none none same) = ap pieces same ∙ (no-pieces ∙ sym (empty-list own.chain.pieces (omega (arith, none, own.first, own.end))))
      where
        empty-list : (xs : List Piece) → length xs ≡ 0 → xs ≡ []
        empty-list [] size = refl
        empty-list (y ∷ xs) size = absurd (omega (arith, size))

    terminal-of : (row : Row) → Rattle.hs_compile.proofs.RowLemmas.IsRowOf own.chain row → IsTerminalOf pieces plan.identifiers row.pattern x row.chain
    terminal-of row is_row =
        let entry = has-info t entries chains is j c own in
        let one : entry.info ≡ end.asks.info = same_Some entry.info end.asks.info (sym entry.info_there ∙ end.asks.there) in record {
          named =
              ap (slice_get (ids_of t.identifiers)) (end.asks.identifier ∙ ap (λ (e : EntryInfo). e.identifier) (sym one))
              ∙ (entry.of.place ∙ ap Some is_row.asks.id);
          least = end.asks.least ∙ (ap (λ (e : EntryInfo). e.min_offset) (sym one) ∙ (entry.of.least ∙ is_row.asks.least));
          greatest = end.asks.greatest ∙ (ap (λ (e : EntryInfo). e.max_offset) (sym one) ∙ (entry.of.greatest ∙ is_row.asks.greatest));
          ends = last-pieces end.node ∙ is_row.chain;
        }

  terminals : AreTerminals pieces plan.identifiers P graph.terminals.items
  terminals = record {
    each = each-of_get (λ x. OneOf (λ y. OneOf (IsTerminalOf pieces plan.identifiers y x) (chains_of y.tree)) P) graph.terminals.items each-terminal;
    all = each-row (λ y chain. OneOf (λ x. IsTerminalOf pieces plan.identifiers y x chain) graph.terminals.items) P all-terminals;
  }
    where
      each-terminal : (i : ℕ) (x : Terminal) → slice_get graph.terminals.items i ≡ Some x → OneOf (λ y. OneOf (IsTerminalOf pieces plan.identifiers y x) (chains_of y.tree)) P
      each-terminal i x at =
          let has = g.ends.each i x at in
          let own = has-chain t entries chains is has.number has.chain has.there in
          let row = has-row t entries P is asks fit has.number own.chain own.chain_there in
          one-row (λ y chain. IsTerminalOf pieces plan.identifiers y x chain) P row.number row.row row.there (terminal-of x has.number has.chain has.there has.is row.row row.is_row)

      all-terminals : (j : ℕ) (row : Row) → slice_get (flat_map rows_of P) j ≡ Some row → OneOf (λ x. IsTerminalOf pieces plan.identifiers row.pattern x row.chain) graph.terminals.items
      all-terminals j row at =
          let (x, x_there, is_row) = row-listed t entries P is asks fit j row at in
          let count : length t.chains ≡ length (listed t entries chains is) = chains-count 0 t.chains (listed t entries chains is) is.chains_are in
          let (c, c_there) = get-read t.chains j (omega (arith, count, slice_get_within (listed t entries chains is) j x x_there)) in
          let own = has-chain t entries chains is j c c_there in
          let one : x ≡ own.chain = same_Some x own.chain (sym x_there ∙ own.chain_there) in
          let has = g.ends.all j c c_there in
          one-of_get (λ y. IsTerminalOf pieces plan.identifiers row.pattern y row.chain) graph.terminals.items has.number has.terminal has.there
          (terminal-of has.terminal j c c_there has.is row (subst (λ (z : ListedChain). Rattle.hs_compile.proofs.RowLemmas.IsRowOf z row) one is_row))

  -- fields

  starts-same : l.starts ≡ plan_starts plan
  starts-same = ap (λ (x : Laid). x.starts) (laid.laid ∙ plan-laid t entries P is asks)

  module _ (k : ℕ) (node : Node) (there : slice_get graph.table.nodes.items k ≡ Some node) where
    place : HasPlace t entries chains is l graph g k node
    place = has-place t entries chains is l graph g k node there

    abbrev listed_piece_is : ListedPiece
    listed_piece_is = piece_of place.chain.chain place.at.m place.at.piece

    node-for : IsNodeFor piece_meaning graph plan pieces k node place.i listed_piece_is.place
    node-for = record {
      there = there;
      place = ap (λ ps. slice_get ps place.i) (plan-places t entries P is asks) ∙ get-map (λ (p : ListedPiece). p.place) (all_pieces t entries chains is) place.i listed_piece_is place.at.there;
      behind = node-pieces t entries chains is l graph g k node place;
      fields = (runs-place t entries chains is l graph g k node place).serves.fields;
    }

    own-field : IsOwnField piece_meaning graph plan node place.i
    own-field = record {
      start = place.own.start ∙ ap (λ ns. slice_index ns place.i) starts-same;
      end = place.own.end ∙ ap (λ ns. slice_index ns (place.i + 1)) starts-same;
    }

    has-field : HasField piece_meaning graph plan pieces k node
    has-field = record { role = place.i; p = listed_piece_is.place; runs = node-for; own = own-field }

    node-of : Rattle.hs_nodes.specs.Walks.IsNodeOf piece_meaning graph.table t.literals pieces k node
    node-of =
        let row = has-row t entries P is asks fit place.own.is.number place.chain.chain place.chain.chain_there in
        is-node-of t entries chains is l graph g k node place row.fits

  -- a role that has a node of its own
  has-own : (k i : ℕ) (p : Place) → slice_get (list_places plan) i ≡ Some p → slice_get g.owned k ≡ Some i → HasNode piece_meaning graph plan pieces i p
  has-own k i p at own_is =
      let (node, there) = get-read graph.table.nodes.items k (omega (arith, g.nodes.count, slice_get_within g.owned k i own_is)) in
      let own = place k node there in
      let same : own.i ≡ i = same_Some own.i i (sym own.owns ∙ own_is) in
      let p_is : (listed_piece_is k node there).place ≡ p = same_Some (listed_piece_is k node there).place p (sym (node-for k node there).place ∙ (ap (slice_get (list_places plan)) same ∙ at)) in
      record {
        k = k;
        node = node;
        runs = subst (λ q. IsNodeFor piece_meaning graph plan pieces k node i q) p_is (subst (λ n. IsNodeFor piece_meaning graph plan pieces k node n (listed_piece_is k node there).place) same (node-for k node there));
        kept = inl (subst (λ n. IsOwnField piece_meaning graph plan node n) same (own-field k node there));
      }

  -- something is kept of what a node that keeps nothing runs nowhere
  keeps-by : (kind : NodeKind) (form : Form) (piece : Piece) → KeepsFields piece_meaning graph kind form piece → keeps form ≡ true → keeps_field kind ≡ true
  keeps-by (Engine n null) form piece fields some = refl
  keeps-by (Literal n len) form piece fields some = refl
  keeps-by (FirstLiteral n len) form piece fields some = absurd (false≢true (sym (ap keeps fields) ∙ some))
  keeps-by (LookBack pair) form piece fields some = absurd (false≢true (sym (ap keeps fields) ∙ some))

  -- a role that has the node of an earlier one
  has-shared : (k i : ℕ) (p : Place) (node : Node) → slice_get (list_places plan) i ≡ Some p → keeps (place_form p) ≡ true → slice_get graph.table.nodes.items k ≡ Some node → IsNodeOfRole t g.paths k i →
      (keeps_field node.kind ≡ true → IsAmongCopies graph.copies.items k i) → HasNode piece_meaning graph plan pieces i p
  has-shared k i p node at some there is_node among =
      let own = place k node there in
      let first = listed_piece_is k node there in
      let at' : slice_get (map (λ (y : ListedPiece). y.place) (all_pieces t entries chains is)) i ≡ Some p = ap (λ ps. slice_get ps i) (sym (plan-places t entries P is asks)) ∙ at in
      let (x, x_there, x_is) = map-get (λ (y : ListedPiece). y.place) (all_pieces t entries chains is) i p at' in
      let same : first.place ≡ p = same-place t entries chains is g.paths k own.i i first x own.own.is is_node own.at.there x_there ∙ x_is in
      let fields : KeepsFields piece_meaning graph node.kind (place_form p) p.piece = subst (λ (q : Place). KeepsFields piece_meaning graph node.kind (place_form q) q.piece) same (node-for k node there).fields in
      let has = among (keeps-by node.kind (place_form p) p.piece fields some) in record {
        k = k;
        node = node;
        runs = record {
          there = there;
          place = at;
          behind = (node-for k node there).behind ∙ ap (λ (q : Place). q.pieces ++ q.piece ∷ []) same;
          fields = fields;
        };
        kept = inr (record { number = has.number; copy = has.copy; there = has.there; node = has.node; field = has.field });
      }

  has-node : (i : ℕ) (p : Place) → slice_get (list_places plan) i ≡ Some p → keeps (place_form p) ≡ true → HasNode piece_meaning graph plan pieces i p
  has-node i p at some =
      let at' : slice_get (map (λ (x : ListedPiece). x.place) (all_pieces t entries chains is)) i ≡ Some p = ap (λ ps. slice_get ps i) (sym (plan-places t entries P is asks)) ∙ at in
      let (x, x_there, x_is) = map-get (λ (y : ListedPiece). y.place) (all_pieces t entries chains is) i p at' in
      let (r, r_there, role) = zip-right (IsRoleOf t.literals is.models) t.roles (all_pieces t entries chains is) is.roles i x x_there in
      by-node (g.nodes.all i r r_there (λ back. looks-unkept p (ap place_kind (sym x_is) ∙ (sym role.kind_is ∙ back)) some))
    where
      by-node : HasNodeOf t g.paths g.owned graph.table.nodes.items graph.copies.items i → HasNode piece_meaning graph plan pieces i p
      by-node (owns k own) = has-own k i p at own
      by-node (shares k node there is_node among) = has-shared k i p node at some there is_node among

  single-is : (i : ℕ) (x : reports.Identifier) → slice_get graph.identifiers.items i ≡ Some x → is_single P x.id.0 ≡ x.single
  single-is i x at =
      let (y, y_there, y_is) = map-get same_identifier t.identifiers i x (ap (λ xs. slice_get xs i) (sym g.identifiers) ∙ at) in
      subst (λ (z : reports.Identifier). is_single P z.id.0 ≡ z.single) y_is (sym (single-of t entries P is.identifiers asks i y y_there))

  pub runs-plan : RunsPlan piece_meaning graph t.literals plan
  runs-plan = record {
    is_plan = is-plan t entries P is.identifiers asks;
    spans = all-spans P fit;
    ids = ap numbers_of g.identifiers ∙ same-numbers t.identifiers;
    singles = ap (λ xs. numbers_of (nodes.singles_of xs)) g.identifiers ∙ (ap numbers_of (same-singles t.identifiers) ∙ same-numbers (singles_of t.identifiers));
    single = single-is;
    pieces = pieces;
    nodes = node-of;
    no_pieces = no-pieces;
    terminals = terminals;
    fields = λ k node at some. has-field k node at;
    roles = has-node;
  }

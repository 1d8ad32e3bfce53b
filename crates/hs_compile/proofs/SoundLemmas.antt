-- A graph of a program can be run.
use Rattle.std.proofs.Common.{◌≡◌, ◌⊎◌, ℕ, suc, ◌+◌, ◌-◌, ◌<◌, ◌≤◌, ◌^◌, List, length, Option, Some, None, slice_get, sym, ap, subst, ◌∙◌, inl, inr, arith}
use Rattle.std.specs.Prelude.{slice_index}
use Rattle.std.proofs.lemmas.Bool.{cases_lt, false≢true}
use Rattle.std.proofs.lemmas.List.{length-map}
use Rattle.std.proofs.lemmas.Option.{same_Some, slice_get_within}
use Rattle.hs_base.specs.Chains.{Piece}
use Rattle.hs_base.specs.Regions.{place_size}
use Rattle.hs_layout.specs.Layouts.{AreApart, Laid, laid_size}
use Rattle.hs_nodes.specs.Graphs.{AreCopiesByNode, AreTerminalsSound, FitsLayout, IsCopySound, IsGraphSound}
use Rattle.hs_nodes.specs.Graphs as nodes
use Rattle.hs_nodes.specs.Resting.{AreEnginesIdle}
use Rattle.hs_nodes.specs.Waking.{AreRowsSound, AreWakesSound}
use Rattle.hs_nodes.specs.Walks.{IsTableSound}
use Rattle.hs_nodes.specs.declared.graph.FieldCopy.{FieldCopy}
use Rattle.hs_nodes.specs.declared.graph.Graph.{Graph}
use Rattle.hs_nodes.specs.declared.table.Node.{Node}
use Rattle.hs_nodes.specs.declared.table.NodeKind.{NodeKind}
use Rattle.hs_reports.specs.declared.terminal.Terminal.{Terminal}
use Rattle.hs_rose.specs.declared.engine.PieceEngine.{PieceEngine}
use Rattle.hs_rose.specs.declared.info.ChainInfo.{ChainInfo}
use Rattle.hs_rose.specs.declared.info.EntryInfo.{EntryInfo}
use Rattle.hs_rose.specs.Identifiers.{ids_of, singles_of}
use Rattle.hs_rose.specs.Listing.{Asked}
use Rattle.hs_rose.specs.PieceEngines.{piece_meaning}
use Rattle.hs_rose.specs.Programs.{Tables, IsProgramOf}
use Rattle.hs_rose.specs.declared.role.Role.{Role}
use Rattle.hs_rose.proofs.ListedLemmas.{piece_of}
use Rattle.hs_compile.specs.GraphBuilding.{HasNoOpenings, same_identifier}
use Rattle.hs_compile.specs.GraphEnds as ends
use Rattle.hs_compile.specs.GraphNodes as links
use Rattle.hs_compile.specs.GraphNodes.{IsCopyOf, IsLinked, IsNodeOfRole}
use Rattle.hs_compile.specs.GraphTables.{IsLaidFor}
use Rattle.hs_compile.proofs.ByNodeLemmas.{of-node}
use Rattle.hs_compile.proofs.GraphLemmas.{GraphIs, HasPlace, has-place, runs-place}
use Rattle.hs_compile.proofs.IdentifierLemmas.{same-singles}
use Rattle.hs_compile.proofs.JoinLemmas.{has-chain, has-info, piece-of-role, ready}
use Rattle.hs_compile.proofs.KeyLemmas.{same-place}
use Rattle.hs_compile.proofs.GraphListLemmas.{each-index, each-of_get, get-read}
use Rattle.hs_compile.proofs.RenamedLemmas.{kind-names}
use Rattle.hs_compile.proofs.WakeLemmas.{each-below}
use Rattle.hs_compile.proofs.PlaceLemmas.{layout-apart, role-field, starts-count}

-- a parent comes first
linked-earlier : (t : Tables) (paths : List (List ℕ)) (first k i : ℕ) (r : Role) (parent : Option ℕ) (kind : NodeKind) (p : ℕ) → IsLinked t paths first k i r parent kind → parent ≡ Some p → p < k
linked-earlier t paths first k i r parent kind p (links.begins at none own) some = absurd (let e : None ≡ Some p = sym none ∙ some in cc)
linked-earlier t paths first k i r parent kind p (links.behind j before later next there none own) some = absurd (let e : None ≡ Some p = sym none ∙ some in cc)
linked-earlier t paths first k i r parent kind p (links.goes_on j q later next is low is_node own) some = omega (arith, same_Some q p (sym is ∙ some), low)

module _ (t : Tables) (entries : List Asked) (chains : List (List (List Piece))) (is : IsProgramOf t entries chains) (l : Laid) (laid : IsLaidFor t l) (graph : Graph PieceEngine) (g : GraphIs t l graph) where
  abbrev nodes_are : List Node
  nodes_are = graph.table.nodes.items

  apart : AreApart l
  apart = layout-apart t l laid

  last-start : length l.starts - 1 ≡ length t.roles
  last-start = omega (arith, starts-count t l laid)

  module _ (k : ℕ) (node : Node) (there : slice_get nodes_are k ≡ Some node) where
    place : HasPlace t entries chains is l graph g k node
    place = has-place t entries chains is l graph g k node there

    i-within : place.i < length t.roles
    i-within = slice_get_within t.roles place.i place.own.is.role place.own.is.role_there

    sized : node.end ≡ node.start + place.own.is.role.field_size
    sized = place.own.end ∙ (role-field t l laid place.i place.own.is.role place.own.is.role_there ∙ ap (λ n. n + place.own.is.role.field_size) (sym place.own.start))

    in-order : node.start ≤ node.end
    in-order = omega (arith, sized)

    in-region : node.end ≤ laid_size l
    in-region = subst (λ n. n ≤ laid_size l) (sym place.own.end) (apart.rising (place.i + 1) (length l.starts - 1) (omega (arith, i-within, starts-count t l laid)) (omega (arith, starts-count t l laid)))

    behind-header : Rattle.hs_base.specs.Regions.fields_at l.singles l.identifiers ≤ node.start
    behind-header =
        subst (λ n. n ≤ node.start) apart.first
        (subst (λ n. slice_index l.starts 0 ≤ n) (sym place.own.start) (apart.rising 0 place.i (omega arith) (omega (arith, i-within, starts-count t l laid))))

  in-turn : (j k : ℕ) (a b : Node) → j < k → slice_get nodes_are j ≡ Some a → slice_get nodes_are k ≡ Some b → a.end ≤ b.start
  in-turn j k a b order at at' =
      let first = place j a at in
      let second = place k b at' in
      let rises : first.i < second.i = g.nodes.rising j k first.i second.i order first.owns second.owns in
      subst (λ n. n ≤ b.start) (sym first.own.end)
      (subst (λ n. slice_index l.starts (first.i + 1) ≤ n) (sym second.own.start)
      (apart.rising (first.i + 1) second.i (omega (arith, rises)) (omega (arith, i-within k b at', starts-count t l laid))))

  table-sound : IsTableSound piece_meaning graph.table (length t.literals) (laid_size l)
  table-sound = record {
    earlier = λ k p node at parent.
        let own = place k node at in
        linked-earlier t g.paths own.own.is.chain.first k own.i own.own.is.role node.parent node.kind p own.own.linked parent;
    kinds = λ k node at.
        let own = place k node at in
        (runs-place t entries chains is l graph g k node own).serves.sound (node.end - node.start) (omega (arith, sized k node at) ∙ own.at.role.size_is);
    order = in-order;
    within = in-region;
    apart = in-turn;
    starts_count = g.children.count;
    starts_end = λ k below. each-index (length graph.table.children.items) graph.table.child_starts.items g.children.within (suc k);
    children = each-below (length nodes_are) graph.table.children.items g.children.known;
    among = g.children.among;
  }

  ids-count : length graph.identifiers.items ≡ length t.identifiers
  ids-count = ap length g.identifiers ∙ length-map t.identifiers same_identifier

  singles-count : length (nodes.singles_of graph.identifiers.items) ≡ length (singles_of t.identifiers)
  singles-count = ap (λ xs. length (nodes.singles_of xs)) g.identifiers ∙ (ap length (same-singles t.identifiers) ∙ length-map (singles_of t.identifiers) same_identifier)

  -- the field of a role that isn't the first one of its node is as long as that of the node, and apart from all fields
  -- of nodes
  module _ (c : ℕ) (copy : FieldCopy) (copy_there : slice_get graph.copies.items c ≡ Some copy) where
    of-copy : IsCopyOf t g.paths g.owned copy
    of-copy = g.nodes.copies_are c copy copy_there

    abbrev shared : IsNodeOfRole t g.paths copy.node copy.field
    shared = (g.nodes.copies_are c copy copy_there).is

    field-within : copy.field < length t.roles
    field-within = slice_get_within t.roles copy.field shared.role shared.role_there

    copied-field : slice_index l.starts (copy.field + 1) ≡ slice_index l.starts copy.field + shared.role.field_size
    copied-field = role-field t l laid copy.field shared.role shared.role_there

    copied-apart : (k : ℕ) (other : Node) → slice_get nodes_are k ≡ Some other → (other.end ≤ slice_index l.starts copy.field) ⊎ (slice_index l.starts (copy.field + 1) ≤ other.start)
    copied-apart k other there =
        let own = place k other there in
        elim (cases_lt own.i copy.field) [
          | inl less ↦
              inl (subst (λ n. n ≤ slice_index l.starts copy.field) (sym own.own.end) (apart.rising (own.i + 1) copy.field (omega (arith, less)) (omega (arith, field-within, starts-count t l laid))))
          | inr past ↦ elim (cases_lt copy.field own.i) [
            | inl more ↦
                inr (subst (λ n. slice_index l.starts (copy.field + 1) ≤ n) (sym own.own.start) (apart.rising (copy.field + 1) own.i (omega (arith, more)) (omega (arith, i-within k other there, starts-count t l laid))))
            | inr low ↦ absurd (of-copy.apart k (own.owns ∙ ap Some (omega (arith, past, low))))
          ]
        ]

    copy-sound : IsCopySound graph l copy
    copy-sound =
        let (node, there) = get-read nodes_are copy.node (omega (arith, of-copy.known, g.nodes.count)) in
        let own = place copy.node node there in
        let chain = has-chain t entries chains is shared.number shared.chain shared.chain_there in
        let at = piece-of-role t entries chains is shared.number shared.chain chain copy.field shared.role shared.low shared.high shared.role_there in
        let first = piece_of own.chain.chain own.at.m own.at.piece in
        let second = piece_of chain.chain at.m at.piece in
        let places : first.place ≡ second.place = same-place t entries chains is g.paths copy.node own.i copy.field first second own.own.is shared own.at.there at.there in
        let sizes : own.own.is.role.field_size ≡ shared.role.field_size = own.at.role.size_is ∙ (ap place_size places ∙ sym at.role.size_is) in record {
          node = node;
          there = there;
          within = omega (arith, field-within, starts-count t l laid);
          same = omega (arith, sized copy.node node there, copied-field, sizes);
          apart = copied-apart;
        }

  fits-layout : AreCopiesByNode graph.copies.items (length graph.table.nodes.items) graph.node_copies → FitsLayout graph l
  fits-layout by_node = record {
    apart = apart;
    order = in-order;
    behind = behind-header;
    within = in-region;
    identifiers = ids-count ∙ sym (ap (λ (x : Laid). x.identifiers) laid.laid);
    singles = singles-count ∙ sym (ap (λ (x : Laid). x.singles) laid.laid);
    few_identifiers = omega (arith, ap (λ (x : Laid). x.identifiers) laid.laid, is.identifiers.few, is.few_entries);
    copies = copy-sound;
    rising = g.nodes.copies_rising;
    by_node = by_node;
    in_turn = in-turn;
  }

  known-terminal : (i : ℕ) (x : Terminal) → slice_get graph.terminals.items i ≡ Some x → (x.identifier < length graph.identifiers.items) × (x.node < length nodes_are + 1)
  known-terminal i x at =
      let has = g.ends.each i x at in
      let asks = has.is.asks in
      let own = has-chain t entries chains is has.number has.chain has.there in
      let entry = has-info t entries chains is has.number has.chain own in
      let one : entry.info ≡ asks.info = same_Some entry.info asks.info (sym entry.info_there ∙ asks.there) in
      let below = slice_get_within (ids_of t.identifiers) entry.info.identifier own.chain.asked.id entry.of.place in
      let same : x.identifier ≡ entry.info.identifier = asks.identifier ∙ ap (λ (e : EntryInfo). e.identifier) (sym one) in
      (omega (arith, same, below, length-map t.identifiers (λ y. y.id.0), ids-count), last-node has.chain has.is.node)
    where
      last-node : (c : ChainInfo) → ends.IsLastNode t g.paths (length nodes_are) c x.node → x.node < length nodes_are + 1
      last-node c (ends.by_role j some last is_node) = omega (arith, slice_get_within g.paths x.node is_node.path is_node.path_there, g.path_count)
      last-node c (ends.by_none none same) = omega (arith, same)

  terminals-sound : AreTerminalsSound graph
  terminals-sound = record {
    known = each-of_get (λ x. (x.identifier < length graph.identifiers.items) × (x.node < length nodes_are + 1)) graph.terminals.items known-terminal;
    count = omega (arith, g.start_count);
    order = λ k below. g.by_node.rising k (k + 1) (omega arith) (omega (arith, below, g.start_count));
    within = λ k below. each-index (length graph.terminals.items) graph.terminal_starts.items g.by_node.within (k + 1);
    of_node = λ k below. of-node graph.terminal_starts.items graph.terminals.items k g.by_node (omega (arith, below, g.start_count));
  }

  pub graph-sound : length t.literals < 2 ^ 32 → AreWakesSound graph.table.nodes.items graph.wakes (length t.literals) → AreRowsSound piece_meaning graph.table graph.wakes → AreEnginesIdle piece_meaning graph.table.engines.items → AreCopiesByNode graph.copies.items (length graph.table.nodes.items) graph.node_copies → HasNoOpenings (length graph.table.nodes.items) (length t.literals) graph.openings →
      IsGraphSound piece_meaning graph t.literals l
  graph-sound few wakes rows idle by_node none = record {
    table = table-sound;
    few = g.few;
    few_literals = few;
    short = (ready t entries chains is).short;
    fits = fits-layout by_node;
    terminals = terminals-sound;
    wakes = wakes;
    rows = rows;
    idle = idle;
    openings = record {
      room = none.room;
      few = omega (arith, none.others);
      first = λ k node there marked. absurd (false≢true (sym (none.unmarked k) ∙ marked));
      behind = λ k p node there marked. absurd (false≢true (sym (none.unmarked k) ∙ marked));
      named = λ k number node there unmarked names. subst (λ n. number < n) (sym none.others) (kind-names piece_meaning graph.table.engines.items (length t.literals) node.kind (node.end - node.start) number (table-sound.kinds k node there) names);
    };
  }

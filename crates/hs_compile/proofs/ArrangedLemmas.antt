-- A graph whose nodes name the same texts by other numbers.
use Rattle.std.proofs.Common.{◌≡◌, ℕ, suc, ◌+◌, ◌-◌, ◌<◌, ◌≤◌, true, List, length, Option, Some, None, slice_get, Vec, Global, refl, sym, ap, subst, ◌∙◌, inl, inr, arith}
use Rattle.std.specs.Prelude.{slice_index}
use Rattle.std.proofs.lemmas.Option.{get_or_from_slice_get, slice_get_within}
use Rattle.hs_base.specs.Chains.{Piece}
use Rattle.hs_base.specs.KeptPieces.{Form}
use Rattle.hs_base.specs.Literals.{LiteralByte}
use Rattle.hs_base.specs.Regions.{Place, Plan}
use Rattle.hs_base.specs.declared.context.Mask.{Mask}
use Rattle.hs_forest.specs.Groups.{AreGroups}
use Rattle.hs_layout.specs.Layouts.{Laid, laid_size}
use Rattle.hs_nodes.specs.Graphs.{AreTerminalsSound, FitsLayout, HasField, HasNode, IsCopySound, IsGraphSound, IsNodeFor, IsOwnField, KeepsFields, RunsPlan, keeps_field}
use Rattle.hs_nodes.specs.Openings.{AreOpenings, named_literal}
use Rattle.hs_nodes.specs.Waking.{AreRowsSound}
use Rattle.hs_nodes.specs.Walks.{AreNodesOf, IsTableSound, StandsBehind, parent_pieces}
use Rattle.hs_nodes.specs.Nodes.{IsKindSound, RunsPiece}
use Rattle.hs_nodes.specs.declared.graph.FieldCopy.{FieldCopy}
use Rattle.hs_nodes.specs.declared.graph.Graph.{Graph}
use Rattle.hs_nodes.specs.declared.openings.Openings.{Openings}
use Rattle.hs_nodes.specs.declared.table.Node.{Node}
use Rattle.hs_nodes.specs.declared.table.NodeKind.{NodeKind}
use Rattle.hs_nodes.specs.declared.table.NodeKind.TheVariants.{Engine, Literal, FirstLiteral, LookBack}
use Rattle.hs_rose.specs.PieceEngines.{piece_meaning}
use Rattle.hs_rose.specs.declared.engine.PieceEngine.{PieceEngine}
use Rattle.hs_compile.specs.Arranging.{AreMarkedTo, AreRenumbered, IsRenamedNode, MayBeArranged, with_literal}
use Rattle.hs_compile.specs.GraphWakes.{AreFirstEngines, AreWakeable, is_first_engine, waking_literals}
use Rattle.hs_compile.proofs.GraphListLemmas.{each-of_get}
use Rattle.hs_compile.proofs.WakeLemmas.{wakes-sound}
use Rattle.hs_compile.proofs.RenamedLemmas.{engine-as, keeps-as, kind-names, literal-as, named-as, new-node, old-node, opening-as, runs-as, sound-as, stands-as, waking-named}

-- a graph that can be run can be arranged
pub may-be : (graph : Graph PieceEngine) (literals : List (List LiteralByte)) (count : ℕ) (l : Laid) → length literals ≡ count → IsGraphSound piece_meaning graph literals l → MayBeArranged graph.table.nodes.items count
may-be graph literals count l same sound = record {
  few = sound.few;
  earlier = sound.table.earlier;
  named = λ k old node there names. subst (λ n. old < n) same (kind-names piece_meaning graph.table.engines.items (length literals) node.kind (node.end - node.start) old (sound.table.kinds k node there) names);
  behind = sound.wakes.behind;
}

-- the graph with these nodes, and with what goes by literals
abbrev pub with_nodes : Graph PieceEngine → Vec Node Global → (starts list : Vec ℕ Global) → Openings → Graph PieceEngine
with_nodes graph owns starts list openings = record {
  table = record { nodes = owns; child_starts = graph.table.child_starts; children = graph.table.children; engines = graph.table.engines };
  identifiers = graph.identifiers;
  terminals = graph.terminals;
  terminal_starts = graph.terminal_starts;
  copies = graph.copies;
  node_copies = graph.node_copies;
  wakes = record {
    literal_starts = starts;
    literal_nodes = list;
    first_engines = graph.wakes.first_engines;
    row_starts = graph.wakes.row_starts;
    rows = graph.wakes.rows;
    sets = graph.wakes.sets;
  };
  openings = openings;
}

first-engine : (kind : NodeKind) (parent : Option ℕ) → is_first_engine kind parent ≡ true → (number : ℕ) × (null : Option Mask) × (kind ≡ Engine number null) × (parent ≡ None)
first-engine (Engine number null) None is = (number, null, refl, refl)
first-engine (Literal number len) None is = absurd (cc)
first-engine (FirstLiteral number len) None is = absurd (cc)
first-engine (LookBack pair) None is = absurd (cc)
first-engine kind (Some p) is = absurd (cc)

keeps-fields : (graph graph' : Graph PieceEngine) (kind : NodeKind) (new : ℕ) (form : Form) (piece : Piece) → graph'.table.engines.items ≡ graph.table.engines.items → KeepsFields piece_meaning graph kind form piece → KeepsFields piece_meaning graph' (with_literal kind new) form piece
keeps-fields graph graph' (Engine number null) new form piece same keeps = λ e at. keeps e (ap (λ es. slice_get es number) (sym same) ∙ at)
keeps-fields graph graph' (Literal number len) new form piece same keeps = keeps
keeps-fields graph graph' (FirstLiteral number len) new form piece same keeps = keeps
keeps-fields graph graph' (LookBack pair) new form piece same keeps = keeps

module _ (graph : Graph PieceEngine) (olds news : List (List LiteralByte)) (owns : Vec Node Global) (starts list : Vec ℕ Global) (openings : Openings) (are : AreRenumbered olds news openings.nodes openings.others graph.table.nodes.items owns.items) where
  abbrev made : Graph PieceEngine
  made = with_nodes graph owns starts list openings

  count : length owns.items ≡ length graph.table.nodes.items
  count = are.renamed.count

  -- the node that it was
  module _ (k : ℕ) (own : Node) (now : slice_get owns.items k ≡ Some own) where
    abbrev node : Node
    node = (old-node are.renamed k own now).0

    there : slice_get graph.table.nodes.items k ≡ Some node
    there = (old-node are.renamed k own now).1

    is : IsRenamedNode olds news node own
    is = are.renamed.each k node own there now

  -- the literals that wake nodes are there, and no literal but first ones lacks a parent
  pub wakeable : (literals : ℕ) → MayBeArranged graph.table.nodes.items literals → AreWakeable owns.items (length news)
  wakeable literals may = record {
    known = λ k number own now wakes.
        let was = (is k own now).kind in
        let (old, names, same) = named-as (node k own now).kind was.new number (ap named_literal (sym was.is) ∙ waking-named own.kind number wakes) in
        let text = was.same old names in
        subst (λ n. n < length news) same (slice_get_within news was.new text.text text.is);
    behind = λ k number len own now literal alone.
        let was = is k own now in
        let (old, kind) = literal-as (node k own now).kind was.kind.new number len (sym was.kind.is ∙ literal) in
        may.behind k old len (node k own now) (there k own now) kind (sym was.parent ∙ alone);
  }

  module _ (l : Laid) (sound : IsGraphSound piece_meaning graph olds l) where
    kind-sound : (k : ℕ) (own : Node) → slice_get owns.items k ≡ Some own → IsKindSound piece_meaning graph.table.engines.items (length news) own.kind (own.end - own.start)
    kind-sound k own now =
        let was = is k own now in
        let size : own.end - own.start ≡ (node k own now).end - (node k own now).start = omega (arith, was.start, was.end) in
        subst (λ kind. IsKindSound piece_meaning graph.table.engines.items (length news) kind (own.end - own.start)) (sym was.kind.is)
        (subst (λ n. IsKindSound piece_meaning graph.table.engines.items (length news) (with_literal (node k own now).kind was.kind.new) n) (sym size)
        (sound-as piece_meaning graph.table.engines.items (length olds) (length news) (node k own now).kind was.kind.new ((node k own now).end - (node k own now).start)
        (λ old names. let text = was.kind.same old names in slice_get_within news was.kind.new text.text text.is)
        (sound.table.kinds k (node k own now) (there k own now))))

    table-kept : IsTableSound piece_meaning made.table (length news) (laid_size l)
    table-kept = record {
      earlier = λ k p own now parent. sound.table.earlier k p (node k own now) (there k own now) (sym (is k own now).parent ∙ parent);
      kinds = kind-sound;
      order = λ k own now. omega (arith, (is k own now).start, (is k own now).end, sound.table.order k (node k own now) (there k own now));
      within = λ k own now. omega (arith, (is k own now).end, sound.table.within k (node k own now) (there k own now));
      apart = λ j k a b low at at'. omega (arith, (is j a at).end, (is k b at').start, sound.table.apart j k (node j a at) (node k b at') low (there j a at) (there k b at'));
      starts_count = sound.table.starts_count ∙ ap suc (sym count);
      starts_end = λ k low. sound.table.starts_end k (omega (arith, low, count));
      children = λ i low. omega (arith, count, sound.table.children i low);
      among = λ k p own now parent. sound.table.among k p (node k own now) (there k own now) (sym (is k own now).parent ∙ parent);
    }

    copy-kept : (copy : FieldCopy) → IsCopySound graph l copy → IsCopySound made l copy
    copy-kept copy was =
        let (own, now) = new-node are.renamed copy.node was.node was.there in
        let same = are.renamed.each copy.node was.node own was.there now in record {
          node = own;
          there = now;
          within = was.within;
          same = omega (arith, same.start, same.end, was.same);
          apart = λ k other at. elim (was.apart k (node k other at) (there k other at)) [
            | inl before ↦ inl (subst (λ n. n ≤ slice_index l.starts copy.field) (sym (is k other at).end) before)
            | inr behind ↦ inr (subst (λ n. slice_index l.starts (copy.field + 1) ≤ n) (sym (is k other at).start) behind)
          ];
        }

    fits-kept : FitsLayout made l
    fits-kept =
        let fits = sound.fits in record {
          apart = fits.apart;
          order = table-kept.order;
          behind = λ k own now. subst (λ n. Rattle.hs_base.specs.Regions.fields_at l.singles l.identifiers ≤ n) (sym (is k own now).start) (fits.behind k (node k own now) (there k own now));
          within = table-kept.within;
          identifiers = fits.identifiers;
          singles = fits.singles;
          few_identifiers = fits.few_identifiers;
          copies = λ i copy at. copy-kept copy (fits.copies i copy at);
          rising = fits.rising;
          by_node = subst (λ n. Rattle.hs_nodes.specs.Graphs.AreCopiesByNode graph.copies.items n graph.node_copies) (sym count) fits.by_node;
          in_turn = table-kept.apart;
        }

    terminals-kept : AreTerminalsSound made
    terminals-kept =
        let ends = sound.terminals in record {
          known = subst (λ n. Rattle.hs_base.specs.Lists.Each (λ t. (t.identifier < length graph.identifiers.items) × (t.node < n + 1)) graph.terminals.items) (sym count) ends.known;
          count = ends.count ∙ ap (λ n. n + 2) (sym count);
          order = λ k low. ends.order k (omega (arith, low, count));
          within = λ k low. ends.within k (omega (arith, low, count));
          of_node = λ k low. ends.of_node k (omega (arith, low, count));
        }

    engine-kept : (k number : ℕ) (null : Option Mask) (own : Node) (now : slice_get owns.items k ≡ Some own) → own.kind ≡ Engine number null → (node k own now).kind ≡ Engine number null
    engine-kept k number null own now engine = let was = is k own now in engine-as (node k own now).kind was.kind.new number null (sym was.kind.is ∙ engine)

    engines-kept : AreFirstEngines owns.items (length owns.items) graph.wakes.first_engines.items
    engines-kept = record {
      known = each-of_get (λ k. k < length owns.items) graph.wakes.first_engines.items
          (λ i k at. omega (arith, count, get_or_from_slice_get graph.wakes.first_engines.items i k 0 at, sound.wakes.engines i (slice_get_within graph.wakes.first_engines.items i k at)));
      all = λ k own low now first.
          let (number, null, kind, alone) = first-engine own.kind own.parent first in
          sound.wakes.entered k number null (node k own now) (there k own now) (engine-kept k number null own now kind) (sym (is k own now).parent ∙ alone);
    }

    rows-kept : AreRowsSound piece_meaning made.table made.wakes
    rows-kept = record {
      within = sound.rows.within;
      begins = sound.rows.begins;
      starts_count = sound.rows.starts_count;
      known = sound.rows.known;
      are = λ i k number null own e first now engine at. sound.rows.are i k number null (node k own now) e first (there k own now) (engine-kept k number null own now engine) at;
    }

    openings-kept : AreMarkedTo graph.table.nodes.items (length graph.table.nodes.items) openings.nodes → AreOpenings owns.items (length news) openings
    openings-kept marked = record {
      room = omega (arith, count, marked.room);
      few = are.within;
      first = λ k own now is_marked alone.
          let was = is k own now in
          let opens = marked.each k (node k own now) (slice_get_within graph.table.nodes.items k (node k own now) (there k own now)) (there k own now) is_marked in
          subst Rattle.hs_nodes.specs.Openings.IsOpeningKind (sym was.kind.is) (opening-as (node k own now).kind was.kind.new (opens.first (sym was.parent ∙ alone)));
      behind = λ k p own now is_marked parent.
          let opens = marked.each k (node k own now) (slice_get_within graph.table.nodes.items k (node k own now) (there k own now)) (there k own now) is_marked in
          opens.behind p (sym (is k own now).parent ∙ parent);
      named = are.named;
    }

    pub sound-kept : AreMarkedTo graph.table.nodes.items (length graph.table.nodes.items) openings.nodes → AreGroups (waking_literals owns.items) (length news) starts.items list.items → IsGraphSound piece_meaning made news l
    sound-kept marked groups = record {
      table = table-kept;
      few = omega (arith, sound.few, count);
      few_literals = are.few;
      short = λ number text at. let old = are.texts number text at in sound.short old.0 text old.1;
      fits = fits-kept;
      terminals = terminals-kept;
      wakes = wakes-sound owns.items (length news) made.wakes (wakeable (length olds) (may-be graph olds (length olds) l refl sound)) groups engines-kept;
      rows = rows-kept;
      idle = sound.idle;
      openings = openings-kept marked;
    }

  -- it runs what it ran
  module _ (plan : Plan) (runs : RunsPlan piece_meaning graph olds plan) where
    nodes-kept : AreNodesOf piece_meaning made.table news runs.pieces
    nodes-kept k own now =
        let was = is k own now in
        let of = runs.nodes k (node k own now) (there k own now) in record {
          before = of.before;
          piece = of.piece;
          rest = of.rest;
          behind = subst (λ kind. StandsBehind kind own.parent (parent_pieces runs.pieces own.parent) of.before) (sym was.kind.is)
              (subst (λ parent. StandsBehind (with_literal (node k own now).kind was.kind.new) parent (parent_pieces runs.pieces parent) of.before) (sym was.parent)
              (stands-as (node k own now).kind was.kind.new (node k own now).parent (parent_pieces runs.pieces (node k own now).parent) of.before of.behind));
          own = of.own;
          runs = subst (λ kind. RunsPiece piece_meaning graph.table.engines.items news kind of.before of.piece) (sym was.kind.is)
              (runs-as piece_meaning graph.table.engines.items olds news (node k own now).kind was.kind.new of.before of.piece was.kind.same of.runs);
          fit = of.fit;
        }

    node-for : (k : ℕ) (was own : Node) (role : ℕ) (p : Place) → IsRenamedNode olds news was own → slice_get owns.items k ≡ Some own → IsNodeFor piece_meaning graph plan runs.pieces k was role p → IsNodeFor piece_meaning made plan runs.pieces k own role p
    node-for k was own role p same now for = record {
      there = now;
      place = for.place;
      behind = for.behind;
      fields = subst (λ kind. KeepsFields piece_meaning made kind (Rattle.hs_base.specs.Regions.place_form p) p.piece) (sym same.kind.is) (keeps-fields graph made was.kind same.kind.new (Rattle.hs_base.specs.Regions.place_form p) p.piece refl for.fields);
    }

    own-field : (was own : Node) (role : ℕ) → IsRenamedNode olds news was own → IsOwnField piece_meaning graph plan was role → IsOwnField piece_meaning made plan own role
    own-field was own role same field = record { start = same.start ∙ field.start; end = same.end ∙ field.end }

    field-kept : (k : ℕ) (own : Node) → slice_get owns.items k ≡ Some own → keeps_field own.kind ≡ true → HasField piece_meaning made plan runs.pieces k own
    field-kept k own now keeps =
        let same = is k own now in
        let was = node k own now in
        let has = runs.fields k was (there k own now) (sym (keeps-as was.kind same.kind.new) ∙ (ap keeps_field (sym same.kind.is) ∙ keeps)) in record {
          role = has.role;
          p = has.p;
          runs = node-for k was own has.role has.p same now has.runs;
          own = own-field was own has.role same has.own;
        }

    role-kept : (role : ℕ) (p : Place) → HasNode piece_meaning graph plan runs.pieces role p → HasNode piece_meaning made plan runs.pieces role p
    role-kept role p has =
        let (own, now) = new-node are.renamed has.k has.node has.runs.there in
        let same = are.renamed.each has.k has.node own has.runs.there now in record {
          k = has.k;
          node = own;
          runs = node-for has.k has.node own role p same now has.runs;
          kept = elim has.kept [
            | inl field ↦ inl (own-field has.node own role same field)
            | inr copied ↦ inr (record { number = copied.number; copy = copied.copy; there = copied.there; node = copied.node; field = copied.field })
          ];
        }

    pub plan-kept : RunsPlan piece_meaning made news plan
    plan-kept = record {
      is_plan = runs.is_plan;
      spans = runs.spans;
      ids = runs.ids;
      singles = runs.singles;
      single = runs.single;
      pieces = runs.pieces;
      nodes = nodes-kept;
      no_pieces = ap runs.pieces count ∙ runs.no_pieces;
      terminals = runs.terminals;
      fields = field-kept;
      roles = λ role p at keeps. role-kept role p (runs.roles role p at keeps);
    }

-- The first field of a region that breaks its rule, from the first node and the first copy that do.
use Rattle.std.proofs.Common.{◌≡◌, ℕ, ◌+◌, ◌-◌, ◌<◌, ◌≤◌, List, length, min, Option, Some, None, IfSome, slice_get, refl, sym, ap, subst, ◌∙◌, inl, inr, arith}
use Rattle.std.specs.Prelude.{slice_index}
use Rattle.std.proofs.lemmas.Bool.{cases_eq, cases_lt}
use Rattle.std.proofs.lemmas.Option.{same_Some}
use Rattle.hs_base.specs.Literals.{LiteralByte}
use Rattle.hs_engine.specs.Engines.{Meaning}
use Rattle.hs_layout.specs.Layouts.{Laid, laid_size}
use Rattle.hs_nodes.specs.Graphs.{IsGraphSound}
use Rattle.hs_nodes.specs.Nodes.{IsKindSound}
use Rattle.hs_nodes.specs.declared.graph.FieldCopy.{FieldCopy}
use Rattle.hs_nodes.specs.declared.graph.Graph.{Graph}
use Rattle.hs_nodes.specs.declared.table.Node.{Node}
use Rattle.hs_nodes.specs.declared.table.NodeKind.{NodeKind}
use Rattle.hs_nodes.specs.declared.table.NodeKind.TheVariants.{Engine, Literal, FirstLiteral, LookBack}
use Rattle.hs_regions.specs.Checking.{IsPartSized}
use Rattle.hs_regions.specs.Faults.{AreCopiesWellBefore, AreFieldsWellBefore, AreNodesWellBefore, IsCopyFault, IsFieldFault, IsKeptIn, IsNodeFault, IsWellIn, own, copied}

pub some-map : {P Q : ℕ → Type 0} (o : Option ℕ) → ((n : ℕ) → P n → Q n) → IfSome o P → IfSome o Q
some-map None f is = is
some-map (Some n) f is = f n is

module _ {E : Type 0} (meaning : E → Meaning) where
  pub kind-sized : (engines : List E) (literals : ℕ) (kind : NodeKind) (size : ℕ) → IsKindSound meaning engines literals kind size → IsPartSized meaning engines kind size
  kind-sized engines literals (Engine number null) size sound = sound
  kind-sized engines literals (Literal number len) size sound = (sound.2, sound.3)
  kind-sized engines literals (FirstLiteral number len) size sound = tt
  kind-sized engines literals (LookBack pair) size sound = tt

  module _ (graph : Graph E) (literals : List (List LiteralByte)) (l : Laid) (sound : IsGraphSound meaning graph literals l) (region : List ℕ) (at : ℕ) where
    abbrev WellIn : NodeKind → (low high : ℕ) → Type 0
    WellIn = IsWellIn meaning graph region at

    abbrev NodesBefore : ℕ → Type 0
    NodesBefore = AreNodesWellBefore meaning graph region at

    abbrev CopiesBefore : ℕ → Type 0
    CopiesBefore = AreCopiesWellBefore meaning graph region at l

    abbrev NodeFault : ℕ → Type 0
    NodeFault = IsNodeFault meaning graph region at

    abbrev CopyFault : ℕ → Type 0
    CopyFault = IsCopyFault meaning graph region at l

    abbrev FieldFault : ℕ → Type 0
    FieldFault = IsFieldFault meaning graph region at l

    well-as : (kind kind' : NodeKind) (low low' high high' : ℕ) → kind ≡ kind' → low ≡ low' → high ≡ high' → WellIn kind' low' high' → WellIn kind low high
    well-as kind kind' low low' high high' e f h well = subst (λ k. WellIn k low high) (sym e) (subst (λ n. WellIn kind' n high) (sym f) (subst (λ n. WellIn kind' low' n) (sym h) well))

    nodes-before : (place p : ℕ) → NodeFault place → p ≤ place → NodesBefore p
    nodes-before place p fault below k node is low = elim (cases_lt k fault.number) [
      | inl early ↦ fault.before k node early is (omega (arith, low, below))
      | inr late ↦ absurd (elim (cases_eq k fault.number) [
        | inl same ↦
            let one : node ≡ fault.node = same_Some node fault.node (sym is ∙ (ap (slice_get graph.table.nodes.items) same ∙ fault.there)) in
            let begin : node.start ≡ fault.node.start = ap (λ (n : Node). n.start) one in
            omega (arith, begin, fault.begin, below, low)
        | inr other ↦
            let behind : fault.node.end ≤ node.start = sound.table.apart fault.number k fault.node node (omega (arith, late, other)) fault.there is in
            let order : fault.node.start ≤ fault.node.end = sound.table.order fault.number fault.node fault.there in
            omega (arith, behind, order, fault.begin, below, low)
      ])
    ]

    copies-before : (place p : ℕ) → CopyFault place → p ≤ place → CopiesBefore p
    copies-before place p fault below i copy node is there low = elim (cases_lt i fault.number) [
      | inl early ↦ fault.before i copy node early is there (omega (arith, low, below))
      | inr late ↦ absurd (elim (cases_eq i fault.number) [
        | inl same ↦
            let one : copy ≡ fault.copy = same_Some copy fault.copy (sym is ∙ (ap (slice_get graph.copies.items) same ∙ fault.there)) in
            let begin : slice_index l.starts copy.field ≡ slice_index l.starts fault.copy.field = ap (λ (n : FieldCopy). slice_index l.starts n.field) one in
            omega (arith, begin, fault.begin, below, low)
        | inr other ↦
            let rising : fault.copy.field < copy.field = sound.fits.rising fault.number i fault.copy copy (omega (arith, late, other)) fault.there is in
            let inside : copy.field + 1 < length l.starts = (sound.fits.copies i copy is).within in
            let order : slice_index l.starts fault.copy.field ≤ slice_index l.starts copy.field = sound.fits.apart.rising fault.copy.field copy.field (omega (arith, rising)) (omega (arith, inside)) in
            omega (arith, order, fault.begin, below, low)
      ])
    ]

    -- none does, where no node and no copy does
    pub none-breaks : (bound : ℕ) → NodesBefore bound → CopiesBefore bound → AreFieldsWellBefore meaning graph region at l bound
    none-breaks bound nodes copies other low high (own k node is kind_is low_is high_is) less =
        well-as other node.kind low node.start high node.end kind_is low_is high_is (nodes k node is (omega (arith, less, low_is)))
    none-breaks bound nodes copies other low high (copied i copy node is of_node kind_is low_is high_is) less =
        well-as other node.kind low (slice_index l.starts copy.field) high (slice_index l.starts (copy.field + 1)) kind_is low_is high_is (copies i copy node is of_node (omega (arith, less, low_is)))

    field-fault : (place end : ℕ) (kind : NodeKind) → IsKeptIn graph l kind place end → (WellIn kind place end → ⊥) → NodesBefore place → CopiesBefore place → FieldFault place
    field-fault place end kind there breaks nodes copies = record { kind = kind; end = end; there = there; before = none-breaks place nodes copies; breaks = breaks }

    node-field : (place : ℕ) → NodeFault place → CopiesBefore place → FieldFault place
    node-field place fault copies =
        field-fault place fault.node.end fault.node.kind (own fault.number fault.node fault.there refl fault.begin refl)
        (λ well. fault.breaks (well-as fault.node.kind fault.node.kind fault.node.start place fault.node.end fault.node.end refl (sym fault.begin) refl well))
        (nodes-before place place fault (omega arith)) copies

    copy-field : (place : ℕ) → CopyFault place → NodesBefore place → FieldFault place
    copy-field place fault nodes =
        let low : ℕ = slice_index l.starts fault.copy.field in
        let high : ℕ = slice_index l.starts (fault.copy.field + 1) in
        field-fault place high fault.node.kind (copied fault.number fault.copy fault.node fault.there fault.of_node refl fault.begin refl)
        (λ well. fault.breaks (well-as fault.node.kind fault.node.kind low place high high refl (sym fault.begin) refl well))
        nodes (copies-before place place fault (omega arith))

    cut : (place bound : ℕ) → place < bound → NodesBefore bound → NodesBefore place
    cut place bound early all k node is low = all k node is (omega (arith, early, low))

    -- only a node's own field may break its rule
    pub node-alone : (place bound : ℕ) → place < bound → CopiesBefore bound → NodeFault place → FieldFault place
    node-alone place bound early copies fault = node-field place fault (λ i copy node is there low. copies i copy node is there (omega (arith, early, low)))

    -- only a copy may
    pub copy-alone : (place bound : ℕ) → place < bound → NodesBefore bound → CopyFault place → FieldFault place
    copy-alone place bound early nodes fault = copy-field place fault (cut place bound early nodes)

    -- both do
    pub least-fault : (a b place : ℕ) → place ≡ min a b → NodeFault a → CopyFault b → FieldFault place
    least-fault a b place is node copy = elim (cases_lt b a) [
      | inl below ↦ subst FieldFault (let e : b ≡ place = omega (arith, is, below) in e) (copy-field b copy (nodes-before a b node (omega (arith, below))))
      | inr above ↦ subst FieldFault (let e : a ≡ place = omega (arith, is, above) in e) (node-field a node (copies-before b a copy above))
    ]

    pub fault-within : (place : ℕ) → FieldFault place → place ≤ laid_size l
    fault-within place fault = within fault.kind fault.end fault.there
      where
        within : (kind : NodeKind) (end : ℕ) → IsKeptIn graph l kind place end → place ≤ laid_size l
        within kind end (own k node is kind_is low_is high_is) =
            let order : node.start ≤ node.end = sound.table.order k node is in
            let inside : node.end ≤ laid_size l = sound.table.within k node is in
            omega (arith, order, inside, low_is)
        within kind end (copied i copy node is of_node kind_is low_is high_is) =
            let there : copy.field + 1 < length l.starts = (sound.fits.copies i copy is).within in
            let inside : slice_index l.starts copy.field ≤ laid_size l = sound.fits.apart.rising copy.field (length l.starts - 1) (omega (arith, there)) (omega (arith, there)) in
            omega (arith, inside, low_is)

-- The nodes of roles, with one step more.
use Rattle.std.proofs.Common.{◌≡◌, ◌⊎◌, ℕ, zero, suc, ◌+◌, ◌<◌, ◌≤◌, true, false, List, [], ◌∷◌, ◌++◌, length, flat_map, Option, Some, None, slice_get, refl, sym, ap, ◌∙◌, subst, inl, inr, arith}
use Rattle.std.proofs.lemmas.Bool.{cases_eq, cases_lt, false≢true}
use Rattle.std.proofs.lemmas.List.{append-nil, length-map}
use Rattle.std.proofs.lemmas.Option.{same_Some, slice_get_within}
use Rattle.hs_forest.proofs.ListLemmas.{map-value, snoc-parts, snoc-some}
use Rattle.hs_forest.proofs.PathLemmas.{IsNode, path-node, path-some}
use Rattle.hs_forest.specs.Forests.{ForestTables, beginnings, path_to}
use Rattle.hs_layout.specs.Layouts.{Laid}
use Rattle.hs_nodes.specs.Graphs.{keeps_field}
use Rattle.hs_nodes.specs.declared.graph.FieldCopy.{FieldCopy}
use Rattle.hs_nodes.specs.declared.table.Node.{Node}
use Rattle.hs_nodes.specs.declared.table.NodeKind.{NodeKind}
use Rattle.hs_rose.specs.declared.role.Role.{Role}
use Rattle.hs_rose.specs.Programs.{Tables}
use Rattle.hs_rose.proofs.ListLemmas.{get-behind, get-left, get-push, zip-left, zip-length}
use Rattle.hs_compile.specs.declared.node_lists.NodeLists.{NodeLists}
use Rattle.hs_compile.specs.declared.step.Step.{Step}
use Rattle.hs_compile.specs.GraphBuilding.{AreAllNodes}
use Rattle.hs_compile.specs.GraphKinds as kinds
use Rattle.hs_compile.specs.GraphKinds.{IsKindAt, IsKindOf}
use Rattle.hs_compile.specs.GraphNodes as links
use Rattle.hs_compile.specs.GraphNodes.{AreNodes, AreNodesTo, AreRising, AreRisingCopies, EndsWithKey, HasNodeOf, HasPlace, IsAmongCopies, IsCopyOf, IsLinked, IsNodeOfRole, IsNodeOfStep, IsOwnNode, IsStepAdded, IsStepped, added, copied, owns, passed, shares}
use Rattle.hs_compile.specs.GraphSteps as steps_are
use Rattle.hs_compile.specs.GraphSteps.{AreKeysTo, HasKind, IsForestFor, IsStepOf}
use Rattle.hs_compile.specs.GraphTables.{IsLaidFor, IsReady, LooksBack}
use Rattle.hs_compile.proofs.GraphListLemmas.{get-read, length-push}
use Rattle.hs_compile.proofs.KeyLemmas.{no-keys, same-group, same-keeps}
use Rattle.hs_compile.proofs.PlaceLemmas.{starts-count}

-- nothing is built
pub no-nodes : (t : Tables) (l : Laid) (steps : List Step) (numbers : List ℕ) (parents : List (Option ℕ)) (paths : List (List ℕ)) (lists : NodeLists) → lists.nodes.items ≡ [] → lists.copies.items ≡ [] → AreNodesTo t l steps numbers parents paths 0 lists
no-nodes t l steps numbers parents paths lists nodes copies = record {
  owned = [];
  count = sym (ap length nodes);
  each = λ k i node at own. absurd (cc);
  parent = λ k node at. absurd (let e : slice_get [] k ≡ Some node = ap (λ ns. slice_get ns k) (sym nodes) ∙ at in cc);
  rising = λ j k a b order at at'. absurd (cc);
  stepped = λ k i own. absurd (cc);
  known = λ x k low at. absurd (omega (arith, low));
  needed = λ k low. absurd (omega (arith, low));
  all = λ x step low at. absurd (omega (arith, low));
  copies_are = λ c copy at. absurd (let e : slice_get [] c ≡ Some copy = ap (λ xs. slice_get xs c) (sym copies) ∙ at in cc);
  copies_stepped = λ c copy at. absurd (let e : slice_get [] c ≡ Some copy = ap (λ xs. slice_get xs c) (sym copies) ∙ at in cc);
  copies_rising = λ i j a b order at at'. absurd (let e : slice_get [] i ≡ Some a = ap (λ xs. slice_get xs i) (sym copies) ∙ at in cc);
}

module _ (t : Tables) (l : Laid) (steps : List Step) (forest : ForestTables) (f : IsForestFor t steps forest) where
  abbrev pub paths : List (List ℕ)
  paths = f.forest_is.paths

  -- the path of the node of a step
  pub record HasPath (x k : ℕ) (step : Step) : Type 0 where
    pub path : List ℕ
    pub there : slice_get f.forest_is.paths k ≡ Some path
    pub is : IsStepOf t step path

  pub has-path : (x k : ℕ) (step : Step) → slice_get steps x ≡ Some step → slice_get forest.nodes x ≡ Some k → HasPath x k step
  has-path x k step at at' =
      let (path, path_at, is) = zip-left (IsStepOf t) steps (flat_map beginnings f.keys ++ []) f.steps_are.are.each x step at in
      let (own, own_at, there) = map-value (λ n. slice_get paths n) forest.nodes (flat_map beginnings f.keys) f.forest_is.nodes x k at' in
      let same : own ≡ path = same_Some own path (sym own_at ∙ (ap (λ zs. slice_get zs x) (sym (append-nil (flat_map beginnings f.keys))) ∙ path_at)) in
      record { path = path; there = there ∙ ap Some same; is = is }

  pub steps-count : length steps ≡ length forest.nodes
  steps-count =
      let all = zip-length (IsStepOf t) steps (flat_map beginnings f.keys ++ []) f.steps_are.are.each in
      let flat = ap length (append-nil (flat_map beginnings f.keys)) in
      let nodes = ap length f.forest_is.nodes in
      omega (arith, all, flat, nodes, length-map forest.nodes (λ n. slice_get paths n), length-map (flat_map beginnings f.keys) (λ (zs : List ℕ). Some zs))

  -- the field of a step's role is there
  pub step-within : IsLaidFor t l → (k : ℕ) (step : Step) → slice_get steps k ≡ Some step → step.role + 1 < length l.starts
  step-within laid k step at =
      let (path, path_at, is) = zip-left (IsStepOf t) steps (flat_map beginnings f.keys ++ []) f.steps_are.are.each k step at in
      omega (arith, slice_get_within t.roles step.role is.has.role is.has.there, starts-count t l laid)

  -- the node of a step is that of its role
  abbrev node_of : (k : ℕ) (step : Step) (path : List ℕ) → slice_get paths k ≡ Some path → IsStepOf t step path → IsNodeOfRole t paths k step.role
  node_of k step path there is = record {
    number = is.number;
    chain = is.chain;
    chain_there = is.chain_there;
    low = is.low;
    high = is.high;
    role = is.has.role;
    role_there = is.has.there;
    alone = is.has.alone;
    path = path;
    path_there = there;
    keys = steps_are.goes_on (suc step.role) path step.role is.key step.kind is.front is.low refl is.has is.key_is is.keys_are is.before;
  }

  -- how the node of a step is linked
  module _ (ready : IsReady t) (k : ℕ) (step : Step) (path : List ℕ) (there : slice_get paths k ≡ Some path) (is : IsStepOf t step path) (parent : Option ℕ) (parent_is : slice_get forest.parents k ≡ Some parent) where
    abbrev first : ℕ
    first = is.chain.first

    node : IsNode forest.parents forest.keys paths k path
    node = path-node forest.parents forest.keys paths k path f.forest_is.are_paths there

    same-parent : node.parent ≡ parent
    same-parent = same_Some node.parent parent (sym node.parent_is ∙ parent_is)

    front-path : path_to paths parent ≡ Some is.front
    front-path =
        ap (path_to paths) (sym same-parent) ∙ (node.before ∙ ap Some (sym (snoc-parts is.front node.front is.key node.key (sym is.keys_are ∙ node.path_is)).0))

    no-parent : (p : Option ℕ) → path_to paths p ≡ Some is.front → is.front ≡ [] → p ≡ None
    no-parent None at none = refl
    no-parent (Some p) at none = absurd (path-some forest.parents forest.keys paths p f.forest_is.are_paths (at ∙ ap Some none))

    has-parent : (p : Option ℕ) (front : List ℕ) (key : ℕ) → path_to paths p ≡ Some is.front → is.front ≡ front ++ key ∷ [] → (q : ℕ) × (p ≡ Some q) × (slice_get paths q ≡ Some is.front)
    has-parent None front key at some = absurd (snoc-some front key (sym some ∙ sym (same_Some [] is.front at)))
    has-parent (Some q) front key at some = (q, refl, at)

    earlier : (q : ℕ) → parent ≡ Some q → q < k
    earlier q some = f.forest_is.are_paths.earlier k q (parent_is ∙ ap Some some)

    own-kind : (r : Role) → slice_get t.roles step.role ≡ Some r → IsKindOf t r step.kind → IsKindOf t is.has.role step.kind
    own-kind r at kind = subst (λ (q : Role). IsKindOf t q step.kind) (same_Some r is.has.role (sym at ∙ is.has.there)) kind

    linked-alone : (r : Role) → slice_get t.roles step.role ≡ Some r →
        ((j : ℕ) (before : Role) → first < step.role → suc j ≡ step.role → slice_get t.roles j ≡ Some before → LooksBack before → ⊥) → IsKindOf t r step.kind → AreKeysTo t first step.role is.front →
        IsLinked t paths first k step.role is.has.role parent step.kind
    linked-alone r at alone kind (steps_are.begins m ks begins_at none) = links.begins begins_at (no-parent parent front-path none) (own-kind r at kind)
    linked-alone r at alone kind (steps_are.passes m ks j q below next q_there back before) = absurd (alone j q (omega (arith, below, next)) next q_there back)
    linked-alone r at alone kind (steps_are.goes_on m ks j key own_kind front below next has key_is same before) =
        let (q, some, q_there) = has-parent parent front key front-path same in
        links.goes_on j q (omega (arith, below, next)) next some (earlier q some)
        (record {
          number = is.number;
          chain = is.chain;
          chain_there = is.chain_there;
          low = below;
          high = omega (arith, next, is.high);
          role = has.role;
          role_there = has.there;
          alone = has.alone;
          path = is.front;
          path_there = q_there;
          keys = subst (λ n. AreKeysTo t first n is.front) (sym next) is.before;
        }) (own-kind r at kind)

    -- nothing stands before a pair
    no-front : (j : ℕ) (before : Role) → first < step.role → suc j ≡ step.role → slice_get t.roles j ≡ Some before → LooksBack before → AreKeysTo t first step.role is.front → is.front ≡ []
    no-front j before later next before_there back (steps_are.begins m ks begins_at none) = none
    no-front j before later next before_there back (steps_are.passes m ks i q below next' q_there back' front) =
        no-keys t first i is.front (ready.looks_first is.number i is.chain q is.chain_there below (omega (arith, next', is.high)) q_there back') front
    no-front j before later next before_there back (steps_are.goes_on m ks i key own_kind front below next' has key_is same before_are) =
        let one : i ≡ j = omega (arith, next, next') in
        absurd (has.alone (subst LooksBack (same_Some before has.role (sym before_there ∙ (ap (slice_get t.roles) (sym one) ∙ has.there))) back))

    linked-by : IsKindAt t first step.role step.kind → IsLinked t paths first k step.role is.has.role parent step.kind
    linked-by (kinds.by_itself r at alone kind) = linked-alone r at alone kind is.before
    linked-by (kinds.paired j before r later next before_there at is_pair) =
        links.behind j before later next before_there (no-parent parent front-path (no-front j before later next before_there is_pair.looks_back is.before))
        (subst (λ (q : Role). kinds.IsPairOf t before q step.kind) (same_Some r is.has.role (sym at ∙ is.has.there)) is_pair)

    pub linked : IsLinked t paths first k step.role is.has.role parent step.kind
    linked = linked-by is.has.is

  -- one step more
  module _ (ready : IsReady t) (n m : ℕ) (m_is : m ≡ n + 1) (before now : NodeLists) (to : AreNodesTo t l steps forest.nodes forest.parents paths n before) (step : Step) (number : ℕ) (parent : Option ℕ) (at : slice_get steps n ≡ Some step)
      (at' : slice_get forest.nodes n ≡ Some number) (parent_is : slice_get forest.parents number ≡ Some parent) where
    abbrev owned : List ℕ
    owned = to.owned

    abbrev nodes : List Node
    nodes = before.nodes.items

    abbrev copies : List FieldCopy
    copies = before.copies.items

    own-path : HasPath n number step
    own-path = has-path n number step at at'

    abbrev node_is : IsNodeOfRole t paths number step.role
    node_is = node_of number step own-path.path own-path.there own-path.is

    -- what was stepped stays so, and has a lesser role
    stepped-more : (i : ℕ) → IsStepped steps n i → IsStepped steps m i
    stepped-more i has = record { place = has.place; step = has.step; there = has.there; before = omega (arith, has.before, m_is); role = has.role }

    stepped-now : IsStepped steps m step.role
    stepped-now = record { place = n; step = step; there = at; before = omega (arith, m_is); role = refl }

    stepped-low : (i : ℕ) → IsStepped steps n i → i < step.role
    stepped-low i has = omega (arith, has.role, f.steps_are.are.rising has.place n has.step step has.before has.there at)

    -- a step before, or this one
    which : (x : ℕ) → x < m → (x < n) ⊎ (x ≡ n)
    which x low = elim (cases_lt x n) [ inl less ↦ inl less | inr past ↦ inr (omega (arith, past, low, m_is)) ]

    -- the node is one of those that are there, or the next one
    number-low : number ≤ length owned
    number-low = elim (cases_lt (length owned) number) [
      | inl more ↦ absurd (too-far more)
      | inr low ↦ low
    ]
      where
        too-far : length owned < number → ⊥
        too-far more =
            let inside : number < length paths = slice_get_within paths number own-path.path own-path.there in
            let has = f.forest_is.order (length owned) (omega (arith, more, inside, f.forest_is.are_paths.count)) in
            elim (cases_lt has.place n) [
              | inl less ↦ let low : length owned < length owned = to.known has.place (length owned) less has.there in omega (arith, low)
              | inr past ↦ elim (cases_eq has.place n) [
                | inl same ↦
                    let one : number ≡ length owned = same_Some number (length owned) (sym at' ∙ (ap (slice_get forest.nodes) (sym same) ∙ has.there)) in
                    omega (arith, one, more)
                | inr apart ↦ let low = has.before n number (omega (arith, past, apart)) at' in omega (arith, low, more)
              ]
            ]

    -- what had a node keeps it
    has-more : (owned' : List ℕ) (nodes' : List Node) (copies' : List FieldCopy) → ((k i : ℕ) → slice_get owned k ≡ Some i → slice_get owned' k ≡ Some i) → ((k : ℕ) (node : Node) → slice_get nodes k ≡ Some node → slice_get nodes' k ≡ Some node) →
        ((k : ℕ) (copy : FieldCopy) → slice_get copies k ≡ Some copy → slice_get copies' k ≡ Some copy) → (i : ℕ) → HasNodeOf t paths owned nodes copies i → HasNodeOf t paths owned' nodes' copies' i
    has-more owned' nodes' copies' kept kept' kept'' i (owns k own) = owns k (kept k i own)
    has-more owned' nodes' copies' kept kept' kept'' i (shares k node there is among) = shares k node (kept' k node there) is (λ keeps. let has = among keeps in record {
      number = has.number;
      copy = has.copy;
      there = kept'' has.number has.copy has.there;
      node = has.node;
      field = has.field;
    })

    -- a new node
    module _ (node : Node) (last : number ≡ length nodes) (of : IsNodeOfStep l step parent node) (nodes_are : now.nodes.items ≡ nodes ++ node ∷ []) (copies_are : now.copies.items ≡ copies) where
      own-node : IsOwnNode t l paths number step.role node
      own-node = record {
        is = node_is;
        ends = record {
          front = own-path.is.front;
          key = own-path.is.key;
          is = own-path.is.keys_are;
          key_is = subst (λ (k : NodeKind). steps_are.IsKeyOf k own-path.is.key) (sym of.kind) own-path.is.key_is;
        };
        linked = subst (λ (k : NodeKind). IsLinked t paths own-path.is.chain.first number step.role own-path.is.has.role node.parent k) (sym of.kind)
            (subst (λ (p : Option ℕ). IsLinked t paths own-path.is.chain.first number step.role own-path.is.has.role p step.kind) (sym of.parent_is) (linked ready number step own-path.path own-path.there own-path.is parent parent_is));
        start = of.start;
        end = of.end;
      }

      abbrev owned' : List ℕ
      owned' = owned ++ step.role ∷ []

      each-new : (k i : ℕ) (own : Node) → (slice_get nodes k ≡ Some own) ⊎ ((k ≡ length nodes) × (node ≡ own)) → (slice_get owned k ≡ Some i) ⊎ ((k ≡ length owned) × (step.role ≡ i)) → IsOwnNode t l paths k i own
      each-new k i own (inl there) (inl there') = to.each k i own there there'
      each-new k i own (inl there) (inr end) = absurd (omega (arith, slice_get_within nodes k own there, end.0, to.count))
      each-new k i own (inr end) (inl there') = absurd (omega (arith, slice_get_within owned k i there', end.0, to.count))
      each-new k i own (inr end) (inr end') =
          subst (λ (x : Node). IsOwnNode t l paths k i x) end.1 (subst (λ q. IsOwnNode t l paths q i node) (last ∙ sym end.0) (subst (λ q. IsOwnNode t l paths number q node) end'.1 own-node))

      rising-new : (j k a b : ℕ) → j < k → (slice_get owned j ≡ Some a) ⊎ ((j ≡ length owned) × (step.role ≡ a)) → (slice_get owned k ≡ Some b) ⊎ ((k ≡ length owned) × (step.role ≡ b)) → a < b
      rising-new j k a b order (inl there) (inl there') = to.rising j k a b order there there'
      rising-new j k a b order (inl there) (inr end) = omega (arith, stepped-low a (to.stepped j a there), end.1)
      rising-new j k a b order (inr end) (inl there') = absurd (omega (arith, end.0, order, slice_get_within owned k b there'))
      rising-new j k a b order (inr end) (inr end') = absurd (omega (arith, end.0, end'.0, order))

      parent-new : (k : ℕ) (own : Node) → (slice_get nodes k ≡ Some own) ⊎ ((k ≡ length nodes) × (node ≡ own)) → slice_get forest.parents k ≡ Some own.parent
      parent-new k own (inl there) = to.parent k own there
      parent-new k own (inr end) =
          ap (slice_get forest.parents) (end.0 ∙ sym last) ∙ (parent_is ∙ ap Some (sym of.parent_is ∙ ap (λ (x : Node). x.parent) end.1))

      copy-kept : (copy : FieldCopy) → IsStepped steps n copy.field → IsCopyOf t paths owned copy → IsCopyOf t paths owned' copy
      copy-kept copy stepped is = record {
        known = omega (arith, is.known, length-push owned step.role);
        is = is.is;
        apart = λ k own. elim (get-push owned step.role k copy.field own) [
          | inl old ↦ is.apart k old
          | inr end ↦ omega (arith, stepped-low copy.field stepped, end.1)
        ];
      }

      old-copy : (c : ℕ) (copy : FieldCopy) → slice_get now.copies.items c ≡ Some copy → slice_get copies c ≡ Some copy
      old-copy c copy there = ap (λ xs. slice_get xs c) (sym copies_are) ∙ there

      pub node-added : AreNodesTo t l steps forest.nodes forest.parents paths m now
      node-added = record {
        owned = owned';
        count = omega (arith, length-push owned step.role, ap length nodes_are, length-push nodes node, to.count);
        each = λ k i own there there'. each-new k i own (get-push nodes node k own (ap (λ ns. slice_get ns k) (sym nodes_are) ∙ there)) (get-push owned step.role k i there');
        parent = λ k own there. parent-new k own (get-push nodes node k own (ap (λ ns. slice_get ns k) (sym nodes_are) ∙ there));
        rising = λ j k a b order there there'. rising-new j k a b order (get-push owned step.role j a there) (get-push owned step.role k b there');
        stepped = λ k i own. elim (get-push owned step.role k i own) [
          | inl old ↦ stepped-more i (to.stepped k i old)
          | inr end ↦ subst (λ q. IsStepped steps m q) end.1 stepped-now
        ];
        known = λ x k low there. elim (which x low) [
          | inl less ↦ omega (arith, to.known x k less there, length-push owned step.role)
          | inr same ↦
              let one : number ≡ k = same_Some number k (sym at' ∙ (ap (slice_get forest.nodes) (sym same) ∙ there)) in
              omega (arith, one, last, to.count, length-push owned step.role)
        ];
        needed = λ k low. elim (cases_lt k (length owned)) [
          | inl less ↦ let has = to.needed k less in record { place = has.place; there = has.there; before = omega (arith, has.before, m_is) }
          | inr past ↦
              let one : number ≡ k = omega (arith, last, to.count, past, low, length-push owned step.role) in
              record { place = n; there = at' ∙ ap Some one; before = omega (arith, m_is) }
        ];
        all = λ x own low there. elim (which x low) [
          | inl less ↦ has-more owned' now.nodes.items now.copies.items (λ k i h. get-left owned (step.role ∷ []) k i h)
              (λ k h is. ap (λ ns. slice_get ns k) nodes_are ∙ get-left nodes (node ∷ []) k h is) (λ k h is. ap (λ xs. slice_get xs k) copies_are ∙ is) own.role (to.all x own less there)
          | inr same ↦
              let one : step ≡ own = same_Some step own (sym at ∙ (ap (slice_get steps) (sym same) ∙ there)) in
              subst (λ (s : Step). HasNodeOf t paths owned' now.nodes.items now.copies.items s.role) one (owns (length owned) (get-behind owned step.role))
        ];
        copies_are = λ c copy there. let old = old-copy c copy there in copy-kept copy (to.copies_stepped c copy old) (to.copies_are c copy old);
        copies_stepped = λ c copy there. stepped-more copy.field (to.copies_stepped c copy (old-copy c copy there));
        copies_rising = λ i j a b order there there'. to.copies_rising i j a b order (old-copy i a there) (old-copy j b there');
      }

    -- a node that is there
    module _ (other : number ≡ length nodes → ⊥) (nodes_are : now.nodes.items ≡ nodes) where
      number-within : number < length owned
      number-within = elim (cases_eq number (length owned)) [ inl same ↦ absurd (other (same ∙ to.count)) | inr apart ↦ omega (arith, apart, number-low) ]

      role-apart : (k : ℕ) → slice_get owned k ≡ Some step.role → ⊥
      role-apart k own = let low = stepped-low step.role (to.stepped k step.role own) in omega (arith, low)

      old-node : (k : ℕ) (own : Node) → slice_get now.nodes.items k ≡ Some own → slice_get nodes k ≡ Some own
      old-node k own there = ap (λ ns. slice_get ns k) (sym nodes_are) ∙ there

      -- what is there is so for any copies
      with-copies : ((c : ℕ) (copy : FieldCopy) → slice_get copies c ≡ Some copy → slice_get now.copies.items c ≡ Some copy) → HasNodeOf t paths owned now.nodes.items now.copies.items step.role →
          ((c : ℕ) (copy : FieldCopy) → slice_get now.copies.items c ≡ Some copy → IsCopyOf t paths owned copy × IsStepped steps m copy.field) → AreRisingCopies now.copies.items → AreNodesTo t l steps forest.nodes forest.parents paths m now
      with-copies kept has_now copies_are rising = record {
        owned = owned;
        count = to.count ∙ sym (ap length nodes_are);
        each = λ k i node there own. to.each k i node (old-node k node there) own;
        parent = λ k node there. to.parent k node (old-node k node there);
        rising = to.rising;
        stepped = λ k i own. stepped-more i (to.stepped k i own);
        known = λ x k low there. elim (which x low) [
          | inl less ↦ to.known x k less there
          | inr same ↦
              let one : number ≡ k = same_Some number k (sym at' ∙ (ap (slice_get forest.nodes) (sym same) ∙ there)) in
              omega (arith, one, number-within)
        ];
        needed = λ k low. let has = to.needed k low in record { place = has.place; there = has.there; before = omega (arith, has.before, m_is) };
        all = λ x own low there. elim (which x low) [
          | inl less ↦
              has-more owned now.nodes.items now.copies.items (λ k i h. h) (λ k h is. ap (λ ns. slice_get ns k) nodes_are ∙ is) kept own.role (to.all x own less there)
          | inr same ↦
              let one : step ≡ own = same_Some step own (sym at ∙ (ap (slice_get steps) (sym same) ∙ there)) in
              subst (λ (s : Step). HasNodeOf t paths owned now.nodes.items now.copies.items s.role) one has_now
        ];
        copies_are = λ c copy there. (copies_are c copy there).0;
        copies_stepped = λ c copy there. (copies_are c copy there).1;
        copies_rising = rising;
      }

      the-node : (node : Node) × (slice_get nodes number ≡ Some node)
      the-node = get-read nodes number (omega (arith, number-within, to.count))

      -- with a copy of its field
      module _ (copy : FieldCopy) (of_node : copy.node ≡ number) (field_is : copy.field ≡ step.role) (more : now.copies.items ≡ copies ++ copy ∷ []) where
        copy-new : IsCopyOf t paths owned copy
        copy-new = record {
          known = omega (arith, of_node, number-within);
          is = subst (λ k. IsNodeOfRole t paths k copy.field) (sym of_node) (subst (λ i. IsNodeOfRole t paths number i) (sym field_is) node_is);
          apart = λ k own. role-apart k (own ∙ ap Some field_is);
        }

        which-copy : (c : ℕ) (x : FieldCopy) → (slice_get copies c ≡ Some x) ⊎ ((c ≡ length copies) × (copy ≡ x)) → IsCopyOf t paths owned x × IsStepped steps m x.field
        which-copy c x (inl old) = (to.copies_are c x old, stepped-more x.field (to.copies_stepped c x old))
        which-copy c x (inr end) =
            subst (λ (y : FieldCopy). IsCopyOf t paths owned y × IsStepped steps m y.field) end.1 (copy-new, subst (λ i. IsStepped steps m i) (sym field_is) stepped-now)

        rising-copy : (i j : ℕ) (a b : FieldCopy) → i < j → (slice_get copies i ≡ Some a) ⊎ ((i ≡ length copies) × (copy ≡ a)) → (slice_get copies j ≡ Some b) ⊎ ((j ≡ length copies) × (copy ≡ b)) → a.field < b.field
        rising-copy i j a b order (inl old) (inl old') = to.copies_rising i j a b order old old'
        rising-copy i j a b order (inl old) (inr end) = omega (arith, stepped-low a.field (to.copies_stepped i a old), field_is, ap (λ (x : FieldCopy). x.field) end.1)
        rising-copy i j a b order (inr end) (inl old') = absurd (omega (arith, end.0, order, slice_get_within copies j b old'))
        rising-copy i j a b order (inr end) (inr end') = absurd (omega (arith, end.0, end'.0, order))

        push-of : (c : ℕ) (x : FieldCopy) → slice_get now.copies.items c ≡ Some x → (slice_get copies c ≡ Some x) ⊎ ((c ≡ length copies) × (copy ≡ x))
        push-of c x there = get-push copies copy c x (ap (λ xs. slice_get xs c) (sym more) ∙ there)

        pub copy-added : AreNodesTo t l steps forest.nodes forest.parents paths m now
        copy-added =
            with-copies (λ c x old. ap (λ xs. slice_get xs c) more ∙ get-left copies (copy ∷ []) c x old)
            (shares number the-node.0 (ap (λ ns. slice_get ns number) nodes_are ∙ the-node.1) node_is (λ keeps. record {
              number = length copies;
              copy = copy;
              there = ap (λ xs. slice_get xs (length copies)) more ∙ get-behind copies copy;
              node = of_node;
              field = field_is;
            }))
            (λ c x there. which-copy c x (push-of c x there)) (λ i j a b order there there'. rising-copy i j a b order (push-of i a there) (push-of j b there'))

      -- without one, where nothing is kept
      kept-none : keeps_field step.kind ≡ false → keeps_field the-node.0.kind ≡ true → ⊥
      kept-none none keeps =
          let (i, own) = get-read owned number number-within in
          let ends = (to.each number i the-node.0 the-node.1 own).ends in
          let is = (to.each number i the-node.0 the-node.1 own).is in
          let path : is.path ≡ own-path.path = same_Some is.path own-path.path (sym is.path_there ∙ own-path.there) in
          let key : ends.key ≡ own-path.is.key = (snoc-parts ends.front own-path.is.front ends.key own-path.is.key (sym ends.is ∙ (path ∙ own-path.is.keys_are))).1 in
          let groups = same-group the-node.0.kind step.kind own-path.is.key (subst (steps_are.IsKeyOf the-node.0.kind) key ends.key_is) own-path.is.key_is in
          false≢true (sym none ∙ (sym (same-keeps the-node.0.kind step.kind groups.0) ∙ keeps))

      pub copy-passed : keeps_field step.kind ≡ false → now.copies.items ≡ copies → AreNodesTo t l steps forest.nodes forest.parents paths m now
      copy-passed none same =
          with-copies (λ c x old. ap (λ xs. slice_get xs c) same ∙ old)
          (shares number the-node.0 (ap (λ ns. slice_get ns number) nodes_are ∙ the-node.1) node_is (λ keeps. absurd (kept-none none keeps)))
          (λ c x there. let old = ap (λ xs. slice_get xs c) (sym same) ∙ there in (to.copies_are c x old, stepped-more x.field (to.copies_stepped c x old)))
          (λ i j a b order there there'. to.copies_rising i j a b order (ap (λ xs. slice_get xs i) (sym same) ∙ there) (ap (λ xs. slice_get xs j) (sym same) ∙ there'))

    pub nodes-step : IsStepAdded l step parent number before now → AreNodesTo t l steps forest.nodes forest.parents paths m now
    nodes-step (added node last of nodes_are copies_are) = node-added node last of nodes_are copies_are
    nodes-step (copied copy other node_is field_is nodes_are more) = copy-added other nodes_are copy node_is field_is more
    nodes-step (passed other none nodes_are same) = copy-passed other nodes_are none same

  -- all steps are done
  pub nodes-done : (lists : NodeLists) → AreNodesTo t l steps forest.nodes forest.parents paths (length steps) lists → AreAllNodes t l forest.parents paths lists
  nodes-done lists to = record {
    owned = to.owned;
    count = sym to.count ∙ count;
    parent = to.parent;
    are = record {
      count = to.count;
      each = to.each;
      rising = to.rising;
      all = λ i r there alone.
          let has = f.steps_are.are.all i r (slice_get_within t.roles i r there) there alone in
          subst (λ q. HasNodeOf t paths to.owned lists.nodes.items lists.copies.items q) has.role (to.all has.place has.step (slice_get_within steps has.place has.step has.there) has.there);
      copies_are = to.copies_are;
      copies_rising = to.copies_rising;
    };
  }
    where
      high : (m : ℕ) → ((k : ℕ) → k < m → HasPlace forest.nodes (length steps) k) → m ≤ length paths
      high zero needed = omega arith
      high (suc m) needed =
          let has = needed m (omega arith) in
          let (own, own_at, there) = map-value (λ n. slice_get paths n) forest.nodes (flat_map beginnings f.keys) f.forest_is.nodes has.place m has.there in
          omega (arith, slice_get_within paths m own there)

      low : length to.owned < length paths → ⊥
      low less =
          let has = f.forest_is.order (length to.owned) (omega (arith, less, f.forest_is.are_paths.count)) in
          let inside = slice_get_within forest.nodes has.place (length to.owned) has.there in
          let below : length to.owned < length to.owned = to.known has.place (length to.owned) (omega (arith, inside, steps-count)) has.there in
          omega (arith, below)

      count : length to.owned ≡ length paths
      count = elim (cases_lt (length to.owned) (length paths)) [
        | inl less ↦ absurd (low less)
        | inr past ↦ omega (arith, past, high (length to.owned) to.needed)
      ]

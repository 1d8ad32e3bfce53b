-- Lone nodes, node by node.
use Rattle.std.proofs.Common.{◌≡◌, ◌⊎◌, ℕ, zero, suc, ◌+◌, ◌-◌, ◌/◌, ◌%◌, ◌<◌, ◌≤◌, ◌&&◌, ◌||◌, Bool, true, false, not, List, [], ◌∷◌, ◌++◌, length, take, drop, replicate, slice_get, eqb, Option, Some, None, refl, sym, ap, subst, ◌∙◌, inl, inr, arith, length-append}
use Rattle.std.specs.Prelude.{IfSome, is_some, nat_lt, slice_index, slice_index_or}
use Rattle.std.specs.Int.{bit_at}
use Rattle.std.specs.List.{list_any}
use Rattle.std.proofs.lemmas.Bool.{cases_eq, eq-eqb, ne_eqb}
use Rattle.std.proofs.lemmas.List.{get_or-replicate, take-append-drop}
use Rattle.std.proofs.lemmas.Nat.Bits.{bit_at_ones}
use Rattle.std.proofs.lemmas.Option.{get_or_from_slice_get, slice_get-get_or}
use Rattle.hs_base.specs.declared.context.Mask.{Mask}
use Rattle.hs_base.specs.ByteSets.{has}
use Rattle.hs_base.specs.Lists.{Each}
use Rattle.hs_base.proofs.ListLemmas.{each-left, each-right}
use Rattle.hs_bits.specs.Marks.{is_marked}
use Rattle.hs_bits.proofs.PlaceLemmas.{not-less}
use Rattle.hs_bits.proofs.WordLemmas.{words-past}
use Rattle.hs_nodes.specs.Gathering.{terminals_of}
use Rattle.hs_nodes.specs.Graphs.{AreTerminalsSound}
use Rattle.hs_nodes.specs.Lone.{AreParents, IsLoneNode, IsOfOneIdentifier, is_spent_node, is_told_of}
use Rattle.hs_nodes.proofs.NodeLemmas.{mark-stays}
use Rattle.hs_nodes.specs.declared.graph.Graph.{Graph}
use Rattle.hs_nodes.specs.declared.lone.LoneNodes.{LoneNodes}
use Rattle.hs_nodes.specs.declared.table.Node.{Node}
use Rattle.hs_nodes.specs.declared.table.NodeKind.TheVariants.{Engine}
use Rattle.hs_nodes.specs.declared.table.NodeTable.{NodeTable}
use Rattle.hs_reports.specs.declared.terminal.Terminal.{Terminal}

-- each byte is a member
pub all-has : (b : ℕ) → b < 256 → has (record { words = replicate 4 18446744073709551615 }) b ≡ true
unfolding has
all-has b small = ap (λ w. eqb (bit_at w (b % 64)) 1) (get_or-replicate 4 (b / 64) 18446744073709551615 0 (omega arith)) ∙ ap (λ x. eqb x 1) (bit_at_ones 64 (b % 64) (omega arith))

-- a member of a list that was pushed to
pub push-cases : {A : Type 0} (xs : List A) (x y : A) (k : ℕ) → slice_get (xs ++ x ∷ []) k ≡ Some y → (slice_get xs k ≡ Some y) ⊎ ((k ≡ length xs) × (x ≡ y))
push-cases [] x y zero at = inr (refl, (let one : Some x ≡ Some y = at in cc))
push-cases [] x y (suc k) at = absurd (cc)
push-cases (a ∷ xs) x y zero at = inl at
push-cases (a ∷ xs) x y (suc k) at = elim (push-cases xs x y k at) [ inl earlier ↦ inl earlier | inr last ↦ inr (ap suc last.0, last.1) ]

-- those of so many nodes
pub record AreLoneTo {E : Type 0} (graph : Graph E) (identifiers : List (Option ℕ)) (n : ℕ) : Type 0 where
  pub count : length identifiers ≡ n
  pub each : (k p : ℕ) → slice_get identifiers k ≡ Some (Some p) → IsLoneNode graph.table k
  pub owned : (k p : ℕ) → slice_get identifiers k ≡ Some (Some p) → IsOfOneIdentifier graph k p

pub lone-none : {E : Type 0} (graph : Graph E) → AreLoneTo graph [] 0
lone-none graph = record { count = refl; each = λ k p at. absurd (cc); owned = λ k p at. absurd (cc) }

if-some : {A : Type 0} (o : Option A) (P : A → Type 0) (x : A) → o ≡ Some x → IfSome o P → P x
if-some o P x is own = subst (λ v. IfSome v P) is own

pub lone-more : {E : Type 0} (graph : Graph E) (identifiers now : List (Option ℕ)) (n m : ℕ) (found : Option ℕ) → m ≡ n + 1 → now ≡ identifiers ++ found ∷ [] → IfSome found (λ p. IsLoneNode graph.table n) → IfSome found (IsOfOneIdentifier graph n) → AreLoneTo graph identifiers n → AreLoneTo graph now m
lone-more graph identifiers now n m found next is lone owned so_far = record {
  count = omega (arith, ap length is, length-append identifiers (found ∷ []), so_far.count, next);
  each = λ k p at. elim (push-cases identifiers found (Some p) k (ap (λ xs. slice_get xs k) (sym is) ∙ at)) [
    | inl earlier ↦ so_far.each k p earlier
    | inr last ↦ subst (IsLoneNode graph.table) (sym (last.0 ∙ so_far.count)) (if-some found (λ q. IsLoneNode graph.table n) p last.1 lone)
  ];
  owned = λ k p at. elim (push-cases identifiers found (Some p) k (ap (λ xs. slice_get xs k) (sym is) ∙ at)) [
    | inl earlier ↦ so_far.owned k p earlier
    | inr last ↦ subst (λ i. IsOfOneIdentifier graph i p) (sym (last.0 ∙ so_far.count)) (if-some found (IsOfOneIdentifier graph n) p last.1 owned)
  ];
}

-- the parents of so many nodes are marked
abbrev pub AreParentsTo : List Node → (marks : List ℕ) → (n : ℕ) → Type 0
AreParentsTo nodes marks n = (j p : ℕ) (child : Node) → j < n → slice_get nodes j ≡ Some child → child.parent ≡ Some p → is_marked marks p ≡ true

-- the one terminal of a node tells of which identifier matches end there

no-any : (test : Terminal → Bool) (xs : List Terminal) → list_any test xs ≡ false → Each (λ x. test x ≡ false) xs
no-any test [] none = tt
no-any test (x ∷ xs) none = by (test x) refl (no-any test xs) where
  by : (b : Bool) → test x ≡ b → (list_any test xs ≡ false → Each (λ y. test y ≡ false) xs) → (test x ≡ false) × Each (λ y. test y ≡ false) xs
  by true is rest = absurd (cc)
  by false is rest = (is, rest (cc))

each-map : (P Q : Terminal → Type 0) (xs : List Terminal) → ((x : Terminal) → P x → Q x) → Each P xs → Each Q xs
each-map P Q [] f each = tt
each-map P Q (x ∷ xs) f each = (f x each.0, each-map P Q xs f each.1)

one-member : (own : List Terminal) (x : Terminal) → length own ≡ 1 → slice_get own 0 ≡ Some x → own ≡ x ∷ []
one-member [] x one at = absurd (cc)
one-member (y ∷ []) x one at = let same : Some y ≡ Some x = at in let e : y ≡ x = cc in ap (λ z. z ∷ []) e
one-member (y ∷ z ∷ own) x one at = absurd (omega arith)

abbrev is_other : (identifier : ℕ) → Terminal → Bool
is_other identifier t = not (eqb t.identifier identifier)

same-identifier : (k identifier : ℕ) (t : Terminal) → (eqb t.node k && is_other identifier t) ≡ false → t.node ≡ k → t.identifier ≡ identifier
same-identifier k identifier t none here = elim (cases_eq t.identifier identifier) [
  | inl same ↦ same
  | inr apart ↦ absurd (both (eqb t.node k) (eqb t.identifier identifier) (eq-eqb t.node k here) (ne_eqb t.identifier identifier apart) none)
] where
  both : (a b : Bool) → a ≡ true → b ≡ false → (a && not b) ≡ false → ⊥
  both a b holds fails none' = let all : (a && not b) ≡ true = ap (λ c. c && not b) holds ∙ ap not fails in cc

module _ {E : Type 0} (graph : Graph E) (k : ℕ) (own : List Terminal) (x : Terminal) (sound : AreTerminalsSound graph) (there : k < length graph.table.nodes.items) (own_is : own ≡ terminals_of graph k) (one : length own ≡ 1) (at : slice_get own 0 ≡ Some x) where
  alone : own ≡ x ∷ []
  alone = one-member own x one at

  none-here : list_any (is_other x.identifier) own ≡ false
  none-here = ap (list_any (is_other x.identifier)) alone ∙ refuted (eqb x.identifier x.identifier) (eq-eqb x.identifier x.identifier refl) where
    refuted : (b : Bool) → b ≡ true → (not b || false) ≡ false
    refuted b is = ap (λ c. not c || false) is

  pub one-named : Each (λ t. t.node ≡ k → t.identifier ≡ x.identifier) graph.terminals.items
  one-named =
      let none : list_any (λ t. eqb t.node k && is_other x.identifier t) graph.terminals.items ≡ false = sym (sound.of_node k (omega (arith, there)) (is_other x.identifier)) ∙ (ap (list_any (is_other x.identifier)) (sym own_is) ∙ none-here) in
      each-map (λ t. (eqb t.node k && is_other x.identifier t) ≡ false) (λ t. t.node ≡ k → t.identifier ≡ x.identifier) graph.terminals.items (λ t. same-identifier k x.identifier t) (no-any (λ t. eqb t.node k && is_other x.identifier t) graph.terminals.items none)

  -- and that one is known
  pub one-known : x.identifier < length graph.identifiers.items
  one-known =
      let from = slice_index graph.terminal_starts.items k in
      let end = slice_index graph.terminal_starts.items (k + 1) in
      let known = λ (t : Terminal). (t.identifier < length graph.identifiers.items) × (t.node < length graph.table.nodes.items + 1) in
      let all : Each known (take from graph.terminals.items ++ drop from graph.terminals.items) = subst (Each known) (sym (take-append-drop from graph.terminals.items)) sound.known in
      let behind : Each known (take (end - from) (drop from graph.terminals.items) ++ drop (end - from) (drop from graph.terminals.items)) =
      subst (Each known) (sym (take-append-drop (end - from) (drop from graph.terminals.items))) (each-right known (take from graph.terminals.items) (drop from graph.terminals.items) all) in
      let here : Each known own = subst (Each known) (sym own_is) (each-left known (take (end - from) (drop from graph.terminals.items)) (drop (end - from) (drop from graph.terminals.items)) behind) in
      (subst (Each known) alone here).0.0

-- a number behind the words
pub spent-past : (lone : LoneNodes) (told : List ℕ) (k identifier : ℕ) → slice_get lone.identifiers.items k ≡ Some (Some identifier) → length told ≤ identifier / 64 → nat_lt (identifier / 64) (length told) ≡ is_spent_node lone told k
spent-past lone told k identifier at past = not-less (identifier / 64) (length told) past ∙ sym (ap (is_told_of told) at ∙ words-past told identifier (omega (arith, past)))

-- a node of an engine that has neither a parent nor a child
pub lone-node : {E : Type 0} (table : NodeTable E) (k number : ℕ) (null : Option Mask) (node d : Node) (parents : List ℕ) (found : Option ℕ) → k < length table.nodes.items → node ≡ slice_index_or table.nodes.items k d → node.kind ≡ Engine number null → node.parent ≡ None → AreParents table.nodes.items parents → is_marked parents k ≡ false →
    IfSome found (λ p. IsLoneNode table k)
lone-node table k number null node d parents found below is kind_is no_parent are unmarked = if-any found (record {
  node = node;
  there = slice_get-get_or table.nodes.items k d below ∙ ap (λ (n : Node). Some n) (sym is);
  number = number;
  null = null;
  kind_is = kind_is;
  no_parent = no_parent;
  childless = λ j child at parent_is. let both : true ≡ false = sym (are j k child at parent_is) ∙ unmarked in cc;
}) where
  if-any : {A : Type 0} {B : Type 0} (o : Option A) → B → IfSome o (λ p. B)
  if-any None b = tt
  if-any (Some x) b = b

-- the parent of one node more is marked, if it has one
parents-next : (nodes : List Node) (old new : List ℕ) (n m : ℕ) (d : Node) → m ≡ n + 1 → ((k : ℕ) → is_marked old k ≡ true → is_marked new k ≡ true) → ((p : ℕ) → (slice_index_or nodes n d).parent ≡ Some p → is_marked new p ≡ true) →
    AreParentsTo nodes old n → AreParentsTo nodes new m
parents-next nodes old new n m d next kept own so_far j p child low at parent_is = elim (cases_eq j n) [
  | inl same ↦
      let read : slice_index_or nodes n d ≡ child = get_or_from_slice_get nodes n child d (ap (slice_get nodes) (sym same) ∙ at) in
      own p (ap (λ (c : Node). c.parent) read ∙ parent_is)
  | inr apart ↦ kept p (so_far j p child (omega (arith, low, next, apart)) at parent_is)
]

pub parents-some : (nodes : List Node) (old new : List ℕ) (n m parent : ℕ) (d : Node) → m ≡ n + 1 → (slice_index_or nodes n d).parent ≡ Some parent → is_marked new parent ≡ true → ((k : ℕ) → (k ≡ parent → ⊥) → is_marked new k ≡ is_marked old k) →
    AreParentsTo nodes old n → AreParentsTo nodes new m
parents-some nodes old new n m parent d next is put others = parents-next nodes old new n m d next (λ k set. mark-stays old new parent k put others set)
    (λ p is'. let both : Some parent ≡ Some p = sym is ∙ is' in let same : parent ≡ p = cc in subst (λ k. is_marked new k ≡ true) same put)

pub parents-none : (nodes : List Node) (marks : List ℕ) (n m : ℕ) (d : Node) → m ≡ n + 1 → ((p : ℕ) → (slice_index_or nodes n d).parent ≡ Some p → ⊥) → AreParentsTo nodes marks n → AreParentsTo nodes marks m
parents-none nodes marks n m d next none = parents-next nodes marks marks n m d next (λ k set. set) (λ p is. absurd (none p is))

pub no-parent : (o : Option ℕ) (b : Bool) → b ≡ is_some o → b ≡ false → o ≡ None
no-parent None b is none = refl
no-parent (Some p) b is none = let both : true ≡ false = sym is ∙ none in absurd (cc)

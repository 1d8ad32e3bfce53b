-- Bytes that aren't 0 and the nodes that they are kept of, and what holds of engines whose bytes are 0.
use Rattle.std.proofs.Common.{◌≡◌, ℕ, ◌+◌, ◌-◌, ◌<◌, ◌≤◌, true, false, not, List, length, get_or, take, drop, Some, slice_get, sym, ap, subst, ◌∙◌, inl, inr, arith, w64}
use Rattle.std.specs.Int.{from_le_bytes}
use Rattle.std.specs.Slice.Scan.{HoldsNowhere}
use Rattle.std.proofs.lemmas.Bool.{cases_eq, cases_lt, eq-eqb, ne_eqb, false≢true}
use Rattle.std.proofs.lemmas.Option.{same_Some, slice_get_within}
use Rattle.hs_base.specs.Bits.{AreZero}
use Rattle.hs_base.proofs.BitLemmas.{same-places}
use Rattle.hs_engine.specs.Engines.{IsQuiet, IsStart, Meaning}
use Rattle.hs_nodes.specs.Living.{AreInTurn, IsAround, is_live}
use Rattle.hs_bits.specs.Marks.{is_marked}
use Rattle.hs_bits.proofs.ZeroLemmas.{word-zero}
use Rattle.hs_nodes.specs.Nodes.{IsKindSound}
use Rattle.hs_nodes.specs.Resting.{AreEnginesIdle, AreNodesResting, IsIdleEngine, IsResting, IsUnset}
use Rattle.hs_nodes.specs.Walks.{IsTableSound, node_part}
use Rattle.hs_nodes.specs.declared.table.Node.{Node}
use Rattle.hs_nodes.specs.declared.table.NodeKind.{NodeKind}
use Rattle.hs_nodes.specs.declared.table.NodeKind.TheVariants.{Engine, Literal, FirstLiteral, LookBack}
use Rattle.hs_nodes.specs.declared.table.NodeTable.{NodeTable}
use Rattle.hs_nodes.proofs.RangeLemmas.{range-byte, range-length}

-- a byte that isn't live is 0
pub dead-zero : (bytes : List ℕ) (i : ℕ) → is_live bytes i ≡ false → get_or bytes i 0 ≡ 0
dead-zero bytes i dead = elim (cases_eq (get_or bytes i 0) 0) [
  | inl same ↦ same
  | inr apart ↦ absurd (false≢true (sym dead ∙ ap not (ne_eqb (get_or bytes i 0) 0 apart)))
]

pub zero-dead : (bytes : List ℕ) (i : ℕ) → get_or bytes i 0 ≡ 0 → is_live bytes i ≡ false
zero-dead bytes i same = ap not (eq-eqb (get_or bytes i 0) 0 same)

pub nonzero-live : (bytes : List ℕ) (i : ℕ) → (get_or bytes i 0 ≡ 0 → ⊥) → is_live bytes i ≡ true
nonzero-live bytes i apart = ap not (ne_eqb (get_or bytes i 0) 0 apart)

-- eight bytes that are 0 as a word
pub word-dead : (bytes : List ℕ) (at word : ℕ) → ((i : ℕ) → get_or bytes i 0 < 256) → at + 8 ≤ length bytes → word ≡ from_le_bytes w64 (take 8 (drop at bytes)) → word ≡ 0 → (i : ℕ) → at ≤ i → i < at + 8 → is_live bytes i ≡ false
word-dead bytes at word small room is none i low high = zero-dead bytes i (word-zero bytes at word small room is none i low high)

pub nowhere-more : (test : ℕ → _) (from at end : ℕ) → HoldsNowhere test from at → ((i : ℕ) → at ≤ i → i < end → test i ≡ false) → HoldsNowhere test from end
nowhere-more test from at end before more i low high = elim (cases_lt i at) [ inl below ↦ before i low below | inr past ↦ more i past high ]

-- nodes end in their order
pub ends-rise : (nodes : List Node) (size : ℕ) → AreInTurn nodes size → (j k : ℕ) (a b : Node) → j ≤ k → slice_get nodes j ≡ Some a → slice_get nodes k ≡ Some b → a.end ≤ b.end
ends-rise nodes size turn j k a b order at at' = elim (cases_lt j k) [
  | inl less ↦ omega (arith, turn.apart j k a b less at at', turn.order k b at')
  | inr past ↦
      let same : j ≡ k = omega (arith, order, past) in
      let one : a ≡ b = same_Some a b (sym at ∙ (ap (slice_get nodes) same ∙ at')) in
      subst (λ (n : Node). a.end ≤ n.end) one (omega arith)
]

module _ (nodes : List Node) (region : List ℕ) where
  -- Of the nodes that aren't marked those before one keep no live byte, and the others none before a place.
  pub record AreMarkedTo (marks : List ℕ) (past from : ℕ) : Type 0 where
    pub within_past : past ≤ length nodes
    pub within : from ≤ length region
    pub below : (k : ℕ) → is_marked marks k ≡ true → k < length nodes
    pub done : (k : ℕ) (node : Node) → k < past → slice_get nodes k ≡ Some node → is_marked marks k ≡ false → (i : ℕ) → node.start ≤ i → i < node.end → is_live region i ≡ false
    pub rest : (k : ℕ) (node : Node) → past ≤ k → slice_get nodes k ≡ Some node → is_marked marks k ≡ false → (i : ℕ) → node.start ≤ i → i < node.end → i < from → is_live region i ≡ false

  pub marked-none : (marks : List ℕ) → ((k : ℕ) → is_marked marks k ≡ true → k < length nodes) → AreMarkedTo marks 0 0
  marked-none marks below = record {
    within_past = omega arith;
    within = omega arith;
    below = below;
    done = λ k node low. absurd (omega (arith, low));
    rest = λ k node high at off i low end early. absurd (omega (arith, early));
  }

  module _ (turn : AreInTurn nodes (length region)) where
    -- the nodes that end up to the next live byte are passed
    pub marked-pass : (marks : List ℕ) (past from place next : ℕ) → from ≤ place → HoldsNowhere (is_live region) from place → IsAround nodes past place next → AreMarkedTo marks past from →
        (k : ℕ) (node : Node) → k < next → slice_get nodes k ≡ Some node → is_marked marks k ≡ false → (i : ℕ) → node.start ≤ i → i < node.end → is_live region i ≡ false
    marked-pass marks past from place next order none around are k node low at off i start end = elim (cases_lt k past) [
      | inl before ↦ are.done k node before at off i start end
      | inr high ↦
          let up : node.end ≤ place = around.before k node high low at in
          elim (cases_lt i from) [ inl early ↦ are.rest k node high at off i start end early | inr late ↦ none i late (omega (arith, up, end)) ]
    ]

    -- all nodes are, if no live byte is left for one
    pub marked-all : (marks : List ℕ) → ((k : ℕ) (node : Node) → slice_get nodes k ≡ Some node → is_marked marks k ≡ false → (i : ℕ) → node.start ≤ i → i < node.end → is_live region i ≡ false) →
        (k : ℕ) (node : Node) → slice_get nodes k ≡ Some node → is_marked marks k ≡ false → AreZero (node_part region node)
    marked-all marks dead k node at off i low =
        let order = turn.order k node at in
        let count = range-length region node.start node.end order (turn.within k node at) in
        let inner : i < node.end - node.start = omega (arith, low, count) in
        range-byte region node.start node.end i inner ∙ dead-zero region (node.start + i) (dead k node at off (node.start + i) (omega arith) (omega (arith, inner, order)))

    pub marked-end : (marks : List ℕ) (past from : ℕ) → HoldsNowhere (is_live region) from (length region) → AreMarkedTo marks past from → (k : ℕ) (node : Node) → slice_get nodes k ≡ Some node → is_marked marks k ≡ false → (i : ℕ) → node.start ≤ i → i < node.end → is_live region i ≡ false
    marked-end marks past from none are k node at off i start end = elim (cases_lt k past) [
      | inl before ↦ are.done k node before at off i start end
      | inr high ↦ elim (cases_lt i from) [ inl early ↦ are.rest k node high at off i start end early | inr late ↦ none i late (let w : node.end ≤ length region = turn.within k node at in omega (arith, w, end)) ]
    ]

    -- the node about the live byte is marked, if it keeps it
    module _ (marks new : List ℕ) (past from place next : ℕ) (own : Node) (there : slice_get nodes next ≡ Some own) (order : from ≤ place) (none : HoldsNowhere (is_live region) from place) (around : IsAround nodes past place next)
        (kept : (k : ℕ) → is_marked marks k ≡ true → is_marked new k ≡ true) (others : (k : ℕ) → (k ≡ next → ⊥) → is_marked new k ≡ is_marked marks k) (are : AreMarkedTo marks past from) where
      off-before : (k : ℕ) → (k ≡ next → ⊥) → is_marked new k ≡ false → is_marked marks k ≡ false
      off-before k apart off = sym (others k apart) ∙ off

      below-more : (k : ℕ) → is_marked new k ≡ true → k < length nodes
      below-more k on = elim (cases_eq k next) [
        | inl same ↦ let w = slice_get_within nodes next own there in omega (arith, same, w)
        | inr apart ↦ are.below k (sym (others k apart) ∙ on)
      ]

      done-more : (k : ℕ) (node : Node) → k < next → slice_get nodes k ≡ Some node → is_marked new k ≡ false → (i : ℕ) → node.start ≤ i → i < node.end → is_live region i ≡ false
      done-more k node low at off = marked-pass marks past from place next order none around are k node low at (off-before k (λ same. absurd (omega (arith, low, same))) off)

      pub marked-own : is_marked new next ≡ true → AreMarkedTo new next own.end
      marked-own on = record {
        within_past = around.high;
        within = turn.within next own there;
        below = below-more;
        done = done-more;
        rest = λ k node high at off i start end early. elim (cases_eq k next) [
          | inl same ↦ absurd (false≢true (sym off ∙ (ap (λ j. is_marked new j) same ∙ on)))
          | inr apart ↦ absurd (let w = turn.apart next k own node (omega (arith, high, apart)) there at in omega (arith, w, start, early))
        ];
      }

      pub marked-later : AreMarkedTo new next own.start
      marked-later = record {
        within_past = around.high;
        within = let w = turn.within next own there in let o = turn.order next own there in omega (arith, w, o);
        below = below-more;
        done = done-more;
        rest = λ k node high at off i start end early. elim (cases_eq k next) [
          | inl same ↦ absurd (let one : own ≡ node = same_Some own node (sym there ∙ (ap (slice_get nodes) (sym same) ∙ at)) in let s : own.start ≤ i = subst (λ (n : Node). n.start ≤ i) (sym one) start in omega (arith, s, early))
          | inr apart ↦ absurd (let w = turn.apart next k own node (omega (arith, high, apart)) there at in let o = turn.order next own there in omega (arith, w, o, start, early))
        ];
      }

-- what the table says of where nodes lie
pub table-turn : {E : Type 0} (meaning : E → Meaning) (table : NodeTable E) (literals size : ℕ) → IsTableSound meaning table literals size → AreInTurn table.nodes.items size
table-turn meaning table literals size sound = record { order = sound.order; within = sound.within; apart = sound.apart }

module _ {E : Type 0} (meaning : E → Meaning) where
  -- a node rests of which no bit is set
  pub unset-rests : (engines : List E) → AreEnginesIdle meaning engines → (kind : NodeKind) (literals : ℕ) (part : List ℕ) → IsKindSound meaning engines literals kind (length part) → IsUnset kind part → IsResting meaning engines kind part
  unset-rests engines idle (Engine number null) literals part sound unset = λ e there. let own = sound.each e there in idle number e part there own.1 (sym own.0) unset
  unset-rests engines idle (Literal number len) literals part sound unset = unset
  unset-rests engines idle (FirstLiteral number len) literals part sound unset = tt
  unset-rests engines idle (LookBack pair) literals part sound unset = tt

  pub zero-unset : (kind : NodeKind) (part : List ℕ) → AreZero part → IsUnset kind part
  zero-unset (Engine number null) part zeros = zeros
  zero-unset (Literal number len) part zeros = zeros
  zero-unset (FirstLiteral number len) part zeros = tt
  zero-unset (LookBack pair) part zeros = tt

  -- and so one of the table
  pub node-rests : (table : NodeTable E) (literals : ℕ) (region : List ℕ) → IsTableSound meaning table literals (length region) → AreEnginesIdle meaning table.engines.items → (k : ℕ) (node : Node) → slice_get table.nodes.items k ≡ Some node → IsUnset node.kind (node_part region node) →
      IsResting meaning table.engines.items node.kind (node_part region node)
  node-rests table literals region sound idle k node at unset =
      let size = range-length region node.start node.end (sound.order k node at) (sound.within k node at) in
      unset-rests table.engines.items idle node.kind literals (node_part region node) (subst (λ (n : ℕ). IsKindSound meaning table.engines.items literals node.kind n) (sym size) (sound.kinds k node at)) unset

  pub live-resting : (table : NodeTable E) (literals : ℕ) (region marks : List ℕ) → IsTableSound meaning table literals (length region) → AreEnginesIdle meaning table.engines.items → ((k : ℕ) (node : Node) → slice_get table.nodes.items k ≡ Some node → is_marked marks k ≡ false → AreZero (node_part region node)) →
      AreNodesResting meaning table marks region
  live-resting table literals region marks sound idle zeros k node at off = node-rests table literals region sound idle k node at (zero-unset node.kind (node_part region node) (zeros k node at off))

-- two rows of zeros of one length are the same
pub zeros-same : (xs ys : List ℕ) → length xs ≡ length ys → AreZero xs → AreZero ys → xs ≡ ys
zeros-same xs ys len zeros zeros' = same-places xs ys len (λ i low. zeros i low ∙ sym (zeros' i (omega (arith, low, len))))

-- an engine whose cleared region is at rest rests in every region of zeros
pub idle-by : (m : Meaning) (cleared rest part : List ℕ) → rest ≡ cleared → length cleared ≡ m.width → IsStart m cleared → AreZero cleared → ((at : ℕ) → m.well cleared at) → (AreZero rest → IsQuiet m rest) → length part ≡ m.width → AreZero part → IsIdleEngine m part
idle-by m cleared rest part same len starts zeros well quiet size zeros' =
    let own : cleared ≡ part = zeros-same cleared part (len ∙ sym size) zeros zeros' in
    subst (λ (xs : List ℕ). IsIdleEngine m xs) own
    (record { rests = record { quiet = subst (λ (xs : List ℕ). IsQuiet m xs) same (quiet (subst (λ (xs : List ℕ). AreZero xs) (sym same) zeros)); well = well }; starts = starts; sized = len; zero = zeros })

-- the engines below a number are idle
abbrev pub AreIdleTo : {E : Type 0} (meaning : E → Meaning) (engines : List E) (n : ℕ) → Type 0
AreIdleTo {E = E} meaning engines n =
    (number : ℕ) (e : E) (part : List ℕ) → number < n → slice_get engines number ≡ Some e → (meaning e).always ≡ false → length part ≡ (meaning e).width → AreZero part → IsIdleEngine (meaning e) part

pub idle-more : {E : Type 0} (meaning : E → Meaning) (engines : List E) (n : ℕ) (own : E) → slice_get engines n ≡ Some own → ((meaning own).always ≡ false → (part : List ℕ) → length part ≡ (meaning own).width → AreZero part → IsIdleEngine (meaning own) part) → AreIdleTo meaning engines n → AreIdleTo meaning engines (n + 1)
idle-more meaning engines n own there is to number e part low at listed size zeros = elim (cases_eq number n) [
  | inl same ↦
      let one : own ≡ e = same_Some own e (sym there ∙ (ap (slice_get engines) (sym same) ∙ at)) in
      subst (λ x. (meaning x).always ≡ false → length part ≡ (meaning x).width → IsIdleEngine (meaning x) part) one (λ listed' size'. is listed' part size' zeros) listed size
  | inr apart ↦ to number e part (omega (arith, low, apart)) at listed size zeros
]

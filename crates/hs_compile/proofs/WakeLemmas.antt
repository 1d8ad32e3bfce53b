-- The nodes that a chunk may wake.
use Rattle.std.proofs.Common.{◌≡◌, ℕ, zero, suc, ◌+◌, ◌<◌, false, List, [], ◌∷◌, ◌++◌, length, slice_get, Option, Some, None, refl, sym, ap, subst, ◌∙◌, inl, inr, arith}
use Rattle.std.specs.Prelude.{slice_index}
use Rattle.std.specs.List.{All}
use Rattle.std.specs.List.Sorted.{IsPermutation}
use Rattle.std.proofs.lemmas.Bool.{cases_eq, false≢true}
use Rattle.std.proofs.lemmas.List.{get_or_append_left, get_or_default, length-append, length-map}
use Rattle.std.proofs.lemmas.List.Sorted.{All-permutation, Contains-permutation}
use Rattle.std.proofs.lemmas.Option.{same_Some, slice_get_within}
use Rattle.hs_base.specs.Lists.{Each}
use Rattle.hs_base.proofs.ListLemmas.{each-append}
use Rattle.hs_forest.proofs.MemberLemmas.{grouped, listed}
use Rattle.hs_forest.specs.Groups.{AreGroups, AreOwners}
use Rattle.hs_nodes.specs.Waking.{AreWakesSound, IsListed, waking_literal}
use Rattle.hs_nodes.specs.declared.graph.FieldCopy.{FieldCopy}
use Rattle.hs_nodes.specs.declared.table.Node.{Node}
use Rattle.hs_nodes.specs.declared.table.NodeKind.{NodeKind}
use Rattle.hs_nodes.specs.declared.table.NodeKind.TheVariants.{Engine, Literal, FirstLiteral, LookBack}
use Rattle.hs_nodes.specs.declared.wake_table.WakeTable.{WakeTable}
use Rattle.hs_layout.specs.Layouts.{Laid}
use Rattle.hs_rose.specs.declared.kind.Kind.TheVariants as kinds
use Rattle.hs_rose.specs.declared.role.Role.{Role}
use Rattle.hs_rose.specs.Programs.{Tables}
use Rattle.hs_rose.proofs.ListLemmas.{get-map, map-get}
use Rattle.hs_compile.specs.GraphKinds.{IsKindOf, IsPairOf, bare, engine, entered}
use Rattle.hs_compile.specs.GraphNodes.{AreNodes, IsLinked, begins, behind, goes_on}
use Rattle.hs_compile.specs.GraphTables.{IsReady}
use Rattle.hs_compile.specs.GraphWakes.{AreFirstEngines, AreWakeable, is_first_engine, waking_literals}
use Rattle.hs_compile.proofs.GraphListLemmas.{get-read, index-behind, length-push}

-- a bound of each
pub each-below : (bound : ℕ) (xs : List ℕ) → Each (λ x. x < bound) xs → (k : ℕ) → k < length xs → slice_index xs k < bound
each-below bound [] each k low = absurd (omega (arith, low))
each-below bound (x ∷ xs) each zero low = each.0
each-below bound (x ∷ xs) each (suc k) low = each-below bound xs each.1 k (omega (arith, low))

listed-left : (xs ys : List ℕ) (k : ℕ) → IsListed xs k → IsListed (xs ++ ys) k
listed-left xs ys k listed = record {
  place = listed.place;
  within = omega (arith, listed.within, length-append xs ys);
  is = get_or_append_left xs ys 0 listed.place listed.within ∙ listed.is;
}

listed-last : (xs : List ℕ) (n k : ℕ) → k ≡ n → IsListed (xs ++ n ∷ []) k
listed-last xs n k same = record {
  place = length xs;
  within = omega (arith, length-push xs n);
  is = index-behind xs n (length xs) refl ∙ sym same;
}

-- the nodes of engines without a parent
pub no-engines : (nodes : List Node) → AreFirstEngines nodes 0 []
no-engines nodes = record { known = tt; all = λ k node low there is. absurd (omega (arith, low)) }

module _ (nodes : List Node) (n : ℕ) (list : List ℕ) (are : AreFirstEngines nodes n list) where
  pub engine-more : n < length nodes → AreFirstEngines nodes (n + 1) (list ++ n ∷ [])
  engine-more there = record {
    known = each-append (λ k. k < length nodes) list (n ∷ []) are.known (there, tt);
    all = λ k other low there is. elim (cases_eq k n) [
      | inl same ↦ listed-last list n k same
      | inr apart ↦ listed-left list (n ∷ []) k (are.all k other (omega (arith, low, apart)) there is)
    ];
  }

  pub engine-passed : (node : Node) → slice_get nodes n ≡ Some node → is_first_engine node.kind node.parent ≡ false → AreFirstEngines nodes (n + 1) list
  engine-passed node at not = record {
    known = are.known;
    all = λ k other low there is. elim (cases_eq k n) [
      | inl same ↦
          let one : node ≡ other = same_Some node other (sym at ∙ (ap (slice_get nodes) (sym same) ∙ there)) in
          absurd (false≢true (sym not ∙ (ap (λ (x : Node). is_first_engine x.kind x.parent) one ∙ is)))
      | inr apart ↦ are.all k other (omega (arith, low, apart)) there is
    ];
  }

-- the same ones in another order

each-all : (P : ℕ → Type 0) (xs : List ℕ) → Each P xs → All P xs
each-all P [] each k d low = absurd (omega (arith, low))
each-all P (x ∷ xs) each zero d low = each.0
each-all P (x ∷ xs) each (suc k) d low = each-all P xs each.1 k d (omega (arith, low))

all-each : (P : ℕ → Type 0) (xs : List ℕ) → All P xs → Each P xs
all-each P [] all = tt
all-each P (x ∷ xs) all = (all 0 x (omega arith), all-each P xs (λ k d low. all (suc k) d (omega (arith, low))))

listed-moved : (xs ys : List ℕ) (k : ℕ) → IsPermutation xs ys → IsListed xs k → IsListed ys k
listed-moved xs ys k moved listed =
    let (place, within, is) = Contains-permutation xs ys k moved (listed.place, listed.within, get_or_default xs listed.place k 0 listed.within ∙ listed.is) in
    record { place = place; within = within; is = get_or_default ys place 0 k within ∙ is }

pub engines-moved : (nodes : List Node) (n : ℕ) (xs ys : List ℕ) → IsPermutation xs ys → AreFirstEngines nodes n xs → AreFirstEngines nodes n ys
engines-moved nodes n xs ys moved are =
    let P : ℕ → Type 0 = λ k. k < length nodes in record {
      known = all-each P ys (All-permutation P xs ys moved (each-all P xs are.known));
      all = λ k node low there is. listed-moved xs ys k moved (are.all k node low there is);
    }

-- the literals that wake nodes are there
pub waking-owners : (nodes : List Node) (literals : ℕ) → AreWakeable nodes literals → AreOwners (waking_literals nodes) literals
waking-owners nodes literals wakeable k number at =
    let (node, there, wakes) = map-get (λ (x : Node). waking_literal x.kind) nodes k (Some number) at in
    wakeable.known k number node there wakes

-- the whole table
pub wakes-sound : (nodes : List Node) (literals : ℕ) (wakes : WakeTable) → AreWakeable nodes literals → AreGroups (waking_literals nodes) literals wakes.literal_starts.items wakes.literal_nodes.items →
    AreFirstEngines nodes (length nodes) wakes.first_engines.items → AreWakesSound nodes wakes literals
wakes-sound nodes literals wakes wakeable groups engines =
    let owners = waking_literals nodes in
    let starts = wakes.literal_starts.items in
    let list = wakes.literal_nodes.items in record {
      starts_count = groups.count_is;
      rising = λ number low. groups.rising number (suc number) (omega arith) (omega (arith, low));
      within = λ number low. omega (arith, groups.rising (suc number) literals (omega (arith, low)) (omega arith), groups.last);
      by_literal = λ i low.
          let own = grouped owners literals starts list groups i low in
          omega (arith, slice_get_within owners (slice_index list i) (Some own.k) own.owner, length-map nodes (λ (x : Node). waking_literal x.kind));
      engines = each-below (length nodes) wakes.first_engines.items engines.known;
      woken = λ k number node there woken.
          let own = listed owners literals starts list groups k number (wakeable.known k number node there woken) (get-map (λ (x : Node). waking_literal x.kind) nodes k node there ∙ ap Some woken) in
          record { place = own.place; low = own.low; high = own.high; is = own.is };
      entered = λ k number null node there kind_is no_parent.
          engines.all k node (slice_get_within nodes k node there) there (ap (is_first_engine node.kind) no_parent ∙ ap (λ kind. is_first_engine kind None) kind_is);
      behind = wakeable.behind;
    }

pub wakes-same : (nodes nodes' : List Node) (literals literals' : ℕ) (wakes wakes' : WakeTable) → nodes ≡ nodes' → wakes ≡ wakes' → literals ≡ literals' → AreWakesSound nodes wakes literals → AreWakesSound nodes' wakes' literals'
wakes-same nodes nodes' literals literals' wakes wakes' one two three sound =
    subst (λ n. AreWakesSound nodes' wakes' n) three (subst (λ w. AreWakesSound nodes' w literals) two (subst (λ ns. AreWakesSound ns wakes literals) one sound))

-- the nodes of a program's roles

kind-known : (t : Tables) (r : Role) (kind : NodeKind) (number : ℕ) → IsKindOf t r kind → waking_literal kind ≡ Some number → number < length t.literals
kind-known t r kind number (bare len is has same) wakes =
    let e : Some r.number ≡ Some number = sym (ap waking_literal same) ∙ wakes in
    subst (λ n. n < length t.literals) (same_Some r.number number e) (slice_get_within t.literals r.number has.literal has.there)
kind-known t r kind number (entered len is has same) wakes = absurd (let e : None ≡ Some number = sym (ap waking_literal same) ∙ wakes in cc)
kind-known t r kind number (engine null is kept same) wakes = absurd (let e : None ≡ Some number = sym (ap waking_literal same) ∙ wakes in cc)

pair-known : (t : Tables) (before r : Role) (kind : NodeKind) (number : ℕ) → IsPairOf t before r kind → waking_literal kind ≡ Some number → number < length t.literals
pair-known t before r kind number is wakes =
    let e : Some is.pair.literal ≡ Some number = sym (ap waking_literal is.is) ∙ wakes in
    subst (λ n. n < length t.literals) (sym is.literal ∙ same_Some is.pair.literal number e) (slice_get_within t.literals r.number is.len.literal is.len.there)

linked-known : (t : Tables) (paths : List (List ℕ)) (first k i : ℕ) (r : Role) (parent : Option ℕ) (kind : NodeKind) (number : ℕ) → IsLinked t paths first k i r parent kind → waking_literal kind ≡ Some number → number < length t.literals
linked-known t paths first k i r parent kind number (begins at none is) wakes = kind-known t r kind number is wakes
linked-known t paths first k i r parent kind number (behind j before later next there none is) wakes = pair-known t before r kind number is wakes
linked-known t paths first k i r parent kind number (goes_on j p later next some last owns is) wakes = kind-known t r kind number is wakes

kind-entered : (t : Tables) (r : Role) (kind : NodeKind) (number len : ℕ) → IsKindOf t r kind → kind ≡ Literal number len → r.kind ≡ kinds.Literal
kind-entered t r kind number len (bare own is has same) literal = absurd (let e : FirstLiteral r.number own ≡ Literal number len = sym same ∙ literal in cc)
kind-entered t r kind number len (entered own is has same) literal = is
kind-entered t r kind number len (engine null is kept same) literal = absurd (let e : Engine r.number null ≡ Literal number len = sym same ∙ literal in cc)

linked-behind : (t : Tables) (paths : List (List ℕ)) (first k i : ℕ) (r : Role) (parent : Option ℕ) (kind : NodeKind) (number len : ℕ) → IsLinked t paths first k i r parent kind → kind ≡ Literal number len → parent ≡ None → (i ≡ first) × (r.kind ≡ kinds.Literal)
linked-behind t paths first k i r parent kind number len (begins at none is) literal no_parent = (at, kind-entered t r kind number len is literal)
linked-behind t paths first k i r parent kind number len (behind j before later next there none is) literal no_parent = absurd (let e : LookBack is.pair ≡ Literal number len = sym is.is ∙ literal in cc)
linked-behind t paths first k i r parent kind number len (goes_on j p later next some last owns is) literal no_parent = absurd (let e : Some p ≡ None = sym some ∙ no_parent in cc)

pub wakeable : (t : Tables) (l : Laid) (paths : List (List ℕ)) (owned : List ℕ) (nodes : List Node) (copies : List FieldCopy) → IsReady t → AreNodes t l paths owned nodes copies → AreWakeable nodes (length t.literals)
wakeable t l paths owned nodes copies ready are = record {
  known = λ k number node there wakes.
      let (i, owns) = get-read owned k (omega (arith, are.count, slice_get_within nodes k node there)) in
      let own = are.each k i node there owns in
      linked-known t paths own.is.chain.first k i own.is.role node.parent node.kind number own.linked wakes;
  behind = λ k number len node there literal no_parent.
      let (i, owns) = get-read owned k (omega (arith, are.count, slice_get_within nodes k node there)) in
      let own = are.each k i node there owns in
      let (at, kind) = linked-behind t paths own.is.chain.first k i own.is.role node.parent node.kind number len own.linked literal no_parent in
      ready.first own.is.number own.is.chain own.is.role own.is.chain_there (omega (arith, at, own.is.high)) (subst (λ n. slice_get t.roles n ≡ Some own.is.role) at own.is.role_there) kind;
}

-- The terminals of chains, by the last nodes of the chains.
use Rattle.std.proofs.Common.{◌≡◌, ℕ, suc, ◌+◌, ◌-◌, ◌<◌, ◌≤◌, List, [], ◌∷◌, ◌++◌, length, take, Option, Some, None, slice_get, refl, sym, ap, ◌∙◌, subst, inl, inr, arith}
use Rattle.std.specs.Prelude.{slice_index}
use Rattle.std.proofs.lemmas.Bool.{cases_lt}
use Rattle.std.proofs.lemmas.List.{length-map}
use Rattle.std.proofs.lemmas.Option.{get_or_from_slice_get, same_Some, slice_get-get_or, slice_get_within}
use Rattle.hs_base.specs.Lists.{Each}
use Rattle.hs_forest.proofs.ListLemmas.{map-value, snoc-some}
use Rattle.hs_forest.proofs.MemberLemmas.{grouped, listed}
use Rattle.hs_forest.proofs.PathLemmas.{path-some}
use Rattle.hs_forest.specs.Forests.{ForestTables, path_to}
use Rattle.hs_forest.specs.Groups.{AreGroups}
use Rattle.hs_reports.specs.declared.terminal.Terminal.{Terminal}
use Rattle.hs_rose.specs.declared.info.ChainInfo.{ChainInfo}
use Rattle.hs_rose.specs.Programs.{Tables}
use Rattle.hs_rose.proofs.ListLemmas.{get-map, map-get, take-get, zip-left, zip-length, zip-push, zip-right}
use Rattle.hs_compile.specs.declared.graph_terminals.ChainEnds.{ChainEnds}
use Rattle.hs_compile.specs.declared.step.Step.{Step}
use Rattle.hs_compile.specs.GraphBuilding.{AreAllEnds}
use Rattle.hs_compile.specs.GraphEnds.{AreChainEnds, AreTerminalsOf, HasEnd, IsEndOf, IsLastNode, IsTerminalOf, by_none, by_role, end_node, end_nodes}
use Rattle.hs_compile.specs.GraphLists.{LieByNode}
use Rattle.hs_compile.specs.GraphSteps.{AreKeysTo, IsForestFor}
use Rattle.hs_compile.specs.GraphTables.{IsReady}
use Rattle.hs_compile.proofs.ChildLemmas.{starts-within}
use Rattle.hs_compile.proofs.GraphListLemmas.{each-of_get, get-read}
use Rattle.hs_compile.proofs.KeyLemmas.{no-keys, stands-by}

-- the owners of the chains' groups are nodes, or the number behind them
pub end-owners : (count : ℕ) (lasts : List (Option ℕ)) → ((c k : ℕ) → slice_get lasts c ≡ Some (Some k) → k < count) → (c k : ℕ) → slice_get (end_nodes count lasts) c ≡ Some (Some k) → k < count + 1
end-owners count lasts known c k at =
    let (last, there, same) = map-get (λ (x : Option ℕ). Some (end_node count x)) lasts c (Some k) at in
    by-last last there (same_Some (end_node count last) k same)
  where
    by-last : (last : Option ℕ) → slice_get lasts c ≡ Some last → end_node count last ≡ k → k < count + 1
    by-last None there same = omega (arith, same)
    by-last (Some n) there same = omega (arith, known c n there, same)

pub owners-count : (count : ℕ) (lasts : List (Option ℕ)) → length (end_nodes count lasts) ≡ length lasts
owners-count count lasts = length-map lasts (λ (last : Option ℕ). Some (end_node count last))

-- the terminals of the first so many chains and one more
pub terminals-step : (t : Tables) (lasts : List (Option ℕ)) (count k number : ℕ) (numbers : List ℕ) (x : Terminal) (before now : List Terminal) → slice_get numbers k ≡ Some number → IsTerminalOf t lasts count number x → now ≡ before ++ x ∷ [] →
    AreTerminalsOf t lasts count (take k numbers) before → AreTerminalsOf t lasts count (take (k + 1) numbers) now
terminals-step t lasts count k number numbers x before now at of grown are =
    let next : suc k ≡ k + 1 = omega arith in
    subst (λ ns. AreTerminalsOf t lasts count ns now) (sym (take-get numbers k number at) ∙ ap (λ n. take n numbers) next)
    (subst (λ xs. AreTerminalsOf t lasts count (take k numbers ++ number ∷ []) xs) (sym grown) (zip-push (IsTerminalOf t lasts count) (take k numbers) before number x are of))

-- the numbers in the groups are those of chains
pub numbers-known : (owners : List (Option ℕ)) (count : ℕ) (starts list : List ℕ) (n : ℕ) → length owners ≡ n → AreGroups owners count starts list → Each (λ number. number < n) list
numbers-known owners count starts list n same are = each-of_get (λ number. number < n) list (λ i number at.
    let read : slice_index list i ≡ number = get_or_from_slice_get list i number 0 at in
    let own = grouped owners count starts list are i (slice_get_within list i number at) in
    omega (arith, read, slice_get_within owners (slice_index list i) (Some own.k) own.owner, same))

module _ (t : Tables) (ready : IsReady t) (steps : List Step) (forest : ForestTables) (f : IsForestFor t steps forest) (count : ℕ) (numbers starts : List ℕ) (terminals : List Terminal) (are : AreTerminalsOf t forest.last_nodes count numbers terminals) (groups : AreGroups (end_nodes count forest.last_nodes) (count + 1) starts numbers) where
  abbrev paths : List (List ℕ)
  paths = f.forest_is.paths

  abbrev lasts : List (Option ℕ)
  lasts = forest.last_nodes

  abbrev owners : List (Option ℕ)
  owners = end_nodes count forest.last_nodes

  same-count : length numbers ≡ length terminals
  same-count = zip-length (IsTerminalOf t lasts count) numbers terminals are

  -- the chain of a terminal
  record HasNumber (i : ℕ) (x : Terminal) : Type 0 where
    number : ℕ
    there : slice_get numbers i ≡ Some number
    of : IsTerminalOf t lasts count number x

  has-number : (i : ℕ) (x : Terminal) → slice_get terminals i ≡ Some x → HasNumber i x
  has-number i x at = let (number, there, of) = zip-right (IsTerminalOf t lasts count) numbers terminals are i x at in record { number = number; there = there; of = of }

  -- the group that a terminal is in is that of its node
  record IsIn (i : ℕ) (x : Terminal) : Type 0 where
    known : x.node < count + 1
    low : slice_index starts x.node ≤ i
    high : i < slice_index starts (suc x.node)

  is-in : (i : ℕ) (x : Terminal) → slice_get terminals i ≡ Some x → IsIn i x
  is-in i x at =
      let has = has-number i x at in
      let own = grouped owners (count + 1) starts numbers groups i (slice_get_within numbers i has.number has.there) in
      let read : slice_index numbers i ≡ has.number = get_or_from_slice_get numbers i has.number 0 has.there in
      let owner : slice_get owners has.number ≡ Some (Some (end_node count has.of.last)) = get-map (λ (y : Option ℕ). Some (end_node count y)) lasts has.number has.of.last has.of.last_there in
      let e : Some own.k ≡ Some (end_node count has.of.last) = same_Some (Some own.k) (Some (end_node count has.of.last)) (sym own.owner ∙ (ap (slice_get owners) read ∙ owner)) in
      let same : own.k ≡ x.node = same_Some own.k (end_node count has.of.last) e ∙ sym has.of.node_is in record {
        known = subst (λ n. n < count + 1) same own.known;
        low = subst (λ n. slice_index starts n ≤ i) same own.low;
        high = subst (λ n. i < slice_index starts (suc n)) same own.high;
      }

  lie-by-node : LieByNode starts terminals
  lie-by-node = record {
    within = subst (λ n. Each (λ start. start ≤ n) starts) same-count (starts-within owners (count + 1) starts numbers groups);
    rising = λ j k order below. groups.rising j k order (omega (arith, below, groups.count_is));
    known = λ i x at. omega (arith, (is-in i x at).known, groups.count_is);
    low = λ i x at. (is-in i x at).low;
    high = λ i x at below. (is-in i x at).high;
  }

  -- a chain of no keys has no roles
  no-roles : (j : ℕ) (c : ChainInfo) → slice_get t.chains j ≡ Some c → AreKeysTo t c.first c.end [] → c.first ≡ c.end
  no-roles j c there keys = elim (cases_lt c.first c.end) [
    | inl some ↦ absurd (by-last some)
    | inr past ↦ omega (arith, past, ready.order j c there)
  ]
    where
      by-last : c.first < c.end → ⊥
      by-last some =
          let i : ℕ = c.end - 1 in
          let last : suc i ≡ c.end = omega (arith, some) in
          let (r, r_there) = get-read t.roles i (omega (arith, last, ready.within j c there)) in
          let s = stands-by t c i r [] c.end (sym last) (omega (arith, some, last)) (omega (arith, last)) r_there (ready.last j i c r there (omega (arith, some, last)) last r_there) keys in
          snoc-some s.front s.key (sym s.keys_are)

  -- the node at which a chain ends is that of its last role
  last-node : (j : ℕ) (c : ChainInfo) (last : Option ℕ) → slice_get t.chains j ≡ Some c → slice_get lasts j ≡ Some last → IsLastNode t paths count c (end_node count last)
  last-node j c last there at =
      let (own, own_at, path) = map-value (path_to paths) lasts f.keys f.forest_is.last_nodes j last at in
      by-last last own path (f.steps_are.are.chains j c own there own_at)
    where
      by-last : (last : Option ℕ) (own : List ℕ) → path_to paths last ≡ Some own → AreKeysTo t c.first c.end own → IsLastNode t paths count c (end_node count last)
      by-last None own path keys = by_none (no-roles j c there (subst (λ ks. AreKeysTo t c.first c.end ks) (sym (same_Some [] own path)) keys)) refl
      by-last (Some k) own path keys = elim (cases_lt c.first c.end) [
        | inl some ↦
            let i : ℕ = c.end - 1 in
            let end : suc i ≡ c.end = omega (arith, some) in
            let low : c.first ≤ i = omega (arith, some, end) in
            let (r, r_there) = get-read t.roles i (omega (arith, end, ready.within j c there)) in
            by_role i some end (record {
              number = j;
              chain = c;
              chain_there = there;
              low = low;
              high = omega (arith, end);
              role = r;
              role_there = r_there;
              alone = ready.last j i c r there low end r_there;
              path = own;
              path_there = path;
              keys = subst (λ n. AreKeysTo t c.first n own) (sym end) keys;
            })
        | inr past ↦
            let none : own ≡ [] = no-keys t c.first c.end own (omega (arith, past, ready.order j c there)) keys in
            absurd (path-some forest.parents forest.keys paths k f.forest_is.are_paths (path ∙ ap Some none))
      ]

  end-of : (number : ℕ) (x : Terminal) (of : IsTerminalOf t lasts count number x) → IsEndOf t paths count of.chain x
  end-of number x of = record {
    asks = of.asks;
    node = subst (λ n. IsLastNode t paths count of.chain n) (sym of.node_is) (last-node number of.chain of.last of.there of.last_there);
  }

  chain-ends : length lasts ≡ length t.chains → length forest.parents ≡ count → AreChainEnds t paths count terminals
  chain-ends same size = record {
    each = λ i x at. let has = has-number i x at in record { number = has.number; chain = has.of.chain; there = has.of.there; is = end-of has.number x has.of };
    all = λ j c there.
        let (last, at) = get-read lasts j (omega (arith, same, slice_get_within t.chains j c there)) in
        has-end j c there (end_node count last) (get-map (λ (y : Option ℕ). Some (end_node count y)) lasts j last at) (last-known j last at);
  }
    where
      last-known : (j : ℕ) (last : Option ℕ) → slice_get lasts j ≡ Some last → end_node count last < count + 1
      last-known j None at = omega arith
      last-known j (Some k) at =
          let (own, own_at, path) = map-value (path_to paths) lasts f.keys f.forest_is.last_nodes j (Some k) at in
          omega (arith, slice_get_within paths k own path, size, f.forest_is.are_paths.count)

      has-end : (j : ℕ) (c : ChainInfo) → slice_get t.chains j ≡ Some c → (k : ℕ) → slice_get owners j ≡ Some (Some k) → k < count + 1 → HasEnd t paths count terminals c
      has-end j c there k owner known =
          let own = listed owners (count + 1) starts numbers groups j k known owner in
          let inside : own.place < length numbers = omega (arith, own.high, groups.rising (suc k) (count + 1) (omega (arith, known)) (omega arith), groups.last) in
          let at : slice_get numbers own.place ≡ Some j = slice_get-get_or numbers own.place 0 inside ∙ ap Some own.is in
          let (x, x_there, of) = zip-left (IsTerminalOf t lasts count) numbers terminals are own.place j at in
          let one : of.chain ≡ c = same_Some of.chain c (sym of.there ∙ there) in
          record { number = own.place; terminal = x; there = x_there; is = subst (λ (d : ChainInfo). IsEndOf t paths count d x) one (end-of j x of) }

  pub ends-are : (ends : ChainEnds) → ends.terminals.items ≡ terminals → ends.starts.items ≡ starts → length lasts ≡ length t.chains → length forest.parents ≡ count → AreAllEnds t paths count ends
  ends-are ends terminals_are starts_are same size = record {
    start_count = ap length starts_are ∙ (groups.count_is ∙ ap suc (omega arith));
    by_node = subst (λ ss. LieByNode ss ends.terminals.items) (sym starts_are) (subst (λ xs. LieByNode starts xs) (sym terminals_are) lie-by-node);
    are = subst (λ xs. AreChainEnds t paths count xs) (sym terminals_are) (chain-ends same size);
  }

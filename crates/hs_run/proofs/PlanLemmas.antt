-- The program of a list runs the plan of its patterns.
use Rattle.std.proofs.Common.{◌≡◌, ℕ, suc, ◌+◌, ◌≤◌, true, List, [], ◌∷◌, ◌++◌, length, map, take, Some, slice_get, refl, sym, ap, subst, ◌∙◌, arith}
use Rattle.std.specs.Prelude.{flat_map}
use Rattle.std.specs.List.{AllZip}
use Rattle.std.proofs.lemmas.List.{length-take-le}
use Rattle.std.proofs.lemmas.Option.{same_Some, slice_get_within}
use Rattle.hs_base.specs.Chains.{Piece, nfa, chains_of, IsFitChain}
use Rattle.hs_base.specs.LeavingLaws.{HasSpansOfChains}
use Rattle.hs_base.specs.Lists.{Each}
use Rattle.hs_base.specs.Patterns.{Pattern}
use Rattle.hs_base.specs.Regions.{Plan, list_places, place_size}
use Rattle.hs_pieces.specs.LookBack.{begins_with_look_back}
use Rattle.hs_pieces.proofs.FitLemmas.{chains-fit}
use Rattle.hs_pieces.proofs.SpanLemmas.{chains-spans}
use Rattle.hs_rose.specs.declared.identifiers.Identifier.{Identifier}
use Rattle.hs_rose.specs.declared.info.ChainInfo.{ChainInfo}
use Rattle.hs_rose.specs.declared.role.Role.{Role}
use Rattle.hs_rose.specs.Listing.{Asked, ListedChain, ListedPiece, chains_from, listed_from}
use Rattle.hs_rose.specs.Programs.{Tables, IsProgramOf}
use Rattle.hs_rose.proofs.LawLemmas.{list-places, plan-fields}
use Rattle.hs_rose.proofs.PlanLemmas.{is-plan, single-of}
use Rattle.hs_rose.proofs.ListLemmas.{each-get, get-map, map-get, zip-get, zip-length}
use Rattle.hs_rose.proofs.ListedLemmas.{chains-count, each-append, piece_of}
use Rattle.hs_rose.specs.Plans.{AsksFor, IsFitPattern, plan_of}
use Rattle.hs_run.specs.Pieces as run
use Rattle.hs_run.specs.Programs.{Row, RunsRow, RunsPlan, LooksBack, looked, plan_rows, row_place, rows_of, sizes_of}
use Rattle.hs_run.proofs.JoinLemmas.{HasChain, all_pieces, first-role, first-way, has-chain, has-info, has-role, listed, narrow-tree, pair, second-role}
use Rattle.hs_run.proofs.RoleLemmas.{named-engine, role-alone}

-- rows

pub record IsRowOf (l : ListedChain) (x : Row) : Type 0 where
  pub chain : l.pieces ≡ x.chain
  pub asks : AsksFor l.asked x.pattern

zip-append : {A B : Type 0} (R : A → B → Type 0) (xs : List A) (ys : List B) (xs' : List A) (ys' : List B) → AllZip R xs ys → AllZip R xs' ys' → AllZip R (xs ++ xs') (ys ++ ys')
zip-append R [] [] xs' ys' all more = more
zip-append R [] (y ∷ ys) xs' ys' all more = absurd all
zip-append R (x ∷ xs) [] xs' ys' all more = absurd all
zip-append R (x ∷ xs) (y ∷ ys) xs' ys' all more = (all.0, zip-append R xs ys xs' ys' all.1 more)

own-rows : (entry number : ℕ) (asked : Asked) (x : Pattern) → AsksFor asked x → (cs : List (List Piece)) → AllZip IsRowOf (chains_from entry number asked cs) (map (λ chain. record { pattern = x; chain = chain }) cs)
own-rows entry number asked x asks [] = tt
own-rows entry number asked x asks (c ∷ cs) = (record { chain = refl; asks = asks }, own-rows entry (suc number) asked x asks cs)

all-rows : (first : ℕ) (entries : List Asked) (P : List Pattern) → AllZip AsksFor entries P → AllZip IsRowOf (listed_from first entries (map (λ x. chains_of x.tree) P)) (flat_map rows_of P)
all-rows first [] [] all = tt
all-rows first [] (x ∷ P) all = absurd all
all-rows first (a ∷ entries) [] all = absurd all
all-rows first (a ∷ entries) (x ∷ P) all =
    zip-append IsRowOf (chains_from first 1 a (chains_of x.tree)) (rows_of x) (listed_from (suc first) entries (map (λ y. chains_of y.tree) P)) (flat_map rows_of P)
    (own-rows first 1 a x all.0 (chains_of x.tree)) (all-rows (suc first) entries P all.1)

own-fit : (x : Pattern) (cs : List (List Piece)) → Each IsFitChain cs → Each (λ (r : Row). IsFitChain r.chain) (map (λ chain. record { pattern = x; chain = chain }) cs)
own-fit x [] each = tt
own-fit x (c ∷ cs) each = (each.0, own-fit x cs each.1)

all-fit : (P : List Pattern) → Each IsFitPattern P → Each (λ (r : Row). IsFitChain r.chain) (flat_map rows_of P)
all-fit [] each = tt
all-fit (x ∷ P) each =
    each-append (λ (r : Row). IsFitChain r.chain) (rows_of x) (flat_map rows_of P) (own-fit x (chains_of x.tree) (chains-fit x.tree each.0.proper each.0.plain each.0.ends_last)) (all-fit P each.1)

all-spans : (P : List Pattern) → Each IsFitPattern P → Each HasSpansOfChains P
all-spans [] each = tt
all-spans (x ∷ P) each = (λ w ended i j. chains-spans x.tree w ended i j each.0.proper, all-spans P each.1)

-- the places of the plan are those of the pieces, and have the sizes of the roles' fields
pub plan-places : (t : Tables) (entries : List Asked) (P : List Pattern) (is : IsProgramOf t entries (map (λ x. chains_of x.tree) P)) → AllZip AsksFor entries P →
    list_places (plan_of t P) ≡ map (λ (p : ListedPiece). p.place) (all_pieces t entries (map (λ x. chains_of x.tree) P) is)
plan-places t entries P is asks = sym (list-places begins_with_look_back (λ chain. refl) 1 entries P (zip-length AsksFor entries P asks))

pub plan-sized : (t : Tables) (entries : List Asked) (P : List Pattern) → IsProgramOf t entries (map (λ x. chains_of x.tree) P) → AllZip AsksFor entries P → sizes_of t.roles ≡ map place_size (list_places (plan_of t P))
plan-sized t entries P is asks = plan-fields t entries (plan_of t P) (record { program = is; count = zip-length AsksFor entries P asks; looks_back = λ chain. refl })

module _ (t : Tables) (entries : List Asked) (P : List Pattern) (is : IsProgramOf t entries (map (λ x. chains_of x.tree) P)) (asks : AllZip AsksFor entries P) (fit : Each IsFitPattern P) where
  abbrev chains : List (List (List Piece))
  chains = map (λ x. chains_of x.tree) P

  abbrev plan : Plan
  plan = plan_of t P

  module _ (j : ℕ) (c : ChainInfo) (chain : slice_get t.chains j ≡ Some c) where
    abbrev own : HasChain t entries chains is j c
    own = has-chain t entries chains is j c chain

    abbrev pieces : List Piece
    pieces = own.chain.pieces

    place-there : (i : ℕ) (piece : Piece) → slice_get pieces i ≡ Some piece → slice_get (list_places plan) (c.first + i) ≡ Some (row_place plan pieces i piece)
    place-there i piece at =
        let role = has-role t entries chains is j c own i piece at in
        ap (λ ps. slice_get ps (c.first + i)) (plan-places t entries P is asks) ∙ get-map (λ (p : ListedPiece). p.place) (all_pieces t entries chains is) (c.first + i) (piece_of own.chain i piece) role.piece_there

    runs-alone : (i : ℕ) (piece : Piece) (r : Role) → looked (begins_with_look_back pieces) ≤ i → slice_get pieces i ≡ Some piece → slice_get t.roles (c.first + i) ≡ Some r → run.IsRoleOf t r (row_place plan pieces i piece)
    runs-alone i piece r low at role =
        let is_there = has-role t entries chains is j c own i piece at in
        let one : is_there.r ≡ r = same_Some is_there.r r (sym is_there.role_there ∙ role) in
        let size : length (take i pieces) ≡ i = length-take-le i pieces (omega (arith, slice_get_within pieces i piece at)) in
        subst (λ (q : Role). run.IsRoleOf t q (row_place plan pieces i piece)) one
        (role-alone t is.models is.engines is_there.r (piece_of own.chain i piece) is_there.role is_there.runnable (subst (λ n. looked (begins_with_look_back pieces) ≤ n) (sym size) low))

    looks-back : begins_with_look_back pieces ≡ true → LooksBack t c.first pieces
    looks-back back =
        let two = pair t entries chains is j c own back in
        let before = first-role t entries chains is j c own back in
        let behind = second-role t entries chains is j c own back in
        let (e, e_there, of) = named-engine t is.models is.engines before.r (nfa two.tree) before.role.names.named in
        let zero_more : c.first + 0 ≡ c.first = omega arith in
        let one_more : c.first + 1 ≡ suc c.first = omega arith in
        record {
          tree = two.tree;
          value = two.value;
          rest = two.rest;
          is_chain = two.is_chain;
          before = before.r;
          there = subst (λ n. slice_get t.roles n ≡ Some before.r) zero_more before.role_there;
          kind = first-way t entries chains is j c own back;
          engine = e;
          engine_there = e_there;
          runs = of.runs;
          listed = of.always;
          narrow = narrow-tree two.tree two.narrow;
          null = before.role.names.null_is;
          behind = behind.r;
          behind_there = subst (λ n. slice_get t.roles n ≡ Some behind.r) one_more behind.role_there;
          value_there = behind.role.names.named;
        }

    runs-row : (x : Row) → slice_get (plan_rows plan) j ≡ Some x → RunsRow t plan c x
    runs-row x row =
        let info = has-info t entries chains is j c own in
        let is_row : IsRowOf own.chain x = zip-get IsRowOf (listed t entries chains is) (plan_rows plan) (all-rows 1 entries P asks) j own.chain x own.chain_there row in
        let fits : IsFitChain x.chain = each-get (λ (r : Row). IsFitChain r.chain) (plan_rows plan) (all-fit P fit) j x row in
        let (identifier, identifier_there, id) = map-get (λ (y : Identifier). y.id.0) t.identifiers info.info.identifier own.chain.asked.id info.of.place in
        subst (λ (ps : List Piece). RunsRow t plan c (record { pattern = x.pattern; chain = ps })) is_row.chain
        (record {
          end = omega (arith, own.end, own.first);
          fit = subst IsFitChain (sym is_row.chain) fits;
          places = place-there;
          alone = runs-alone;
          looks_back = looks-back;
          entry = info.info;
          entry_there = info.info_there;
          least = info.of.least ∙ is_row.asks.least;
          greatest = info.of.greatest ∙ is_row.asks.greatest;
          identifier = identifier;
          named = identifier_there;
          id = id ∙ is_row.asks.id;
        })

  pub runs-plan : RunsPlan t plan
  runs-plan = record {
    is_plan = is-plan t entries P (is.identifiers) asks;
    spans = all-spans P fit;
    count = chains-count 0 t.chains (listed t entries chains is) is.chains_are ∙ zip-length IsRowOf (listed t entries chains is) (plan_rows plan) (all-rows 1 entries P asks);
    rows = λ j c x chain row. runs-row j c chain x row;
    sizes = plan-sized t entries P is asks;
    ids = refl;
    singles = refl;
    single = single-of t entries P (is.identifiers) asks;
  }

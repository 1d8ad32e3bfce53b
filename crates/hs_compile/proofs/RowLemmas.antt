-- The chains of a plan's patterns, and the places of their pieces.
use Rattle.std.proofs.Common.{◌≡◌, ℕ, suc, List, [], ◌∷◌, ◌++◌, length, map, Some, slice_get, refl, sym, ap, subst, ◌∙◌}
use Rattle.std.specs.Prelude.{flat_map}
use Rattle.std.specs.List.{AllZip}
use Rattle.std.proofs.lemmas.List.{length-map}
use Rattle.hs_base.specs.Chains.{Piece, chains_of, IsFitChain}
use Rattle.hs_base.specs.LeavingLaws.{HasSpansOfChains}
use Rattle.hs_base.specs.Lists.{Each}
use Rattle.hs_base.specs.Patterns.{Pattern}
use Rattle.hs_base.specs.Regions.{list_places, place_size}
use Rattle.hs_layout.specs.Layouts.{layout_of}
use Rattle.hs_nodes.specs.Graphs.{plan_layout}
use Rattle.hs_pieces.specs.LookBack.{begins_with_look_back}
use Rattle.hs_pieces.proofs.FitLemmas.{chains-fit}
use Rattle.hs_pieces.proofs.SpanLemmas.{chains-spans}
use Rattle.hs_rose.specs.Identifiers.{singles_of}
use Rattle.hs_rose.specs.Listing.{Asked, ListedChain, ListedPiece, chains_from, listed_from}
use Rattle.hs_rose.specs.Programs.{Tables, IsProgramOf}
use Rattle.hs_rose.proofs.LawLemmas.{list-places, plan-fields}
use Rattle.hs_rose.proofs.ListLemmas.{each-get, zip-left, zip-length}
use Rattle.hs_rose.proofs.ListedLemmas.{each-append}
use Rattle.hs_rose.specs.Plans.{AsksFor, IsFitPattern, plan_of}
use Rattle.hs_compile.specs.GraphTables.{program_layout, sizes_of}
use Rattle.hs_compile.proofs.JoinLemmas.{all_pieces, listed}

-- a chain of a pattern
pub record Row : Type 0 where
  pub pattern : Pattern
  pub chain : List Piece

abbrev pub rows_of : Pattern → List Row
rows_of x = map (λ chain. record { pattern = x; chain = chain }) (chains_of x.tree)

-- rows

pub record IsRowOf (l : ListedChain) (x : Row) : Type 0 where
  pub chain : l.pieces ≡ x.chain
  pub asks : AsksFor l.asked x.pattern

zip-append : {A B : Type 0} (R : A → B → Type 0) (xs : List A) (ys : List B) (xs' : List A) (ys' : List B) → AllZip R xs ys → AllZip R xs' ys' → AllZip R (xs ++ xs') (ys ++ ys')
zip-append R [] [] xs' ys' all more = more
zip-append R [] (y ∷ ys) xs' ys' all more = absurd all
zip-append R (x ∷ xs) [] xs' ys' all more = absurd all
zip-append R (x ∷ xs) (y ∷ ys) xs' ys' all more = (all.0, zip-append R xs ys xs' ys' all.1 more)

own-rows : (entry number : ℕ) (asked : Asked) (x : Pattern) → AsksFor asked x → (cs : List (List Piece)) → AllZip IsRowOf (chains_from entry number asked cs) (map (λ chain. record { pattern = x; chain = chain }) cs)
own-rows entry number asked x asks [] = tt
own-rows entry number asked x asks (c ∷ cs) = (record { chain = refl; asks = asks }, own-rows entry (suc number) asked x asks cs)

all-rows : (first : ℕ) (entries : List Asked) (P : List Pattern) → AllZip AsksFor entries P → AllZip IsRowOf (listed_from first entries (map (λ x. chains_of x.tree) P)) (flat_map rows_of P)
all-rows first [] [] all = tt
all-rows first [] (x ∷ P) all = absurd all
all-rows first (a ∷ entries) [] all = absurd all
all-rows first (a ∷ entries) (x ∷ P) all =
    zip-append IsRowOf (chains_from first 1 a (chains_of x.tree)) (rows_of x) (listed_from (suc first) entries (map (λ y. chains_of y.tree) P)) (flat_map rows_of P)
    (own-rows first 1 a x all.0 (chains_of x.tree)) (all-rows (suc first) entries P all.1)

own-fit : (x : Pattern) (cs : List (List Piece)) → Each IsFitChain cs → Each (λ (r : Row). IsFitChain r.chain) (map (λ chain. record { pattern = x; chain = chain }) cs)
own-fit x [] each = tt
own-fit x (c ∷ cs) each = (each.0, own-fit x cs each.1)

all-fit : (P : List Pattern) → Each IsFitPattern P → Each (λ (r : Row). IsFitChain r.chain) (flat_map rows_of P)
all-fit [] each = tt
all-fit (x ∷ P) each =
    each-append (λ (r : Row). IsFitChain r.chain) (rows_of x) (flat_map rows_of P) (own-fit x (chains_of x.tree) (chains-fit x.tree each.0.proper each.0.plain each.0.ends_last)) (all-fit P each.1)

pub all-spans : (P : List Pattern) → Each IsFitPattern P → Each HasSpansOfChains P
all-spans [] each = tt
all-spans (x ∷ P) each = (λ w ended i j. chains-spans x.tree w ended i j each.0.proper, all-spans P each.1)

-- the places of the plan are those of the pieces, and have the sizes of the roles' fields
pub plan-places : (t : Tables) (entries : List Asked) (P : List Pattern) (is : IsProgramOf t entries (map (λ x. chains_of x.tree) P)) → AllZip AsksFor entries P →
    list_places (plan_of t P) ≡ map (λ (p : ListedPiece). p.place) (all_pieces t entries (map (λ x. chains_of x.tree) P) is)
plan-places t entries P is asks = sym (list-places begins_with_look_back (λ chain. refl) 1 entries P (zip-length AsksFor entries P asks))

pub plan-sized : (t : Tables) (entries : List Asked) (P : List Pattern) → IsProgramOf t entries (map (λ x. chains_of x.tree) P) → AllZip AsksFor entries P → sizes_of t.roles ≡ map place_size (list_places (plan_of t P))
plan-sized t entries P is asks = plan-fields t entries (plan_of t P) (record { program = is; count = zip-length AsksFor entries P asks; looks_back = λ chain. refl })

-- the layout of the program's regions is that of the plan's
pub plan-laid : (t : Tables) (entries : List Asked) (P : List Pattern) → IsProgramOf t entries (map (λ x. chains_of x.tree) P) → AllZip AsksFor entries P → program_layout t ≡ plan_layout (plan_of t P)
plan-laid t entries P is asks =
    let plan = plan_of t P in
    ap (λ n. layout_of n (length t.identifiers) (sizes_of t.roles)) (sym (length-map (singles_of t.identifiers) (λ x. x.id.0)))
    ∙ (ap (λ n. layout_of (length plan.singles) n (sizes_of t.roles)) (sym (length-map t.identifiers (λ x. x.id.0)))
    ∙ ap (layout_of (length plan.singles) (length plan.identifiers)) (plan-sized t entries P is asks))

module _ (t : Tables) (entries : List Asked) (P : List Pattern) (is : IsProgramOf t entries (map (λ x. chains_of x.tree) P)) (asks : AllZip AsksFor entries P) (fit : Each IsFitPattern P) where
  abbrev chains : List (List (List Piece))
  chains = map (λ x. chains_of x.tree) P

  -- the row of a chain
  pub record HasRow (x : ListedChain) : Type 0 where
    pub number : ℕ
    pub row : Row
    pub there : slice_get (flat_map rows_of P) number ≡ Some row
    pub is_row : IsRowOf x row
    pub fits : IsFitChain x.pieces

  pub has-row : (j : ℕ) (x : ListedChain) → slice_get (listed t entries chains is) j ≡ Some x → HasRow x
  has-row j x at =
      let (row, there, is_row) = zip-left IsRowOf (listed t entries chains is) (flat_map rows_of P) (all-rows 1 entries P asks) j x at in record {
        number = j;
        row = row;
        there = there;
        is_row = is_row;
        fits = subst IsFitChain (sym is_row.chain) (each-get (λ (r : Row). IsFitChain r.chain) (flat_map rows_of P) (all-fit P fit) j row there);
      }

  pub row-listed : (j : ℕ) (row : Row) → slice_get (flat_map rows_of P) j ≡ Some row → (x : ListedChain) × (slice_get (listed t entries chains is) j ≡ Some x) × IsRowOf x row
  row-listed j row at = Rattle.hs_rose.proofs.ListLemmas.zip-right IsRowOf (listed t entries chains is) (flat_map rows_of P) (all-rows 1 entries P asks) j row at

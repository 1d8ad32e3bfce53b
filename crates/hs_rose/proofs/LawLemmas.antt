-- What the laws of programs say.
use Rattle.std.proofs.Common.{◌≡◌, ◌↔◌, ℕ, suc, Bool, List, [], ◌∷◌, ◌++◌, length, map, slice_get, Some, refl, sym, ap, subst, ◌∙◌, arith}
use Rattle.std.specs.List.{AllZip, flat_map}
use Rattle.std.proofs.lemmas.List.{map-append}
use Rattle.std.proofs.lemmas.Grind.{flat_map-append}
use Rattle.hs_base.specs.Chains.{Piece, chains_of, piece_tree}
use Rattle.hs_base.specs.Literals.{LiteralByte}
use Rattle.hs_base.specs.Patterns.{Pattern}
use Rattle.hs_base.specs.Regions.{Place, Plan, list_places, places_behind, places_of, place_size}
use Rattle.hs_pieces.specs.LookBack.{begins_with_look_back}
use Rattle.hs_rose.specs.declared.engine.PieceEngine.{PieceEngine}
use Rattle.hs_rose.specs.declared.role.Role.{Role}
use Rattle.hs_rose.specs.Listing.{Asked, ListedChain, ListedPiece, chains_from, listed_chains, listed_from, listed_piece, listed_pieces, pieces_of}
use Rattle.hs_rose.specs.Made.{IsMadeOf, IsNullMask}
use Rattle.hs_rose.specs.PieceEngines.{IsEngineOf}
use Rattle.hs_rose.specs.Naming.{engine_of}
use Rattle.hs_rose.specs.Programs.{Tables, IsProgramOf, IsRoleOf}
use Rattle.hs_rose.specs.RoleLaws.{HasRole, IsProgramOfPlan}
use Rattle.hs_rose.proofs.FinishLemmas.{engine-there, engine-null}
use Rattle.hs_rose.proofs.ListLemmas.{zip-get, zip-right}

-- the role of a piece that is there
role-there : (t : Tables) (entries : List Asked) (chains : List (List (List Piece))) (k : ℕ) (r : Role) (piece : Piece) → (is : IsProgramOf t entries chains) → (has : HasRole t (listed_pieces (listed_chains entries chains)) k r piece) →
    IsRoleOf t.literals is.models r has.listed
role-there t entries chains k r piece is has = zip-get (IsRoleOf t.literals is.models) t.roles (listed_pieces (listed_chains entries chains)) is.roles k r has.listed has.role_is has.listed_is

engine-model : (t : Tables) (entries : List Asked) (chains : List (List (List Piece))) (k n : ℕ) (r : Role) (piece : Piece) → (is : IsProgramOf t entries chains) → HasRole t (listed_pieces (listed_chains entries chains)) k r piece → engine_of r ≡ Some n →
    slice_get is.models n ≡ Some piece
engine-model t entries chains k n r piece is has named =
    let x = has.listed in
    engine-there t.literals is.models r x x.place.looks_back x.place.pieces x.place.piece refl (role-there t entries chains k r piece is has) n named ∙ ap Some has.piece_is

pub engine-runs : (t : Tables) (entries : List Asked) (chains : List (List (List Piece))) (k n : ℕ) (r : Role) (piece : Piece) → IsProgramOf t entries chains → HasRole t (listed_pieces (listed_chains entries chains)) k r piece → engine_of r ≡ Some n →
    (engine : PieceEngine) × (slice_get t.engines n ≡ Some engine) × IsMadeOf engine r.null piece
engine-runs t entries chains k n r piece is has named =
    let own = zip-right IsEngineOf t.engines is.models is.engines n piece (engine-model t entries chains k n r piece is has named) in
    let x = has.listed in (
      own.0,
      own.1,
      record {
        engine_is = own.2;
        null_is = subst (λ p. IsNullMask r.null (piece_tree p)) has.piece_is
            (engine-null t.literals is.models r x x.place.looks_back x.place.pieces x.place.piece refl (role-there t entries chains k r piece is has) n named);
      },
    )

pub one-engine : (t : Tables) (entries : List Asked) (chains : List (List (List Piece))) (j k m n : ℕ) (r s : Role) (piece other : Piece) → IsProgramOf t entries chains → HasRole t (listed_pieces (listed_chains entries chains)) j r piece → HasRole t (listed_pieces (listed_chains entries chains)) k s other →
    engine_of r ≡ Some m → engine_of s ≡ Some n → (m ≡ n) ↔ (piece ≡ other)
one-engine t entries chains j k m n r s piece other is has has' named named' =
    let a = engine-model t entries chains j m r piece is has named in
    let b = engine-model t entries chains k n s other is has' named' in (
      λ e. let same : Some piece ≡ Some other = sym a ∙ ap (λ i. slice_get is.models i) e ∙ b in cc,
      λ e. is.one_engine m n other (a ∙ ap Some e) b,
    )

-- the places of the pieces of chains
chain-places : (x : ListedChain) (places : List Place) → map (λ (p : ListedPiece). p.place) (map (listed_piece x) places) ≡ places
chain-places x [] = refl
chain-places x (p ∷ places) = ap (λ ps. p ∷ ps) (chain-places x places)

chains-places : (e n : ℕ) (asked : Asked) (cs : List (List Piece)) → map (λ (p : ListedPiece). p.place) (listed_pieces (chains_from e n asked cs)) ≡ flat_map (λ chain. places_behind (begins_with_look_back chain) [] chain) cs
chains-places e n asked [] = refl
chains-places e n asked (c ∷ cs) =
    let x : ListedChain = record { entry = e; number = n; asked = asked; pieces = c } in
    map-append (λ (p : ListedPiece). p.place) (pieces_of x) (listed_pieces (chains_from e (suc n) asked cs))
    ∙ ap (λ ps. ps ++ map (λ (p : ListedPiece). p.place) (listed_pieces (chains_from e (suc n) asked cs))) (chain-places x (places_behind (begins_with_look_back c) [] c))
    ∙ ap (λ ps. places_behind (begins_with_look_back c) [] c ++ ps) (chains-places e (suc n) asked cs)

same-places : (looks_back : List Piece → Bool) → ((chain : List Piece) → looks_back chain ≡ begins_with_look_back chain) → (cs : List (List Piece)) →
    flat_map (λ chain. places_behind (begins_with_look_back chain) [] chain) cs ≡ flat_map (λ chain. places_behind (looks_back chain) [] chain) cs
same-places looks_back same [] = refl
same-places looks_back same (c ∷ cs) =
    ap (λ l. places_behind l [] c ++ flat_map (λ chain. places_behind (begins_with_look_back chain) [] chain) cs) (sym (same c)) ∙ ap (λ ps. places_behind (looks_back c) [] c ++ ps) (same-places looks_back same cs)

pub list-places : (looks_back : List Piece → Bool) → ((chain : List Piece) → looks_back chain ≡ begins_with_look_back chain) → (i : ℕ) (es : List Asked) (P : List Pattern) → length es ≡ length P →
    map (λ (p : ListedPiece). p.place) (listed_pieces (listed_from i es (map (λ x. chains_of x.tree) P))) ≡ flat_map (places_of looks_back) P
list-places looks_back same i [] [] count = refl
list-places looks_back same i [] (x ∷ P) count = absurd (cc)
list-places looks_back same i (e ∷ es) [] count = absurd (cc)
list-places looks_back same i (e ∷ es) (x ∷ P) count =
    let less : length es ≡ length P = omega (arith, count) in
    let rest = listed_from (suc i) es (map (λ (y : Pattern). chains_of y.tree) P) in
    ap (λ ps. map (λ (p : ListedPiece). p.place) ps) (flat_map-append pieces_of (chains_from i 1 e (chains_of x.tree)) rest)
    ∙ map-append (λ (p : ListedPiece). p.place) (listed_pieces (chains_from i 1 e (chains_of x.tree))) (listed_pieces rest)
    ∙ ap (λ ps. ps ++ map (λ (p : ListedPiece). p.place) (listed_pieces rest)) (chains-places i 1 e (chains_of x.tree) ∙ same-places looks_back same (chains_of x.tree))
    ∙ ap (λ ps. places_of looks_back x ++ ps) (list-places looks_back same (suc i) es P less)

zip-sizes : (ls : List (List LiteralByte)) (ms : List Piece) (roles : List Role) (pieces : List ListedPiece) → AllZip (IsRoleOf ls ms) roles pieces → map (λ (r : Role). r.field_size) roles ≡ map place_size (map (λ (p : ListedPiece). p.place) pieces)
zip-sizes ls ms [] [] all = refl
zip-sizes ls ms [] (x ∷ pieces) all = absurd all
zip-sizes ls ms (r ∷ roles) [] all = absurd all
zip-sizes ls ms (r ∷ roles) (x ∷ pieces) all =
    ap (λ n. n ∷ map (λ (s : Role). s.field_size) roles) all.0.size_is ∙ ap (λ ns. place_size x.place ∷ ns) (zip-sizes ls ms roles pieces all.1)

pub plan-fields : (t : Tables) (entries : List Asked) (plan : Plan) → IsProgramOfPlan t entries plan → map (λ (r : Role). r.field_size) t.roles ≡ map place_size (list_places plan)
plan-fields t entries plan is =
    zip-sizes t.literals is.program.models t.roles (listed_pieces (listed_chains entries (map (λ (x : Pattern). chains_of x.tree) plan.patterns))) is.program.roles
    ∙ ap (λ ps. map place_size ps) (list-places plan.looks_back is.looks_back 1 entries plan.patterns is.count)

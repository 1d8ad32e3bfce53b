-- A program is built piece by piece, chain by chain and entry by entry.
use Rattle.std.proofs.Common.{◌≡◌, ℕ, zero, suc, ◌+◌, ◌<◌, Bool, List, [], ◌∷◌, ◌++◌, length, map, take, slice_get, Some, refl, sym, ap, subst, ◌∙◌, append_assoc, arith}
use Rattle.std.specs.List.{AllZip}
use Rattle.std.proofs.lemmas.List.{append-nil, length-append, length-map, length-take-le, map-append, take_all}
use Rattle.std.proofs.lemmas.Grind.{flat_map-append}
use Rattle.hs_base.specs.declared.context.Mask.{Mask}
use Rattle.hs_base.specs.declared.ext.Entry.{Entry}
use Rattle.hs_base.specs.Chains.{Piece, lit, nfa, rep}
use Rattle.hs_base.specs.Lists.{Each}
use Rattle.hs_base.specs.LiteralView.{literal_bytes}
use Rattle.hs_base.specs.Literals.{LiteralByte}
use Rattle.hs_base.specs.Regions.{Place, places_behind, place_form}
use Rattle.hs_base.specs.KeptPieces.{form_of}
use Rattle.hs_pieces.specs.LookBack.{begins_with_look_back}
use Rattle.hs_rose.specs.declared.builder.Builder.{Builder}
use Rattle.hs_rose.specs.declared.builder.Named.{Named}
use Rattle.hs_rose.specs.declared.builder.Owner.{Owner}
use Rattle.hs_rose.specs.declared.info.ChainInfo.{ChainInfo}
use Rattle.hs_rose.specs.declared.info.EntryInfo.{EntryInfo}
use Rattle.hs_rose.specs.declared.literal_index.LiteralIndex.{LiteralIndex}
use Rattle.hs_rose.specs.declared.role.Role.{Role}
use Rattle.hs_rose.specs.declared.shape.Shape.{Shape}
use Rattle.hs_rose.specs.Building.{AreKept, IsBuilt, IsNamed, IsNext, IsOwner, as_many, one_more, IsPlaceOf, IsRoleFor, IsSound, literals_of, models_of}
use Rattle.hs_rose.specs.Kinds.{IsShape}
use Rattle.hs_rose.specs.Shapes.{shape_for}
use Rattle.hs_rose.proofs.ShapeLemmas.{shaped}
use Rattle.hs_rose.specs.Indexing.{IsIndexed}
use Rattle.hs_rose.specs.Listing.{Asked, ListedChain, ListedPiece, asked_of, chains_from, listed_from, listed_piece, listed_pieces, pieces_of}
use Rattle.hs_rose.specs.Made.{IsMade, IsMarked, model_of}
use Rattle.hs_rose.specs.Numbering.{AreApart}
use Rattle.hs_rose.specs.Programs.{AreChainsOf, IsChainOf, IsInfoOf, IsRoleOf, Names}
use Rattle.hs_rose.specs.Ordering.{AreInOrder}
use Rattle.hs_rose.proofs.FinishLemmas.{literal-is, literal-there}
use Rattle.hs_rose.proofs.OrderLemmas.{push-next, push-same}
use Rattle.hs_rose.proofs.ListLemmas.{take-get, zip-each, zip-length, zip-push}

names-kept : (ls ls' : List (List LiteralByte)) (ms ms' : List Piece) → AreKept ls ls' → AreKept ms ms' → (n : ℕ) (null : Mask) (piece : Piece) → Names ls ms n null piece → Names ls' ms' n null piece
names-kept ls ls' ms ms' literals models n null (lit xs) names = record { named = literals n xs names.named; null_is = names.null_is }
names-kept ls ls' ms ms' literals models n null (nfa tree) names = record { named = models n (nfa tree) names.named; null_is = names.null_is }
names-kept ls ls' ms ms' literals models n null (rep set least greatest) names =
    record { named = models n (rep set least greatest) names.named; null_is = names.null_is }

abbrev place_with : (looks_back : Bool) (pieces : List Piece) (piece : Piece) → Place
place_with looks_back pieces piece = record { looks_back = looks_back; pieces = pieces; piece = piece }

-- a role stays that of its piece where nothing gets another number
role-kept : (ls ls' : List (List LiteralByte)) (ms ms' : List Piece) → AreKept ls ls' → AreKept ms ms' → (r : Role) (x : ListedPiece) → IsRoleOf ls ms r x → IsRoleOf ls' ms' r x
role-kept ls ls' ms ms' literals models r x is = record {
  entry = is.entry;
  chain = is.chain;
  piece = is.piece;
  id = is.id;
  least = is.least;
  greatest = is.greatest;
  kind_is = is.kind_is;
  size_is = is.size_is;
  names = names-kept ls ls' ms ms' literals models r.number r.null x.place.piece is.names;
}

-- what is made for a piece is its role
role-made : (ls : List (List LiteralByte)) (ms : List Piece) (owner : Owner) (before : ℕ) (piece : Piece) (shape : Shape) (named : Named) (r : Role) (x : ListedChain) (place : Place) →
    IsOwner owner x → IsPlaceOf owner before piece place → shape ≡ shape_for owner.looks_back before piece → Names ls ms named.number named.null piece → IsRoleFor owner before shape named r →
    IsRoleOf ls ms r (listed_piece x place)
role-made ls ms owner before piece shape named r x place own at made_as names is =
    let form : IsShape (form_of owner.looks_back place.pieces piece) piece shape.kind shape.size = subst (λ (s : Shape). IsShape (form_of owner.looks_back place.pieces piece) piece s.kind s.size) (ap (λ n. shape_for owner.looks_back n piece) at.pieces ∙ sym made_as) (shaped owner.looks_back place.pieces piece) in
    let same : form_of owner.looks_back place.pieces piece ≡ place_form place = ap (λ l. form_of l place.pieces piece) (sym at.looks_back) ∙ ap (λ p. form_of place.looks_back place.pieces p) (sym at.piece_is) in
    let here : IsShape (place_form place) place.piece shape.kind shape.size = subst (λ p. IsShape (place_form place) p shape.kind shape.size) (sym at.piece_is) (subst (λ f. IsShape f piece shape.kind shape.size) same form) in record {
      entry = is.entry ∙ own.entry;
      chain = is.chain ∙ own.chain;
      piece = is.piece ∙ ap suc (sym at.pieces);
      id = ap (λ i. i.0) is.id ∙ own.id;
      least = is.least ∙ own.least;
      greatest = is.greatest ∙ own.greatest;
      kind_is = is.kind_is ∙ here.kind_is;
      size_is = is.size_is ∙ here.size_is;
      names = subst (λ p. Names ls ms r.number r.null p) (sym at.piece_is)
          (subst (λ (n : Mask). Names ls ms r.number n piece) (sym is.null) (subst (λ n. Names ls ms n named.null piece) (sym is.number) names));
    }

-- one more role keeps the order of literals
order-more : (old mid : Builder) (piece : Piece) (named : Named) (r : Role) (x : ListedChain) (place : Place) → IsNext old mid piece named.number → AreInOrder old.roles.items (length (literals_of old)) →
    IsRoleOf (literals_of mid) (models_of mid) r (listed_piece x place) → r.number ≡ named.number → {owner : Owner} {before : ℕ} → IsPlaceOf owner before piece place → AreInOrder (old.roles.items ++ r ∷ []) (length (literals_of mid))
order-more old mid piece named r x place (as_many count) order role number at =
    subst (λ n. AreInOrder (old.roles.items ++ r ∷ []) n) (sym count)
    (push-same old.roles.items (length (literals_of old)) order r
    (λ k names. subst (λ n. k < n) count (literal-there (literals_of mid) (models_of mid) r (listed_piece x place) place.looks_back place.pieces place.piece refl role k names)))
order-more old mid piece named r x place (one_more xs is_literal numbered count) order role number at =
    let here : place ≡ place_with place.looks_back place.pieces (lit xs) = ap (λ p. place_with place.looks_back place.pieces p) (at.piece_is ∙ is_literal) in
    subst (λ n. AreInOrder (old.roles.items ++ r ∷ []) n) (sym count)
    (push-next old.roles.items (length (literals_of old)) order r
    (literal-is (literals_of mid) (models_of mid) r (listed_piece x place) place.looks_back place.pieces xs here role ∙ ap (λ n. Some n) (number ∙ numbered)))

-- one more piece
pub piece-built : (old mid new : Builder) (owner : Owner) (before : ℕ) (piece : Piece) (shape : Shape) (named : Named) (r : Role) →
    (IsSound old → IsNamed old mid piece named) → shape ≡ shape_for owner.looks_back before piece → IsRoleFor owner before shape named r →
    new.roles.items ≡ mid.roles.items ++ r ∷ [] → new.chains.items ≡ mid.chains.items → new.literals ≡ mid.literals → new.made.items ≡ mid.made.items →
    (chains : List ListedChain) (pieces : List ListedPiece) (x : ListedChain) (place : Place) → IsOwner owner x → IsPlaceOf owner before piece place → IsBuilt old chains pieces → IsBuilt new chains (pieces ++ listed_piece x place ∷ [])
piece-built old mid new owner before piece shape named r naming made_as made roles chain_list literal_list made_list chains pieces x place own at built =
    let is = naming built.sound in
    let ls = literals_of mid in
    let ms = models_of mid in
    let same_ls : literals_of new ≡ ls = ap (λ (index : LiteralIndex). map literal_bytes index.list.items) literal_list in
    let same_ms : models_of new ≡ ms = ap (λ zs. map model_of zs) made_list in
    let made_role : IsRoleOf ls ms r (listed_piece x place) = role-made ls ms owner before piece shape named r x place own at made_as is.names made in
    let before_zip : AllZip (IsRoleOf ls ms) old.roles.items (listed_pieces chains ++ pieces) =
    zip-each (IsRoleOf (literals_of old) (models_of old)) (IsRoleOf ls ms) old.roles.items (listed_pieces chains ++ pieces)
    (role-kept (literals_of old) ls (models_of old) ms is.grown.literals is.grown.models) built.roles in
    let mid_zip : AllZip (IsRoleOf ls ms) mid.roles.items (listed_pieces chains ++ pieces) = subst (λ rs. AllZip (IsRoleOf ls ms) rs (listed_pieces chains ++ pieces)) (sym is.grown.roles) before_zip in
    let more : AllZip (IsRoleOf ls ms) (mid.roles.items ++ r ∷ []) ((listed_pieces chains ++ pieces) ++ listed_piece x place ∷ []) =
    zip-push (IsRoleOf ls ms) mid.roles.items (listed_pieces chains ++ pieces) r (listed_piece x place) mid_zip
    made_role in
    let flat : AllZip (IsRoleOf ls ms) new.roles.items (listed_pieces chains ++ (pieces ++ listed_piece x place ∷ [])) =
    subst (λ rs. AllZip (IsRoleOf ls ms) rs (listed_pieces chains ++ (pieces ++ listed_piece x place ∷ []))) (sym roles)
    (subst (λ ps. AllZip (IsRoleOf ls ms) (mid.roles.items ++ r ∷ []) ps) (append_assoc (listed_pieces chains) pieces (listed_piece x place ∷ [])) more) in record {
      sound = record {
        indexed = subst (λ index. IsIndexed index) (sym literal_list) is.sound.indexed;
        literals = subst (λ zs. AreApart zs) (sym same_ls) is.sound.literals;
        models = subst (λ zs. AreApart zs) (sym same_ms) is.sound.models;
        made = subst (λ zs. Each IsMade zs) (sym made_list) is.sound.made;
        marked = subst (λ zs. Each IsMarked zs) (sym made_list) is.sound.marked;
      };
      roles = subst (λ zs. AllZip (IsRoleOf zs (models_of new)) new.roles.items (listed_pieces chains ++ (pieces ++ listed_piece x place ∷ []))) (sym same_ls)
          (subst (λ zs. AllZip (IsRoleOf ls zs) new.roles.items (listed_pieces chains ++ (pieces ++ listed_piece x place ∷ []))) (sym same_ms) flat);
      chains_are = subst (λ cs. AreChainsOf 0 cs chains) (sym (chain_list ∙ is.grown.chains)) built.chains_are;
      order = subst (λ n. AreInOrder new.roles.items n) (sym (ap length same_ls)) (subst (λ rs. AreInOrder rs (length ls)) (sym (roles ∙ ap (λ rs. rs ++ r ∷ []) is.grown.roles)) (order-more old mid piece named r x place is.next built.order made_role made.number at));
    }

-- the places of the pieces of a chain
abbrev pub place_at : (looks_back : Bool) (pieces : List Piece) (piece : Piece) → Place
place_at looks_back pieces piece = record { looks_back = looks_back; pieces = pieces; piece = piece }

pub places-at : (looks_back : Bool) (front rest : List Piece) (k : ℕ) (x : Piece) → slice_get rest k ≡ Some x → slice_get (places_behind looks_back front rest) k ≡ Some (place_at looks_back (front ++ take k rest) x)
places-at looks_back front [] k x at = absurd (cc)
places-at looks_back front (a ∷ rest) zero x at =
    let e : a ≡ x = cc in
    ap (λ (p : List Piece). Some (place_at looks_back p a)) (sym (append-nil front)) ∙ ap (λ (p : Piece). Some (place_at looks_back (front ++ []) p)) e
places-at looks_back front (a ∷ rest) (suc k) x at =
    places-at looks_back (front ++ a ∷ []) rest k x at ∙ ap (λ (p : List Piece). Some (place_at looks_back p x)) (append_assoc front (a ∷ []) (take k rest))

pub places-length : (looks_back : Bool) (front rest : List Piece) → length (places_behind looks_back front rest) ≡ length rest
places-length looks_back front [] = refl
places-length looks_back front (a ∷ rest) = ap suc (places-length looks_back (front ++ a ∷ []) rest)

abbrev pub places_of_chain : ListedChain → List Place
places_of_chain x = places_behind (begins_with_look_back x.pieces) [] x.pieces

pub pieces-length : (x : ListedChain) → length (pieces_of x) ≡ length x.pieces
pieces-length x = length-map (places_of_chain x) (listed_piece x) ∙ places-length (begins_with_look_back x.pieces) [] x.pieces

-- one more piece of a chain of which so many are there
pub chain-step : (mid new : Builder) (owner : Owner) (x : ListedChain) (k : ℕ) (piece : Piece) (chains : List ListedChain) → IsOwner owner x → k < length x.pieces → slice_get x.pieces k ≡ Some piece →
    ((pieces : List ListedPiece) (place : Place) → IsPlaceOf owner k piece place → IsBuilt mid chains pieces → IsBuilt new chains (pieces ++ listed_piece x place ∷ [])) →
    IsBuilt mid chains (map (listed_piece x) (take k (places_of_chain x))) → IsBuilt new chains (map (listed_piece x) (take (k + 1) (places_of_chain x)))
chain-step mid new owner x k piece chains own below at adds built =
    let place : Place = place_at (begins_with_look_back x.pieces) (take k x.pieces) piece in
    let there : slice_get (places_of_chain x) k ≡ Some place = places-at (begins_with_look_back x.pieces) [] x.pieces k piece at in
    let now = adds (map (listed_piece x) (take k (places_of_chain x))) place (record {
      looks_back = sym own.looks_back;
      pieces = length-take-le k x.pieces (omega arith);
      piece_is = refl;
    }) built in
    let more : map (listed_piece x) (take (suc k) (places_of_chain x)) ≡ map (listed_piece x) (take k (places_of_chain x)) ++ listed_piece x place ∷ [] =
    ap (λ ps. map (listed_piece x) ps) (take-get (places_of_chain x) k place there) ∙ map-append (listed_piece x) (take k (places_of_chain x)) (place ∷ []) in
    let next : suc k ≡ k + 1 = omega arith in
    subst (λ n. IsBuilt new chains (map (listed_piece x) (take n (places_of_chain x)))) next (subst (λ ps. IsBuilt new chains ps) (sym more) now)

-- one more chain
chains-push : (first : ℕ) (cs : List ChainInfo) (xs : List ListedChain) (c : ChainInfo) (x : ListedChain) → AreChainsOf first cs xs → IsChainOf (first + length (listed_pieces xs)) c x → AreChainsOf first (cs ++ c ∷ []) (xs ++ x ∷ [])
chains-push first [] [] c x are is = let e : first + 0 ≡ first = omega arith in (subst (λ n. IsChainOf n c x) e is, tt)
chains-push first [] (y ∷ xs) c x are is = absurd are
chains-push first (d ∷ cs) [] c x are is = absurd are
chains-push first (d ∷ cs) (y ∷ xs) c x are is =
    let e : first + length (listed_pieces (y ∷ xs)) ≡ (first + length y.pieces) + length (listed_pieces xs) = omega (arith, length-append (pieces_of y) (listed_pieces xs), pieces-length y) in
    (are.0, chains-push (first + length y.pieces) cs xs c x are.1 (subst (λ n. IsChainOf n c x) e is))

pieces-push : (chains : List ListedChain) (x : ListedChain) → listed_pieces (chains ++ x ∷ []) ++ [] ≡ listed_pieces chains ++ pieces_of x
pieces-push chains x =
    append-nil (listed_pieces (chains ++ x ∷ [])) ∙ flat_map-append pieces_of chains (x ∷ []) ∙ ap (λ ps. listed_pieces chains ++ ps) (append-nil (pieces_of x))

pub chain-built : (old mid new : Builder) (chains : List ListedChain) (x : ListedChain) (info : ChainInfo) → IsBuilt old chains [] → IsBuilt mid chains (map (listed_piece x) (take (length x.pieces) (places_of_chain x))) →
    info.entry ≡ x.entry → info.first ≡ length old.roles.items → info.end ≡ length mid.roles.items →
    new.chains.items ≡ mid.chains.items ++ info ∷ [] → new.roles.items ≡ mid.roles.items → new.literals ≡ mid.literals → new.made.items ≡ mid.made.items → IsBuilt new (chains ++ x ∷ []) []
chain-built old mid new chains x info begun almost entry first end chain_list role_list literal_list made_list =
    let ls = literals_of mid in
    let ms = models_of mid in
    let same_ls : literals_of new ≡ ls = ap (λ (index : LiteralIndex). map literal_bytes index.list.items) literal_list in
    let same_ms : models_of new ≡ ms = ap (λ zs. map model_of zs) made_list in
    let all : take (length x.pieces) (places_of_chain x) ≡ places_of_chain x = take_all (length x.pieces) (places_of_chain x) (omega (arith, places-length (begins_with_look_back x.pieces) [] x.pieces)) in
    let whole : IsBuilt mid chains (pieces_of x) = subst (λ ps. IsBuilt mid chains (map (listed_piece x) ps)) all almost in
    let begun_length = zip-length (IsRoleOf (literals_of old) (models_of old)) old.roles.items (listed_pieces chains ++ []) begun.roles in
    let length_now = zip-length (IsRoleOf ls ms) mid.roles.items (listed_pieces chains ++ pieces_of x) whole.roles in
    let pieces_none : List ListedPiece = [] in
    let at_first : info.first ≡ 0 + length (listed_pieces chains) = omega (arith, first, begun_length, length-append (listed_pieces chains) (pieces_none)) in
    let at_end : info.end ≡ 0 + length (listed_pieces chains) + length x.pieces = omega (arith, end, length_now, length-append (listed_pieces chains) (pieces_of x), pieces-length x) in
    record {
      sound = record {
        indexed = subst (λ index. IsIndexed index) (sym literal_list) whole.sound.indexed;
        literals = subst (λ zs. AreApart zs) (sym same_ls) whole.sound.literals;
        models = subst (λ zs. AreApart zs) (sym same_ms) whole.sound.models;
        made = subst (λ zs. Each IsMade zs) (sym made_list) whole.sound.made;
        marked = subst (λ zs. Each IsMarked zs) (sym made_list) whole.sound.marked;
      };
      roles = subst (λ zs. AllZip (IsRoleOf zs (models_of new)) new.roles.items (listed_pieces (chains ++ x ∷ []) ++ [])) (sym same_ls)
          (subst (λ zs. AllZip (IsRoleOf ls zs) new.roles.items (listed_pieces (chains ++ x ∷ []) ++ [])) (sym same_ms)
          (subst (λ rs. AllZip (IsRoleOf ls ms) rs (listed_pieces (chains ++ x ∷ []) ++ [])) (sym role_list)
          (subst (λ ps. AllZip (IsRoleOf ls ms) mid.roles.items ps) (sym (pieces-push chains x)) whole.roles)));
      chains_are = subst (λ cs. AreChainsOf 0 cs (chains ++ x ∷ [])) (sym chain_list)
          (chains-push 0 mid.chains.items chains info x whole.chains_are (record { entry = entry; first = at_first; end = at_end }));
      order = subst (λ n. AreInOrder new.roles.items n) (sym (ap length same_ls)) (subst (λ rs. AreInOrder rs (length ls)) (sym role_list) whole.order);
    }

-- the chains of an entry
abbrev pub chain_at : (entry number : ℕ) → Asked → List Piece → ListedChain
chain_at entry number asked pieces = record { entry = entry; number = number; asked = asked; pieces = pieces }

pub chains-at : (entry number : ℕ) (asked : Asked) (cs : List (List Piece)) (k : ℕ) (c : List Piece) → slice_get cs k ≡ Some c → slice_get (chains_from entry number asked cs) k ≡ Some (chain_at entry (number + k) asked c)
chains-at entry number asked [] k c at = absurd (cc)
chains-at entry number asked (a ∷ cs) zero c at =
    let e : a ≡ c = cc in
    let same : number ≡ number + 0 = omega arith in
    ap (λ (p : List Piece). Some (chain_at entry number asked p)) e ∙ ap (λ (n : ℕ). Some (chain_at entry n asked c)) same
chains-at entry number asked (a ∷ cs) (suc k) c at =
    let e : suc number + k ≡ number + suc k = omega arith in
    chains-at entry (suc number) asked cs k c at ∙ ap (λ (n : ℕ). Some (chain_at entry n asked c)) e

chains-length : (entry number : ℕ) (asked : Asked) (cs : List (List Piece)) → length (chains_from entry number asked cs) ≡ length cs
chains-length entry number asked [] = refl
chains-length entry number asked (a ∷ cs) = ap suc (chains-length entry (suc number) asked cs)

pub entry-step : (new : Builder) (before : List ListedChain) (entry : ℕ) (asked : Asked) (cs : List (List Piece)) (k : ℕ) (c : List Piece) → slice_get cs k ≡ Some c →
    IsBuilt new ((before ++ take k (chains_from entry 1 asked cs)) ++ chain_at entry (1 + k) asked c ∷ []) [] → IsBuilt new (before ++ take (k + 1) (chains_from entry 1 asked cs)) []
entry-step new before entry asked cs k c at built =
    let x : ListedChain = chain_at entry (1 + k) asked c in
    let next : suc k ≡ k + 1 = omega arith in
    let more : (before ++ take k (chains_from entry 1 asked cs)) ++ x ∷ [] ≡ before ++ take (k + 1) (chains_from entry 1 asked cs) =
    append_assoc before (take k (chains_from entry 1 asked cs)) (x ∷ []) ∙ ap (λ xs. before ++ xs) (sym (take-get (chains_from entry 1 asked cs) k x (chains-at entry 1 asked cs k c at)))
    ∙ ap (λ n. before ++ take n (chains_from entry 1 asked cs)) next in
    subst (λ xs. IsBuilt new xs []) more built

pub entry-built : (new : Builder) (before : List ListedChain) (entry : ℕ) (asked : Asked) (cs : List (List Piece)) (n : ℕ) → n ≡ length cs → IsBuilt new (before ++ take n (chains_from entry 1 asked cs)) [] → IsBuilt new (before ++ chains_from entry 1 asked cs) []
entry-built new before entry asked cs n end built =
    subst (λ xs. IsBuilt new (before ++ xs) []) (take_all n (chains_from entry 1 asked cs) (omega (arith, end, chains-length entry 1 asked cs))) built

-- the chains of a list
pub listed-push : (i : ℕ) (es : List Asked) (css : List (List (List Piece))) (e : Asked) (cs : List (List Piece)) → length es ≡ length css →
    listed_from i (es ++ e ∷ []) (css ++ cs ∷ []) ≡ listed_from i es css ++ chains_from (i + length es) 1 e cs
listed-push i [] [] e cs same = let none : i ≡ i + 0 = omega arith in append-nil (chains_from i 1 e cs) ∙ ap (λ n. chains_from n 1 e cs) none
listed-push i [] (own ∷ css) e cs same = absurd (cc)
listed-push i (a ∷ es) [] e cs same = absurd (cc)
listed-push i (a ∷ es) (own ∷ css) e cs same =
    let less : length es ≡ length css = omega (arith, same) in
    let next : suc i + length es ≡ i + suc (length es) = omega arith in
    ap (λ xs. chains_from i 1 a own ++ xs) (listed-push (suc i) es css e cs less ∙ ap (λ n. listed_from (suc i) es css ++ chains_from n 1 e cs) next)
    ∙ sym (append_assoc (chains_from i 1 a own) (listed_from (suc i) es css) (chains_from (i + suc (length es)) 1 e cs))

pub list-step : (new : Builder) (es : List Asked) (css : List (List (List Piece))) (k number : ℕ) (e : Asked) (cs : List (List Piece)) → k < length es → length css ≡ length es → slice_get es k ≡ Some e → slice_get css k ≡ Some cs → number ≡ 1 + k →
    IsBuilt new (listed_from 1 (take k es) (take k css) ++ chains_from number 1 e cs) [] → IsBuilt new (listed_from 1 (take (k + 1) es) (take (k + 1) css)) []
list-step new es css k number e cs below same at at' is built =
    let cut_es : length (take k es) ≡ k = length-take-le k es (omega arith) in
    let cut_css : length (take k css) ≡ k = length-take-le k css (omega arith) in
    let numbered : number ≡ 1 + length (take k es) = omega (arith, is, cut_es) in
    let more : listed_from 1 (take k es) (take k css) ++ chains_from number 1 e cs ≡ listed_from 1 (take (suc k) es) (take (suc k) css) =
    ap (λ n. listed_from 1 (take k es) (take k css) ++ chains_from n 1 e cs) numbered
    ∙ sym (listed-push 1 (take k es) (take k css) e cs (cut_es ∙ sym cut_css))
    ∙ ap (λ xs. listed_from 1 xs (take k css ++ cs ∷ [])) (sym (take-get es k e at)) ∙ ap (λ xs. listed_from 1 (take (suc k) es) xs) (sym (take-get css k cs at')) in
    let next : suc k ≡ k + 1 = omega arith in
    subst (λ n. IsBuilt new (listed_from 1 (take n es) (take n css)) []) next (subst (λ xs. IsBuilt new xs []) more built)

pub list-built : (new : Builder) (es : List Asked) (css : List (List (List Piece))) (n : ℕ) → n ≡ length es → length css ≡ length es → IsBuilt new (listed_from 1 (take n es) (take n css)) [] → IsBuilt new (listed_from 1 es css) []
list-built new es css n end same built =
    subst (λ xs. IsBuilt new (listed_from 1 xs css) []) (take_all n es (omega (arith, end))) (subst (λ xs. IsBuilt new (listed_from 1 (take n es) xs) []) (take_all n css (omega (arith, end, same))) built)

-- what is asked of one more entry
pub info-more : (ids : List ℕ) (infos : List EntryInfo) (entries : List Entry) (k : ℕ) (info : EntryInfo) (e : Entry) → slice_get entries k ≡ Some e → IsInfoOf ids info (asked_of e) → AllZip (IsInfoOf ids) infos (map asked_of (take k entries)) →
    AllZip (IsInfoOf ids) (infos ++ info ∷ []) (map asked_of (take (k + 1) entries))
info-more ids infos entries k info e at is all =
    let next : suc k ≡ k + 1 = omega arith in
    let more : map asked_of (take k entries) ++ asked_of e ∷ [] ≡ map asked_of (take (k + 1) entries) =
    sym (map-append asked_of (take k entries) (e ∷ [])) ∙ ap (λ es. map asked_of es) (sym (take-get entries k e at)) ∙ ap (λ n. map asked_of (take n entries)) next in
    subst (λ es. AllZip (IsInfoOf ids) (infos ++ info ∷ []) es) more (zip-push (IsInfoOf ids) infos (map asked_of (take k entries)) info (asked_of e) all is)

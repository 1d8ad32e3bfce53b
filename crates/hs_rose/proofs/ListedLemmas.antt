-- The chains and pieces of a list, by their numbers.
use Rattle.std.proofs.Common.{◌≡◌, ℕ, zero, suc, ◌+◌, ◌-◌, ◌≤◌, Bool, List, [], ◌∷◌, ◌++◌, length, map, take, slice_get, Some, refl, sym, ap, subst, ◌∙◌, arith}
use Rattle.std.proofs.lemmas.List.{length-append}
use Rattle.std.proofs.lemmas.Grind.{flat_map-append}
use Rattle.hs_base.specs.Chains.{Piece}
use Rattle.hs_base.specs.Lists.{Each}
use Rattle.hs_base.specs.Regions.{places_behind}
use Rattle.hs_pieces.specs.LookBack.{begins_with_look_back}
use Rattle.hs_rose.specs.declared.info.ChainInfo.{ChainInfo}
use Rattle.hs_rose.specs.Listing.{Asked, ListedChain, ListedPiece, chains_from, listed_from, listed_piece, listed_pieces, pieces_of}
use Rattle.hs_rose.specs.Programs.{AreChainsOf, IsChainOf}
use Rattle.hs_rose.specs.Runnable.{AreRunnable, IsRunnable, IsRunnableChain}
use Rattle.hs_rose.proofs.BuildLemmas.{pieces-length, place_at, places-at}
use Rattle.hs_rose.proofs.ListLemmas.{get-left, get-map}

pub get-right : {A : Type 0} (xs ys : List A) (k : ℕ) (x : A) → slice_get ys k ≡ Some x → slice_get (xs ++ ys) (length xs + k) ≡ Some x
get-right [] ys k x at = let e : k ≡ 0 + k = omega arith in subst (λ n. slice_get ys n ≡ Some x) e at
get-right (a ∷ xs) ys k x at = let e : suc (length xs + k) ≡ suc (length xs) + k = omega arith in subst (λ n. slice_get (a ∷ xs ++ ys) n ≡ Some x) e (get-right xs ys k x at)

pub each-append : {A : Type 0} (P : A → Type 0) (xs ys : List A) → Each P xs → Each P ys → Each P (xs ++ ys)
each-append P [] ys first second = second
each-append P (x ∷ xs) ys first second = (first.0, each-append P xs ys first.1 second)

-- how many pieces the chains before that number have
abbrev pub pieces_before : List ListedChain → ℕ → ℕ
pieces_before xs j = length (listed_pieces (take j xs))

-- and with one chain more
longer : (y : ListedChain) (xs : List ListedChain) → length (listed_pieces (y ∷ xs)) ≡ length y.pieces + length (listed_pieces xs)
longer y xs = length-append (pieces_of y) (listed_pieces xs) ∙ ap (λ n. n + length (listed_pieces xs)) (pieces-length y)

pub before-next : (xs : List ListedChain) (j : ℕ) (x : ListedChain) → slice_get xs j ≡ Some x → pieces_before xs (suc j) ≡ pieces_before xs j + length x.pieces
before-next [] j x at = absurd (cc)
before-next (y ∷ xs) zero x at =
    let e : y ≡ x = cc in
    omega (arith, longer y [], ap (λ (z : ListedChain). length z.pieces) e)
before-next (y ∷ xs) (suc j) x at = omega (arith, longer y (take (suc j) xs), longer y (take j xs), before-next xs j x at)

pub before-within : (xs : List ListedChain) (j : ℕ) → pieces_before xs j ≤ length (listed_pieces xs)
before-within [] zero = omega arith
before-within [] (suc j) = omega arith
before-within (y ∷ xs) zero = omega arith
before-within (y ∷ xs) (suc j) = omega (arith, longer y (take j xs), longer y xs, before-within xs j)

-- the chain of a number
pub chain-info : (first : ℕ) (cs : List ChainInfo) (xs : List ListedChain) → AreChainsOf first cs xs → (j : ℕ) (c : ChainInfo) → slice_get cs j ≡ Some c →
    (x : ListedChain) × (slice_get xs j ≡ Some x) × IsChainOf (first + pieces_before xs j) c x
chain-info first [] xs are j c at = absurd (cc)
chain-info first (d ∷ cs) [] are j c at = absurd are
chain-info first (d ∷ cs) (y ∷ xs) are zero c at =
    let e : d ≡ c = cc in
    let same : first ≡ first + 0 = omega arith in
    (y, refl, subst (λ n. IsChainOf n c y) same (subst (λ (b : ChainInfo). IsChainOf first b y) e are.0))
chain-info first (d ∷ cs) (y ∷ xs) are (suc j) c at =
    let (x, there, is) = chain-info (first + length y.pieces) cs xs are.1 j c at in
    let same : (first + length y.pieces) + pieces_before xs j ≡ first + pieces_before (y ∷ xs) (suc j) = omega (arith, longer y (take j xs)) in
    (x, there, subst (λ n. IsChainOf n c x) same is)

pub chains-count : (first : ℕ) (cs : List ChainInfo) (xs : List ListedChain) → AreChainsOf first cs xs → length cs ≡ length xs
chains-count first [] [] are = refl
chains-count first [] (y ∷ xs) are = absurd are
chains-count first (d ∷ cs) [] are = absurd are
chains-count first (d ∷ cs) (y ∷ xs) are = ap suc (chains-count (first + length y.pieces) cs xs are.1)

-- the piece of a number in the chain of a number
abbrev pub piece_of : ListedChain → ℕ → Piece → ListedPiece
piece_of x i piece = listed_piece x (place_at (begins_with_look_back x.pieces) (take i x.pieces) piece)

own-piece : (x : ListedChain) (i : ℕ) (piece : Piece) → slice_get x.pieces i ≡ Some piece → slice_get (pieces_of x) i ≡ Some (piece_of x i piece)
own-piece x i piece at =
    get-map (listed_piece x) (places_behind (begins_with_look_back x.pieces) [] x.pieces) i (place_at (begins_with_look_back x.pieces) (take i x.pieces) piece) (places-at (begins_with_look_back x.pieces) [] x.pieces i piece at)

pub piece-at : (xs : List ListedChain) (j i : ℕ) (x : ListedChain) (piece : Piece) → slice_get xs j ≡ Some x → slice_get x.pieces i ≡ Some piece →
    slice_get (listed_pieces xs) (pieces_before xs j + i) ≡ Some (piece_of x i piece)
piece-at [] j i x piece there at = absurd (cc)
piece-at (y ∷ xs) zero i x piece there at =
    let e : x ≡ y = cc in
    let same : i ≡ 0 + i = omega arith in
    subst (λ n. slice_get (listed_pieces (y ∷ xs)) n ≡ Some (piece_of x i piece)) same (get-left (pieces_of y) (listed_pieces xs) i (piece_of x i piece) (subst (λ (z : ListedChain). slice_get (pieces_of z) i ≡ Some (piece_of x i piece)) e (own-piece x i piece at)))
piece-at (y ∷ xs) (suc j) i x piece there at =
    let same : length (pieces_of y) + (pieces_before xs j + i) ≡ pieces_before (y ∷ xs) (suc j) + i = omega (arith, longer y (take j xs), pieces-length y) in
    subst (λ n. slice_get (listed_pieces (y ∷ xs)) n ≡ Some (piece_of x i piece)) same (get-right (pieces_of y) (listed_pieces xs) (pieces_before xs j + i) (piece_of x i piece) (piece-at xs j i x piece there at))

-- the entry of a chain
pub record IsListed (first : ℕ) (entries : List Asked) (x : ListedChain) : Type 0 where
  pub low : first ≤ x.entry
  pub asked_is : slice_get entries (x.entry - first) ≡ Some x.asked

own-listed : (entry number : ℕ) (asked : Asked) (entries : List Asked) (cs : List (List Piece)) → Each (IsListed entry (asked ∷ entries)) (chains_from entry number asked cs)
own-listed entry number asked entries [] = tt
own-listed entry number asked entries (c ∷ cs) =
    let e : 0 ≡ entry - entry = omega arith in
    (record { low = omega arith; asked_is = subst (λ n. slice_get (asked ∷ entries) n ≡ Some asked) e refl }, own-listed entry (suc number) asked entries cs)

later-listed : (first : ℕ) (asked : Asked) (entries : List Asked) (xs : List ListedChain) → Each (IsListed (suc first) entries) xs → Each (IsListed first (asked ∷ entries)) xs
later-listed first asked entries [] each = tt
later-listed first asked entries (x ∷ xs) each =
    let low : suc first ≤ x.entry = each.0.low in
    let e : suc (x.entry - suc first) ≡ x.entry - first = omega (arith, low) in
    (record { low = omega (arith, low); asked_is = subst (λ n. slice_get (asked ∷ entries) n ≡ Some x.asked) e each.0.asked_is }, later-listed first asked entries xs each.1)

pub all-listed : (first : ℕ) (entries : List Asked) (chains : List (List (List Piece))) → Each (IsListed first entries) (listed_from first entries chains)
all-listed first [] chains = tt
all-listed first (asked ∷ entries) [] = tt
all-listed first (asked ∷ entries) (own ∷ chains) =
    each-append (IsListed first (asked ∷ entries)) (chains_from first 1 asked own) (listed_from (suc first) entries chains) (own-listed first 1 asked entries own)
    (later-listed first asked entries (listed_from (suc first) entries chains) (all-listed (suc first) entries chains))

-- each piece can be run
abbrev pub HasRunnable : ListedPiece → Type 0
HasRunnable x = IsRunnable x.place.piece

places-runnable : (x : ListedChain) (looks_back : Bool) (front rest : List Piece) → Each IsRunnable rest → Each HasRunnable (map (listed_piece x) (places_behind looks_back front rest))
places-runnable x looks_back front [] each = tt
places-runnable x looks_back front (piece ∷ rest) each = (each.0, places-runnable x looks_back (front ++ piece ∷ []) rest each.1)

own-runnable : (entry number : ℕ) (asked : Asked) (cs : List (List Piece)) → Each IsRunnableChain cs → Each HasRunnable (listed_pieces (chains_from entry number asked cs))
own-runnable entry number asked [] each = tt
own-runnable entry number asked (c ∷ cs) each =
    let x : ListedChain = record { entry = entry; number = number; asked = asked; pieces = c } in
    each-append HasRunnable (pieces_of x) (listed_pieces (chains_from entry (suc number) asked cs)) (places-runnable x (begins_with_look_back c) [] c each.0.pieces) (own-runnable entry (suc number) asked cs each.1)

pub all-runnable : (first : ℕ) (entries : List Asked) (chains : List (List (List Piece))) → Each AreRunnable chains → Each HasRunnable (listed_pieces (listed_from first entries chains))
all-runnable first [] chains each = tt
all-runnable first (asked ∷ entries) [] each = tt
all-runnable first (asked ∷ entries) (own ∷ chains) each =
    subst (λ ps. Each HasRunnable ps) (sym (flat_map-append pieces_of (chains_from first 1 asked own) (listed_from (suc first) entries chains)))
    (each-append HasRunnable (listed_pieces (chains_from first 1 asked own)) (listed_pieces (listed_from (suc first) entries chains)) (own-runnable first 1 asked own each.0.each)
    (all-runnable (suc first) entries chains each.1))

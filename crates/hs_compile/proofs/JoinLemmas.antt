-- The chains and the roles of a program.
use Rattle.std.proofs.Common.{◌≡◌, ℕ, zero, suc, ◌+◌, ◌-◌, ◌<◌, ◌≤◌, Bool, true, false, List, [], ◌∷◌, length, take, Some, slice_get, refl, sym, ap, subst, ◌∙◌, arith}
use Rattle.std.specs.Prelude.{IfSome, Option, None}
use Rattle.std.proofs.Math.Seq.{take-length}
use Rattle.std.proofs.lemmas.Bool.Decides.{nat_tests}
use Rattle.std.proofs.lemmas.List.{length-take-le}
use Rattle.std.proofs.lemmas.Option.{same_Some, slice_get_within}
use Rattle.hs_base.specs.Chains.{Piece, lit, nfa, rep}
use Rattle.hs_base.specs.Leaving.{IsAtMostWide}
use Rattle.hs_base.specs.Literals.{LiteralByte}
use Rattle.hs_base.specs.Regions.{Place}
use Rattle.hs_base.specs.Trees.{Tree}
use Rattle.hs_expr.specs.Counts.{greatest_width}
use Rattle.hs_expr.proofs.WidthLemmas.{within_widths}
use Rattle.hs_nodes.specs.Nodes.{window_size}
use Rattle.hs_pieces.specs.LookBack.{begins_with_look_back, is_narrow}
use Rattle.hs_rose.specs.declared.info.ChainInfo.{ChainInfo}
use Rattle.hs_rose.specs.declared.info.EntryInfo.{EntryInfo}
use Rattle.hs_rose.specs.declared.kind.Kind.{Kind}
use Rattle.hs_rose.specs.declared.kind.Kind.TheVariants as kinds
use Rattle.hs_rose.specs.declared.role.Role.{Role}
use Rattle.hs_rose.specs.Identifiers.{ids_of}
use Rattle.hs_rose.specs.Kinds.{number_if_literal, place_kind}
use Rattle.hs_rose.specs.Listing.{Asked, ListedChain, ListedPiece, listed_chains, listed_pieces}
use Rattle.hs_rose.specs.Programs.{Tables, IsInfoOf, IsProgramOf, IsRoleOf}
use Rattle.hs_rose.proofs.ListLemmas.{each-get, zip-left, zip-length, zip-right}
use Rattle.hs_rose.proofs.ListedLemmas.{HasRunnable, IsListed, all-listed, all-runnable, before-next, before-within, chain-info, chains-count, piece-at, piece_of, pieces_before}
use Rattle.hs_compile.specs.GraphTables.{IsReady, LooksBack}
use Rattle.hs_compile.proofs.GraphListLemmas.{get-read}

-- a chain that begins with a piece that looks back: that piece, and the literal behind it
pub record BeginsBack (chain : List Piece) : Type 0 where
  pub tree : Tree
  pub value : List LiteralByte
  pub rest : List Piece
  pub is_chain : chain ≡ nfa tree ∷ lit value ∷ rest
  pub narrow : is_narrow (greatest_width tree) ≡ true

pub begins-back : (chain : List Piece) → begins_with_look_back chain ≡ true → BeginsBack chain
begins-back [] is = absurd (let e : false ≡ true = is in cc)
begins-back (lit xs ∷ rest) is = absurd (let e : false ≡ true = is in cc)
begins-back (rep set n m ∷ rest) is = absurd (let e : false ≡ true = is in cc)
begins-back (nfa tree ∷ []) is = absurd (let e : false ≡ true = is in cc)
begins-back (nfa tree ∷ lit xs ∷ rest) is = record { tree = tree; value = xs; rest = rest; is_chain = refl; narrow = is }
begins-back (nfa tree ∷ nfa other ∷ rest) is = absurd (let e : false ≡ true = is in cc)
begins-back (nfa tree ∷ rep set n m ∷ rest) is = absurd (let e : false ≡ true = is in cc)

narrow-by : (width : Option ℕ) (i j : ℕ) → is_narrow width ≡ true → IfSome width (λ n. j ≤ i + n) → j ≤ i + 16
narrow-by None i j is within = absurd (let e : false ≡ true = is in cc)
narrow-by (Some n) i j is within =
    let small : n ≤ 16 = grind (arith, nat_tests) in
    omega (arith, small, within)

-- it is told from few bytes
pub narrow-tree : (tree : Tree) → is_narrow (greatest_width tree) ≡ true → IsAtMostWide window_size tree
narrow-tree tree is w ended i j spans = narrow-by (greatest_width tree) i j is ((within_widths tree).greatest w ended i j spans)

abbrev pub place_of : Bool → List Piece → Piece → Place
place_of l pieces piece = record { looks_back = l; pieces = pieces; piece = piece }

-- a role that looks back is that of the first piece of a chain that begins so
pub looks-at : (l : Bool) (pieces : List Piece) (piece : Piece) → place_kind (place_of l pieces piece) ≡ kinds.LookBack → (l ≡ true) × (pieces ≡ [])
looks-at l [] (lit xs) e = absurd (let f : kinds.BareLiteral ≡ kinds.LookBack = e in cc)
looks-at true (x ∷ []) (lit xs) e = absurd (let f : kinds.BareLiteral ≡ kinds.LookBack = e in cc)
looks-at false (x ∷ []) (lit xs) e = absurd (let f : kinds.Literal ≡ kinds.LookBack = e in cc)
looks-at true (x ∷ y ∷ pieces) (lit xs) e = absurd (let f : kinds.Literal ≡ kinds.LookBack = e in cc)
looks-at false (x ∷ y ∷ pieces) (lit xs) e = absurd (let f : kinds.Literal ≡ kinds.LookBack = e in cc)
looks-at true [] (nfa tree) e = (refl, refl)
looks-at false [] (nfa tree) e = absurd (let f : kinds.Positions ≡ kinds.LookBack = e in cc)
looks-at true (x ∷ pieces) (nfa tree) e = absurd (let f : kinds.Positions ≡ kinds.LookBack = e in cc)
looks-at false (x ∷ pieces) (nfa tree) e = absurd (let f : kinds.Positions ≡ kinds.LookBack = e in cc)
looks-at l pieces (rep set n None) e = absurd (let f : kinds.First ≡ kinds.LookBack = e in cc)
looks-at l pieces (rep set zero (Some m)) e = absurd (let f : kinds.Last ≡ kinds.LookBack = e in cc)
looks-at l pieces (rep set (suc zero) (Some m)) e = absurd (let f : kinds.Last ≡ kinds.LookBack = e in cc)
looks-at l pieces (rep set (suc (suc n)) (Some m)) e = absurd (let f : kinds.Ring ≡ kinds.LookBack = e in cc)

-- only a literal has the number of one
pub data LiteralAt (piece : Piece) : Type 0 where
  a_literal : (xs : List LiteralByte) → piece ≡ lit xs → LiteralAt piece

pub literal-at : (l : Bool) (pieces : List Piece) (piece : Piece) (n k : ℕ) → number_if_literal (place_kind (place_of l pieces piece)) n ≡ Some k → LiteralAt piece
literal-at l pieces (lit xs) n k e = a_literal xs refl
literal-at true [] (nfa tree) n k e = absurd (let f : None ≡ Some k = e in cc)
literal-at false [] (nfa tree) n k e = absurd (let f : None ≡ Some k = e in cc)
literal-at true (x ∷ pieces) (nfa tree) n k e = absurd (let f : None ≡ Some k = e in cc)
literal-at false (x ∷ pieces) (nfa tree) n k e = absurd (let f : None ≡ Some k = e in cc)
literal-at l pieces (rep set m None) n k e = absurd (let f : None ≡ Some k = e in cc)
literal-at l pieces (rep set zero (Some m)) n k e = absurd (let f : None ≡ Some k = e in cc)
literal-at l pieces (rep set (suc zero) (Some m)) n k e = absurd (let f : None ≡ Some k = e in cc)
literal-at l pieces (rep set (suc (suc i)) (Some m)) n k e = absurd (let f : None ≡ Some k = e in cc)

-- a first piece is no literal that is entered
entered-never : (l : Bool) (piece : Piece) → LiteralAt piece → place_kind (place_of l [] piece) ≡ kinds.Literal → ⊥
entered-never l piece (a_literal xs same) kind =
    let e : kinds.BareLiteral ≡ kinds.Literal = sym (ap (λ p. place_kind (place_of l [] p)) same) ∙ kind in cc

never-entered : (l : Bool) (pieces : List Piece) (piece : Piece) → pieces ≡ [] → (n : ℕ) → place_kind (place_of l pieces piece) ≡ kinds.Literal → ⊥
never-entered l pieces piece none n kind =
    let first : place_kind (place_of l [] piece) ≡ kinds.Literal = ap (λ ps. place_kind (place_of l ps piece)) (sym none) ∙ kind in
    entered-never l piece (literal-at l [] piece n n (ap (λ k. number_if_literal k n) first)) first

pub own-number : (kind : Kind) (n k : ℕ) → number_if_literal kind n ≡ Some k → n ≡ k
own-number kinds.LookBack n k e = absurd (let f : None ≡ Some k = e in cc)
own-number kinds.Positions n k e = absurd (let f : None ≡ Some k = e in cc)
own-number kinds.Dfa n k e = absurd (let f : None ≡ Some k = e in cc)
own-number kinds.BareLiteral n k e = let f : Some n ≡ Some k = e in cc
own-number kinds.Literal n k e = let f : Some n ≡ Some k = e in cc
own-number kinds.First n k e = absurd (let f : None ≡ Some k = e in cc)
own-number kinds.Last n k e = absurd (let f : None ≡ Some k = e in cc)
own-number kinds.Ring n k e = absurd (let f : None ≡ Some k = e in cc)

module _ (t : Tables) (entries : List Asked) (chains : List (List (List Piece))) (is : IsProgramOf t entries chains) where
  abbrev pub listed : List ListedChain
  listed = listed_chains entries chains

  abbrev pub all_pieces : List ListedPiece
  all_pieces = listed_pieces listed

  pub roles-count : length t.roles ≡ length all_pieces
  roles-count = zip-length (IsRoleOf t.literals is.models) t.roles all_pieces is.roles

  -- the chain of a number
  pub record HasChain (j : ℕ) (c : ChainInfo) : Type 0 where
    pub chain : ListedChain
    pub chain_there : slice_get listed j ≡ Some chain
    pub entry : c.entry ≡ chain.entry
    pub first : c.first ≡ pieces_before listed j
    pub end : c.end ≡ pieces_before listed j + length chain.pieces
    pub low : 1 ≤ c.entry
    pub asked_is : slice_get entries (c.entry - 1) ≡ Some chain.asked

  pub has-chain : (j : ℕ) (c : ChainInfo) → slice_get t.chains j ≡ Some c → HasChain j c
  has-chain j c at =
      let (x, there_is, of) = chain-info 0 t.chains listed is.chains_are j c at in
      let own : IsListed 1 entries x = each-get (IsListed 1 entries) listed (all-listed 1 entries chains) j x there_is in
      record {
        chain = x;
        chain_there = there_is;
        entry = of.entry;
        first = omega (arith, of.first);
        end = omega (arith, of.end);
        low = subst (λ n. 1 ≤ n) (sym of.entry) own.low;
        asked_is = subst (λ n. slice_get entries (n - 1) ≡ Some x.asked) (sym of.entry) own.asked_is;
      }

  -- a piece of that chain, and its role
  pub record HasRole (c : ChainInfo) (x : ListedChain) (i : ℕ) (piece : Piece) : Type 0 where
    pub r : Role
    pub role_there : slice_get t.roles (c.first + i) ≡ Some r
    pub piece_there : slice_get all_pieces (c.first + i) ≡ Some (piece_of x i piece)
    pub role : IsRoleOf t.literals is.models r (piece_of x i piece)
    pub runnable : HasRunnable (piece_of x i piece)

  pub has-role : (j : ℕ) (c : ChainInfo) (own : HasChain j c) (i : ℕ) (piece : Piece) → slice_get own.chain.pieces i ≡ Some piece → HasRole c own.chain i piece
  has-role j c own i piece at =
      let x = own.chain in
      let there_is : slice_get all_pieces (c.first + i) ≡ Some (piece_of x i piece) = subst (λ n. slice_get all_pieces (n + i) ≡ Some (piece_of x i piece)) (sym own.first) (piece-at listed j i x piece own.chain_there at) in
      let (r, role_there, role) = zip-right (IsRoleOf t.literals is.models) t.roles all_pieces is.roles (c.first + i) (piece_of x i piece) there_is in
      record { r = r; role_there = role_there; piece_there = there_is; role = role; runnable = each-get HasRunnable all_pieces (all-runnable 1 entries chains is.runnable) (c.first + i) (piece_of x i piece) there_is }

  -- the entry of that chain
  pub record HasInfo (c : ChainInfo) (x : ListedChain) : Type 0 where
    pub info : EntryInfo
    pub info_there : slice_get t.entries (c.entry - 1) ≡ Some info
    pub of : IsInfoOf (ids_of t.identifiers) info x.asked

  pub has-info : (j : ℕ) (c : ChainInfo) (own : HasChain j c) → HasInfo c own.chain
  has-info j c own =
      let (info, info_there, of) = zip-right (IsInfoOf (ids_of t.identifiers)) t.entries entries is.infos (c.entry - 1) own.chain.asked own.asked_is in
      record { info = info; info_there = info_there; of = of }

  pub chain-within : (j : ℕ) (c : ChainInfo) → HasChain j c → c.end ≤ length t.roles
  chain-within j c own = omega (arith, own.end, before-next listed j own.chain own.chain_there, before-within listed (suc j), roles-count)

  -- the first two pieces of a chain of which the first one looks back
  module _ (j : ℕ) (c : ChainInfo) (own : HasChain j c) (back : begins_with_look_back own.chain.pieces ≡ true) where
    abbrev pub pair : BeginsBack own.chain.pieces
    pair = begins-back own.chain.pieces back

    pub first-role : HasRole c own.chain 0 (nfa pair.tree)
    first-role = has-role j c own 0 (nfa pair.tree) (ap (λ ps. slice_get ps 0) pair.is_chain)

    pub second-role : HasRole c own.chain 1 (lit pair.value)
    second-role = has-role j c own 1 (lit pair.value) (ap (λ ps. slice_get ps 1) pair.is_chain)

    -- the second one's role keeps nothing
    second-place : (piece_of own.chain 1 (lit pair.value)).place ≡ place_of true (nfa pair.tree ∷ []) (lit pair.value)
    second-place =
        ap (λ b. place_of b (take 1 own.chain.pieces) (lit pair.value)) back ∙ ap (λ ps. place_of true (take 1 ps) (lit pair.value)) pair.is_chain

    pub second-kind : second-role.r.kind ≡ kinds.BareLiteral
    second-kind = second-role.role.kind_is ∙ ap place_kind second-place

    pub two-pieces : 2 ≤ length own.chain.pieces
    two-pieces = subst (λ ps. 2 ≤ length ps) (sym pair.is_chain) (omega arith)

  -- a role of the chain of a number, by its own number
  pub record HasPieceAt (c : ChainInfo) (x : ListedChain) (i : ℕ) (r : Role) : Type 0 where
    pub m : ℕ
    pub piece : Piece
    pub number_is : i ≡ c.first + m
    pub at : slice_get x.pieces m ≡ Some piece
    pub there : slice_get all_pieces i ≡ Some (piece_of x m piece)
    pub role : IsRoleOf t.literals is.models r (piece_of x m piece)
    pub runnable : HasRunnable (piece_of x m piece)

  pub piece-of-role : (j : ℕ) (c : ChainInfo) (own : HasChain j c) (i : ℕ) (r : Role) → c.first ≤ i → i < c.end → slice_get t.roles i ≡ Some r → HasPieceAt c own.chain i r
  piece-of-role j c own i r low high there =
      let m : ℕ = i - c.first in
      let number : i ≡ c.first + m = omega (arith, low) in
      let (piece, at) = get-read own.chain.pieces m (omega (arith, low, high, own.first, own.end)) in
      let has = has-role j c own m piece at in
      let one : has.r ≡ r = same_Some has.r r (sym has.role_there ∙ (ap (slice_get t.roles) (sym number) ∙ there)) in record {
        m = m;
        piece = piece;
        number_is = number;
        at = at;
        there = ap (slice_get all_pieces) number ∙ has.piece_there;
        role = subst (λ (q : Role). IsRoleOf t.literals is.models q (piece_of own.chain m piece)) one has.role;
        runnable = has.runnable;
      }

  -- where a role looks back
  pub looks-first : (j : ℕ) (c : ChainInfo) (own : HasChain j c) (i : ℕ) (r : Role) → c.first ≤ i → i < c.end → slice_get t.roles i ≡ Some r → LooksBack r → (i ≡ c.first) × (begins_with_look_back own.chain.pieces ≡ true)
  looks-first j c own i r low high there back =
      let has = piece-of-role j c own i r low high there in
      let (begins, none) = looks-at (begins_with_look_back own.chain.pieces) (take has.m own.chain.pieces) has.piece (sym has.role.kind_is ∙ back) in
      let size : length (take has.m own.chain.pieces) ≡ has.m = length-take-le has.m own.chain.pieces (omega (arith, slice_get_within own.chain.pieces has.m has.piece has.at)) in
      let zero_is : length (take has.m own.chain.pieces) ≡ 0 = ap length none in
      (omega (arith, has.number_is, size, zero_is), begins)

  pairs-ready : (c : ChainInfo) (j : ℕ) → slice_get t.chains j ≡ Some c → (i : ℕ) (before r : Role) → c.first ≤ i → suc i < c.end → slice_get t.roles i ≡ Some before → LooksBack before → slice_get t.roles (suc i) ≡ Some r → r.kind ≡ kinds.BareLiteral
  pairs-ready c j at i before r low high before_there back there =
      let own = has-chain j c at in
      let (first_is, begins) = looks-first j c own i before low (omega (arith, high)) before_there back in
      let second = second-role j c own begins in
      let one : second.r ≡ r = same_Some second.r r (sym second.role_there ∙ (ap (slice_get t.roles) (omega (arith, first_is)) ∙ there)) in
      ap (λ (q : Role). q.kind) (sym one) ∙ second-kind j c own begins

  last-ready : (j i : ℕ) (c : ChainInfo) (r : Role) → slice_get t.chains j ≡ Some c → c.first ≤ i → suc i ≡ c.end → slice_get t.roles i ≡ Some r → LooksBack r → ⊥
  last-ready j i c r at low last there back =
      let own = has-chain j c at in
      let (first_is, begins) = looks-first j c own i r low (omega (arith, last)) there back in
      omega (arith, first_is, last, own.first, own.end, two-pieces j c own begins)

  first-ready : (j : ℕ) (c : ChainInfo) (r : Role) → slice_get t.chains j ≡ Some c → c.first < c.end → slice_get t.roles c.first ≡ Some r → r.kind ≡ kinds.Literal → ⊥
  first-ready j c r at some there kind =
      let own = has-chain j c at in
      let has = piece-of-role j c own c.first r (omega arith) some there in
      let zero_is : has.m ≡ 0 = omega (arith, has.number_is) in
      never-entered (begins_with_look_back own.chain.pieces) (take has.m own.chain.pieces) has.piece (ap (λ n. take n own.chain.pieces) zero_is) r.number (sym has.role.kind_is ∙ kind)

  short-ready : (number : ℕ) (literal : List LiteralByte) → slice_get t.literals number ≡ Some literal → length literal ≤ 32
  short-ready number literal at =
      let named = is.literal_order.named number (slice_get_within t.literals number literal at) in
      let (x, there, role) = zip-left (IsRoleOf t.literals is.models) t.roles all_pieces is.roles named.place named.role named.there in
      let runnable = each-get HasRunnable all_pieces (all-runnable 1 entries chains is.runnable) named.place x there in
      let kind : number_if_literal (place_kind x.place) named.role.number ≡ Some number = ap (λ k. number_if_literal k named.role.number) (sym role.kind_is) ∙ named.names in
      by-piece x named.role (own-number (place_kind x.place) named.role.number number kind) role runnable x.place.looks_back x.place.pieces x.place.piece refl
      (literal-at x.place.looks_back x.place.pieces x.place.piece named.role.number number kind)
    where
      by-piece : (x : ListedPiece) (r : Role) → r.number ≡ number → IsRoleOf t.literals is.models r x → HasRunnable x → (l : Bool) (ps : List Piece) (p : Piece) → x.place ≡ place_of l ps p → LiteralAt p → length literal ≤ 32
      by-piece x r same role runnable l ps p place (a_literal xs is_lit) =
          let own : IsRoleOf t.literals is.models r (record { chain = x.chain; place = place_of l ps (lit xs) }) =
          subst (λ (q : Place). IsRoleOf t.literals is.models r (record { chain = x.chain; place = q })) (place ∙ ap (place_of l ps) is_lit) role in
          let runs : HasRunnable (record { chain = x.chain; place = place_of l ps (lit xs) }) =
          subst (λ (q : Place). HasRunnable (record { chain = x.chain; place = q })) (place ∙ ap (place_of l ps) is_lit) runnable in
          let one : xs ≡ literal = same_Some xs literal (sym own.names.named ∙ (ap (slice_get t.literals) same ∙ at)) in
          subst (λ ys. length ys ≤ 32) one runs.1

  pub ready : IsReady t
  ready = record {
    looks_first = λ j i c r at low high there back. (looks-first j c (has-chain j c at) i r low high there back).0;
    order = λ j c at. let own = has-chain j c at in omega (arith, own.first, own.end);
    within = λ j c at. chain-within j c (has-chain j c at);
    numbered = λ j c at. (has-chain j c at).low;
    entry = λ j c at.
        let own = has-chain j c at in
        let entry = has-info j c own in
        omega (arith, own.low, slice_get_within t.entries (c.entry - 1) entry.info entry.info_there);
    begins = λ c at. let own = has-chain 0 c at in omega (arith, own.first);
    follows = λ j c d at next.
        let own = has-chain j c at in
        let then = has-chain (suc j) d next in
        omega (arith, own.end, then.first, before-next listed j own.chain own.chain_there);
    ends = λ j c at last.
        let own = has-chain j c at in
        let all : suc j ≡ length listed = omega (arith, last, chains-count 0 t.chains listed is.chains_are) in
        let whole : pieces_before listed (suc j) ≡ length all_pieces = ap (λ n. pieces_before listed n) all ∙ ap (λ xs. length (listed_pieces xs)) (take-length listed) in
        omega (arith, own.end, before-next listed j own.chain own.chain_there, whole, roles-count);
    none = λ no_chains. none-by listed (omega (arith, no_chains, chains-count 0 t.chains listed is.chains_are)) roles-count;
    pairs = λ c i before r (j, at) low high before_there back there. pairs-ready c j at i before r low high before_there back there;
    last = last-ready;
    first = first-ready;
    short = short-ready;
  }
    where
      none-by : (xs : List ListedChain) → length xs ≡ 0 → length t.roles ≡ length (listed_pieces xs) → length t.roles ≡ 0
      none-by [] none count = count
      none-by (x ∷ xs) none count = absurd (cc)

-- The program of a list can be run.
use Rattle.std.proofs.Common.{◌≡◌, ℕ, zero, suc, ◌+◌, ◌-◌, ◌<◌, ◌≤◌, Bool, true, false, List, [], ◌∷◌, length, take, Some, slice_get, refl, sym, ap, subst, ◌∙◌, arith}
use Rattle.std.specs.Prelude.{IfSome, Option, None}
use Rattle.std.proofs.lemmas.Bool.Decides.{nat_tests}
use Rattle.std.proofs.lemmas.List.{length-map}
use Rattle.std.proofs.lemmas.Option.{same_Some, slice_get_within}
use Rattle.hs_base.specs.Chains.{Piece, lit, nfa, rep}
use Rattle.hs_base.specs.Leaving.{IsAtMostWide}
use Rattle.hs_base.specs.Literals.{LiteralByte}
use Rattle.hs_base.specs.Trees.{Tree}
use Rattle.hs_base.specs.WrittenOut.{count, write_out}
use Rattle.hs_expr.specs.Counts.{greatest_width}
use Rattle.hs_expr.proofs.WidthLemmas.{within_widths}
use Rattle.hs_pieces.specs.LookBack.{begins_with_look_back, is_narrow}
use Rattle.hs_rose.specs.declared.info.ChainInfo.{ChainInfo}
use Rattle.hs_rose.specs.declared.info.EntryInfo.{EntryInfo}
use Rattle.hs_rose.specs.declared.role.Role.{Role}
use Rattle.hs_rose.specs.Identifiers.{ids_of}
use Rattle.hs_rose.specs.Listing.{Asked, ListedChain, ListedPiece, listed_chains, listed_pieces}
use Rattle.hs_rose.specs.Programs.{Tables, IsInfoOf, IsProgramOf, IsRoleOf}
use Rattle.hs_rose.proofs.ListLemmas.{each-get, zip-left, zip-length, zip-right}
use Rattle.hs_rose.proofs.ListedLemmas.{HasRunnable, IsListed, all-listed, all-runnable, before-next, before-within, chain-info, chains-count, piece-at, piece_of, pieces_before}
use Rattle.hs_run.specs.declared.way.Way.TheVariants as way
use Rattle.hs_run.specs.Programs.{HasWindow, IsChainSound, IsLookSound, IsRunnable, window_size}
use Rattle.hs_run.specs.Ways.{way_for, way_of}
use Rattle.hs_run.proofs.RoleLemmas.{named-engine, place_of, role-sound}

-- a chain that begins with a piece that looks back: that piece, and the literal behind it
pub record BeginsBack (chain : List Piece) : Type 0 where
  pub tree : Tree
  pub value : List LiteralByte
  pub rest : List Piece
  pub is_chain : chain ≡ nfa tree ∷ lit value ∷ rest
  pub narrow : is_narrow (greatest_width tree) ≡ true

pub begins-back : (chain : List Piece) → begins_with_look_back chain ≡ true → BeginsBack chain
begins-back [] is = absurd (let e : false ≡ true = is in cc)
begins-back (lit xs ∷ rest) is = absurd (let e : false ≡ true = is in cc)
begins-back (rep set n m ∷ rest) is = absurd (let e : false ≡ true = is in cc)
begins-back (nfa tree ∷ []) is = absurd (let e : false ≡ true = is in cc)
begins-back (nfa tree ∷ lit xs ∷ rest) is = record { tree = tree; value = xs; rest = rest; is_chain = refl; narrow = is }
begins-back (nfa tree ∷ nfa other ∷ rest) is = absurd (let e : false ≡ true = is in cc)
begins-back (nfa tree ∷ rep set n m ∷ rest) is = absurd (let e : false ≡ true = is in cc)

narrow-by : (width : Option ℕ) (i j : ℕ) → is_narrow width ≡ true → IfSome width (λ n. j ≤ i + n) → j ≤ i + 16
narrow-by None i j is within = absurd (let e : false ≡ true = is in cc)
narrow-by (Some n) i j is within =
    let small : n ≤ 16 = grind (arith, nat_tests) in
    omega (arith, small, within)

-- it is told from few bytes
pub narrow-tree : (tree : Tree) → is_narrow (greatest_width tree) ≡ true → IsAtMostWide window_size tree
narrow-tree tree is w ended i j spans = narrow-by (greatest_width tree) i j is ((within_widths tree).greatest w ended i j spans)

module _ (t : Tables) (entries : List Asked) (chains : List (List (List Piece))) (is : IsProgramOf t entries chains) where
  abbrev pub listed : List ListedChain
  listed = listed_chains entries chains

  abbrev pub all_pieces : List ListedPiece
  all_pieces = listed_pieces listed

  pub roles-count : length t.roles ≡ length all_pieces
  roles-count = zip-length (IsRoleOf t.literals is.models) t.roles all_pieces is.roles

  -- the role of a number, and its piece
  pub record HasPiece (r : Role) (k : ℕ) : Type 0 where
    pub listed_piece_is : ListedPiece
    pub there_is : slice_get all_pieces k ≡ Some listed_piece_is
    pub role : IsRoleOf t.literals is.models r listed_piece_is
    pub runnable : HasRunnable listed_piece_is

  pub has-piece : (k : ℕ) (r : Role) → slice_get t.roles k ≡ Some r → HasPiece r k
  has-piece k r at =
      let (x, there_is, role) = zip-left (IsRoleOf t.literals is.models) t.roles all_pieces is.roles k r at in
      record { listed_piece_is = x; there_is = there_is; role = role; runnable = each-get HasRunnable all_pieces (all-runnable 1 entries chains is.runnable) k x there_is }

  -- the chain of a number
  pub record HasChain (j : ℕ) (c : ChainInfo) : Type 0 where
    pub chain : ListedChain
    pub chain_there : slice_get listed j ≡ Some chain
    pub entry : c.entry ≡ chain.entry
    pub first : c.first ≡ pieces_before listed j
    pub end : c.end ≡ pieces_before listed j + length chain.pieces
    pub low : 1 ≤ c.entry
    pub asked_is : slice_get entries (c.entry - 1) ≡ Some chain.asked

  pub has-chain : (j : ℕ) (c : ChainInfo) → slice_get t.chains j ≡ Some c → HasChain j c
  has-chain j c at =
      let (x, there_is, of) = chain-info 0 t.chains listed is.chains_are j c at in
      let own : IsListed 1 entries x = each-get (IsListed 1 entries) listed (all-listed 1 entries chains) j x there_is in
      record {
        chain = x;
        chain_there = there_is;
        entry = of.entry;
        first = omega (arith, of.first);
        end = omega (arith, of.end);
        low = subst (λ n. 1 ≤ n) (sym of.entry) own.low;
        asked_is = subst (λ n. slice_get entries (n - 1) ≡ Some x.asked) (sym of.entry) own.asked_is;
      }

  -- a piece of that chain, and its role
  pub record HasRole (c : ChainInfo) (x : ListedChain) (i : ℕ) (piece : Piece) : Type 0 where
    pub r : Role
    pub role_there : slice_get t.roles (c.first + i) ≡ Some r
    pub piece_there : slice_get all_pieces (c.first + i) ≡ Some (piece_of x i piece)
    pub role : IsRoleOf t.literals is.models r (piece_of x i piece)
    pub runnable : HasRunnable (piece_of x i piece)

  pub has-role : (j : ℕ) (c : ChainInfo) (own : HasChain j c) (i : ℕ) (piece : Piece) → slice_get own.chain.pieces i ≡ Some piece → HasRole c own.chain i piece
  has-role j c own i piece at =
      let x = own.chain in
      let there_is : slice_get all_pieces (c.first + i) ≡ Some (piece_of x i piece) = subst (λ n. slice_get all_pieces (n + i) ≡ Some (piece_of x i piece)) (sym own.first) (piece-at listed j i x piece own.chain_there at) in
      let (r, role_there, role) = zip-right (IsRoleOf t.literals is.models) t.roles all_pieces is.roles (c.first + i) (piece_of x i piece) there_is in
      record { r = r; role_there = role_there; piece_there = there_is; role = role; runnable = each-get HasRunnable all_pieces (all-runnable 1 entries chains is.runnable) (c.first + i) (piece_of x i piece) there_is }

  -- the entry of that chain
  pub record HasInfo (c : ChainInfo) (x : ListedChain) : Type 0 where
    pub info : EntryInfo
    pub info_there : slice_get t.entries (c.entry - 1) ≡ Some info
    pub of : IsInfoOf (ids_of t.identifiers) info x.asked

  pub has-info : (j : ℕ) (c : ChainInfo) (own : HasChain j c) → HasInfo c own.chain
  has-info j c own =
      let (info, info_there, of) = zip-right (IsInfoOf (ids_of t.identifiers)) t.entries entries is.infos (c.entry - 1) own.chain.asked own.asked_is in
      record { info = info; info_there = info_there; of = of }

  chain-within : (j : ℕ) (c : ChainInfo) → HasChain j c → c.end ≤ length t.roles
  chain-within j c own = omega (arith, own.end, before-next listed j own.chain own.chain_there, before-within listed (suc j), roles-count)

  -- the first two pieces of a chain of which the first one looks back
  module _ (j : ℕ) (c : ChainInfo) (own : HasChain j c) (back : begins_with_look_back own.chain.pieces ≡ true) where
    abbrev pub pair : BeginsBack own.chain.pieces
    pair = begins-back own.chain.pieces back

    pub first-role : HasRole c own.chain 0 (nfa pair.tree)
    first-role = has-role j c own 0 (nfa pair.tree) (ap (λ ps. slice_get ps 0) pair.is_chain)

    pub second-role : HasRole c own.chain 1 (lit pair.value)
    second-role = has-role j c own 1 (lit pair.value) (ap (λ ps. slice_get ps 1) pair.is_chain)

    -- the second one's role keeps nothing
    second-place : (piece_of own.chain 1 (lit pair.value)).place ≡ place_of true (nfa pair.tree ∷ []) (lit pair.value)
    second-place =
        ap (λ b. place_of b (take 1 own.chain.pieces) (lit pair.value)) back ∙ ap (λ ps. place_of true (take 1 ps) (lit pair.value)) pair.is_chain

    pub second-way : way_of second-role.r ≡ way.BareLiteral
    second-way = ap way_for (second-role.role.kind_is ∙ ap Rattle.hs_rose.specs.Kinds.place_kind second-place)

    first-place : (piece_of own.chain 0 (nfa pair.tree)).place ≡ place_of true [] (nfa pair.tree)
    first-place = ap (λ b. place_of b [] (nfa pair.tree)) back

    pub first-way : way_of first-role.r ≡ way.LookBack
    first-way = ap way_for (first-role.role.kind_is ∙ ap Rattle.hs_rose.specs.Kinds.place_kind first-place)

    look-sound : (r : Role) → slice_get t.roles c.first ≡ Some r → IsLookSound t c r
    look-sound r at =
        let zero_more : c.first + 0 ≡ c.first = omega arith in
        let one_more : c.first + 1 ≡ suc c.first = omega arith in
        let one : first-role.r ≡ r = same_Some first-role.r r (sym (subst (λ n. slice_get t.roles n ≡ Some first-role.r) zero_more first-role.role_there) ∙ at) in
        let (e, e_there, of) = named-engine t is.models is.engines first-role.r (nfa pair.tree) first-role.role.names.named in
        let small : count (write_out pair.tree) ≤ 512 = first-role.runnable.1 in
        let size : 2 ≤ length own.chain.pieces = subst (λ ps. 2 ≤ length ps) (sym pair.is_chain) (omega arith) in
        record {
          within = omega (arith, own.first, own.end, size);
          engine = subst (λ (q : Role). HasWindow t q) one (record { value = e; there = e_there; narrow = omega (arith, of.width, small) });
          literal = pair.value;
          behind = second-role.r;
          behind_there = subst (λ n. slice_get t.roles n ≡ Some second-role.r) one_more second-role.role_there;
          behind_kind = second-way;
          literal_there = second-role.role.names.named;
          some = omega (arith, second-role.runnable.0);
          short = second-role.runnable.1;
        }

  -- a first role that looks back is one of a chain that begins so
  looks-begins : (j : ℕ) (c : ChainInfo) (own : HasChain j c) (r : Role) → slice_get t.roles c.first ≡ Some r → way_of r ≡ way.LookBack → (chain : List Piece) → own.chain.pieces ≡ chain → c.first < c.end →
      begins_with_look_back own.chain.pieces ≡ true
  looks-begins j c own r at is_back [] same some = absurd (omega (arith, own.first, own.end, ap length same, some))
  looks-begins j c own r at is_back (piece ∷ rest) same some =
      let role = has-role j c own 0 piece (ap (λ ps. slice_get ps 0) same) in
      let zero_more : c.first + 0 ≡ c.first = omega arith in
      let one : role.r ≡ r = same_Some role.r r (sym (subst (λ n. slice_get t.roles n ≡ Some role.r) zero_more role.role_there) ∙ at) in
      looks-by piece (begins_with_look_back own.chain.pieces) (sym (ap (λ (q : Role). way_of q) one ∙ is_back) ∙ ap way_for role.role.kind_is)
    where
      looks-by : (p : Piece) (b : Bool) → way.LookBack ≡ way_for (Rattle.hs_rose.specs.Kinds.place_kind (place_of b [] p)) → b ≡ true
      looks-by (lit xs) true e = refl
      looks-by (lit xs) false e = absurd (let f : way.LookBack ≡ way.BareLiteral = e in cc)
      looks-by (nfa tree) true e = refl
      looks-by (nfa tree) false e = absurd (let f : way.LookBack ≡ way.Engine = e in cc)
      looks-by (rep set n m) true e = refl
      looks-by (rep set n m) false e = absurd (repeat-by n m e)
        where
          repeat-by : (n : ℕ) (m : Option ℕ) → way.LookBack ≡ way_for (Rattle.hs_rose.specs.Kinds.place_kind (place_of false [] (rep set n m))) → ⊥
          repeat-by n None e = let f : way.LookBack ≡ way.Engine = e in cc
          repeat-by zero (Some m) e = let f : way.LookBack ≡ way.Engine = e in cc
          repeat-by (suc zero) (Some m) e = let f : way.LookBack ≡ way.Engine = e in cc
          repeat-by (suc (suc n)) (Some m) e = let f : way.LookBack ≡ way.Engine = e in cc

  chain-sound : (j : ℕ) (c : ChainInfo) → slice_get t.chains j ≡ Some c → IsChainSound t c
  chain-sound j c at =
      let own = has-chain j c at in
      let entry = has-info j c own in
      record {
        order = omega (arith, own.first, own.end);
        within = chain-within j c own;
        small = omega (arith, chain-within j c own, is.few_roles);
        numbered = own.low;
        entry = omega (arith, own.low, slice_get_within t.entries (c.entry - 1) entry.info entry.info_there);
        identifier = λ info info_there.
            let one : entry.info ≡ info = same_Some entry.info info (sym entry.info_there ∙ info_there) in
            let below = slice_get_within (ids_of t.identifiers) entry.info.identifier own.chain.asked.id entry.of.place in
            subst (λ (i : EntryInfo). i.identifier < length t.identifiers) one (omega (arith, below, length-map t.identifiers (λ x. x.id.0)));
        looks_back = λ r role some is_back. look-sound j c own (looks-begins j c own r role is_back own.chain.pieces refl some) r role;
      }

  pub can-run : IsRunnable t
  can-run = record {
    roles = λ k r at.
        let own = has-piece k r at in
        role-sound t is.models is.engines r own.listed_piece_is own.role own.runnable;
    chains = chain-sound;
    begins = λ c at. let own = has-chain 0 c at in omega (arith, own.first);
    follows = λ j c d at next.
        let own = has-chain j c at in
        let then = has-chain (suc j) d next in
        omega (arith, own.end, then.first, before-next listed j own.chain own.chain_there);
    ends = λ j c at last.
        let own = has-chain j c at in
        let all : suc j ≡ length listed = omega (arith, last, chains-count 0 t.chains listed is.chains_are) in
        let whole : pieces_before listed (suc j) ≡ length all_pieces = ap (λ n. pieces_before listed n) all ∙ ap (λ xs. length (listed_pieces xs)) (Rattle.std.proofs.Math.Seq.take-length listed) in
        omega (arith, own.end, before-next listed j own.chain own.chain_there, whole, roles-count);
    few = omega (arith, is.identifiers.few, is.few_entries);
    none = λ no_chains. none-by listed (omega (arith, no_chains, chains-count 0 t.chains listed is.chains_are)) roles-count;
  }
    where
      none-by : (xs : List ListedChain) → length xs ≡ 0 → length t.roles ≡ length (listed_pieces xs) → length t.roles ≡ 0
      none-by [] none count = count
      none-by (x ∷ xs) none count = absurd (cc)

-- What keys tell: roles with equal keys up to them have equal places.
use Rattle.std.proofs.Common.{◌≡◌, ℕ, zero, suc, ◌+◌, ◌*◌, ◌<◌, ◌≤◌, Bool, true, false, List, [], ◌∷◌, ◌++◌, take, Some, slice_get, refl, sym, ap, subst, ◌∙◌, arith}
use Rattle.std.proofs.lemmas.Option.{same_Some}
use Rattle.hs_base.specs.Chains.{Piece, lit, nfa}
use Rattle.hs_base.specs.Literals.{LiteralByte}
use Rattle.hs_base.specs.Regions.{Place}
use Rattle.hs_base.specs.Trees.{Tree}
use Rattle.hs_forest.proofs.ListLemmas.{snoc-parts, snoc-some}
use Rattle.hs_nodes.specs.Graphs.{keeps_field}
use Rattle.hs_nodes.specs.declared.table.NodeKind.{NodeKind}
use Rattle.hs_nodes.specs.declared.table.NodeKind.TheVariants.{Engine, Literal, FirstLiteral, LookBack}
use Rattle.hs_pieces.specs.LookBack.{begins_with_look_back}
use Rattle.hs_rose.specs.declared.info.ChainInfo.{ChainInfo}
use Rattle.hs_rose.specs.declared.kind.Kind.TheVariants as kinds
use Rattle.hs_rose.specs.declared.role.Role.{Role}
use Rattle.hs_rose.specs.Kinds.{number_if_literal, place_kind}
use Rattle.hs_rose.specs.Listing.{Asked, ListedPiece}
use Rattle.hs_rose.specs.Programs.{Names, Tables, IsProgramOf, IsRoleOf}
use Rattle.hs_rose.proofs.FinishLemmas.{engine-there}
use Rattle.hs_rose.proofs.ListLemmas.{take-get}
use Rattle.hs_rose.proofs.ListedLemmas.{piece_of}
use Rattle.hs_compile.specs.GraphKinds.{IsKindAt, IsKindOf, IsPairOf, bare, by_itself, engine, entered, paired}
use Rattle.hs_compile.specs.GraphNodes.{IsNodeOfRole}
use Rattle.hs_compile.specs.GraphSteps as steps
use Rattle.hs_compile.specs.GraphSteps.{AreKeysTo, HasKind, IsKeyOf, key_group, key_number}
use Rattle.hs_compile.specs.GraphTables.{LooksBack}
use Rattle.hs_compile.proofs.JoinLemmas.{HasChain, HasPieceAt, LiteralAt, a_literal, all_pieces, first-role, has-chain, literal-at, looks-first, pair, piece-of-role, place_of, second-role}

-- kinds with one key have one group and one number there
pub same-group : (a b : NodeKind) (key : ℕ) → IsKeyOf a key → IsKeyOf b key → (key_group a ≡ key_group b) × (key_number a ≡ key_number b)
same-group a b key is is' =
    let e : key_group a * 4294967296 + key_number a ≡ key_group b * 4294967296 + key_number b = sym is.is ∙ is'.is in
    let low : key_number a < 4294967296 = is.small in
    let low' : key_number b < 4294967296 = is'.small in
    parts (key_group a) (key_group b) (key_number a) (key_number b) e low low'
  where
    parts : (g h m n : ℕ) → g * 4294967296 + m ≡ h * 4294967296 + n → m < 4294967296 → n < 4294967296 → (g ≡ h) × (m ≡ n)
    parts g h m n e low low' = (omega (arith, e, low, low'), omega (arith, e, low, low'))

-- of each group all kinds keep something, or none
pub same-keeps : (a b : NodeKind) → key_group a ≡ key_group b → keeps_field a ≡ keeps_field b
same-keeps (FirstLiteral n len) (FirstLiteral m len') e = refl
same-keeps (FirstLiteral n len) (Literal m len') e = absurd (omega (arith, e))
same-keeps (FirstLiteral n len) (Engine m null) e = absurd (omega (arith, e))
same-keeps (FirstLiteral n len) (LookBack q) e = refl
same-keeps (Literal n len) (FirstLiteral m len') e = absurd (omega (arith, e))
same-keeps (Literal n len) (Literal m len') e = refl
same-keeps (Literal n len) (Engine m null) e = refl
same-keeps (Literal n len) (LookBack q) e = absurd (omega (arith, e))
same-keeps (Engine n null) (FirstLiteral m len') e = absurd (omega (arith, e))
same-keeps (Engine n null) (Literal m len') e = refl
same-keeps (Engine n null) (Engine m null') e = refl
same-keeps (Engine n null) (LookBack q) e = absurd (omega (arith, e))
same-keeps (LookBack p) (FirstLiteral m len') e = refl
same-keeps (LookBack p) (Literal m len') e = absurd (omega (arith, e))
same-keeps (LookBack p) (Engine m null) e = absurd (omega (arith, e))
same-keeps (LookBack p) (LookBack q) e = refl

-- A role of a chain that has a node, and the keys up to it.
pub record Stands (t : Tables) (c : ChainInfo) (i : ℕ) (keys : List ℕ) : Type 0 where
  pub low : c.first ≤ i
  pub high : i < c.end
  pub kind : NodeKind
  pub has : HasKind t c.first i kind
  pub key : ℕ
  pub front : List ℕ
  pub key_is : IsKeyOf kind key
  pub keys_are : keys ≡ front ++ key ∷ []
  pub before : AreKeysTo t c.first i front

-- the keys up to a role that has a node end with its own
pub stands-by : (t : Tables) (c : ChainInfo) (i : ℕ) (r : Role) (keys : List ℕ) (n : ℕ) → n ≡ suc i → c.first ≤ i → i < c.end → slice_get t.roles i ≡ Some r → (LooksBack r → ⊥) →
    AreKeysTo t c.first n keys → Stands t c i keys
stands-by t c i r keys n at low high role alone (steps.begins m ks first none) = absurd (omega (arith, first, low, at))
stands-by t c i r keys n at low high role alone (steps.passes m ks j q below next q_there back front) =
    let same : j ≡ i = omega (arith, next, at) in
    absurd (alone (subst LooksBack (same_Some q r (sym q_there ∙ (ap (slice_get t.roles) same ∙ role))) back))
stands-by t c i r keys n at low high role alone (steps.goes_on m ks j key kind front below next has key_is same front_are) =
    let one : j ≡ i = omega (arith, next, at) in record {
      low = low;
      high = high;
      kind = kind;
      has = subst (λ k. HasKind t c.first k kind) one has;
      key = key;
      front = front;
      key_is = key_is;
      keys_are = same;
      before = subst (λ k. AreKeysTo t c.first k front) one front_are;
    }

pub node-stands : (t : Tables) (paths : List (List ℕ)) (k i : ℕ) (is : IsNodeOfRole t paths k i) → Stands t is.chain i is.path
node-stands t paths k i is = stands-by t is.chain i is.role is.path (suc i) refl is.low is.high is.role_there is.alone is.keys

-- no key stands before the first role
pub no-keys : (t : Tables) (first i : ℕ) (keys : List ℕ) → i ≡ first → AreKeysTo t first i keys → keys ≡ []
no-keys t first i keys at (steps.begins m ks is none) = none
no-keys t first i keys at (steps.passes m ks j q below next there back front) = absurd (omega (arith, below, next, at))
no-keys t first i keys at (steps.goes_on m ks j key kind front below next has key_is same front_are) = absurd (omega (arith, below, next, at))

module _ (t : Tables) (entries : List Asked) (chains : List (List (List Piece))) (is : IsProgramOf t entries chains) where
  -- what a kind says of the piece
  abbrev Tells : NodeKind → Piece → Type 0
  Tells (FirstLiteral n len) p = (xs : List LiteralByte) × (slice_get t.literals n ≡ Some xs) × (p ≡ lit xs)
  Tells (Literal n len) p = (xs : List LiteralByte) × (slice_get t.literals n ≡ Some xs) × (p ≡ lit xs)
  Tells (Engine n null) p = slice_get is.models n ≡ Some p
  Tells (LookBack _) p = ⊥

  one-literal : (m n : ℕ) (p q : Piece) → m ≡ n → (xs : List LiteralByte) × (slice_get t.literals m ≡ Some xs) × (p ≡ lit xs) → (xs : List LiteralByte) × (slice_get t.literals n ≡ Some xs) × (q ≡ lit xs) → p ≡ q
  one-literal m n p q same (xs, at, e) (ys, at', e') = e ∙ (ap lit (same_Some xs ys (sym at ∙ (ap (slice_get t.literals) same ∙ at'))) ∙ sym e')

  same-piece : (a b : NodeKind) (p q : Piece) → key_group a ≡ key_group b → key_number a ≡ key_number b → Tells a p → Tells b q → p ≡ q
  same-piece (FirstLiteral n len) (FirstLiteral m len') p q e same at at' = one-literal n m p q same at at'
  same-piece (FirstLiteral n len) (Literal m len') p q e same at at' = absurd (omega (arith, e))
  same-piece (FirstLiteral n len) (Engine m null) p q e same at at' = absurd (omega (arith, e))
  same-piece (FirstLiteral n len) (LookBack x) p q e same at at' = absurd at'
  same-piece (Literal n len) (FirstLiteral m len') p q e same at at' = absurd (omega (arith, e))
  same-piece (Literal n len) (Literal m len') p q e same at at' = one-literal n m p q same at at'
  same-piece (Literal n len) (Engine m null) p q e same at at' = absurd (omega (arith, e))
  same-piece (Literal n len) (LookBack x) p q e same at at' = absurd at'
  same-piece (Engine n null) (FirstLiteral m len') p q e same at at' = absurd (omega (arith, e))
  same-piece (Engine n null) (Literal m len') p q e same at at' = absurd (omega (arith, e))
  same-piece (Engine n null) (Engine m null') p q e same at at' = same_Some p q (sym at ∙ (ap (slice_get is.models) same ∙ at'))
  same-piece (Engine n null) (LookBack x) p q e same at at' = absurd at'
  same-piece (LookBack x) b p q e same at at' = absurd at

  -- a role that stands by itself
  names-literal : (l : Bool) (ps : List Piece) (piece : Piece) (r : Role) → LiteralAt piece → Names t.literals is.models r.number r.null piece → (xs : List LiteralByte) × (slice_get t.literals r.number ≡ Some xs) × (piece ≡ lit xs)
  names-literal l ps piece r (a_literal xs same) names =
      let own : Names t.literals is.models r.number r.null (lit xs) = subst (λ p. Names t.literals is.models r.number r.null p) same names in
      (xs, own.named, same)

  tells : (r : Role) (x : ListedPiece) (kind : NodeKind) → IsRoleOf t.literals is.models r x → IsKindOf t r kind → Tells kind x.place.piece
  tells r x kind role (bare len bare_kind has same) =
      subst (λ k. Tells k x.place.piece) (sym same)
      (names-literal x.place.looks_back x.place.pieces x.place.piece r
      (literal-at x.place.looks_back x.place.pieces x.place.piece r.number r.number (ap (λ k. number_if_literal k r.number) (sym role.kind_is ∙ bare_kind))) role.names)
  tells r x kind role (entered len entered_kind has same) =
      subst (λ k. Tells k x.place.piece) (sym same)
      (names-literal x.place.looks_back x.place.pieces x.place.piece r
      (literal-at x.place.looks_back x.place.pieces x.place.piece r.number r.number (ap (λ k. number_if_literal k r.number) (sym role.kind_is ∙ entered_kind))) role.names)
  tells r x kind role (engine null run kept same) =
      subst (λ k. Tells k x.place.piece) (sym same)
      (engine-there t.literals is.models r x x.place.looks_back x.place.pieces x.place.piece refl role r.number run)

  -- the chain of a role, and its piece there
  module _ (number : ℕ) (c : ChainInfo) (there : slice_get t.chains number ≡ Some c) where
    abbrev own_chain : HasChain t entries chains is number c
    own_chain = has-chain t entries chains is number c there

    abbrev own_pieces : List Piece
    own_pieces = own_chain.chain.pieces

    abbrev own_piece : (i : ℕ) (keys : List ℕ) (s : Stands t c i keys) → HasPieceAt t entries chains is c own_chain.chain i s.has.role
    own_piece i keys s = piece-of-role t entries chains is number c own_chain i s.has.role s.low s.high s.has.there

    abbrev own_place : (i : ℕ) (keys : List ℕ) → Stands t c i keys → Place
    own_place i keys s = place_of (begins_with_look_back own_pieces) (take (own_piece i keys s).m own_pieces) (own_piece i keys s).piece

    -- the pieces up to the role before
    up-to : (i j : ℕ) (keys front : List ℕ) (s : Stands t c i keys) (before : Stands t c j front) → suc j ≡ i → take (own_piece i keys s).m own_pieces ≡ take (own_piece j front before).m own_pieces ++ (own_piece j front before).piece ∷ []
    up-to i j keys front s before next =
        let at = own_piece i keys s in
        let last = own_piece j front before in
        let more : at.m ≡ suc last.m = omega (arith, at.number_is, last.number_is, next) in
        ap (λ n. take n own_pieces) more ∙ take-get own_pieces last.m last.piece last.at

    own-tells : (i : ℕ) (keys : List ℕ) (s : Stands t c i keys) (r : Role) → slice_get t.roles i ≡ Some r → IsKindOf t r s.kind → Tells s.kind (own_piece i keys s).piece
    own-tells i keys s r at kind =
        let own = own_piece i keys s in
        let same : r ≡ s.has.role = same_Some r s.has.role (sym at ∙ s.has.there) in
        tells s.has.role (piece_of own_chain.chain own.m own.piece) s.kind own.role (subst (λ (q : Role). IsKindOf t q s.kind) same kind)

  -- the place of a literal behind a piece that looks back
  record IsPairPlace (kind : NodeKind) (p : Place) : Type 0 where
    engine_number : ℕ
    tree : Tree
    value : List LiteralByte
    group : key_group kind ≡ engine_number + 3
    engine_is : slice_get is.models engine_number ≡ Some (nfa tree)
    literal_is : slice_get t.literals (key_number kind) ≡ Some value
    place : p ≡ place_of true (nfa tree ∷ []) (lit value)

  pair-place : (number : ℕ) (c : ChainInfo) (there : slice_get t.chains number ≡ Some c) (i : ℕ) (keys : List ℕ) (s : Stands t c i keys) (j : ℕ) (before r : Role) → c.first < i → suc j ≡ i → slice_get t.roles j ≡ Some before → slice_get t.roles i ≡ Some r → IsPairOf t before r s.kind →
      IsPairPlace s.kind (own_place number c there i keys s)
  pair-place number c there i keys s j before r later next before_there r_there is_pair =
      let own = own_chain number c there in
      let at = own_piece number c there i keys s in
      let (first_is, back) = looks-first t entries chains is number c own j before (omega (arith, later, next)) (omega (arith, next, s.high)) before_there is_pair.looks_back in
      let two = pair t entries chains is number c own back in
      let first = first-role t entries chains is number c own back in
      let second = second-role t entries chains is number c own back in
      let one_is : at.m ≡ 1 = omega (arith, at.number_is, next, first_is) in
      let first_is_before : first.r ≡ before = same_Some first.r before (sym first.role_there ∙ (ap (slice_get t.roles) (omega (arith, first_is)) ∙ before_there)) in
      let second_is_r : second.r ≡ r = same_Some second.r r (sym second.role_there ∙ (ap (slice_get t.roles) (omega (arith, first_is, next)) ∙ r_there)) in
      let names : Names t.literals is.models before.number before.null (nfa two.tree) = subst (λ (q : Role). Names t.literals is.models q.number q.null (nfa two.tree)) first_is_before first.role.names in
      let names' : Names t.literals is.models r.number r.null (lit two.value) = subst (λ (q : Role). Names t.literals is.models q.number q.null (lit two.value)) second_is_r second.role.names in
      let front : take at.m own.chain.pieces ≡ nfa two.tree ∷ [] = ap (λ n. take n own.chain.pieces) one_is ∙ ap (take 1) two.is_chain in
      let piece_is : at.piece ≡ lit two.value = same_Some at.piece (lit two.value) (sym at.at ∙ (ap (slice_get own.chain.pieces) one_is ∙ ap (λ ps. slice_get ps 1) two.is_chain)) in record {
        engine_number = before.number;
        tree = two.tree;
        value = two.value;
        group = ap key_group is_pair.is ∙ ap (λ n. n + 3) is_pair.engine;
        engine_is = names.named;
        literal_is = ap (slice_get t.literals) (ap key_number is_pair.is ∙ is_pair.literal) ∙ names'.named;
        place = ap (λ b. place_of b (take at.m own.chain.pieces) at.piece) back ∙ (ap (λ ps. place_of true ps at.piece) front ∙ ap (place_of true (nfa two.tree ∷ [])) piece_is);
      }

  -- the kind of a role that stands by itself isn't that of a pair
  not-pair : (r : Role) (kind : NodeKind) (n : ℕ) → IsKindOf t r kind → key_group kind ≡ n + 3 → ⊥
  not-pair r kind n (bare len is has same) e = omega (arith, sym (ap key_group same) ∙ e)
  not-pair r kind n (entered len is has same) e = omega (arith, sym (ap key_group same) ∙ e)
  not-pair r kind n (engine null run kept same) e = omega (arith, sym (ap key_group same) ∙ e)

  -- a chain whose first role has a node doesn't look back
  looks-none : (number : ℕ) (c : ChainInfo) (own : HasChain t entries chains is number c) (r : Role) → slice_get t.roles c.first ≡ Some r → (LooksBack r → ⊥) → begins_with_look_back own.chain.pieces ≡ false
  looks-none number c own r there alone = by-look (begins_with_look_back own.chain.pieces) refl
    where
      by-look : (b : Bool) → begins_with_look_back own.chain.pieces ≡ b → begins_with_look_back own.chain.pieces ≡ false
      by-look false e = e
      by-look true e =
          let first = first-role t entries chains is number c own e in
          let kind : first.r.kind ≡ kinds.LookBack = first.role.kind_is ∙ ap (λ b. place_kind (place_of b [] (nfa (pair t entries chains is number c own e).tree))) e in
          let same : c.first + 0 ≡ c.first = omega arith in
          absurd (alone (subst LooksBack (same_Some first.r r (sym first.role_there ∙ (ap (slice_get t.roles) same ∙ there))) kind))

  -- What stands before a role that stands by itself: nothing, or a role that has a node.
  data Follows (c : ChainInfo) (i : ℕ) (front : List ℕ) : Type 0 where
    first_one : i ≡ c.first → front ≡ [] → Follows c i front
    later_one : (j : ℕ) → suc j ≡ i → Stands t c j front → Follows c i front

  follows : (c : ChainInfo) (i : ℕ) (front : List ℕ) → i < c.end →
      ((j : ℕ) (before : Role) → c.first < i → suc j ≡ i → slice_get t.roles j ≡ Some before → LooksBack before → ⊥) → AreKeysTo t c.first i front → Follows c i front
  follows c i front high alone (steps.begins m ks first none) = first_one first none
  follows c i front high alone (steps.passes m ks j q below next q_there back before) = absurd (alone j q (omega (arith, below, next)) next q_there back)
  follows c i front high alone (steps.goes_on m ks j key kind before below next has key_is same before_are) = later_one j next (record {
    low = below;
    high = omega (arith, next, high);
    kind = kind;
    has = has;
    key = key;
    front = before;
    key_is = key_is;
    keys_are = same;
    before = before_are;
  })

  -- roles before that number with equal keys have equal places
  abbrev ArePlacesSame : ℕ → Type 0
  ArePlacesSame n =
      (i i' number number' : ℕ) (c c' : ChainInfo) (there : slice_get t.chains number ≡ Some c)
      (there' : slice_get t.chains number' ≡ Some c') (keys : List ℕ) →
      i < n →
      (s : Stands t c i keys) (s' : Stands t c' i' keys) →
      own_place number c there i keys s ≡ own_place number' c' there' i' keys s'

  module _ (n : ℕ) (earlier : ArePlacesSame n) (i i' number number' : ℕ) (c c' : ChainInfo) (there : slice_get t.chains number ≡ Some c) (there' : slice_get t.chains number' ≡ Some c') (keys : List ℕ) (low : i < suc n)
      (s : Stands t c i keys) (s' : Stands t c' i' keys) where
    fronts : (s.front ≡ s'.front) × (s.key ≡ s'.key)
    fronts = snoc-parts s.front s'.front s.key s'.key (sym s.keys_are ∙ s'.keys_are)

    groups : (key_group s.kind ≡ key_group s'.kind) × (key_number s.kind ≡ key_number s'.kind)
    groups = same-group s.kind s'.kind s'.key (subst (IsKeyOf s.kind) fronts.1 s.key_is) s'.key_is

    abbrev at : HasPieceAt t entries chains is c (own_chain number c there).chain i s.has.role
    at = own_piece number c there i keys s

    abbrev at' : HasPieceAt t entries chains is c' (own_chain number' c' there').chain i' s'.has.role
    at' = own_piece number' c' there' i' keys s'

    abbrev ps : List Piece
    ps = own_pieces number c there

    abbrev ps' : List Piece
    ps' = own_pieces number' c' there'

    abbrev IsSame : Type 0
    IsSame = own_place number c there i keys s ≡ own_place number' c' there' i' keys s'

    by-pairs : IsPairPlace s.kind (own_place number c there i keys s) → IsPairPlace s'.kind (own_place number' c' there' i' keys s') → IsSame
    by-pairs one two =
        let number_is : one.engine_number ≡ two.engine_number = omega (arith, one.group, two.group, groups.0) in
        let tree : nfa one.tree ≡ nfa two.tree = same_Some (nfa one.tree) (nfa two.tree) (sym one.engine_is ∙ (ap (slice_get is.models) number_is ∙ two.engine_is)) in
        let value : one.value ≡ two.value = same_Some one.value two.value (sym one.literal_is ∙ (ap (slice_get t.literals) groups.1 ∙ two.literal_is)) in
        one.place ∙ (ap (λ p. place_of true (p ∷ []) (lit one.value)) tree ∙ (ap (λ xs. place_of true (nfa two.tree ∷ []) (lit xs)) value ∙ sym two.place))

    by-fronts : at.piece ≡ at'.piece → Follows c i s.front → Follows c' i' s'.front → IsSame
    by-fronts piece (first_one first none) (first_one first' none') =
        let zero_is : at.m ≡ 0 = omega (arith, first, at.number_is) in
        let zero_is' : at'.m ≡ 0 = omega (arith, first', at'.number_is) in
        let look = looks-none number c (own_chain number c there) s.has.role (ap (slice_get t.roles) (sym first) ∙ s.has.there) s.has.alone in
        let look' = looks-none number' c' (own_chain number' c' there') s'.has.role (ap (slice_get t.roles) (sym first') ∙ s'.has.there) s'.has.alone in
        ap (λ b. place_of b (take at.m ps) at.piece) (look ∙ sym look')
        ∙ (ap (λ k. place_of (begins_with_look_back ps') (take k ps) at.piece) zero_is
        ∙ (ap (place_of (begins_with_look_back ps') []) piece ∙ ap (λ k. place_of (begins_with_look_back ps') (take k ps') at'.piece) (sym zero_is')))
    by-fronts piece (first_one first none) (later_one j next before) = absurd (snoc-some before.front before.key (sym before.keys_are ∙ (sym fronts.0 ∙ none)))
    by-fronts piece (later_one j next before) (first_one first none) = absurd (snoc-some before.front before.key (sym before.keys_are ∙ (fronts.0 ∙ none)))
    by-fronts piece (later_one j next before) (later_one j' next' before') =
        let other : Stands t c' j' s.front = subst (λ ks. Stands t c' j' ks) (sym fronts.0) before' in
        let same = earlier j j' number number' c c' there there' s.front (omega (arith, next, low)) before other in
        let looks : begins_with_look_back ps ≡ begins_with_look_back ps' = ap (λ (p : Place). p.looks_back) same in
        let pieces : take at.m ps ≡ take at'.m ps' =
        up-to number c there i j keys s.front s before next ∙ (ap (λ (p : Place). p.pieces ++ p.piece ∷ []) same ∙ sym (up-to number' c' there' i' j' keys s.front s' other next')) in
        ap (λ b. place_of b (take at.m ps) at.piece) looks ∙ (ap (λ qs. place_of (begins_with_look_back ps') qs at.piece) pieces ∙ ap (place_of (begins_with_look_back ps') (take at'.m ps')) piece)

    by-kinds : IsKindAt t c.first i s.kind → IsKindAt t c'.first i' s'.kind → IsSame
    by-kinds (by_itself r r_there alone kind) (by_itself r' r_there' alone' kind') =
        by-fronts (same-piece s.kind s'.kind at.piece at'.piece groups.0 groups.1 (own-tells number c there i keys s r r_there kind) (own-tells number' c' there' i' keys s' r' r_there' kind'))
        (follows c i s.front s.high alone s.before) (follows c' i' s'.front s'.high alone' s'.before)
    by-kinds (by_itself r r_there alone kind) (paired j before q later next before_there q_there is_pair) =
        let two = pair-place number' c' there' i' keys s' j before q later next before_there q_there is_pair in
        absurd (not-pair r s.kind two.engine_number kind (groups.0 ∙ two.group))
    by-kinds (paired j before q later next before_there q_there is_pair) (by_itself r r_there alone kind) =
        let one = pair-place number c there i keys s j before q later next before_there q_there is_pair in
        absurd (not-pair r s'.kind one.engine_number kind (sym groups.0 ∙ one.group))
    by-kinds (paired j before q later next before_there q_there is_pair) (paired j' before' q' later' next' before_there' q_there' is_pair') =
        by-pairs (pair-place number c there i keys s j before q later next before_there q_there is_pair) (pair-place number' c' there' i' keys s' j' before' q' later' next' before_there' q_there' is_pair')

  places-same : (n : ℕ) → ArePlacesSame n
  places-same zero i i' number number' c c' there there' keys low s s' = absurd (omega (arith, low))
  places-same (suc n) i i' number number' c c' there there' keys low s s' = by-kinds n (places-same n) i i' number number' c c' there there' keys low s s' s.has.is s'.has.is

  -- the piece of a role
  own-place : (number : ℕ) (c : ChainInfo) (there : slice_get t.chains number ≡ Some c) (i : ℕ) (keys : List ℕ) (s : Stands t c i keys) (x : ListedPiece) → slice_get (all_pieces t entries chains is) i ≡ Some x → x.place ≡ own_place number c there i keys s
  own-place number c there i keys s x at =
      let own = own_piece number c there i keys s in
      ap (λ (y : ListedPiece). y.place) (same_Some x (piece_of (own_chain number c there).chain own.m own.piece) (sym at ∙ own.there))

  -- roles of one node have equal places
  pub same-place : (paths : List (List ℕ)) (k i j : ℕ) (x y : ListedPiece) → IsNodeOfRole t paths k i → IsNodeOfRole t paths k j → slice_get (all_pieces t entries chains is) i ≡ Some x → slice_get (all_pieces t entries chains is) j ≡ Some y → x.place ≡ y.place
  same-place paths k i j x y one two x_there y_there =
      let path : two.path ≡ one.path = same_Some two.path one.path (sym two.path_there ∙ one.path_there) in
      let s = node-stands t paths k i one in
      let s' : Stands t two.chain j one.path = subst (λ ks. Stands t two.chain j ks) path (node-stands t paths k j two) in
      own-place one.number one.chain one.chain_there i one.path s x x_there
      ∙ (places-same (suc i) i j one.number two.number one.chain two.chain one.chain_there two.chain_there one.path (omega arith) s s' ∙ sym (own-place two.number two.chain two.chain_there j one.path s' y y_there))

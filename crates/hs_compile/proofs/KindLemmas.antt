-- What the kind of a role's node runs, and what is kept of it.
use Rattle.std.proofs.Common.{◌≡◌, ◌⊎◌, ℕ, zero, suc, ◌<◌, ◌≤◌, Bool, true, false, List, [], ◌∷◌, length, Option, Some, None, slice_get, refl, sym, ap, subst, ◌∙◌, inl, inr, arith}
use Rattle.std.specs.List.{AllZip}
use Rattle.std.proofs.lemmas.Bool.{false≢true}
use Rattle.std.proofs.lemmas.Option.{same_Some, slice_get_within}
use Rattle.hs_base.specs.declared.context.Mask.{Mask}
use Rattle.hs_base.specs.Chains.{Piece, lit, nfa, rep, piece_tree}
use Rattle.hs_base.specs.Contexts.{context_of}
use Rattle.hs_base.specs.KeptPieces.{Form, nothing, positions, literal, form_of, form_size, repeat_form}
use Rattle.hs_base.specs.Leaving.{IsAtMostWide}
use Rattle.hs_base.specs.Literals.{LiteralByte}
use Rattle.hs_base.specs.Trees.{Tree}
use Rattle.hs_base.specs.WrittenOut.{count, write_out}
use Rattle.hs_nodes.specs.Contexts.{IsNull}
use Rattle.hs_nodes.specs.Graphs.{KeepsFields, keeps}
use Rattle.hs_nodes.specs.Nodes.{IsKindSound, IsLiteralOf, RunsPiece, window_size}
use Rattle.hs_nodes.specs.Nodes as nodes
use Rattle.hs_nodes.specs.Walks.{StandsBehind}
use Rattle.hs_nodes.specs.declared.graph.Graph.{Graph}
use Rattle.hs_nodes.specs.declared.table.NodeKind.{NodeKind}
use Rattle.hs_nodes.specs.declared.table.NodeKind.TheVariants.{Engine}
use Rattle.hs_rose.specs.declared.engine.PieceEngine.{PieceEngine}
use Rattle.hs_rose.specs.declared.kind.Kind.TheVariants as kinds
use Rattle.hs_rose.specs.declared.role.Role.{Role}
use Rattle.hs_rose.specs.Kinds.{number_if_literal, number_if_run, place_kind}
use Rattle.hs_rose.specs.Made.{IsNullMask}
use Rattle.hs_rose.specs.PieceEngines.{IsEngineOf, engine_form, piece_meaning}
use Rattle.hs_rose.specs.Programs.{Names, Tables}
use Rattle.hs_rose.specs.Runnable.{IsRunnable}
use Rattle.hs_rose.proofs.ListLemmas.{zip-right}
use Rattle.hs_compile.specs.GraphKinds.{HasLength, IsKeptMask, IsKindOf, IsPairOf, bare, engine, entered}
use Rattle.hs_compile.specs.GraphTables.{LooksBack}
use Rattle.hs_compile.proofs.JoinLemmas.{LiteralAt, a_literal, literal-at, place_of}

-- what is kept, by the kind of a role

bare-form : (l : Bool) (pieces : List Piece) (xs : List LiteralByte) → place_kind (place_of l pieces (lit xs)) ≡ kinds.BareLiteral → form_of l pieces (lit xs) ≡ nothing
bare-form l [] xs e = refl
bare-form true (x ∷ []) xs e = refl
bare-form false (x ∷ []) xs e = absurd (let f : kinds.Literal ≡ kinds.BareLiteral = e in cc)
bare-form true (x ∷ y ∷ pieces) xs e = absurd (let f : kinds.Literal ≡ kinds.BareLiteral = e in cc)
bare-form false (x ∷ y ∷ pieces) xs e = absurd (let f : kinds.Literal ≡ kinds.BareLiteral = e in cc)

entered-form : (l : Bool) (pieces : List Piece) (xs : List LiteralByte) → place_kind (place_of l pieces (lit xs)) ≡ kinds.Literal → form_of l pieces (lit xs) ≡ literal (length xs)
entered-form l [] xs e = absurd (let f : kinds.BareLiteral ≡ kinds.Literal = e in cc)
entered-form true (x ∷ []) xs e = absurd (let f : kinds.BareLiteral ≡ kinds.Literal = e in cc)
entered-form false (x ∷ []) xs e = refl
entered-form true (x ∷ y ∷ pieces) xs e = refl
entered-form false (x ∷ y ∷ pieces) xs e = refl

-- a literal of which nothing is kept is a first piece, or stands behind one that looks back
pub bare-places : (l : Bool) (pieces : List Piece) (xs : List LiteralByte) → place_kind (place_of l pieces (lit xs)) ≡ kinds.BareLiteral → (pieces ≡ []) ⊎ ((l ≡ true) × (length pieces ≡ 1))
bare-places l [] xs e = inl refl
bare-places true (x ∷ []) xs e = inr (refl, refl)
bare-places false (x ∷ []) xs e = absurd (let f : kinds.Literal ≡ kinds.BareLiteral = e in cc)
bare-places true (x ∷ y ∷ pieces) xs e = absurd (let f : kinds.Literal ≡ kinds.BareLiteral = e in cc)
bare-places false (x ∷ y ∷ pieces) xs e = absurd (let f : kinds.Literal ≡ kinds.BareLiteral = e in cc)

literal-runs-not : (l : Bool) (pieces : List Piece) (xs : List LiteralByte) (n : ℕ) → number_if_run (place_kind (place_of l pieces (lit xs))) n ≡ None
literal-runs-not l [] xs n = refl
literal-runs-not true (x ∷ []) xs n = refl
literal-runs-not false (x ∷ []) xs n = refl
literal-runs-not true (x ∷ y ∷ pieces) xs n = refl
literal-runs-not false (x ∷ y ∷ pieces) xs n = refl

tree-form : (l : Bool) (pieces : List Piece) (tree : Tree) → (place_kind (place_of l pieces (nfa tree)) ≡ kinds.LookBack → ⊥) → form_of l pieces (nfa tree) ≡ positions tree
tree-form true [] tree alone = absurd (alone refl)
tree-form false [] tree alone = refl
tree-form true (x ∷ pieces) tree alone = refl
tree-form false (x ∷ pieces) tree alone = refl

repeat-keeps : (set : List Bool) (least : ℕ) (greatest : Option ℕ) → keeps (repeat_form set least greatest) ≡ true
repeat-keeps set least None = refl
repeat-keeps set zero (Some m) = refl
repeat-keeps set (suc zero) (Some m) = refl
repeat-keeps set (suc (suc least)) (Some m) = refl

-- where nothing is kept is told by a mask that has no context
null-kept : (kept : Option Mask) (mask : Mask) (tree : Tree) → IsKeptMask kept mask → IsNullMask mask tree → IsNull kept tree
null-kept None mask tree none is = λ u next empty. false≢true (sym (none (context_of u next)) ∙ (is u next).1 empty)
null-kept (Some own) mask tree same is = subst (λ m. IsNullMask m tree) (sym same) is

module _ (t : Tables) (models : List Piece) (engines : AllZip IsEngineOf t.engines models) (graph : Graph PieceEngine) (same_engines : graph.table.engines.items ≡ t.engines) where
  -- A node of that kind runs the piece behind those, keeps the fields of that form, and names what is there.
  pub record Serves (own : NodeKind) (pieces : List Piece) (piece : Piece) (form : Form) : Type 0 where
    pub runs : RunsPiece piece_meaning graph.table.engines.items t.literals own pieces piece
    pub fields : KeepsFields piece_meaning graph own form piece
    pub sound : (size : ℕ) → size ≡ form_size form → IsKindSound piece_meaning graph.table.engines.items (length t.literals) own size

  -- the engine of a number
  named-engine : (number : ℕ) (piece : Piece) → slice_get models number ≡ Some piece → (e : PieceEngine) × (slice_get graph.table.engines.items number ≡ Some e) × IsEngineOf e piece
  named-engine number piece named =
      let (e, there, is) = zip-right IsEngineOf t.engines models engines number piece named in
      (e, ap (λ es. slice_get es number) same_engines ∙ there, is)

  engine-of : (number : ℕ) (kept : Option Mask) (mask : Mask) (piece : Piece) → slice_get models number ≡ Some piece → IsKeptMask kept mask → IsNullMask mask (piece_tree piece) →
      nodes.IsEngineOf piece_meaning graph.table.engines.items number kept piece
  engine-of number kept mask piece named is_kept null =
      let (e, there, is) = named-engine number piece named in
      record { value = e; there = there; runs = is.runs; null_is = null-kept kept mask (piece_tree piece) is_kept null }

  engine-serves : (number : ℕ) (kept : Option Mask) (mask : Mask) (pieces : List Piece) (piece : Piece) (form : Form) → slice_get models number ≡ Some piece → IsKeptMask kept mask → IsNullMask mask (piece_tree piece) →
      form ≡ engine_form piece → keeps form ≡ true → Serves (Engine number kept) pieces piece form
  engine-serves number kept mask pieces piece form named is_kept null same some =
      let (e, there, is) = named-engine number piece named in record {
        runs = engine-of number kept mask piece named is_kept null;
        fields = λ v at.
            let one : e ≡ v = same_Some e v (sym there ∙ at) in
            subst (λ (x : PieceEngine). Rattle.hs_nodes.specs.Graphs.KeepsForm (piece_meaning x) form (piece_tree piece)) one
            (subst (λ f. Rattle.hs_nodes.specs.Graphs.KeepsForm (piece_meaning e) f (piece_tree piece)) (sym same)
            (record {
              kept = ap keeps (sym same) ∙ some;
              wide = is.width;
              says = λ bytes u marks size. ((is.says bytes u marks).1, (is.says bytes u marks).0);
              may = λ bytes at. is.well bytes at;
            }));
        sound = λ size is_size. record {
          there = slice_get_within graph.table.engines.items number e there;
          each = λ v at.
              let one : e ≡ v = same_Some e v (sym there ∙ at) in
              subst (λ (x : PieceEngine). ((piece_meaning x).width ≡ size) × ((piece_meaning x).always ≡ false)) one (is.width ∙ sym (is_size ∙ ap form_size same), is.always);
        };
      }

  -- the literal of a number
  literal-size : (number len : ℕ) (xs : List LiteralByte) → slice_get t.literals number ≡ Some xs → HasLength t number len → length xs ≡ len
  literal-size number len xs named has = ap length (same_Some xs has.literal (sym named ∙ has.there)) ∙ has.count

  literal-of : (number len : ℕ) (xs : List LiteralByte) → slice_get t.literals number ≡ Some xs → HasLength t number len → IsLiteralOf t.literals number len (lit xs)
  literal-of number len xs named has = record { value = xs; there = named; is = refl; count = literal-size number len xs named has }

  literal-short : (number len : ℕ) (xs : List LiteralByte) → slice_get t.literals number ≡ Some xs → HasLength t number len → IsRunnable (lit xs) → (number < length t.literals) × (1 ≤ len) × (len ≤ 32)
  literal-short number len xs named has runnable =
      let size : length xs ≡ len = literal-size number len xs named has in
      let low : 2 ≤ length xs = runnable.0 in
      let high : length xs ≤ 32 = runnable.1 in
      (slice_get_within t.literals number xs named, omega (arith, size, low), omega (arith, size, high))

  module _ (r : Role) (l : Bool) (pieces : List Piece) (alone : LooksBack r → ⊥) (bare_first : r.kind ≡ kinds.BareLiteral → pieces ≡ []) where
    not-literal : (piece : Piece) → r.kind ≡ place_kind (place_of l pieces piece) → number_if_literal r.kind r.number ≡ Some r.number → LiteralAt piece
    not-literal piece is number = literal-at l pieces piece r.number r.number (ap (λ k. number_if_literal k r.number) (sym is) ∙ number)

    serves-literal : (xs : List LiteralByte) (own : NodeKind) → r.kind ≡ place_kind (place_of l pieces (lit xs)) → Names t.literals models r.number r.null (lit xs) → IsRunnable (lit xs) → IsKindOf t r own →
        Serves own pieces (lit xs) (form_of l pieces (lit xs))
    serves-literal xs own is names runnable (bare len kind has same) =
        let form = bare-form l pieces xs (sym is ∙ kind) in
        subst (λ (k : NodeKind). Serves k pieces (lit xs) (form_of l pieces (lit xs))) (sym same) (record {
          runs = (bare_first kind, literal-of r.number len xs names.named has);
          fields = form;
          sound = λ size is_size. literal-short r.number len xs names.named has runnable;
        })
    serves-literal xs own is names runnable (entered len kind has same) =
        let form = entered-form l pieces xs (sym is ∙ kind) in
        let size_is = literal-size r.number len xs names.named has in
        let short = literal-short r.number len xs names.named has runnable in
        subst (λ (k : NodeKind). Serves k pieces (lit xs) (form_of l pieces (lit xs))) (sym same) (record {
          runs = literal-of r.number len xs names.named has;
          fields = form ∙ ap literal size_is;
          sound = λ size is_size. (short.0, short.1, short.2, is_size ∙ ap form_size form);
        })
    serves-literal xs own is names runnable (engine kept run is_kept same) =
        absurd (let e : None ≡ Some r.number = sym (literal-runs-not l pieces xs r.number) ∙ (ap (λ k. number_if_run k r.number) (sym is) ∙ run) in cc)

    -- a role that stands by itself
    pub serves : (piece : Piece) (own : NodeKind) → r.kind ≡ place_kind (place_of l pieces piece) → Names t.literals models r.number r.null piece → IsRunnable piece → IsKindOf t r own →
        Serves own pieces piece (form_of l pieces piece)
    serves (lit xs) own is names runnable kind = serves-literal xs own is names runnable kind
    serves (nfa tree) own is names runnable (bare len kind has same) = absurd (no-literal (not-literal (nfa tree) is (ap (λ k. number_if_literal k r.number) kind)))
      where
        no-literal : LiteralAt (nfa tree) → ⊥
        no-literal (a_literal xs e) = cc
    serves (nfa tree) own is names runnable (entered len kind has same) = absurd (no-literal (not-literal (nfa tree) is (ap (λ k. number_if_literal k r.number) kind)))
      where
        no-literal : LiteralAt (nfa tree) → ⊥
        no-literal (a_literal xs e) = cc
    serves (nfa tree) own is names runnable (engine kept run is_kept same) =
        let form = tree-form l pieces tree (λ back. alone (is ∙ back)) in
        subst (λ (k : NodeKind). Serves k pieces (nfa tree) (form_of l pieces (nfa tree))) (sym same)
        (engine-serves r.number kept r.null pieces (nfa tree) (form_of l pieces (nfa tree)) names.named is_kept names.null_is form (ap keeps form))
    serves (rep set n m) own is names runnable (bare len kind has same) = absurd (no-literal (not-literal (rep set n m) is (ap (λ k. number_if_literal k r.number) kind)))
      where
        no-literal : LiteralAt (rep set n m) → ⊥
        no-literal (a_literal xs e) = cc
    serves (rep set n m) own is names runnable (entered len kind has same) = absurd (no-literal (not-literal (rep set n m) is (ap (λ k. number_if_literal k r.number) kind)))
      where
        no-literal : LiteralAt (rep set n m) → ⊥
        no-literal (a_literal xs e) = cc
    serves (rep set n m) own is names runnable (engine kept run is_kept same) =
        subst (λ (k : NodeKind). Serves k pieces (rep set n m) (form_of l pieces (rep set n m))) (sym same)
        (engine-serves r.number kept r.null pieces (rep set n m) (repeat_form set n m) names.named is_kept names.null_is refl (repeat-keeps set n m))

  -- a literal behind an expression that looks back
  pub serves-pair : (before r : Role) (tree : Tree) (xs : List LiteralByte) (own : NodeKind) → Names t.literals models before.number before.null (nfa tree) → Names t.literals models r.number r.null (lit xs) →
      IsRunnable (nfa tree) → IsRunnable (lit xs) → IsAtMostWide window_size tree → IsPairOf t before r own → Serves own (nfa tree ∷ []) (lit xs) nothing
  serves-pair before r tree xs own names names' runnable runnable' narrow is =
      let (e, there, of) = named-engine before.number (nfa tree) names.named in
      let pair = is.pair in
      let has : HasLength t r.number pair.len = is.len in
      let small : count (write_out tree) ≤ 512 = runnable.1 in
      let short = literal-short r.number pair.len xs names'.named has runnable' in
      subst (λ (k : NodeKind). Serves k (nfa tree ∷ []) (lit xs) nothing) (sym is.is) (record {
        runs = record {
          tree = tree;
          before = refl;
          engine = subst (λ n. nodes.IsEngineOf piece_meaning graph.table.engines.items n pair.null (nfa tree)) (sym is.engine)
              (engine-of before.number pair.null before.null (nfa tree) names.named is.null names.null_is);
          narrow = narrow;
          literal = subst (λ n. IsLiteralOf t.literals n pair.len (lit xs)) (sym is.literal) (literal-of r.number pair.len xs names'.named has);
        };
        fields = refl;
        sound = λ size is_size. (
          record {
            there = subst (λ n. n < length graph.table.engines.items) (sym is.engine) (slice_get_within graph.table.engines.items before.number e there);
            each = λ v at.
                let one : e ≡ v = same_Some e v (sym there ∙ (ap (slice_get graph.table.engines.items) (sym is.engine) ∙ at)) in
                subst (λ (x : PieceEngine). ((piece_meaning x).width ≤ 64) × ((piece_meaning x).always ≡ false)) one (omega (arith, of.width, small), of.always);
            edges = λ v at. is.edges v (sym (ap (λ es. slice_get es before.number) same_engines) ∙ (ap (slice_get graph.table.engines.items) (sym is.engine) ∙ at));
          },
          subst (λ n. n < length t.literals) (sym is.literal) short.0,
          short.1,
          short.2,
        );
      })

-- where a node of a role that stands by itself stands
pub stands-behind : (t : Tables) (r : Role) (own : NodeKind) (parent : Option ℕ) (pieces before : List Piece) → IsKindOf t r own → before ≡ pieces → StandsBehind own parent pieces before
stands-behind t r own parent pieces before (bare len kind has same) is = subst (λ (k : NodeKind). StandsBehind k parent pieces before) (sym same) is
stands-behind t r own parent pieces before (entered len kind has same) is = subst (λ (k : NodeKind). StandsBehind k parent pieces before) (sym same) is
stands-behind t r own parent pieces before (engine kept run is_kept same) is = subst (λ (k : NodeKind). StandsBehind k parent pieces before) (sym same) is

pub pair-behind : (t : Tables) (before r : Role) (own : NodeKind) (parent : Option ℕ) (pieces those : List Piece) → IsPairOf t before r own → parent ≡ None → StandsBehind own parent pieces those
pair-behind t before r own parent pieces those is none = subst (λ (k : NodeKind). StandsBehind k parent pieces those) (sym is.is) none

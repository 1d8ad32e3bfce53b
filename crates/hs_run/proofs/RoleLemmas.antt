-- The roles of a program that is built can be run, and run their pieces.
use Rattle.std.proofs.Common.{◌≡◌, ℕ, zero, suc, ◌+◌, ◌≤◌, Bool, true, false, List, [], ◌∷◌, length, replicate, get_or, Option, Some, None, slice_get, refl, sym, ap, subst, ◌∙◌, inl, inr, arith}
use Rattle.std.specs.List.{AllZip}
use Rattle.std.proofs.lemmas.Bool.{cases_lt}
use Rattle.std.proofs.lemmas.List.{get_or-replicate, get_or_past, length-replicate}
use Rattle.hs_base.specs.Bits.{has_bit}
use Rattle.hs_base.specs.Chains.{Piece, lit, nfa, rep, piece_tree}
use Rattle.hs_base.specs.Contexts.{context_of, then_bytes, then_ended}
use Rattle.hs_base.specs.KeptPieces.{Form, nothing, positions, literal, first, last, ring, form_size, literal_form, tree_form, repeat_form, IsFieldAt}
use Rattle.hs_base.specs.Literals.{LiteralByte}
use Rattle.hs_base.specs.Regions.{Place}
use Rattle.hs_base.specs.Trees.{Tree}
use Rattle.hs_base.proofs.BitLemmas.{bits-zero}
use Rattle.hs_rose.specs.declared.engine.PieceEngine.{PieceEngine}
use Rattle.hs_rose.specs.declared.role.Role.{Role}
use Rattle.hs_rose.specs.Kinds.{kind_for}
use Rattle.hs_rose.specs.Listing.{ListedPiece}
use Rattle.hs_rose.specs.PieceEngines.{IsEngineOf, engine_form, piece_meaning}
use Rattle.hs_rose.specs.Programs.{Tables, IsEmptyMask, IsRoleOf}
use Rattle.hs_rose.specs.Runnable.{IsRunnable}
use Rattle.hs_rose.proofs.ListLemmas.{zip-right}
use Rattle.hs_run.specs.declared.way.Way.{Way}
use Rattle.hs_run.specs.declared.way.Way.TheVariants as way
use Rattle.hs_run.specs.Pieces as run
use Rattle.hs_run.specs.Pieces.{IsAlone, IsEngineSound, IsLiteralSound, IsRoleNull, IsSound, RunsForm, bare, engine, entered, keeps}
use Rattle.hs_run.specs.Programs.{looked}
use Rattle.hs_run.proofs.PieceLemmas.{lit-width}
use Rattle.hs_run.specs.Ways.{way_for, way_of}

-- zeros may stand as a field at every offset

abbrev zeros : ℕ → List ℕ
zeros n = replicate n 0

zero-byte : (n i : ℕ) → get_or (zeros n) i 0 ≡ 0
zero-byte n i = elim (cases_lt i n) [
  | inl below ↦ get_or-replicate n i 0 0 below
  | inr past ↦ get_or_past (zeros n) i 0 (omega (arith, length-replicate {A = ℕ} n 0))
]

zero-bits : (n k : ℕ) → has_bit (zeros n) k ≡ false
zero-bits n k = bits-zero (zeros n) (zero-byte n) k

zero-field : (form : Form) (n at : ℕ) → IsFieldAt form (zeros n) at
zero-field nothing n at = tt
zero-field (positions tree) n at = λ k past. zero-bits n k
zero-field (literal m) n at = record { spare = λ k past. zero-bits n k; early = λ k past. zero-bits n k }
zero-field (first set m) n at = record { bounded = omega (arith, zero-byte n 0, zero-byte n 1); within = omega (arith, zero-byte n 0, zero-byte n 1) }
zero-field (last set m) n at = record { bounded = omega (arith, zero-byte n 0, zero-byte n 1); within = omega (arith, zero-byte n 0, zero-byte n 1) }
zero-field (ring set m) n at = record { spare = λ k past. zero-bits n k; early = λ k past. zero-bits n k }

-- how roles are run, by the forms of their pieces

pub data LiteralWay (l : Bool) (pieces : List Piece) (xs : List LiteralByte) : Type 0 where
  first_one : way_for (kind_for (literal_form l pieces (length xs)) (lit xs)) ≡ way.BareLiteral → literal_form l pieces (length xs) ≡ nothing → pieces ≡ [] → LiteralWay l pieces xs
  looked_one : way_for (kind_for (literal_form l pieces (length xs)) (lit xs)) ≡ way.BareLiteral → literal_form l pieces (length xs) ≡ nothing → l ≡ true → length pieces ≡ 1 → LiteralWay l pieces xs
  other : way_for (kind_for (literal_form l pieces (length xs)) (lit xs)) ≡ way.Literal → literal_form l pieces (length xs) ≡ literal (length xs) → LiteralWay l pieces xs

pub literal-way : (l : Bool) (pieces : List Piece) (xs : List LiteralByte) → LiteralWay l pieces xs
literal-way l [] xs = first_one refl refl refl
literal-way true (x ∷ []) xs = looked_one refl refl refl refl
literal-way false (x ∷ []) xs = other refl refl
literal-way true (x ∷ y ∷ pieces) xs = other refl refl
literal-way false (x ∷ y ∷ pieces) xs = other refl refl

pub data TreeWay (l : Bool) (pieces : List Piece) (tree : Tree) : Type 0 where
  looks : way_for (kind_for (tree_form l pieces tree) (nfa tree)) ≡ way.LookBack → tree_form l pieces tree ≡ nothing → l ≡ true → pieces ≡ [] → TreeWay l pieces tree
  runs : way_for (kind_for (tree_form l pieces tree) (nfa tree)) ≡ way.Engine → tree_form l pieces tree ≡ positions tree → TreeWay l pieces tree

pub tree-way : (l : Bool) (pieces : List Piece) (tree : Tree) → TreeWay l pieces tree
tree-way true [] tree = looks refl refl refl refl
tree-way false [] tree = runs refl refl
tree-way true (x ∷ pieces) tree = runs refl refl
tree-way false (x ∷ pieces) tree = runs refl refl

pub repeat-way : (set : List Bool) (least : ℕ) (greatest : Option ℕ) → way_for (kind_for (repeat_form set least greatest) (rep set least greatest)) ≡ way.Engine
repeat-way set least None = refl
repeat-way set zero (Some m) = refl
repeat-way set (suc zero) (Some m) = refl
repeat-way set (suc (suc least)) (Some m) = refl

repeat-keeps : (set : List Bool) (least : ℕ) (greatest : Option ℕ) → keeps (repeat_form set least greatest) ≡ true
repeat-keeps set least None = refl
repeat-keeps set zero (Some m) = refl
repeat-keeps set (suc zero) (Some m) = refl
repeat-keeps set (suc (suc least)) (Some m) = refl

pub never : {A : Type 0} {x : Way} (y z : Way) → x ≡ y → (y ≡ z → ⊥) → x ≡ z → A
never y z is apart same = absurd (apart (sym is ∙ same))

pub bare-literal : way.BareLiteral ≡ way.Literal → ⊥
bare-literal e = cc

pub bare-engine : way.BareLiteral ≡ way.Engine → ⊥
bare-engine e = cc

pub literal-bare : way.Literal ≡ way.BareLiteral → ⊥
literal-bare e = cc

pub literal-engine : way.Literal ≡ way.Engine → ⊥
literal-engine e = cc

pub looks-bare : way.LookBack ≡ way.BareLiteral → ⊥
looks-bare e = cc

pub looks-literal : way.LookBack ≡ way.Literal → ⊥
looks-literal e = cc

pub looks-engine : way.LookBack ≡ way.Engine → ⊥
looks-engine e = cc

pub engine-bare : way.Engine ≡ way.BareLiteral → ⊥
engine-bare e = cc

pub engine-literal : way.Engine ≡ way.Literal → ⊥
engine-literal e = cc

abbrev pub place_of : Bool → List Piece → Piece → Place
place_of l pieces piece = record { looks_back = l; pieces = pieces; piece = piece }

module _ (t : Tables) (models : List Piece) (engines : AllZip IsEngineOf t.engines models) (r : Role) where
  -- an engine runs the piece that it is named for
  pub named-engine : (piece : Piece) → slice_get models r.number ≡ Some piece → (e : PieceEngine) × (slice_get t.engines r.number ≡ Some e) × IsEngineOf e piece
  named-engine piece named = zip-right IsEngineOf t.engines models engines r.number piece named

  engine-sound : (piece : Piece) (size : ℕ) → slice_get models r.number ≡ Some piece → size ≡ form_size (engine_form piece) → IsEngineSound t r.number size
  engine-sound piece size named same =
      let (e, there, is) = named-engine piece named in
      record { value = e; there = there; wide = is.width ∙ sym same; begins = (is.well (replicate size 0) 0).1 (zero-field (engine_form piece) size 0) }

  literal-sound : (xs : List LiteralByte) → slice_get t.literals r.number ≡ Some xs → IsRunnable (lit xs) → IsLiteralSound t r.number
  literal-sound xs named runnable = record { value = xs; there = named; some = omega (arith, runnable.0); short = runnable.1 }

  -- what a role names is there, and fits its field
  sound-by : (x : ListedPiece) (l : Bool) (pieces : List Piece) (piece : Piece) → x.place ≡ place_of l pieces piece → IsRoleOf t.literals models r x → IsRunnable piece → IsSound t r r.field_size
  sound-by x l pieces (lit xs) at is runnable =
      let own : IsRoleOf t.literals models r (record { chain = x.chain; place = place_of l pieces (lit xs) }) = subst (λ (p : Place). IsRoleOf t.literals models r (record { chain = x.chain; place = p })) at is in
      let kind : way_of r ≡ way_for (kind_for (literal_form l pieces (length xs)) (lit xs)) = ap way_for own.kind_is in
      let is_sound = literal-sound xs own.names.named runnable in
      elim (literal-way l pieces xs) [
        | first_one is_bare form none ↦ record {
          engine = never way.BareLiteral way.Engine (kind ∙ is_bare) bare-engine;
          bare = λ same. is_sound;
          literal = never way.BareLiteral way.Literal (kind ∙ is_bare) bare-literal;
        }
        | looked_one is_bare form so one ↦ record {
          engine = never way.BareLiteral way.Engine (kind ∙ is_bare) bare-engine;
          bare = λ same. is_sound;
          literal = never way.BareLiteral way.Literal (kind ∙ is_bare) bare-literal;
        }
        | other kept form ↦ record {
          engine = never way.Literal way.Engine (kind ∙ kept) literal-engine;
          bare = never way.Literal way.BareLiteral (kind ∙ kept) literal-bare;
          literal = λ same. (is_sound, own.size_is ∙ ap form_size form);
        }
      ]
  sound-by x l pieces (nfa tree) at is runnable =
      let own : IsRoleOf t.literals models r (record { chain = x.chain; place = place_of l pieces (nfa tree) }) = subst (λ (p : Place). IsRoleOf t.literals models r (record { chain = x.chain; place = p })) at is in
      let kind : way_of r ≡ way_for (kind_for (tree_form l pieces tree) (nfa tree)) = ap way_for own.kind_is in
      elim (tree-way l pieces tree) [
        | looks is_back form so none ↦ record {
          engine = never way.LookBack way.Engine (kind ∙ is_back) looks-engine;
          bare = never way.LookBack way.BareLiteral (kind ∙ is_back) looks-bare;
          literal = never way.LookBack way.Literal (kind ∙ is_back) looks-literal;
        }
        | runs kept form ↦ record {
          engine = λ same. engine-sound (nfa tree) r.field_size own.names.named (own.size_is ∙ ap form_size form);
          bare = never way.Engine way.BareLiteral (kind ∙ kept) engine-bare;
          literal = never way.Engine way.Literal (kind ∙ kept) engine-literal;
        }
      ]
  sound-by x l pieces (rep set least greatest) at is runnable =
      let own : IsRoleOf t.literals models r (record { chain = x.chain; place = place_of l pieces (rep set least greatest) }) = subst (λ (p : Place). IsRoleOf t.literals models r (record { chain = x.chain; place = p })) at is in
      let kind : way_of r ≡ way.Engine = ap way_for own.kind_is ∙ repeat-way set least greatest in
      record {
        engine = λ same. engine-sound (rep set least greatest) r.field_size own.names.named own.size_is;
        bare = never way.Engine way.BareLiteral kind engine-bare;
        literal = never way.Engine way.Literal kind engine-literal;
      }

  pub role-sound : (x : ListedPiece) → IsRoleOf t.literals models r x → IsRunnable x.place.piece → IsSound t r r.field_size
  role-sound x is runnable = sound-by x x.place.looks_back x.place.pieces x.place.piece refl is runnable

  -- a literal has no empty span
  literal-null : (xs : List LiteralByte) → 1 ≤ length xs → IsEmptyMask r.null → IsRoleNull r.null (piece_tree (lit xs))
  literal-null xs some empty u next = (
    λ has. absurd (let e : false ≡ true = sym (empty (context_of u next)) ∙ has in cc),
    λ span.
        let wide : length u + length xs ≡ length u = lit-width (then_bytes u next) (then_ended next) xs (length u) (length u) span in
        absurd (omega (arith, wide, some)),
  )

  -- an engine runs the form of its piece
  engine-runs : (piece : Piece) (form : Form) (e : PieceEngine) → form ≡ engine_form piece → keeps form ≡ true → IsEngineOf e piece → RunsForm (piece_meaning e) form (piece_tree piece)
  engine-runs piece form e same kept is =
      subst (λ f. RunsForm (piece_meaning e) f (piece_tree piece)) (sym same)
      (record {
        kept = ap keeps (sym same) ∙ kept;
        runs = is.runs;
        wide = is.width;
        listed = is.always;
        says = λ bytes u marks count. ((is.says bytes u marks).1, (is.says bytes u marks).0);
        standing = λ bytes at size. ((is.well bytes at).1, (is.well bytes at).0);
      })

  -- a role runs its piece by itself, behind those that are told together
  alone-by : (x : ListedPiece) (l : Bool) (pieces : List Piece) (piece : Piece) → x.place ≡ place_of l pieces piece → IsRoleOf t.literals models r x → IsRunnable piece → looked l ≤ length pieces →
      run.IsRoleOf t r (place_of l pieces piece)
  alone-by x l pieces (lit xs) at is runnable low =
      let own : IsRoleOf t.literals models r (record { chain = x.chain; place = place_of l pieces (lit xs) }) = subst (λ (p : Place). IsRoleOf t.literals models r (record { chain = x.chain; place = p })) at is in
      let kind : way_of r ≡ way_for (kind_for (literal_form l pieces (length xs)) (lit xs)) = ap way_for own.kind_is in
      record {
        null = literal-null xs (omega (arith, runnable.0)) own.names.null_is;
        alone = elim (literal-way l pieces xs) [
          | first_one is_bare form none ↦ bare (record { kind = kind ∙ is_bare; value = xs; there = own.names.named; is_piece = refl; is_first = none })
          | looked_one is_bare form so one ↦ absurd (let two : 2 ≤ length pieces = subst (λ b. looked b ≤ length pieces) so low in omega (arith, two, one))
          | other kept form ↦ entered (record { kind = kind ∙ kept; value = xs; there = own.names.named; is_piece = refl; form = form })
        ];
      }
  alone-by x l pieces (nfa tree) at is runnable low =
      let own : IsRoleOf t.literals models r (record { chain = x.chain; place = place_of l pieces (nfa tree) }) = subst (λ (p : Place). IsRoleOf t.literals models r (record { chain = x.chain; place = p })) at is in
      let kind : way_of r ≡ way_for (kind_for (tree_form l pieces tree) (nfa tree)) = ap way_for own.kind_is in
      record {
        null = own.names.null_is;
        alone = elim (tree-way l pieces tree) [
          | looks is_back form so none ↦ absurd (let two : 2 ≤ length pieces = subst (λ b. looked b ≤ length pieces) so low in omega (arith, two, ap length none))
          | runs kept form ↦
              let (e, there, of) = named-engine (nfa tree) own.names.named in
              engine (record { kind = kind ∙ kept; value = e; there = there; runs = engine-runs (nfa tree) (tree_form l pieces tree) e form (ap keeps form) of })
        ];
      }
  alone-by x l pieces (rep set least greatest) at is runnable low =
      let own : IsRoleOf t.literals models r (record { chain = x.chain; place = place_of l pieces (rep set least greatest) }) = subst (λ (p : Place). IsRoleOf t.literals models r (record { chain = x.chain; place = p })) at is in
      let (e, there, of) = named-engine (rep set least greatest) own.names.named in
      record {
        null = own.names.null_is;
        alone = engine (record {
          kind = ap way_for own.kind_is ∙ repeat-way set least greatest;
          value = e;
          there = there;
          runs = engine-runs (rep set least greatest) (repeat_form set least greatest) e refl (repeat-keeps set least greatest) of;
        });
      }

  pub role-alone : (x : ListedPiece) → IsRoleOf t.literals models r x → IsRunnable x.place.piece → looked x.place.looks_back ≤ length x.place.pieces → run.IsRoleOf t r x.place
  role-alone x is runnable low = alone-by x x.place.looks_back x.place.pieces x.place.piece refl is runnable low

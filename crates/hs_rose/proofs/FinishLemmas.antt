-- What is built is the program of the list.
use Rattle.std.proofs.Common.{◌≡◌, ℕ, zero, suc, ◌<◌, ◌^◌, Bool, true, false, List, [], ◌∷◌, ◌++◌, length, map, slice_get, Option, Some, None, Result, Ok, Err, refl, sym, ap, subst, ◌∙◌, arith}
use Rattle.std.specs.Prelude.{IfOk}
use Rattle.std.specs.List.{AllZip}
use Rattle.std.proofs.lemmas.List.{append-nil, length-map}
use Rattle.std.proofs.lemmas.Option.{slice_get_within}
use Rattle.hs_base.specs.Chains.{Piece, lit, nfa, rep, piece_tree}
use Rattle.hs_base.specs.KeptPieces.{literal_form, tree_form, repeat_form}
use Rattle.hs_base.specs.LiteralView.{literal_bytes}
use Rattle.hs_base.specs.Lists.{Each}
use Rattle.hs_base.specs.Literals.{LiteralByte}
use Rattle.hs_base.specs.Regions.{Place}
use Rattle.hs_base.specs.Trees.{Tree}
use Rattle.hs_rose.specs.declared.builder.Builder.{Builder}
use Rattle.hs_rose.specs.declared.identifiers.Identifier.{Identifier}
use Rattle.hs_rose.specs.declared.info.EntryInfo.{EntryInfo}
use Rattle.hs_rose.specs.Identifiers.{AreIdentifiersOf, ids_of}
use Rattle.hs_rose.specs.declared.kind.Kind.{Kind}
use Rattle.hs_rose.specs.declared.making.Made.{Made}
use Rattle.hs_rose.specs.declared.role.Role.{Role}
use Rattle.hs_rose.specs.Building.{IsBuilt, literals_of, models_of}
use Rattle.hs_rose.specs.Finishing.{AreNumbered, IsFinished, engine_made}
use Rattle.hs_rose.specs.Kinds.{kind_for, number_if_literal, number_if_run}
use Rattle.hs_rose.specs.Listing.{Asked, ListedChain, ListedPiece, listed_chains, listed_pieces}
use Rattle.hs_rose.specs.Made.{IsMade, IsNullMask, model_of}
use Rattle.hs_rose.specs.Numbering.{AreApart}
use Rattle.hs_rose.specs.Ordering.{AreInOrder}
use Rattle.hs_rose.specs.PieceEngines.{IsEngineOf}
use Rattle.hs_rose.specs.Runnable.{AreRunnable}
use Rattle.hs_rose.specs.Naming.{engine_of, literal_of}
use Rattle.hs_rose.specs.Programs.{Tables, AreChainsOf, IsInfoOf, IsProgramOf, IsRoleOf}
use Rattle.hs_rose.proofs.ListLemmas.{zip-left, zip-map}

-- the role of a literal names one, and that of another piece doesn't
literal-number : (l : Bool) (pieces : List Piece) (xs : List LiteralByte) (n : ℕ) → number_if_literal (kind_for (literal_form l pieces (length xs)) (lit xs)) n ≡ Some n
literal-number l [] xs n = refl
literal-number true (x ∷ []) xs n = refl
literal-number false (x ∷ []) xs n = refl
literal-number true (x ∷ y ∷ pieces) xs n = refl
literal-number false (x ∷ y ∷ pieces) xs n = refl

literal-unrun : (l : Bool) (pieces : List Piece) (xs : List LiteralByte) (n : ℕ) → number_if_run (kind_for (literal_form l pieces (length xs)) (lit xs)) n ≡ None
literal-unrun l [] xs n = refl
literal-unrun true (x ∷ []) xs n = refl
literal-unrun false (x ∷ []) xs n = refl
literal-unrun true (x ∷ y ∷ pieces) xs n = refl
literal-unrun false (x ∷ y ∷ pieces) xs n = refl

tree-number : (l : Bool) (pieces : List Piece) (tree : Tree) (n : ℕ) → number_if_literal (kind_for (tree_form l pieces tree) (nfa tree)) n ≡ None
tree-number true [] tree n = refl
tree-number false [] tree n = refl
tree-number true (x ∷ pieces) tree n = refl
tree-number false (x ∷ pieces) tree n = refl

tree-run : (l : Bool) (pieces : List Piece) (tree : Tree) (n : ℕ) → number_if_run (kind_for (tree_form l pieces tree) (nfa tree)) n ≡ Some n
tree-run true [] tree n = refl
tree-run false [] tree n = refl
tree-run true (x ∷ pieces) tree n = refl
tree-run false (x ∷ pieces) tree n = refl

repeat-number : (set : List Bool) (least : ℕ) (greatest : Option ℕ) (n : ℕ) → number_if_literal (kind_for (repeat_form set least greatest) (rep set least greatest)) n ≡ None
repeat-number set least None n = refl
repeat-number set zero (Some m) n = refl
repeat-number set (suc zero) (Some m) n = refl
repeat-number set (suc (suc least)) (Some m) n = refl

repeat-run : (set : List Bool) (least : ℕ) (greatest : Option ℕ) (n : ℕ) → number_if_run (kind_for (repeat_form set least greatest) (rep set least greatest)) n ≡ Some n
repeat-run set least None n = refl
repeat-run set zero (Some m) n = refl
repeat-run set (suc zero) (Some m) n = refl
repeat-run set (suc (suc least)) (Some m) n = refl

-- the piece of a role, one way or the other
pub literal-there : (ls : List (List LiteralByte)) (ms : List Piece) (r : Role) (x : ListedPiece) (l : Bool) (pieces : List Piece) (piece : Piece) → x.place ≡ record { looks_back = l; pieces = pieces; piece = piece } →
    IsRoleOf ls ms r x → (k : ℕ) → literal_of r ≡ Some k → k < length ls
literal-there ls ms r x l pieces (lit xs) at is k named =
    let is' : IsRoleOf ls ms r (record { chain = x.chain; place = record { looks_back = l; pieces = pieces; piece = lit xs } }) = subst (λ (p : Place). IsRoleOf ls ms r (record { chain = x.chain; place = p })) at is in
    let number : Some r.number ≡ Some k = sym (literal-number l pieces xs r.number) ∙ ap (λ (kind : Kind). number_if_literal kind r.number) (sym is'.kind_is) ∙ named in
    let same : r.number ≡ k = cc in
    subst (λ n. n < length ls) same (slice_get_within ls r.number xs is'.names.named)
literal-there ls ms r x l pieces (nfa tree) at is k named =
    let is' : IsRoleOf ls ms r (record { chain = x.chain; place = record { looks_back = l; pieces = pieces; piece = nfa tree } }) = subst (λ (p : Place). IsRoleOf ls ms r (record { chain = x.chain; place = p })) at is in
    let none : None ≡ Some k = sym (tree-number l pieces tree r.number) ∙ ap (λ (kind : Kind). number_if_literal kind r.number) (sym is'.kind_is) ∙ named in
    absurd (cc)
literal-there ls ms r x l pieces (rep set least greatest) at is k named =
    let is' : IsRoleOf ls ms r (record { chain = x.chain; place = record { looks_back = l; pieces = pieces; piece = rep set least greatest } }) = subst (λ (p : Place). IsRoleOf ls ms r (record { chain = x.chain; place = p })) at is in
    let none : None ≡ Some k = sym (repeat-number set least greatest r.number) ∙ ap (λ (kind : Kind). number_if_literal kind r.number) (sym is'.kind_is) ∙ named in
    absurd (cc)

-- of a literal it is the role's number
pub literal-is : (ls : List (List LiteralByte)) (ms : List Piece) (r : Role) (x : ListedPiece) (l : Bool) (pieces : List Piece) (xs : List LiteralByte) → x.place ≡ record { looks_back = l; pieces = pieces; piece = lit xs } →
    IsRoleOf ls ms r x → literal_of r ≡ Some r.number
literal-is ls ms r x l pieces xs at is =
    let is' : IsRoleOf ls ms r (record { chain = x.chain; place = record { looks_back = l; pieces = pieces; piece = lit xs } }) = subst (λ (p : Place). IsRoleOf ls ms r (record { chain = x.chain; place = p })) at is in
    ap (λ (kind : Kind). number_if_literal kind r.number) is'.kind_is ∙ literal-number l pieces xs r.number

pub engine-there : (ls : List (List LiteralByte)) (ms : List Piece) (r : Role) (x : ListedPiece) (l : Bool) (pieces : List Piece) (piece : Piece) → x.place ≡ record { looks_back = l; pieces = pieces; piece = piece } →
    IsRoleOf ls ms r x → (k : ℕ) → engine_of r ≡ Some k → slice_get ms k ≡ Some piece
engine-there ls ms r x l pieces (lit xs) at is k named =
    let is' : IsRoleOf ls ms r (record { chain = x.chain; place = record { looks_back = l; pieces = pieces; piece = lit xs } }) = subst (λ (p : Place). IsRoleOf ls ms r (record { chain = x.chain; place = p })) at is in
    let none : None ≡ Some k = sym (literal-unrun l pieces xs r.number) ∙ ap (λ (kind : Kind). number_if_run kind r.number) (sym is'.kind_is) ∙ named in
    absurd (cc)
engine-there ls ms r x l pieces (nfa tree) at is k named =
    let is' : IsRoleOf ls ms r (record { chain = x.chain; place = record { looks_back = l; pieces = pieces; piece = nfa tree } }) = subst (λ (p : Place). IsRoleOf ls ms r (record { chain = x.chain; place = p })) at is in
    let number : Some r.number ≡ Some k = sym (tree-run l pieces tree r.number) ∙ ap (λ (kind : Kind). number_if_run kind r.number) (sym is'.kind_is) ∙ named in
    let same : r.number ≡ k = cc in
    subst (λ n. slice_get ms n ≡ Some (nfa tree)) same is'.names.named
engine-there ls ms r x l pieces (rep set least greatest) at is k named =
    let is' : IsRoleOf ls ms r (record { chain = x.chain; place = record { looks_back = l; pieces = pieces; piece = rep set least greatest } }) = subst (λ (p : Place). IsRoleOf ls ms r (record { chain = x.chain; place = p })) at is in
    let number : Some r.number ≡ Some k = sym (repeat-run set least greatest r.number) ∙ ap (λ (kind : Kind). number_if_run kind r.number) (sym is'.kind_is) ∙ named in
    let same : r.number ≡ k = cc in
    subst (λ n. slice_get ms n ≡ Some (rep set least greatest)) same is'.names.named

-- and tells where it has the empty span
pub engine-null : (ls : List (List LiteralByte)) (ms : List Piece) (r : Role) (x : ListedPiece) (l : Bool) (pieces : List Piece) (piece : Piece) → x.place ≡ record { looks_back = l; pieces = pieces; piece = piece } →
    IsRoleOf ls ms r x → (k : ℕ) → engine_of r ≡ Some k → IsNullMask r.null (piece_tree piece)
engine-null ls ms r x l pieces (lit xs) at is k named =
    let is' : IsRoleOf ls ms r (record { chain = x.chain; place = record { looks_back = l; pieces = pieces; piece = lit xs } }) = subst (λ (p : Place). IsRoleOf ls ms r (record { chain = x.chain; place = p })) at is in
    let none : None ≡ Some k = sym (literal-unrun l pieces xs r.number) ∙ ap (λ (kind : Kind). number_if_run kind r.number) (sym is'.kind_is) ∙ named in
    absurd (cc)
engine-null ls ms r x l pieces (nfa tree) at is k named =
    let is' : IsRoleOf ls ms r (record { chain = x.chain; place = record { looks_back = l; pieces = pieces; piece = nfa tree } }) = subst (λ (p : Place). IsRoleOf ls ms r (record { chain = x.chain; place = p })) at is in
    is'.names.null_is
engine-null ls ms r x l pieces (rep set least greatest) at is k named =
    let is' : IsRoleOf ls ms r (record { chain = x.chain; place = record { looks_back = l; pieces = pieces; piece = rep set least greatest } }) = subst (λ (p : Place). IsRoleOf ls ms r (record { chain = x.chain; place = p })) at is in
    is'.names.null_is

-- what is built names nothing that isn't there
pub built-numbered : (b : Builder) (chains : List ListedChain) → IsBuilt b chains [] → AreNumbered b
built-numbered b chains built = record {
  literals = λ j k r at named.
      let own = zip-left (IsRoleOf (literals_of b) (models_of b)) b.roles.items (listed_pieces chains ++ []) built.roles j r at in
      let below = literal-there (literals_of b) (models_of b) r own.0 own.0.place.looks_back own.0.place.pieces own.0.place.piece refl own.2 k named in
      omega (arith, below, length-map b.literals.list.items literal_bytes, b.literals.list.ok.0);
  engines = λ j k r at named.
      let own = zip-left (IsRoleOf (literals_of b) (models_of b)) b.roles.items (listed_pieces chains ++ []) built.roles j r at in
      let there = engine-there (literals_of b) (models_of b) r own.0 own.0.place.looks_back own.0.place.pieces own.0.place.piece refl own.2 k named in
      let below = slice_get_within (models_of b) k own.0.place.piece there in
      omega (arith, below, length-map b.made.items model_of, b.made.ok.0);
}

made-runs : (made : List Made) → Each IsMade made → Each (λ m. IsEngineOf (engine_made m) (model_of m)) made
made-runs [] each = tt
made-runs (m ∷ made) each = (each.0.engine_is, made-runs made each.1)

-- and it is the program of the list
pub program-built : (b : Builder) (infos : List EntryInfo) (identifiers : List Identifier) (t : Tables) (entries : List Asked) (chains : List (List (List Piece))) → IsBuilt b (listed_chains entries chains) [] → AllZip (IsInfoOf (ids_of identifiers)) infos entries →
    AreIdentifiersOf identifiers entries → length entries < 2 ^ 32 → Each AreRunnable chains → IsFinished infos identifiers b t → IsProgramOf t entries chains
program-built b infos identifiers t entries chains built about named few runnable is =
    let all = listed_pieces (listed_chains entries chains) in
    let roles : AllZip (IsRoleOf (literals_of b) (models_of b)) b.roles.items all = subst (λ ps. AllZip (IsRoleOf (literals_of b) (models_of b)) b.roles.items ps) (append-nil all) built.roles in
    let engines : AllZip IsEngineOf (map engine_made b.made.items) (models_of b) = zip-map IsEngineOf engine_made model_of b.made.items (made-runs b.made.items built.sound.made) in
    record {
      models = models_of b;
      few_entries = few;
      few_roles = omega (arith, ap length is.roles, b.roles.ok.0);
      runnable = runnable;
      infos = subst (λ xs. AllZip (IsInfoOf (ids_of xs)) t.entries entries) (sym is.identifiers_are)
          (subst (λ es. AllZip (IsInfoOf (ids_of identifiers)) es entries) (sym is.entries) about);
      identifiers = subst (λ xs. AreIdentifiersOf xs entries) (sym is.identifiers_are) named;
      chains_are = subst (λ cs. AreChainsOf 0 cs (listed_chains entries chains)) (sym is.chains) built.chains_are;
      roles = subst (λ rs. AllZip (IsRoleOf t.literals (models_of b)) rs all) (sym is.roles)
          (subst (λ ls. AllZip (IsRoleOf ls (models_of b)) b.roles.items all) (sym is.literals) roles);
      engines = subst (λ es. AllZip IsEngineOf es (models_of b)) (sym is.engines) engines;
      one_engine = built.sound.models;
      literal_order = subst (λ rs. AreInOrder rs (length t.literals)) (sym is.roles) (subst (λ ls. AreInOrder b.roles.items (length ls)) (sym is.literals) built.order);
      one_literal = subst (λ ls. AreApart ls) (sym is.literals) built.sound.literals;
    }

-- what an answer says, said otherwise
pub ok-each : {A E : Type 0} (P Q : A → Type 0) (r : Result A E) → ((x : A) → P x → Q x) → IfOk r P → IfOk r Q
ok-each P Q (Ok x) to is = to x is
ok-each P Q (Err e) to is = tt

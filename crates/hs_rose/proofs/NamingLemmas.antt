-- Pieces get their numbers among the literals or the engines.
use Rattle.std.proofs.Common.{◌≡◌, ℕ, suc, ◌+◌, ◌<◌, List, [], ◌∷◌, ◌++◌, length, map, slice_get, Some, refl, sym, ap, subst, ◌∙◌, arith}
use Rattle.std.proofs.lemmas.List.{length-append, length-map, map-append}
use Rattle.std.proofs.lemmas.Option.{slice_get_within}
use Rattle.hs_base.specs.declared.context.Mask.{Mask}
use Rattle.hs_base.specs.Chains.{Piece, lit, nfa, rep, piece_tree}
use Rattle.hs_base.specs.Lists.{Each}
use Rattle.hs_base.specs.LiteralView.{literal_bytes}
use Rattle.hs_base.specs.Literals.{LiteralByte}
use Rattle.hs_rose.specs.declared.builder.Builder.{Builder}
use Rattle.hs_rose.specs.declared.builder.Named.{Named}
use Rattle.hs_rose.specs.declared.literal_index.LiteralIndex.{LiteralIndex}
use Rattle.hs_rose.specs.declared.making.Made.{Made}
use Rattle.hs_rose.specs.Building.{AreKept, IsNamed, IsNext, IsSound, as_many, one_more, literals_of, models_of}
use Rattle.hs_rose.specs.Indexing.{IsIndexed}
use Rattle.hs_rose.specs.Made.{IsMade, IsMarked, IsNullMask, model_of}
use Rattle.hs_rose.specs.Numbering.{AreApart, IsNew, IsNumbered, found, added}
use Rattle.hs_rose.specs.Programs.{IsEmptyMask, Names, NamesPiece}
use Rattle.hs_rose.specs.Runnable.{IsRun}
use Rattle.hs_rose.proofs.ListLemmas.{get-left, get-behind, apart-push, each-get, map-get}

pub numbered-kept : {A : Type 0} (before : List A) (x : A) (now : List A) (n : ℕ) → IsNumbered before x now n → AreKept before now
numbered-kept before x now n (found is_same at) k y is = subst (λ zs. slice_get zs k ≡ Some y) (sym is_same) is
numbered-kept before x now n (added new is_same end) k y is = subst (λ zs. slice_get zs k ≡ Some y) (sym is_same) (get-left before (x ∷ []) k y is)

pub numbered-named : {A : Type 0} (before : List A) (x : A) (now : List A) (n : ℕ) → IsNumbered before x now n → slice_get now n ≡ Some x
numbered-named before x now n (found is_same at) = subst (λ zs. slice_get zs n ≡ Some x) (sym is_same) at
numbered-named before x now n (added new is_same end) =
    subst (λ zs. slice_get zs n ≡ Some x) (sym is_same) (subst (λ k. slice_get (before ++ x ∷ []) k ≡ Some x) (sym end) (get-behind before x))

pub numbered-apart : {A : Type 0} (before : List A) (x : A) (now : List A) (n : ℕ) → AreApart before → IsNumbered before x now n → AreApart now
numbered-apart before x now n apart (found is_same at) = subst (λ zs. AreApart zs) (sym is_same) apart
numbered-apart before x now n apart (added new is_same end) = subst (λ zs. AreApart zs) (sym is_same) (apart-push before x apart new)

pub numbered-below : {A B : Type 0} (f : A → B) (before : List B) (x : B) (now : List A) (n : ℕ) → IsNumbered before x (map f now) n → n < length now
numbered-below f before x now n numbered =
    let own = map-get f now n x (numbered-named before x (map f now) n numbered) in
    slice_get_within now n own.0 own.1

-- a new one is put behind the others
pub pushed-numbered : {A B : Type 0} (f : A → B) (before now : List A) (a : A) (x : B) (n : ℕ) → IsNew (map f before) x → f a ≡ x → now ≡ before ++ a ∷ [] → n ≡ length before → IsNumbered (map f before) x (map f now) n
pushed-numbered f before now a x n new is grown end =
    added new (ap (λ zs. map f zs) grown ∙ map-append f before (a ∷ []) ∙ ap (λ y. map f before ++ y ∷ []) is) (end ∙ sym (length-map before f))

kept-same : {A : Type 0} (xs ys : List A) → ys ≡ xs → AreKept xs ys
kept-same xs ys is_same k x at = subst (λ zs. slice_get zs k ≡ Some x) (sym is_same) at

-- a literal is as many others, or one more
numbered-next : (before now : Builder) (xs : List LiteralByte) (n : ℕ) → IsNumbered (literals_of before) xs (literals_of now) n → IsNext before now (lit xs) n
numbered-next before now xs n (found is at) = as_many (ap length is)
numbered-next before now xs n (added new is end) =
    one_more xs refl end (ap length is ∙ (length-append (literals_of before) (xs ∷ []) ∙ (let e : length (literals_of before) + 1 ≡ suc (length (literals_of before)) = omega arith in e)))

-- a literal
pub literal-named : (before now : Builder) (xs : List LiteralByte) (named : Named) → now.roles.items ≡ before.roles.items → now.chains.items ≡ before.chains.items → now.made.items ≡ before.made.items →
    IsNumbered (literals_of before) xs (literals_of now) named.number → IsIndexed now.literals → IsEmptyMask named.null → IsSound before → IsNamed before now (lit xs) named
literal-named before now xs named roles chains made numbered indexed null sound = record {
  sound = record {
    indexed = indexed;
    literals = numbered-apart (literals_of before) xs (literals_of now) named.number sound.literals numbered;
    models = subst (λ zs. AreApart (map model_of zs)) (sym made) sound.models;
    made = subst (λ zs. Each IsMade zs) (sym made) sound.made;
    marked = subst (λ zs. Each IsMarked zs) (sym made) sound.marked;
  };
  grown = record {
    roles = roles;
    chains = chains;
    literals = numbered-kept (literals_of before) xs (literals_of now) named.number numbered;
    models = kept-same (models_of before) (models_of now) (ap (λ zs. map model_of zs) made);
  };
  names = record { named = numbered-named (literals_of before) xs (literals_of now) named.number numbered; null_is = null };
  next = numbered-next before now xs named.number numbered;
}

piece-names : (literals : List (List LiteralByte)) (models : List Piece) (n : ℕ) (null : Mask) (piece : Piece) → IsRun piece → NamesPiece models n null piece → Names literals models n null piece
piece-names literals models n null (lit xs) run names = absurd run
piece-names literals models n null (nfa tree) run names = names
piece-names literals models n null (rep set least greatest) run names = names

-- the mask of what is made of the piece
null-of : (made : List Made) (n : ℕ) (piece : Piece) (m : Made) → Each IsMade made → slice_get (map model_of made) n ≡ Some piece → slice_get made n ≡ Some m → IsNullMask m.null (piece_tree piece)
null-of made n piece m each named at =
    let own = map-get model_of made n piece named in
    let is_same : own.0 ≡ m = cc (own.1, at) in
    let is : model_of m ≡ piece = ap model_of (sym is_same) ∙ own.2 in
    subst (λ p. IsNullMask m.null (piece_tree p)) is (each-get IsMade made each n m at).null_is

-- a piece that isn't a literal
pub run-named : (before now : Builder) (piece : Piece) (named : Named) (m : Made) → IsRun piece → now.roles.items ≡ before.roles.items → now.chains.items ≡ before.chains.items → now.literals ≡ before.literals →
    IsNumbered (models_of before) piece (models_of now) named.number → (Each IsMade before.made.items → Each IsMade now.made.items) → (Each IsMarked before.made.items → Each IsMarked now.made.items) →
    slice_get now.made.items named.number ≡ Some m → named.null ≡ m.null → IsSound before → IsNamed before now piece named
run-named before now piece named m run roles chains literals numbered made marked at null sound =
    let at_number = numbered-named (models_of before) piece (models_of now) named.number numbered in record {
      sound = record {
        indexed = subst (λ index. IsIndexed index) (sym literals) sound.indexed;
        literals = subst (λ zs. AreApart zs) (sym (ap (λ (index : LiteralIndex). map literal_bytes index.list.items) literals)) sound.literals;
        models = numbered-apart (models_of before) piece (models_of now) named.number sound.models numbered;
        made = made sound.made;
        marked = marked sound.marked;
      };
      grown = record {
        roles = roles;
        chains = chains;
        literals = kept-same (literals_of before) (literals_of now) (ap (λ (index : LiteralIndex). map literal_bytes index.list.items) literals);
        models = numbered-kept (models_of before) piece (models_of now) named.number numbered;
      };
      names = piece-names (literals_of now) (models_of now) named.number named.null piece run (record {
        named = at_number;
        null_is = subst (λ (mask : Mask). IsNullMask mask (piece_tree piece)) (sym null) (null-of now.made.items named.number piece m (made sound.made) at_number at);
      });
      next = as_many (ap (λ (index : LiteralIndex). length (map literal_bytes index.list.items)) literals);
    }

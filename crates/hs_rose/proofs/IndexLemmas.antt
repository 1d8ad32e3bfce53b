-- Literals that are found by their keys.
use Rattle.std.proofs.Common.{◌≡◌, ℕ, cond, List, [], ◌∷◌, ◌++◌, length, map, slice_get, Option, Some, None, refl, sym, ap, subst, ◌∙◌, ⊎_elim}
use Rattle.std.proofs.lemmas.Bool.{cond_both, false≢true}
use Rattle.std.proofs.lemmas.List.{length-map, map-append}
use Rattle.std.proofs.lemmas.Slice.Eq.{bytes_eq-Decides}
use Rattle.std.specs.BTreeMap.{Updates}
use Rattle.std.specs.Str.{bytes_eq}
use Rattle.std.specs.declared.alloc.Global.{Global}
use Rattle.std.specs.declared.vec.Vec.{Vec}
use Rattle.hs_base.specs.declared.literal.LitByte.{LitByte}
use Rattle.hs_base.specs.LiteralView.{literal_byte, literal_bytes}
use Rattle.hs_base.specs.Literals.{LiteralByte}
use Rattle.hs_rose.specs.declared.literal_index.LiteralIndex.{LiteralIndex}
use Rattle.hs_rose.specs.Indexing.{IsIndexed, IsPlaceOfLiteral, number_at}
use Rattle.hs_rose.specs.Keys.{key_at, key_of}
use Rattle.hs_rose.specs.Numbering.{IsNew, IsNumbered, found}
use Rattle.hs_rose.proofs.KeyLemmas.{kept-updated, key_cmp, keys-same}
use Rattle.hs_rose.proofs.ListLemmas.{get-behind, get-left, get-push}

-- the key of a literal that the code keeps
pub key-kept : (bytes : List LitByte) → map key_at bytes ≡ key_of (map literal_byte bytes)
key-kept [] = refl
key-kept (x ∷ bytes) = ap (λ key. key_at x ∷ key) (key-kept bytes)

-- a literal that isn't the new one stands where it stood
place-stays : (old : List (List LiteralByte)) (xs ys : List LiteralByte) → (xs ≡ ys → ⊥) → (place : Option ℕ) → IsPlaceOfLiteral old ys place → IsPlaceOfLiteral (old ++ xs ∷ []) ys place
place-stays old xs ys other None new = λ k at. ⊎_elim (λ there. new k there) (λ is. other is.1) (get-push old xs k ys at)
place-stays old xs ys other (Some n) at = get-left old (xs ∷ []) n ys at

place-more : (old : List (List LiteralByte)) (xs ys : List LiteralByte) (key : List ℕ) (place : Option ℕ) → key ≡ key_of xs → IsPlaceOfLiteral old ys place → IsPlaceOfLiteral (old ++ xs ∷ []) ys (cond (bytes_eq key (key_of ys)) (Some (length old)) place)
place-more old xs ys key place own before =
    cond_both (bytes_eq key (key_of ys)) (Some (length old)) place (λ p. IsPlaceOfLiteral (old ++ xs ∷ []) ys p)
    (λ same. let is : xs ≡ ys = keys-same xs ys (sym own ∙ (bytes_eq-Decides key (key_of ys)).0 same) in subst (λ zs. slice_get (old ++ xs ∷ []) (length old) ≡ Some zs) is (get-behind old xs))
    (λ apart. place-stays old xs ys (λ is. false≢true (sym apart ∙ (bytes_eq-Decides key (key_of ys)).1 (own ∙ ap key_of is))) place before)

-- one literal more
pub index-more : (before now : LiteralIndex) (key : Vec ℕ Global) (literal : Vec LitByte Global) (bytes : List LitByte) (n : ℕ) → key.items ≡ map key_at bytes → literal.items ≡ bytes → n ≡ length before.list.items →
    Updates key_cmp before.numbers now.numbers key (Some n) → now.list.items ≡ before.list.items ++ literal ∷ [] → IsIndexed before → IsIndexed now
index-more before now key literal bytes n own is end updates grown indexed =
    let old = map literal_bytes before.list.items in
    let xs = map literal_byte bytes in
    let literals : map literal_bytes now.list.items ≡ old ++ xs ∷ [] = ap (map literal_bytes) grown ∙ map-append literal_bytes before.list.items (literal ∷ []) ∙ ap (λ zs. old ++ map literal_byte zs ∷ []) is in
    let next : n ≡ length old = end ∙ sym (length-map before.list.items literal_bytes) in record {
      places = λ ys.
          subst (λ zs. IsPlaceOfLiteral zs ys (number_at now (key_of ys))) (sym literals)
          (subst (λ p. IsPlaceOfLiteral (old ++ xs ∷ []) ys p) (sym (kept-updated before.numbers now.numbers key (Some n) updates (key_of ys)))
          (subst (λ m. IsPlaceOfLiteral (old ++ xs ∷ []) ys (cond (bytes_eq key.items (key_of ys)) (Some m) (number_at before (key_of ys)))) (sym next)
          (place-more old xs ys key.items (number_at before (key_of ys)) (own ∙ key-kept bytes) (indexed.places ys))));
    }

-- what is kept for the key of a literal
pub place-kept : (index : LiteralIndex) (key : List ℕ) (bytes : List LitByte) (place : Option ℕ) → key ≡ map key_at bytes → number_at index key ≡ place → IsIndexed index → IsPlaceOfLiteral (map literal_bytes index.list.items) (map literal_byte bytes) place
place-kept index key bytes place own is indexed =
    subst (λ p. IsPlaceOfLiteral (map literal_bytes index.list.items) (map literal_byte bytes) p) (ap (number_at index) (sym (own ∙ key-kept bytes)) ∙ is) (indexed.places (map literal_byte bytes))

pub index-found : (index : LiteralIndex) (key : List ℕ) (bytes : List LitByte) (n : ℕ) → key ≡ map key_at bytes → number_at index key ≡ Some n → IsIndexed index →
    IsNumbered (map literal_bytes index.list.items) (map literal_byte bytes) (map literal_bytes index.list.items) n
index-found index key bytes n own is indexed = found refl (place-kept index key bytes (Some n) own is indexed)

pub index-new : (index : LiteralIndex) (key : List ℕ) (bytes : List LitByte) → key ≡ map key_at bytes → number_at index key ≡ None → IsIndexed index → IsNew (map literal_bytes index.list.items) (map literal_byte bytes)
index-new index key bytes own is indexed = place-kept index key bytes None own is indexed

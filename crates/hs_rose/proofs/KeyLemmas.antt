-- Different literals have different keys, and what is kept for a key.
use Rattle.std.proofs.Common.{◌≡◌, ℕ, Bool, true, false, cond, List, [], ◌∷◌, Option, refl, sym, ap, subst, ◌∙◌, arith}
use Rattle.std.proofs.lemmas.Map.Text.{is_eq-slice_cmp}
use Rattle.std.proofs.lemmas.Slice.Eq.{bytes_eq-Decides}
use Rattle.std.specs.BTreeMap.{BTreeMap, Updates, get_by}
use Rattle.std.specs.Cmp.{eq_by_cmp_equiv}
use Rattle.std.specs.Cmp.Lexicographic.{slice_cmp, nat_list_cmp_total, nat_list_eq_equiv}
use Rattle.std.specs.Map.{lookup, IsKeyTest, AreApart, KeepsOthers}
use Rattle.std.specs.Ordering.{is_eq, nat_cmp}
use Rattle.std.specs.Str.{bytes_eq}
use Rattle.std.specs.declared.alloc.Global.{Global}
use Rattle.std.specs.declared.cmp.Ordering.{Ordering}
use Rattle.std.specs.declared.vec.Vec.{Vec}
use Rattle.hs_base.specs.Literals.{LiteralByte}
use Rattle.hs_rose.specs.Keys.{key_byte, key_of}

-- a byte and whether both cases count
abbrev pub place_of : (byte : ℕ) → (both_cases : Bool) → LiteralByte
place_of byte both_cases = record { byte = byte; both_cases = both_cases }

places-same : (a b : ℕ) (c d : Bool) → key_byte (place_of a c) ≡ key_byte (place_of b d) → place_of a c ≡ place_of b d
places-same a b true true e = let is : a ≡ b = omega arith in ap (λ n. place_of n true) is
places-same a b true false e = absurd (omega arith)
places-same a b false true e = absurd (omega arith)
places-same a b false false e = let is : a ≡ b = omega arith in ap (λ n. place_of n false) is

pub keys-same : (xs ys : List LiteralByte) → key_of xs ≡ key_of ys → xs ≡ ys
keys-same [] [] e = refl
keys-same [] (y ∷ ys) e = absurd (cc)
keys-same (x ∷ xs) [] e = absurd (cc)
keys-same (x ∷ xs) (y ∷ ys) e =
    let first : key_byte x ≡ key_byte y = cc in
    let others : key_of xs ≡ key_of ys = cc in
    ap (λ z. z ∷ xs) (places-same x.byte y.byte x.both_cases y.both_cases first) ∙ ap (λ zs. y ∷ zs) (keys-same xs ys others)

-- how keys are ordered
abbrev pub key_cmp : Vec ℕ Global → Vec ℕ Global → Ordering
key_cmp x y = slice_cmp nat_cmp x.items y.items

-- the number that is kept for a key
abbrev pub kept_at : BTreeMap (Vec ℕ Global) ℕ → List ℕ → Option ℕ
kept_at numbers key = get_by (λ k. slice_cmp nat_cmp key k.items) numbers

apart : (bs cs ks : List ℕ) → bytes_eq bs cs ≡ false → bytes_eq bs ks ≡ true → bytes_eq cs ks ≡ false
apart bs cs ks other here = nat_list_eq_equiv.symm cs ks ∙ sym (nat_list_eq_equiv.congr bs ks cs here) ∙ other

apart-in_order : (bs cs ks : List ℕ) → bytes_eq bs cs ≡ false → is_eq (slice_cmp nat_cmp bs ks) ≡ true → is_eq (slice_cmp nat_cmp cs ks) ≡ false
apart-in_order bs cs ks other here = is_eq-slice_cmp cs ks ∙ apart bs cs ks other (sym (is_eq-slice_cmp bs ks) ∙ here)

module _ {K : Type 0} (eq : K → K → Bool) (test : K → Bool) where
  others-stay : {X : Type 0} (old new : List (K × X)) → KeepsOthers eq test old new → (other : K → Bool) → IsKeyTest eq other → AreApart test other → lookup other new ≡ lookup other old
  unfolding KeepsOthers
  others-stay old new keeps = keeps

updated : (before now : BTreeMap (Vec ℕ Global) ℕ) (key : Vec ℕ Global) (w : Option ℕ) → Updates key_cmp before now key w → (other : List ℕ) (same : Bool) → bytes_eq key.items other ≡ same → kept_at now other ≡ cond same w (kept_at before other)
updated before now key w is other true same = subst (λ k. kept_at now k ≡ w) ((bytes_eq-Decides key.items other).0 same) is.1
updated before now key w is other false same =
    others-stay _ _ before.entries now.entries is.3 _ (λ x y. (eq_by_cmp_equiv nat_list_cmp_total).congr other x.items y.items) (λ k. apart-in_order key.items other k.items same)

-- what is kept for a key after one is put there
pub kept-updated : (before now : BTreeMap (Vec ℕ Global) ℕ) (key : Vec ℕ Global) (w : Option ℕ) → Updates key_cmp before now key w → (other : List ℕ) → kept_at now other ≡ cond (bytes_eq key.items other) w (kept_at before other)
kept-updated before now key w is other = updated before now key w is other (bytes_eq key.items other) refl

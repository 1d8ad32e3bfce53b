-- Expressions that are added to the tables, and rows of copies.
use Rattle.std.proofs.Common.{◌≡◌, ℕ, zero, suc, ◌+◌, ◌-◌, ◌*◌, ◌<◌, ◌≤◌, max, Bool, true, false, ◌&&◌, ◌||◌, refl, sym, ap, subst, ◌∙◌, inl, inr, arith, add-one}
use Rattle.std.proofs.lemmas.Bool.{cases_lt}
use Rattle.std.proofs.Math.Nat.{mul-le-mul_right}
use Rattle.hs_base.specs.Contexts.{Context}
use Rattle.hs_base.specs.WrittenOut.{Core, empty, cat, alt, plus, option, star, count, copies_then, up_to, at_least}
use Rattle.hs_engine.specs.Positions.{null}
use Rattle.hs_glushkov.specs.Parts.{Table, IsPart, IsNull, Keeps, IsClear, IsSeparate, IsAdded, IsRow, IsJoined, IsLooped}
use Rattle.hs_glushkov.proofs.PartLemmas.{clear-later, part-kept, separate-kept, separate-new, keeps-less, keeps-join, part-cat, joined-keeps, joined-clear, part-alt, part-plus, looped-keeps, looped-clear}

part-none : (t : Table) (r : Core) (n : ℕ) → count r ≡ 0 → IsPart t r n
part-none t r n none =
    record {
      takes = λ x b hx hb. absurd (omega arith);
      enters = λ x c hx. absurd (omega arith);
      accepts = λ x c hx. absurd (omega arith);
      follows = λ x y c hx hy. absurd (omega arith);
    }

keeps-same : (t : Table) (n : ℕ) → Keeps t t n
keeps-same t n =
    record {
      takes = λ x b hx. refl;
      enters = λ x c hx. refl;
      accepts = λ x c hx. refl;
      follows = λ x y c below. refl;
    }

-- an expression without positions

pub added-none : (t : Table) (n : ℕ) (r : Core) (f : Context → Bool) → count r ≡ 0 → IsNull f r → IsClear t n → IsAdded t t n r f
added-none t n r f none is clear =
    record { part = part-none t r n none; null = is; keeps = keeps-same t n; clear = clear-later t n (n + count r) (omega arith) clear }

pub added-other : (t u : Table) (n : ℕ) (a r : Core) (f g : Context → Bool) → count a ≡ 0 → count r ≡ 0 → IsNull g r → IsAdded t u n a f → IsAdded t u n r g
added-other t u n a r f g none none' is added =
    record { part = part-none u r n none'; null = is; keeps = added.keeps; clear = clear-later u (n + count a) (n + count r) (omega arith) added.clear }

-- one expression behind another

pub added-cat : (t u v w : Table) (n m e : ℕ) (a b : Core) (f g both : Context → Bool) → m ≡ n + count a → e ≡ m + count b → IsAdded t u n a f → IsAdded u v m b g → IsJoined v w n m e f g →
    ((c : Context) → both c ≡ (f c && g c)) → IsAdded t w n (cat a b) both
added-cat t u v w n m e a b f g both mid end first second joined is =
    let pa : IsPart v a n = part-kept u v a n m (omega arith) second.keeps first.part in
    let apart : IsSeparate v m = separate-new u v m second.keeps (clear-later u (n + count a) m (omega arith) first.clear) in
    let clear : IsClear v e = clear-later v (m + count b) e (omega arith) second.clear in
    record {
      part = part-cat v w a b n m e mid end f g pa second.part apart joined first.null second.null;
      null = λ c. is c ∙ (ap (λ z. z && g c) (first.null c) ∙ ap (λ z. null a c && z) (second.null c));
      keeps =
          keeps-join t u w n first.keeps
          (keeps-join u v w n (keeps-less u v n m (omega arith) second.keeps) (joined-keeps v w a b n m e mid end f g pa second.part apart joined first.null second.null));
      clear =
          clear-later w e (n + (count a + count b)) (omega arith)
          (joined-clear v w a b n m e mid end f g pa second.part apart joined first.null second.null clear);
    }

pub added-alt : (t u v : Table) (n m : ℕ) (a b : Core) (f g both : Context → Bool) → m ≡ n + count a → IsAdded t u n a f → IsAdded u v m b g → ((c : Context) → both c ≡ (f c || g c)) → IsAdded t v n (alt a b) both
added-alt t u v n m a b f g both mid first second is =
    let pa : IsPart v a n = part-kept u v a n m (omega arith) second.keeps first.part in
    let apart : IsSeparate v m = separate-new u v m second.keeps (clear-later u (n + count a) m (omega arith) first.clear) in
    record {
      part = part-alt v a b n m mid pa second.part apart;
      null = λ c. is c ∙ (ap (λ z. z || g c) (first.null c) ∙ ap (λ z. null a c || z) (second.null c));
      keeps = keeps-join t u v n first.keeps (keeps-less u v n m (omega arith) second.keeps);
      clear = clear-later v (m + count b) (n + (count a + count b)) (omega arith) second.clear;
    }

-- rows of copies

separate-clear : (t : Table) (n p : ℕ) → n ≤ p → IsClear t n → IsSeparate t p
separate-clear t n p order clear =
    record {
      onward = λ x y c hx hy. clear x y c (inr (omega arith));
      back = λ x y c hx hy. clear x y c (inl (omega arith));
    }

-- i copies and one more are no longer than k copies
row-within : (i k w : ℕ) → i < k → i * w + w ≤ k * w
row-within i k w below =
    let next : i + 1 ≤ k = omega arith in
    let step : (i + 1) * w ≤ k * w = mul-le-mul_right w next in
    let wide : (i + 1) * w ≡ i * w + w = omega arith in
    omega arith

row-order : (i k w : ℕ) → i ≤ k → i * w ≤ k * w
row-order i k w below = mul-le-mul_right w below

pub row-none : (t : Table) (n : ℕ) (a : Core) → IsClear t n → IsRow t t n a 0 empty n
row-none t n a clear =
    record {
      parts = λ i hi. absurd (omega arith);
      separate = λ i hi. separate-clear t n (n + i * count a) (omega arith) clear;
      rest = part-none t empty (n + 0 * count a) refl;
      end = omega arith;
      keeps = keeps-same t n;
      clear = clear;
    }

pub row-more : (old t u : Table) (n e e' k : ℕ) (a : Core) (f : Context → Bool) → e' ≡ e + count a → IsRow old t n a k empty e → IsAdded t u e a f → IsRow old u n a (k + 1) empty e'
row-more old t u n e e' k a f more row added =
    let end : e ≡ n + k * count a + 0 = row.end in
    let wide : (k + 1) * count a ≡ k * count a + count a = omega arith in
    let clear : IsClear u e' = clear-later u (e + count a) e' (omega arith) added.clear in
    record {
      parts = λ i hi. elim (cases_lt i k) [
        | inl below ↦
            let inside : i * count a + count a ≤ k * count a = row-within i k (count a) below in
            part-kept t u a (n + i * count a) e (omega arith) added.keeps (row.parts i below)
        | inr above ↦
            let last : i ≡ k = omega arith in
            let place : e ≡ n + i * count a = omega (arith, ap (λ z. z * count a) last) in
            subst (IsPart u a) place added.part
      ];
      separate = λ i hi. elim (cases_lt k i) [
        | inl above ↦
            let last : i ≡ k + 1 = omega arith in
            separate-clear u e' (n + i * count a) (omega (arith, ap (λ z. z * count a) last)) clear
        | inr below ↦
            let inside : i * count a ≤ k * count a = row-order i k (count a) below in
            separate-kept t u (n + i * count a) e (omega arith) added.keeps (row.separate i below)
      ];
      rest = part-none u empty (n + (k + 1) * count a) refl;
      end = omega arith;
      keeps = keeps-join old t u n row.keeps (keeps-less t u n e (omega arith) added.keeps);
      clear = clear;
    }

pub row-plus : (old t u : Table) (n p e k : ℕ) (a : Core) → p ≡ n + k * count a → IsRow old t n a (k + 1) empty e → IsLooped t u p e → IsRow old u n a k (plus a) e
row-plus old t u n p e k a place row looped =
    let end : e ≡ n + (k + 1) * count a + 0 = row.end in
    let wide : (k + 1) * count a ≡ k * count a + count a = omega arith in
    let pa : IsPart t a p = subst (IsPart t a) (sym place) (row.parts k (omega arith)) in
    let whole : e ≡ p + count a = omega arith in
    let keeps : Keeps t u p = looped-keeps t u a p e whole pa looped in
    record {
      parts = λ i hi.
          let inside : i * count a + count a ≤ k * count a = row-within i k (count a) hi in
          part-kept t u a (n + i * count a) p (omega arith) keeps (row.parts i (omega arith));
      separate = λ i hi.
          let inside : i * count a ≤ k * count a = row-order i k (count a) hi in
          separate-kept t u (n + i * count a) p (omega arith) keeps (row.separate i (omega arith));
      rest = subst (IsPart u (plus a)) place (part-plus t u a p e whole pa looped);
      end = omega arith;
      keeps = keeps-join old t u n row.keeps (keeps-less t u n p (omega arith) keeps);
      clear = looped-clear t u a p e whole pa looped row.clear;
    }

pub row-cat : (old t u : Table) (n p m e k : ℕ) (a r : Core) (f g : Context → Bool) → p ≡ n + k * count a → m ≡ n + (k + 1) * count a → IsNull f a → IsNull g r → IsRow old t n a (k + 1) r e → IsJoined t u p m e f g → IsRow old u n a k (cat a r) e
row-cat old t u n p m e k a r f g place behind na nr row joined =
    let end : e ≡ n + (k + 1) * count a + count r = row.end in
    let wide : (k + 1) * count a ≡ k * count a + count a = omega arith in
    let pa : IsPart t a p = subst (IsPart t a) (sym place) (row.parts k (omega arith)) in
    let pr : IsPart t r m = subst (IsPart t r) (sym behind) row.rest in
    let apart : IsSeparate t m = subst (IsSeparate t) (sym behind) (row.separate (k + 1) (omega arith)) in
    let mid : m ≡ p + count a = omega arith in
    let whole : e ≡ m + count r = omega arith in
    let keeps : Keeps t u p = joined-keeps t u a r p m e mid whole f g pa pr apart joined na nr in
    record {
      parts = λ i hi.
          let inside : i * count a + count a ≤ k * count a = row-within i k (count a) hi in
          part-kept t u a (n + i * count a) p (omega arith) keeps (row.parts i (omega arith));
      separate = λ i hi.
          let inside : i * count a ≤ k * count a = row-order i k (count a) hi in
          separate-kept t u (n + i * count a) p (omega arith) keeps (row.separate i (omega arith));
      rest = subst (IsPart u (cat a r)) place (part-cat t u a r p m e mid whole f g pa pr apart joined na nr);
      end = omega arith;
      keeps = keeps-join old t u n row.keeps (keeps-less t u n p (omega arith) keeps);
      clear = joined-clear t u a r p m e mid whole f g pa pr apart joined na nr row.clear;
    }

part-option : (t : Table) (r : Core) (n : ℕ) → IsClear t (n + count r) → IsPart t r n → IsPart t (option r) n
part-option t r n clear part =
    part-alt t r empty n (n + count r) refl part (part-none t empty (n + count r) refl) (separate-clear t (n + count r) (n + count r) (omega arith) clear)

pub row-option : (old t : Table) (n e k : ℕ) (a r : Core) → IsRow old t n a k r e → IsRow old t n a k (option r) e
row-option old t n e k a r row =
    let end : e ≡ n + k * count a + count r = row.end in
    record {
      parts = row.parts;
      separate = row.separate;
      rest = part-option t r (n + k * count a) (clear-later t e (n + k * count a + count r) (omega arith) row.clear) row.rest;
      end = omega arith;
      keeps = row.keeps;
      clear = row.clear;
    }

pub row-added : (old t : Table) (n e : ℕ) (a r : Core) (f : Context → Bool) → IsNull f r → IsRow old t n a 0 r e → IsAdded old t n r f
row-added old t n e a r f is row =
    let end : e ≡ n + 0 * count a + count r = row.end in
    let place : n + 0 * count a ≡ n = omega arith in
    record {
      part = subst (IsPart t r) place row.rest;
      null = is;
      keeps = row.keeps;
      clear = clear-later t e (n + count r) (omega arith) row.clear;
    }

-- the empty text matches an option everywhere
or-true : (b : Bool) → (b || true) ≡ true
or-true true = refl
or-true false = refl

pub null-option : (r : Core) (c : Context) → null (option r) c ≡ true
null-option r c = or-true (null r c)

pub null-up_to : (n : ℕ) (a : Core) (c : Context) → null (up_to n a) c ≡ true
null-up_to zero a c = refl
null-up_to (suc n) a c = null-option (cat a (up_to n a)) c

-- one optional copy more

pub row-up_to : (old t u : Table) (n p m e k l done : ℕ) (a : Core) (f g : Context → Bool) → k ≡ l + 1 → p ≡ n + l * count a → m ≡ n + (l + 1) * count a → IsNull f a → ((c : Context) → g c ≡ true) →
    IsRow old t n a k (up_to done a) e → IsJoined t u p m e f g → IsRow old u n a l (up_to (done + 1) a) e
row-up_to old t u n p m e k l done a f g one place behind na all row joined =
    let now : IsRow old t n a (l + 1) (up_to done a) e = subst (λ z. IsRow old t n a z (up_to done a) e) one row in
    subst (λ z. IsRow old u n a l (up_to z a) e) (sym (add-one done))
    (row-option old u n e l a (cat a (up_to done a)) (row-cat old t u n p m e l a (up_to done a) f g place behind na (λ c. all c ∙ sym (null-up_to done a c)) now joined))

-- one copy more that must be taken

pub row-copies : (old t u : Table) (n p m e k l done : ℕ) (a r : Core) (f g : Context → Bool) → k ≡ l + 1 → p ≡ n + l * count a → m ≡ n + (l + 1) * count a → IsNull f a → IsNull g (copies_then done a r) →
    IsRow old t n a k (copies_then done a r) e → IsJoined t u p m e f g → IsRow old u n a l (copies_then (done + 1) a r) e
row-copies old t u n p m e k l done a r f g one place behind na nr row joined =
    let now : IsRow old t n a (l + 1) (copies_then done a r) e = subst (λ z. IsRow old t n a z (copies_then done a r) e) one row in
    subst (λ z. IsRow old u n a l (copies_then z a r) e) (sym (add-one done))
    (row-cat old t u n p m e l a (copies_then done a r) f g place behind na nr now joined)

pub null-copies : (done : ℕ) (a r : Core) (f g both : Context → Bool) → IsNull f a → IsNull g (copies_then done a r) → ((c : Context) → both c ≡ (f c && g c)) → IsNull both (copies_then (done + 1) a r)
null-copies done a r f g both na nr is c =
    is c ∙ (ap (λ z. z && g c) (na c) ∙ (ap (λ z. null a c && z) (nr c) ∙ ap (λ z. null (copies_then z a r) c) (sym (add-one done))))

-- where a copy stands, and what is behind it

pub copy-place : (n w c k l : ℕ) → k ≡ l → w ≡ c → n + k * w ≡ n + l * c
copy-place n w c k l same wide = ap (λ z. n + z * w) same ∙ ap (λ z. n + l * z) wide

pub copy-behind : (n w c k l : ℕ) → k ≡ l → w ≡ c → n + k * w + w ≡ n + (l + 1) * c
copy-behind n w c k l same wide =
    let step : (l + 1) * c ≡ l * c + c = omega arith in
    omega (arith, copy-place n w c k l same wide)

pub at_least-more : (least : ℕ) (a : Core) → (least ≡ 0 → ⊥) → copies_then (least - 1) a (plus a) ≡ at_least least a
at_least-more zero a some = absurd (some refl)
at_least-more (suc n) a some =
    let e : suc n - 1 ≡ n = omega arith in
    ap (λ k. copies_then k a (plus a)) e

-- the repeat without a bound, of no copy at least and of some

pub star-added : (old t u : Table) (n p e least : ℕ) (a : Core) (all : Context → Bool) → least ≡ 0 → p ≡ n → ((c : Context) → all c ≡ true) → IsRow old t n a (max least 1) empty e → IsLooped t u p e → IsAdded old u n (at_least least a) all
star-added old t u n p e least a all none place is row looped =
    let one : max least 1 ≡ 0 + 1 = omega arith in
    let first : p ≡ n + 0 * count a = omega arith in
    let once : IsRow old t n a (0 + 1) empty e = subst (λ k. IsRow old t n a k empty e) one row in
    let round : IsRow old u n a 0 (star a) e = row-option old u n e 0 a (plus a) (row-plus old t u n p e 0 a first once looped) in
    subst (λ k. IsAdded old u n (at_least k a) all) (sym none) (row-added old u n e a (star a) all (λ c. is c ∙ sym (null-option (plus a) c)) round)

pub row-rounds : (old t u : Table) (n p e least : ℕ) (a : Core) → (least ≡ 0 → ⊥) → p ≡ n + (least - 1) * count a → IsRow old t n a (max least 1) empty e → IsLooped t u p e → IsRow old u n a (least - 1) (plus a) e
row-rounds old t u n p e least a some place row looped =
    let one : max least 1 ≡ (least - 1) + 1 = omega arith in
    row-plus old t u n p e (least - 1) a place (subst (λ k. IsRow old t n a k empty e) one row) looped

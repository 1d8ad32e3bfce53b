-- Parts of one table, joined.
use Rattle.std.proofs.Common.{◌≡◌, ℕ, zero, suc, ◌+◌, ◌<◌, ◌≤◌, ◌⊎◌, Bool, true, false, ◌&&◌, ◌||◌, List, length, set, slice_get, refl, sym, ap, ◌∙◌, inl, inr, arith}
use Rattle.hs_base.specs.ByteSets.{members}
use Rattle.hs_base.specs.Contexts.{Context}
use Rattle.hs_base.specs.ContextSets.{has_context}
use Rattle.hs_base.specs.WrittenOut.{Core, class, cat, alt, plus, count, set_of}
use Rattle.hs_base.specs.declared.byte_set.ByteSet.{ByteSet}
use Rattle.hs_base.specs.declared.context.Mask.{Mask}
use Rattle.hs_base.proofs.ByteSetLemmas.{members-at}
use Rattle.hs_engine.specs.Automata.{in_mask, in_set}
use Rattle.hs_engine.specs.Positions.{null, enter, accept, follow}
use Rattle.hs_glushkov.specs.Ranges.{is_within}
use Rattle.hs_glushkov.specs.Parts.{Table, is_set, IsPart, IsNull, Keeps, IsClear, IsSeparate, IsAdded, narrowed, IsJoined, IsLooped}
use Rattle.hs_glushkov.proofs.FollowLemmas.{get-set_same, get-set_other, within-true, within-under, within-over}
use Rattle.hs_glushkov.proofs.NarrowLemmas.{and-turned}
use Rattle.hs_engine.proofs.PositionLemmas.{Side, lower, upper, side, set-cat_lower, set-cat_upper, set-alt_lower, set-alt_upper, enter-cat_lower, enter-cat_upper, enter-alt_lower, enter-alt_upper, accept-cat_lower, accept-cat_upper, accept-alt_lower, accept-alt_upper, follow-cat_lower_lower, follow-cat_lower_upper, follow-cat_upper_lower, follow-cat_upper_upper, follow-alt_lower_lower, follow-alt_lower_upper, follow-alt_upper_lower, follow-alt_upper_upper}

-- tables as lists and a test
abbrev listed : List ByteSet → List Mask → List Mask → (ℕ → ℕ → Context → Bool) → Table
listed sets enters accepts follows = record {
  takes = λ x b. in_set (slice_get sets x) b;
  enters = λ x c. in_mask (slice_get enters x) c;
  accepts = λ x c. in_mask (slice_get accepts x) c;
  follows = follows;
}

-- later positions are clear too
pub clear-later : (t : Table) (m n : ℕ) → m ≤ n → IsClear t m → IsClear t n
clear-later t m n order clear x y c (inl above) = clear x y c (inl (omega arith))
clear-later t m n order clear x y c (inr above) = clear x y c (inr (omega arith))

-- a class

module _ (sets : List ByteSet) (enters accepts : List Mask) (follows : ℕ → ℕ → Context → Bool) (n : ℕ) (s : ByteSet) (all all' none : Mask) where
  abbrev before : Table
  before = listed sets enters accepts follows

  abbrev behind : Table
  behind = listed (set sets n s) (set enters n all) (set accepts n all') follows

  module _ (hs : n < length sets) (he : n < length enters) (ha : n < length accepts) (clear : IsClear before n) (is_all : (c : Context) → has_context all c ≡ true) (is_all' : (c : Context) → has_context all' c ≡ true)
      (is_none : (c : Context) → has_context none c ≡ false) where
    class-takes : (x b : ℕ) → x < 1 → b < 256 → behind.takes (n + x) b ≡ is_set (slice_get (set_of (class (members s)) x) b)
    class-takes zero b first byte =
        let place : n + zero ≡ n = omega arith in
        ap (λ k. in_set (slice_get (set sets n s) k) b) place
        ∙ (ap (λ o. in_set o b) (get-set_same sets n s hs) ∙ ap is_set (sym (members-at s b byte)))
    class-takes (suc x) b first byte = absurd (omega arith)

    class-enters : (x : ℕ) (c : Context) → x < 1 → behind.enters (n + x) c ≡ enter (class (members s)) x c
    class-enters zero c first =
        let place : n + zero ≡ n = omega arith in
        ap (λ k. in_mask (slice_get (set enters n all) k) c) place ∙ (ap (λ o. in_mask o c) (get-set_same enters n all he) ∙ is_all c)
    class-enters (suc x) c first = absurd (omega arith)

    class-accepts : (x : ℕ) (c : Context) → x < 1 → behind.accepts (n + x) c ≡ accept (class (members s)) x c
    class-accepts zero c first =
        let place : n + zero ≡ n = omega arith in
        ap (λ k. in_mask (slice_get (set accepts n all') k) c) place ∙ (ap (λ o. in_mask o c) (get-set_same accepts n all' ha) ∙ is_all' c)
    class-accepts (suc x) c first = absurd (omega arith)

    pub class-added : IsAdded before behind n (class (members s)) (has_context none)
    class-added =
        record {
          part =
              record {
                takes = class-takes;
                enters = class-enters;
                accepts = class-accepts;
                follows = λ x y c hx hy. clear (n + x) (n + y) c (inl (omega arith));
              };
          null = is_none;
          keeps =
              record {
                takes = λ x b below. ap (λ o. in_set o b) (get-set_other sets n x s (λ e. omega arith));
                enters = λ x c below. ap (λ o. in_mask o c) (get-set_other enters n x all (λ e. omega arith));
                accepts = λ x c below. ap (λ o. in_mask o c) (get-set_other accepts n x all' (λ e. omega arith));
                follows = λ x y c below. refl;
              };
          clear = clear-later before n (n + 1) (omega arith) clear;
        }

-- what is kept

either : (n m x y : ℕ) → n ≤ m → (x < n) ⊎ (y < n) → (x < m) ⊎ (y < m)
either n m x y order (inl below) = inl (omega arith)
either n m x y order (inr below) = inr (omega arith)

or-nothing : (b : Bool) → (b || false) ≡ b
or-nothing true = refl
or-nothing false = refl

or-turned : (a b : Bool) → (a || b) ≡ (b || a)
or-turned true true = refl
or-turned true false = refl
or-turned false true = refl
or-turned false false = refl

pub part-kept : (t u : Table) (r : Core) (n m : ℕ) → n + count r ≤ m → Keeps t u m → IsPart t r n → IsPart u r n
part-kept t u r n m within keeps part =
    record {
      takes = λ x b hx hb. keeps.takes (n + x) b (omega arith) ∙ part.takes x b hx hb;
      enters = λ x c hx. keeps.enters (n + x) c (omega arith) ∙ part.enters x c hx;
      accepts = λ x c hx. keeps.accepts (n + x) c (omega arith) ∙ part.accepts x c hx;
      follows = λ x y c hx hy. keeps.follows (n + x) (n + y) c (inl (omega arith)) ∙ part.follows x y c hx hy;
    }

pub separate-kept : (t u : Table) (n m : ℕ) → n ≤ m → Keeps t u m → IsSeparate t n → IsSeparate u n
separate-kept t u n m within keeps separate =
    record {
      onward = λ x y c hx hy. keeps.follows x y c (inl (omega arith)) ∙ separate.onward x y c hx hy;
      back = λ x y c hx hy. keeps.follows x y c (inr (omega arith)) ∙ separate.back x y c hx hy;
    }

-- what is new is separate where nothing followed
pub separate-new : (t u : Table) (n : ℕ) → Keeps t u n → IsClear t n → IsSeparate u n
separate-new t u n keeps clear =
    record {
      onward = λ x y c hx hy. keeps.follows x y c (inl hx) ∙ clear x y c (inr hy);
      back = λ x y c hx hy. keeps.follows x y c (inr hy) ∙ clear x y c (inl hx);
    }

pub keeps-less : (t u : Table) (n m : ℕ) → n ≤ m → Keeps t u m → Keeps t u n
keeps-less t u n m order keeps =
    record {
      takes = λ x b hx. keeps.takes x b (omega arith);
      enters = λ x c hx. keeps.enters x c (omega arith);
      accepts = λ x c hx. keeps.accepts x c (omega arith);
      follows = λ x y c below. keeps.follows x y c (either n m x y order below);
    }

pub keeps-join : (t u v : Table) (n : ℕ) → Keeps t u n → Keeps u v n → Keeps t v n
keeps-join t u v n first second =
    record {
      takes = λ x b hx. second.takes x b hx ∙ first.takes x b hx;
      enters = λ x c hx. second.enters x c hx ∙ first.enters x c hx;
      accepts = λ x c hx. second.accepts x c hx ∙ first.accepts x c hx;
      follows = λ x y c below. second.follows x y c below ∙ first.follows x y c below;
    }

-- one expression and then another

pub narrowed-in : (w m b : Bool) → w ≡ true → narrowed w m b ≡ (m && b)
narrowed-in w m b is = ap (λ v. narrowed v m b) is

pub narrowed-out : (w m b : Bool) → w ≡ false → narrowed w m b ≡ b
narrowed-out w m b isnt = ap (λ v. narrowed v m b) isnt

led-out : (v w a e o : Bool) → v ≡ false → ((v && (w && (a && e))) || o) ≡ o
led-out v w a e o isnt = ap (λ z. (z && (w && (a && e))) || o) isnt

led-out_to : (v w a e o : Bool) → w ≡ false → ((v && (w && (a && e))) || o) ≡ o
led-out_to true w a e o isnt = ap (λ z. (z && (a && e)) || o) isnt
led-out_to false w a e o isnt = refl

led-in : (v w a e o : Bool) → v ≡ true → w ≡ true → o ≡ false → ((v && (w && (a && e))) || o) ≡ (a && e)
led-in v w a e o hv hw ho = ap (λ z. (z && (w && (a && e))) || o) hv ∙ (ap (λ z. (z && (a && e)) || o) hw ∙ (ap (λ z. (a && e) || z) ho ∙ or-nothing (a && e)))

led-in_or : (v w a e o : Bool) → v ≡ true → w ≡ true → ((v && (w && (a && e))) || o) ≡ (o || (a && e))
led-in_or v w a e o hv hw = ap (λ z. (z && (w && (a && e))) || o) hv ∙ (ap (λ z. (z && (a && e)) || o) hw ∙ or-turned (a && e) o)

module _ (t u : Table) (a b : Core) (n m e : ℕ) (mid : m ≡ n + count a) (end : e ≡ m + count b) (first last : Context → Bool) (pa : IsPart t a n) (pb : IsPart t b m) (apart : IsSeparate t m)
    (j : IsJoined t u n m e first last) (na : IsNull first a) (nb : IsNull last b) where
  place : (y : ℕ) → n + (count a + y) ≡ m + y
  place y = omega arith

  cat-takes : (x k : ℕ) → Side (count a) x → x < count a + count b → k < 256 → u.takes (n + x) k ≡ is_set (slice_get (set_of (cat a b) x) k)
  cat-takes x k (lower _ below) hx hk = j.takes (n + x) k ∙ (pa.takes x k below hk ∙ ap (λ s. is_set (slice_get s k)) (sym (set-cat_lower a b x below)))
  cat-takes x k (upper y) hx hk =
      j.takes (n + (count a + y)) k ∙ (ap (λ z. t.takes z k) (place y) ∙ (pb.takes y k (omega arith) hk ∙ ap (λ s. is_set (slice_get s k)) (sym (set-cat_upper a b y))))

  cat-enters : (x : ℕ) (c : Context) → Side (count a) x → x < count a + count b → u.enters (n + x) c ≡ enter (cat a b) x c
  cat-enters x c (lower _ below) hx =
      j.enters (n + x) c
      ∙ (narrowed-out (is_within m e (n + x)) (first c) (t.enters (n + x) c) (within-under m e (n + x) (omega arith))
      ∙ (pa.enters x c below ∙ sym (enter-cat_lower a b c x below)))
  cat-enters x c (upper y) hx =
      let hy : y < count b = omega arith in
      ap (λ z. u.enters z c) (place y)
      ∙ (j.enters (m + y) c
      ∙ (narrowed-in (is_within m e (m + y)) (first c) (t.enters (m + y) c) (within-true m e (m + y) (omega arith) (omega arith))
      ∙ (ap (λ z. z && t.enters (m + y) c) (na c) ∙ (ap (λ z. null a c && z) (pb.enters y c hy) ∙ sym (enter-cat_upper a b c y)))))

  cat-accepts : (x : ℕ) (c : Context) → Side (count a) x → x < count a + count b → u.accepts (n + x) c ≡ accept (cat a b) x c
  cat-accepts x c (lower _ below) hx =
      j.accepts (n + x) c
      ∙ (narrowed-in (is_within n m (n + x)) (last c) (t.accepts (n + x) c) (within-true n m (n + x) (omega arith) (omega arith))
      ∙ (and-turned (last c) (t.accepts (n + x) c)
      ∙ (ap (λ z. t.accepts (n + x) c && z) (nb c) ∙ (ap (λ z. z && null b c) (pa.accepts x c below) ∙ sym (accept-cat_lower a b c x below)))))
  cat-accepts x c (upper y) hx =
      let hy : y < count b = omega arith in
      ap (λ z. u.accepts z c) (place y)
      ∙ (j.accepts (m + y) c
      ∙ (narrowed-out (is_within n m (m + y)) (last c) (t.accepts (m + y) c) (within-over n m (m + y) (omega arith))
      ∙ (pb.accepts y c hy ∙ sym (accept-cat_upper a b c y))))

  abbrev added_edge : ℕ → ℕ → Context → Bool
  added_edge x y c = (is_within n m x && (is_within m e y && (t.accepts x c && t.enters y c))) || t.follows x y c

  cat-follows : (x y : ℕ) (c : Context) → Side (count a) x → Side (count a) y → x < count a + count b → y < count a + count b → u.follows (n + x) (n + y) c ≡ follow (cat a b) x y c
  cat-follows x y c (lower _ hx) (lower _ hy) wx wy =
      j.follows (n + x) (n + y) c
      ∙ (led-out_to (is_within n m (n + x)) (is_within m e (n + y)) (t.accepts (n + x) c) (t.enters (n + y) c) (t.follows (n + x) (n + y) c) (within-under m e (n + y) (omega arith))
      ∙ (pa.follows x y c hx hy ∙ sym (follow-cat_lower_lower a b c x y hx hy)))
  cat-follows x y c (lower _ hx) (upper l) wx wy =
      let hl : l < count b = omega arith in
      ap (λ z. u.follows (n + x) z c) (place l)
      ∙ (j.follows (n + x) (m + l) c
      ∙ (led-in (is_within n m (n + x)) (is_within m e (m + l)) (t.accepts (n + x) c) (t.enters (m + l) c) (t.follows (n + x) (m + l) c)
      (within-true n m (n + x) (omega arith) (omega arith)) (within-true m e (m + l) (omega arith) (omega arith)) (apart.onward (n + x) (m + l) c (omega arith) (omega arith))
      ∙ (ap (λ z. z && t.enters (m + l) c) (pa.accepts x c hx) ∙ (ap (λ z. accept a x c && z) (pb.enters l c hl) ∙ sym (follow-cat_lower_upper a b c x l hx)))))
  cat-follows x y c (upper k) (lower _ hy) wx wy =
      ap (λ z. u.follows z (n + y) c) (place k)
      ∙ (j.follows (m + k) (n + y) c
      ∙ (led-out (is_within n m (m + k)) (is_within m e (n + y)) (t.accepts (m + k) c) (t.enters (n + y) c) (t.follows (m + k) (n + y) c) (within-over n m (m + k) (omega arith))
      ∙ (apart.back (m + k) (n + y) c (omega arith) (omega arith) ∙ sym (follow-cat_upper_lower a b c k y hy))))
  cat-follows x y c (upper k) (upper l) wx wy =
      let hk : k < count b = omega arith in
      let hl : l < count b = omega arith in
      ap (λ z. u.follows z (n + (count a + l)) c) (place k)
      ∙ (ap (λ z. u.follows (m + k) z c) (place l)
      ∙ (j.follows (m + k) (m + l) c
      ∙ (led-out (is_within n m (m + k)) (is_within m e (m + l)) (t.accepts (m + k) c) (t.enters (m + l) c) (t.follows (m + k) (m + l) c) (within-over n m (m + k) (omega arith))
      ∙ (pb.follows k l c hk hl ∙ sym (follow-cat_upper_upper a b c k l)))))

  pub part-cat : IsPart u (cat a b) n
  part-cat =
      record {
        takes = λ x k hx hk. cat-takes x k (side (count a) x) hx hk;
        enters = λ x c hx. cat-enters x c (side (count a) x) hx;
        accepts = λ x c hx. cat-accepts x c (side (count a) x) hx;
        follows = λ x y c hx hy. cat-follows x y c (side (count a) x) (side (count a) y) hx hy;
      }

  joined-follows : (x y : ℕ) (c : Context) → (x < n) ⊎ (y < n) → u.follows x y c ≡ t.follows x y c
  joined-follows x y c (inl hx) =
      j.follows x y c ∙ led-out (is_within n m x) (is_within m e y) (t.accepts x c) (t.enters y c) (t.follows x y c) (within-under n m x hx)
  joined-follows x y c (inr hy) =
      j.follows x y c ∙ led-out_to (is_within n m x) (is_within m e y) (t.accepts x c) (t.enters y c) (t.follows x y c) (within-under m e y (omega arith))

  pub joined-keeps : Keeps t u n
  joined-keeps =
      record {
        takes = λ x k hx. j.takes x k;
        enters = λ x c hx. j.enters x c ∙ narrowed-out (is_within m e x) (first c) (t.enters x c) (within-under m e x (omega arith));
        accepts = λ x c hx. j.accepts x c ∙ narrowed-out (is_within n m x) (last c) (t.accepts x c) (within-under n m x hx);
        follows = joined-follows;
      }

  pub joined-clear : IsClear t e → IsClear u e
  joined-clear clear x y c (inl hx) =
      j.follows x y c ∙ (led-out (is_within n m x) (is_within m e y) (t.accepts x c) (t.enters y c) (t.follows x y c) (within-over n m x (omega arith)) ∙ clear x y c (inl hx))
  joined-clear clear x y c (inr hy) =
      j.follows x y c ∙ (led-out_to (is_within n m x) (is_within m e y) (t.accepts x c) (t.enters y c) (t.follows x y c) (within-over m e y hy) ∙ clear x y c (inr hy))

-- one expression or another

module _ (t : Table) (a b : Core) (n m : ℕ) (mid : m ≡ n + count a) (pa : IsPart t a n) (pb : IsPart t b m) (apart : IsSeparate t m) where
  alt-place : (y : ℕ) → n + (count a + y) ≡ m + y
  alt-place y = omega arith

  alt-takes : (x k : ℕ) → Side (count a) x → x < count a + count b → k < 256 → t.takes (n + x) k ≡ is_set (slice_get (set_of (alt a b) x) k)
  alt-takes x k (lower _ below) hx hk = pa.takes x k below hk ∙ ap (λ s. is_set (slice_get s k)) (sym (set-alt_lower a b x below))
  alt-takes x k (upper y) hx hk = ap (λ z. t.takes z k) (alt-place y) ∙ (pb.takes y k (omega arith) hk ∙ ap (λ s. is_set (slice_get s k)) (sym (set-alt_upper a b y)))

  alt-enters : (x : ℕ) (c : Context) → Side (count a) x → x < count a + count b → t.enters (n + x) c ≡ enter (alt a b) x c
  alt-enters x c (lower _ below) hx = pa.enters x c below ∙ sym (enter-alt_lower a b c x below)
  alt-enters x c (upper y) hx = ap (λ z. t.enters z c) (alt-place y) ∙ (pb.enters y c (omega arith) ∙ sym (enter-alt_upper a b c y))

  alt-accepts : (x : ℕ) (c : Context) → Side (count a) x → x < count a + count b → t.accepts (n + x) c ≡ accept (alt a b) x c
  alt-accepts x c (lower _ below) hx = pa.accepts x c below ∙ sym (accept-alt_lower a b c x below)
  alt-accepts x c (upper y) hx = ap (λ z. t.accepts z c) (alt-place y) ∙ (pb.accepts y c (omega arith) ∙ sym (accept-alt_upper a b c y))

  alt-follows : (x y : ℕ) (c : Context) → Side (count a) x → Side (count a) y → x < count a + count b → y < count a + count b → t.follows (n + x) (n + y) c ≡ follow (alt a b) x y c
  alt-follows x y c (lower _ hx) (lower _ hy) wx wy = pa.follows x y c hx hy ∙ sym (follow-alt_lower_lower a b c x y hx hy)
  alt-follows x y c (lower _ hx) (upper l) wx wy =
      ap (λ z. t.follows (n + x) z c) (alt-place l) ∙ (apart.onward (n + x) (m + l) c (omega arith) (omega arith) ∙ sym (follow-alt_lower_upper a b c x l hx))
  alt-follows x y c (upper k) (lower _ hy) wx wy =
      ap (λ z. t.follows z (n + y) c) (alt-place k) ∙ (apart.back (m + k) (n + y) c (omega arith) (omega arith) ∙ sym (follow-alt_upper_lower a b c k y hy))
  alt-follows x y c (upper k) (upper l) wx wy =
      ap (λ z. t.follows z (n + (count a + l)) c) (alt-place k)
      ∙ (ap (λ z. t.follows (m + k) z c) (alt-place l) ∙ (pb.follows k l c (omega arith) (omega arith) ∙ sym (follow-alt_upper_upper a b c k l)))

  pub part-alt : IsPart t (alt a b) n
  part-alt =
      record {
        takes = λ x k hx hk. alt-takes x k (side (count a) x) hx hk;
        enters = λ x c hx. alt-enters x c (side (count a) x) hx;
        accepts = λ x c hx. alt-accepts x c (side (count a) x) hx;
        follows = λ x y c hx hy. alt-follows x y c (side (count a) x) (side (count a) y) hx hy;
      }

-- rounds

module _ (t u : Table) (a : Core) (n e : ℕ) (end : e ≡ n + count a) (pa : IsPart t a n) (l : IsLooped t u n e) where
  pub part-plus : IsPart u (plus a) n
  part-plus =
      record {
        takes = λ x k hx hk. l.takes (n + x) k ∙ pa.takes x k hx hk;
        enters = λ x c hx. l.enters (n + x) c ∙ pa.enters x c hx;
        accepts = λ x c hx. l.accepts (n + x) c ∙ pa.accepts x c hx;
        follows = λ x y c hx hy.
            l.follows (n + x) (n + y) c
            ∙ (led-in_or (is_within n e (n + x)) (is_within n e (n + y)) (t.accepts (n + x) c) (t.enters (n + y) c) (t.follows (n + x) (n + y) c)
            (within-true n e (n + x) (omega arith) (omega arith)) (within-true n e (n + y) (omega arith) (omega arith))
            ∙ (ap (λ z. z || (t.accepts (n + x) c && t.enters (n + y) c)) (pa.follows x y c hx hy)
            ∙ (ap (λ z. follow a x y c || (z && t.enters (n + y) c)) (pa.accepts x c hx) ∙ ap (λ z. follow a x y c || (accept a x c && z)) (pa.enters y c hy))));
      }

  looped-follows : (x y : ℕ) (c : Context) → (x < n) ⊎ (y < n) → u.follows x y c ≡ t.follows x y c
  looped-follows x y c (inl hx) =
      l.follows x y c ∙ led-out (is_within n e x) (is_within n e y) (t.accepts x c) (t.enters y c) (t.follows x y c) (within-under n e x hx)
  looped-follows x y c (inr hy) =
      l.follows x y c ∙ led-out_to (is_within n e x) (is_within n e y) (t.accepts x c) (t.enters y c) (t.follows x y c) (within-under n e y hy)

  pub looped-keeps : Keeps t u n
  looped-keeps =
      record {
        takes = λ x k hx. l.takes x k;
        enters = λ x c hx. l.enters x c;
        accepts = λ x c hx. l.accepts x c;
        follows = looped-follows;
      }

  pub looped-clear : IsClear t e → IsClear u e
  looped-clear clear x y c (inl hx) =
      l.follows x y c ∙ (led-out (is_within n e x) (is_within n e y) (t.accepts x c) (t.enters y c) (t.follows x y c) (within-over n e x hx) ∙ clear x y c (inl hx))
  looped-clear clear x y c (inr hy) =
      l.follows x y c ∙ (led-out_to (is_within n e x) (is_within n e y) (t.accepts x c) (t.enters y c) (t.follows x y c) (within-over n e y hy) ∙ clear x y c (inr hy))

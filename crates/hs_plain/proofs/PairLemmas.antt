-- Lists of pairs in order: adding in place, and going through a list one by one.
use Rattle.std.proofs.Common.{◌≡◌, ℕ, zero, suc, ◌+◌, ◌<◌, ◌⊎◌, List, [], ◌∷◌, ◌++◌, length, take, drop, get_or, Option, Some, IfSome, slice_get, sym, ap, subst, ◌∙◌, inl, inr, arith, drop-cons, drop_of_length-le}
use Rattle.std.proofs.lemmas.Bool.{cases_lt}
use Rattle.std.proofs.lemmas.List.{take_more, take-append-drop, map-append}
use Rattle.std.proofs.lemmas.Option.{slice_get-get_or, slice_get_within, same_Some}
use Rattle.std.proofs.Math.Seq.{take-length}
use Rattle.std.specs.List.{insert}
use Rattle.hs_base.specs.Lists.{Each, IsMember, IsRising}
use Rattle.hs_base.specs.Told.{Pair, IsBefore}
use Rattle.hs_base.specs.declared.entry.Report.{Report}
use Rattle.hs_base.proofs.ListLemmas.{each-of_members, each-member, member-left, member-right, member-append, rising-append, rising-left, rising-right, rising-across}
use Rattle.hs_base.proofs.ToldLemmas.{pair-order}
use Rattle.hs_plain.specs.PlainPatterns.{pair_of, pairs_of, AddsPairs, KeepsPairs}

pub pairs-none : (Q : Pair → Type 0) (ps : List Pair) → ((p : Pair) → Q p → ⊥) → AddsPairs Q ps ps
pairs-none Q ps never = record {
  each = λ p. (λ is. inl is, λ found. elim found [ inl is ↦ is | inr more ↦ absurd (never p more) ]);
  rising = λ rising. rising;
}

pub pairs-map : (Q Q' : Pair → Type 0) (ps qs : List Pair) → ((p : Pair) → Q p → Q' p) → ((p : Pair) → Q' p → Q p) → AddsPairs Q ps qs → AddsPairs Q' ps qs
pairs-map Q Q' ps qs to from adds = record {
  each = λ p. (
    λ is. elim ((adds.each p).0 is) [ inl old ↦ inl old | inr more ↦ inr (to p more) ],
    λ found. elim found [ inl old ↦ (adds.each p).1 (inl old) | inr more ↦ (adds.each p).1 (inr (from p more)) ],
  );
  rising = adds.rising;
}

pub pairs-then : (Q Q' : Pair → Type 0) (ps qs rs : List Pair) → AddsPairs Q ps qs → AddsPairs Q' qs rs → AddsPairs (λ p. Q p ⊎ Q' p) ps rs
pairs-then Q Q' ps qs rs one two = record {
  each = λ p. (
    λ is. elim ((two.each p).0 is) [
      | inl old ↦ elim ((one.each p).0 old) [ inl older ↦ inl older | inr more ↦ inr (inl more) ]
      | inr more ↦ inr (inr more)
    ],
    λ found. elim found [
      | inl old ↦ (two.each p).1 (inl ((one.each p).1 (inl old)))
      | inr which ↦ elim which [
        | inl more ↦ (two.each p).1 (inl ((one.each p).1 (inr more)))
        | inr more ↦ (two.each p).1 (inr more)
      ]
    ],
  );
  rising = λ rising. two.rising (one.rising rising);
}

-- the pair is there already
pub pairs-there : (ps : List Pair) (x : Pair) → IsMember x ps → AddsPairs (λ p. p ≡ x) ps ps
pairs-there ps x there = record {
  each = λ p. (λ is. inl is, λ found. elim found [ inl is ↦ is | inr same ↦ subst (λ q. IsMember q ps) (sym same) there ]);
  rising = λ rising. rising;
}

-- the pair is before the first of the list, if there is one
abbrev HeadsBehind : Pair → List Pair → Type 0
HeadsBehind x [] = Unit {0}
HeadsBehind x (y ∷ ys) = IsBefore x y

behind-all : (x : Pair) (ys : List Pair) → HeadsBehind x ys → IsRising IsBefore ys → Each (IsBefore x) ys
behind-all x [] heads rising = tt
behind-all x (y ∷ ys) heads rising =
    (heads, each-of_members (IsBefore x) ys (λ z member. pair-order.transitive x y z heads (each-member (IsBefore y) ys z rising.0 member)))

-- a pair put where those in front of it are before it and those behind aren't
pairs-insert : (front back : List Pair) (x : Pair) → Each (λ p. IsBefore p x) front → HeadsBehind x back → AddsPairs (λ p. p ≡ x) (front ++ back) (front ++ x ∷ back)
pairs-insert front back x before behind = record {
  each = λ p. (
    λ is. elim (member-append front (x ∷ back) p is) [
      | inl left ↦ inl (member-left front back p left)
      | inr right ↦ elim right [ inl here ↦ inr here | inr there ↦ inl (member-right front back p there) ]
    ],
    λ found. elim found [
      | inl old ↦ elim (member-append front back p old) [
        | inl left ↦ member-left front (x ∷ back) p left
        | inr right ↦ member-right front (x ∷ back) p (inr right)
      ]
      | inr same ↦ member-right front (x ∷ back) p (inl same)
    ],
  );
  rising = λ rising.
      let right : IsRising IsBefore back = rising-right IsBefore front back rising in
      rising-append IsBefore front (x ∷ back) (rising-left IsBefore front back rising) (behind-all x back behind right, right)
      (each-of_members (λ p. Each (IsBefore p) (x ∷ back)) front
      (λ p member. (
        each-member (λ q. IsBefore q x) front p before member,
        each-member (λ q. Each (IsBefore q) back) front p (rising-across IsBefore front back rising) member,
      )));
}

same-report : (r s : Report) → r.id.0 ≡ s.id.0 → r.to ≡ s.to → r ≡ s
same-report r s id to =
    let f : ℕ → ℕ → Report = λ a b. record { id = record { 0 = a }; to = b } in
    let e : f r.id.0 r.to ≡ f s.id.0 r.to = ap (λ a. f a r.to) id in
    let e' : f s.id.0 r.to ≡ f s.id.0 s.to = ap (λ b. f s.id.0 b) to in
    e ∙ e'

later : (s r : Report) → (IsBefore (pair_of s) (pair_of r) → ⊥) → (s ≡ r → ⊥) → IsBefore (pair_of r) (pair_of s)
later s r not_before not_same = elim (cases_lt s.to r.to) [
  | inl before ↦ absurd (not_before (inl before))
  | inr to ↦ elim (cases_lt r.to s.to) [
    | inl after ↦ inl after
    | inr from ↦
        let same : s.to ≡ r.to = omega arith in
        elim (cases_lt s.id.0 r.id.0) [
          | inl before ↦ absurd (not_before (inr (same, before)))
          | inr low ↦ elim (cases_lt r.id.0 s.id.0) [
            | inl after ↦ inr (sym same, after)
            | inr high ↦ absurd (not_same (same-report s r (omega arith) same))
          ]
        ]
  ]
]

some-fact : (P : Report → Type 0) (o : Option Report) (s : Report) → o ≡ Some s → IfSome o P → P s
some-fact P o s is holds = subst (λ x. IfSome x P) is holds

head-behind : (rs : List Report) (k : ℕ) (r : Report) → IfSome (slice_get rs k) (λ s. IsBefore (pair_of s) (pair_of r) → ⊥) → (slice_get rs k ≡ Some r → ⊥) → HeadsBehind (pair_of r) (pairs_of (drop k rs))
head-behind rs k r not_before not_there = elim (cases_lt k (length rs)) [
  | inl within ↦
      let s : Report = get_or rs k r in
      let here : slice_get rs k ≡ Some s = slice_get-get_or rs k r within in
      let next : IsBefore (pair_of r) (pair_of s) =
      later s r (some-fact (λ x. IsBefore (pair_of x) (pair_of r) → ⊥) (slice_get rs k) s here not_before) (λ same. not_there (here ∙ ap (λ x. Some x) same)) in
      subst (λ xs. HeadsBehind (pair_of r) (pairs_of xs)) (sym (drop-cons rs k r within)) next
  | inr beyond ↦
      subst (λ xs. HeadsBehind (pair_of r) (pairs_of xs)) (sym (drop_of_length-le rs {i = k} beyond)) tt
]

pub report-insert : (rs : List Report) (k : ℕ) (r : Report) → Each (λ p. IsBefore p (pair_of r)) (pairs_of (take k rs)) → IfSome (slice_get rs k) (λ s. IsBefore (pair_of s) (pair_of r) → ⊥) → (slice_get rs k ≡ Some r → ⊥) → AddsPairs (λ p. p ≡ pair_of r) (pairs_of rs) (pairs_of (insert rs k r))
report-insert rs k r before not_before not_there =
    let front : List Pair = pairs_of (take k rs) in
    let back : List Pair = pairs_of (drop k rs) in
    let old : front ++ back ≡ pairs_of rs = sym (map-append pair_of (take k rs) (drop k rs)) ∙ ap pairs_of (take-append-drop k rs) in
    let new : front ++ pair_of r ∷ back ≡ pairs_of (insert rs k r) = sym (map-append pair_of (take k rs) (r ∷ drop k rs)) in
    subst (λ ps. AddsPairs (λ p. p ≡ pair_of r) ps (pairs_of (insert rs k r))) old
    (subst (AddsPairs (λ p. p ≡ pair_of r) (front ++ back)) new
    (pairs-insert front back (pair_of r) before (head-behind rs k r not_before not_there)))

pub member-at : (rs : List Report) (k : ℕ) (r : Report) → slice_get rs k ≡ Some r → IsMember (pair_of r) (pairs_of rs)
member-at [] k r is = absurd (let within : k < 0 = slice_get_within [] k r is in omega arith)
member-at (s ∷ rs) zero r is = inl (ap pair_of (same_Some r s (sym is)))
member-at (s ∷ rs) (suc k) r is = inr (member-at rs k r is)

-- one report more
pub pairs-take : (rs : List Report) (k : ℕ) (d : Report) → k < length rs → pairs_of (take (k + 1) rs) ≡ pairs_of (take k rs) ++ pair_of (get_or rs k d) ∷ []
pairs-take rs k d within =
    ap pairs_of (take_more rs k d within) ∙ map-append pair_of (take k rs) (get_or rs k d ∷ [])

-- none of the first n pairs is kept; the next one is, or isn't
pub keeps-none : (Q : Pair → Type 0) → KeepsPairs Q [] []
keeps-none Q = record {
  each = λ p. (λ is. absurd is, λ (is, _). absurd is);
  rising = λ rising. rising;
}

pub keeps-more : (Q : Pair → Type 0) (ps kept : List Pair) (x : Pair) → Q x → KeepsPairs Q ps kept → KeepsPairs Q (ps ++ x ∷ []) (kept ++ x ∷ [])
keeps-more Q ps kept x is keeps = record {
  each = λ p. (
    λ member. elim (member-append kept (x ∷ []) p member) [
      | inl left ↦ let (old, holds) = (keeps.each p).0 left in (member-left ps (x ∷ []) p old, holds)
      | inr right ↦ (member-right ps (x ∷ []) p right, elim right [ inl same ↦ subst Q (sym same) is | inr none ↦ absurd none ])
    ],
    λ (member, holds). elim (member-append ps (x ∷ []) p member) [
      | inl left ↦ member-left kept (x ∷ []) p ((keeps.each p).1 (left, holds))
      | inr right ↦ member-right kept (x ∷ []) p right
    ],
  );
  rising = λ rising.
      rising-append IsBefore kept (x ∷ []) (keeps.rising (rising-left IsBefore ps (x ∷ []) rising)) (tt, tt)
      (each-of_members (λ p. Each (IsBefore p) (x ∷ [])) kept
      (λ p member. each-member (λ q. Each (IsBefore q) (x ∷ [])) ps p (rising-across IsBefore ps (x ∷ []) rising) ((keeps.each p).0 member).0));
}

pub keeps-other : (Q : Pair → Type 0) (ps kept : List Pair) (x : Pair) → (Q x → ⊥) → KeepsPairs Q ps kept → KeepsPairs Q (ps ++ x ∷ []) kept
keeps-other Q ps kept x not keeps = record {
  each = λ p. (
    λ member. let (old, holds) = (keeps.each p).0 member in (member-left ps (x ∷ []) p old, holds),
    λ (member, holds). elim (member-append ps (x ∷ []) p member) [
      | inl left ↦ (keeps.each p).1 (left, holds)
      | inr right ↦ elim right [ inl same ↦ absurd (not (subst Q same holds)) | inr none ↦ absurd none ]
    ],
  );
  rising = λ rising. keeps.rising (rising-left IsBefore ps (x ∷ []) rising);
}

-- reports of one pair are one
pub same-pair : (r s : Report) → pair_of r ≡ pair_of s → r ≡ s
same-pair r s same = same-report r s (ap (λ p. p.id) same) (ap (λ p. p.to) same)

pub keeps-push : (Q : Pair → Type 0) (ps : List Pair) (old new : List Report) (r : Report) → new ≡ old ++ r ∷ [] → Q (pair_of r) → KeepsPairs Q ps (pairs_of old) → KeepsPairs Q (ps ++ pair_of r ∷ []) (pairs_of new)
keeps-push Q ps old new r pushed is keeps =
    let e : pairs_of old ++ pair_of r ∷ [] ≡ pairs_of new = sym (map-append pair_of old (r ∷ [])) ∙ ap pairs_of (sym pushed) in
    subst (KeepsPairs Q (ps ++ pair_of r ∷ [])) e (keeps-more Q ps (pairs_of old) (pair_of r) is keeps)

-- all of them have been gone through
pub keeps-whole : (Q : Pair → Type 0) (rs : List Report) (n : ℕ) (kept : List Pair) → n ≡ length rs → KeepsPairs Q (pairs_of (take n rs)) kept → KeepsPairs Q (pairs_of rs) kept
keeps-whole Q rs n kept whole keeps =
    subst (λ xs. KeepsPairs Q (pairs_of xs) kept) (ap (λ k. take k rs) whole ∙ take-length rs) keeps

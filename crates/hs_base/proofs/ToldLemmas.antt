-- Told, new and last lists: at most one for a stream, cut and joined with the bytes.
use Rattle.std.proofs.Common.{◌≡◌, ℕ, ◌<◌, ◌≤◌, false, List, ◌++◌, length, map, refl, sym, ap, subst, ◌∙◌, inl, inr, arith, append_assoc, length-append}
use Rattle.std.proofs.lemmas.List.{append_cancel_left, take-append-le, map-append}
use Rattle.hs_base.specs.Lists.{IsMember, IsRising}
use Rattle.hs_base.specs.Patterns.{Pattern}
use Rattle.hs_base.specs.Reports.{IsReport}
use Rattle.hs_base.specs.Told.{Pair, IsBefore, Mark, IsDecidedBefore, IsDecided, AreMarks, IsTold, IsNew, IsLast}
use Rattle.hs_base.specs.Laws.{IsNewInTwo}
use Rattle.hs_base.proofs.ListLemmas.{IsOrder, IsCut, each-member, member-left, member-append, rising-unique, rising-left, rising-cut}

pub pair-order : IsOrder IsBefore
pair-order = record {
  irreflexive = λ x before. irreflexive-pair x before;
  transitive = λ x y z one two. transitive-pair x y z one two;
}
  where
    irreflexive-pair : (x : Pair) → IsBefore x x → ⊥
    irreflexive-pair x before = omega arith

    transitive-pair : (x y z : Pair) → IsBefore x y → IsBefore y z → IsBefore x z
    transitive-pair x y z (inl one) (inl two) = inl (omega arith)
    transitive-pair x y z (inl one) (inr two) = inl (omega arith)
    transitive-pair x y z (inr one) (inl two) = inl (omega arith)
    transitive-pair x y z (inr one) (inr two) = inr (omega arith, omega arith)

pub mark-order : IsOrder IsDecidedBefore
mark-order = record {
  irreflexive = λ x before. irreflexive-mark x before;
  transitive = λ x y z one two. transitive-mark x y z one two;
}
  where
    irreflexive-mark : (x : Mark) → IsDecidedBefore x x → ⊥
    irreflexive-mark x before = omega arith

    transitive-mark : (x y z : Mark) → IsDecidedBefore x y → IsDecidedBefore y z → IsDecidedBefore x z
    transitive-mark x y z (inl one) (inl two) = inl (omega arith)
    transitive-mark x y z (inl one) (inr two) = inl (omega arith)
    transitive-mark x y z (inr one) (inl two) = inl (omega arith)
    transitive-mark x y z (inr one) (inr two) =
        inr (one.0 ∙ two.0, pair-order.transitive x.pair y.pair z.pair one.1 two.1)

pub decided-longer : (P : List Pattern) (u v : List ℕ) (m : Mark) → IsDecided P u m → IsDecided P (u ++ v) m
decided-longer P u v m decided = record {
  within = omega (arith, decided.within, length-append u v);
  reported =
      subst (λ s. IsReport P s false m.pair.id m.pair.to) (sym (take-append-le m.count u v decided.within)) decided.reported;
  not_before = λ n below report. decided.not_before n below
      (subst (λ s. IsReport P s false m.pair.id m.pair.to) (take-append-le n u v (omega (arith, decided.within))) report);
}

pub decided-shorter : (P : List Pattern) (u v : List ℕ) (m : Mark) → m.count ≤ length u → IsDecided P (u ++ v) m → IsDecided P u m
decided-shorter P u v m within decided = record {
  within = within;
  reported =
      subst (λ s. IsReport P s false m.pair.id m.pair.to) (take-append-le m.count u v within) decided.reported;
  not_before = λ n below report. decided.not_before n below
      (subst (λ s. IsReport P s false m.pair.id m.pair.to) (sym (take-append-le n u v (omega arith))) report);
}

pub marks-unique : (P : List Pattern) (w : List ℕ) (xs ys : List Mark) → AreMarks P w xs → AreMarks P w ys → xs ≡ ys
marks-unique P w xs ys marks marks' =
    rising-unique IsDecidedBefore mark-order xs ys marks.rising marks'.rising
    (λ m member. (marks'.each m).1 ((marks.each m).0 member))
    (λ m member. (marks.each m).1 ((marks'.each m).0 member))

pub told-once : (P : List Pattern) (w : List ℕ) (xs ys : List Pair) → IsTold P w xs → IsTold P w ys → xs ≡ ys
told-once P w xs ys told told' =
    told.pairs ∙ (ap (map (λ m. m.pair)) (marks-unique P w told.marks told'.marks told.decided told'.decided) ∙ sym told'.pairs)

pub new-once : (P : List Pattern) (u v : List ℕ) (xs ys : List Pair) → IsNew P u v xs → IsNew P u v ys → xs ≡ ys
new-once P u v xs ys new new' =
    let same : new'.told ≡ new.told = told-once P u new'.told new.told new'.before new.before in
    let after : IsTold P (u ++ v) (new.told ++ ys) = subst (λ ts. IsTold P (u ++ v) (ts ++ ys)) same new'.after in
    append_cancel_left new.told xs ys (told-once P (u ++ v) (new.told ++ xs) (new.told ++ ys) new.after after)

pub last-once : (P : List Pattern) (w : List ℕ) (xs ys : List Pair) → IsLast P w xs → IsLast P w ys → xs ≡ ys
last-once P w xs ys last last' =
    rising-unique IsBefore pair-order xs ys last.rising last'.rising
    (λ p member. (last'.each p).1 ((last.each p).0 member))
    (λ p member. (last.each p).1 ((last'.each p).0 member))

-- the marks of a stream are those of its first bytes, and behind them later ones
record AreCutMarks (P : List Pattern) (u : List ℕ) (marks : List Mark) : Type 0 where
  front : List Mark
  back : List Mark
  whole : marks ≡ front ++ back
  decided : AreMarks P u front

marks-cut : (P : List Pattern) (u v : List ℕ) (marks : List Mark) → AreMarks P (u ++ v) marks → AreCutMarks P u marks
marks-cut P u v marks are =
    let cut : IsCut (λ m. m.count) (length u) marks =
    rising-cut IsDecidedBefore (λ m. m.count) (λ x y before. count-before x y before) (length u) marks are.rising in
    record {
      front = cut.front;
      back = cut.back;
      whole = cut.whole;
      decided = record {
        each = λ m. (
          λ member.
              decided-shorter P u v m (each-member (λ x. x.count ≤ length u) cut.front m cut.low member)
              ((are.each m).0 (subst (IsMember m) (sym cut.whole) (member-left cut.front cut.back m member))),
          λ decided.
              elim (member-append cut.front cut.back m (subst (IsMember m) cut.whole ((are.each m).1 (decided-longer P u v m decided)))) [
                | inl member ↦ member
                | inr member ↦
                    let above : length u < m.count = each-member (λ x. length u < x.count) cut.back m cut.high member in
                    absurd (omega (arith, decided.within))
              ],
        );
        rising = rising-left IsDecidedBefore cut.front cut.back (subst (IsRising IsDecidedBefore) cut.whole are.rising);
      };
    }
  where
    count-before : (x y : Mark) → IsDecidedBefore x y → x.count ≤ y.count
    count-before x y (inl before) = omega arith
    count-before x y (inr before) = omega arith

-- a told list begins with that of the first bytes
pub record IsToldInTwo (P : List Pattern) (u : List ℕ) (all : List Pair) : Type 0 where
  pub front : List Pair
  pub back : List Pair
  pub whole : all ≡ front ++ back
  pub told : IsTold P u front

pub told-cut : (P : List Pattern) (u v : List ℕ) (all : List Pair) → IsTold P (u ++ v) all → IsToldInTwo P u all
told-cut P u v all told =
    let cut : AreCutMarks P u told.marks = marks-cut P u v told.marks told.decided in
    record {
      front = map (λ m. m.pair) cut.front;
      back = map (λ m. m.pair) cut.back;
      whole = told.pairs ∙ (ap (map (λ m. m.pair)) cut.whole ∙ map-append (λ m. m.pair) cut.front cut.back);
      told = record { marks = cut.front; decided = cut.decided; pairs = refl };
    }

pub told-grows : (P : List Pattern) (u v : List ℕ) (xs ys : List Pair) → IsTold P u xs → IsTold P (u ++ v) ys → (rest : List Pair) × (ys ≡ xs ++ rest)
told-grows P u v xs ys told told' =
    let cut : IsToldInTwo P u ys = told-cut P u v ys told' in
    (cut.back, cut.whole ∙ ap (λ ts. ts ++ cut.back) (told-once P u cut.front xs cut.told told))

pub new-joins : (P : List Pattern) (u v x : List ℕ) (xs ys : List Pair) → IsNew P u v xs → IsNew P (u ++ v) x ys → IsNew P u (v ++ x) (xs ++ ys)
new-joins P u v x xs ys new next =
    let same : next.told ≡ new.told ++ xs = told-once P (u ++ v) next.told (new.told ++ xs) next.before new.after in
    let after : IsTold P ((u ++ v) ++ x) ((new.told ++ xs) ++ ys) = subst (λ ts. IsTold P ((u ++ v) ++ x) (ts ++ ys)) same next.after in
    record {
      told = new.told;
      before = new.before;
      after = subst (IsTold P (u ++ (v ++ x))) (append_assoc new.told xs ys)
          (subst (λ s. IsTold P s ((new.told ++ xs) ++ ys)) (append_assoc u v x) after);
    }

pub new-splits : (P : List Pattern) (u v x : List ℕ) (all : List Pair) → IsNew P u (v ++ x) all → IsNewInTwo P u v x all
new-splits P u v x all new =
    let after : IsTold P ((u ++ v) ++ x) (new.told ++ all) = subst (λ s. IsTold P s (new.told ++ all)) (sym (append_assoc u v x)) new.after in
    let cut : IsToldInTwo P (u ++ v) (new.told ++ all) = told-cut P (u ++ v) x (new.told ++ all) after in
    let (front, grown) = told-grows P u v new.told cut.front new.before cut.told in
    record {
      front = front;
      back = cut.back;
      whole =
          append_cancel_left new.told all (front ++ cut.back)
          (cut.whole ∙ (ap (λ ts. ts ++ cut.back) grown ∙ append_assoc new.told front cut.back));
      first = record { told = new.told; before = new.before; after = subst (IsTold P (u ++ v)) grown cut.told };
      then = record {
        told = cut.front;
        before = cut.told;
        after = subst (IsTold P ((u ++ v) ++ x)) cut.whole after;
      };
    }

-- A told list has each report of its stream, and each once.
use Rattle.std.proofs.Common.{◌≡◌, ◌≢◌, ℕ, zero, suc, ◌+◌, ◌<◌, ◌≤◌, ◌⊎◌, ◌↔◌, false, List, [], ◌∷◌, length, map, take, drop, sym, ap, subst, ◌∙◌, inl, inr, arith}
use Rattle.std.proofs.lemmas.Bool.{cases_lt, cases_eq}
use Rattle.std.proofs.lemmas.List.{take-append-drop}
use Rattle.std.proofs.Math.Seq.{take-length}
use Rattle.hs_base.specs.Lists.{Each, IsMember, IsRising}
use Rattle.hs_base.specs.Patterns.{Pattern}
use Rattle.hs_base.specs.Reports.{IsReport}
use Rattle.hs_base.specs.Told.{Pair, IsBefore, Mark, IsDecidedBefore, IsDecided, IsTold}
use Rattle.hs_base.proofs.ListLemmas.{each-member, each-of_members, member-map, map-member}
use Rattle.hs_base.proofs.ReportLemmas.{reports-longer}
use Rattle.hs_base.proofs.ToldLemmas.{pair-order}

same-pairs : (p q : Pair) → p.id ≡ q.id → p.to ≡ q.to → p ≡ q
same-pairs p q id to =
    let f : ℕ → ℕ → Pair = λ a b. record { id = a; to = b } in
    let e : f p.id p.to ≡ f q.id p.to = ap (λ a. f a p.to) id in
    let e' : f q.id p.to ≡ f q.id q.to = ap (λ b. f q.id b) to in
    e ∙ e'

is_pair : (p q : Pair) → (p ≡ q) ⊎ (p ≡ q → ⊥)
is_pair p q = elim (cases_eq p.id q.id) [
  | inl id ↦ elim (cases_eq p.to q.to) [
    | inl to ↦ inl (same-pairs p q id to)
    | inr other ↦ inr (λ same. other (ap (λ x. x.to) same))
  ]
  | inr other ↦ inr (λ same. other (ap (λ x. x.id) same))
]

is_among : (p : Pair) (ps : List Pair) → IsMember p ps ⊎ (IsMember p ps → ⊥)
is_among p [] = inr (λ never. never)
is_among p (q ∷ ps) = elim (is_pair p q) [
  | inl here ↦ inl (inl here)
  | inr other ↦ elim (is_among p ps) [
    | inl there ↦ inl (inr there)
    | inr none ↦ inr (λ member. elim member [ inl here ↦ other here | inr there ↦ none there ])
  ]
]

report-whole : (P : List Pattern) (w : List ℕ) (n id to : ℕ) → IsReport P (take n w) false id to → IsReport P w false id to
report-whole P w n id to report =
    subst (λ s. IsReport P s false id to) (take-append-drop n w) (reports-longer P (take n w) (drop n w) false id to report)

told-report : (P : List Pattern) (w : List ℕ) (told : List Pair) → IsTold P w told → (p : Pair) → IsMember p told → IsReport P w false p.id p.to
told-report P w told is p member =
    let (m, there, same) = map-member (λ x. x.pair) is.marks p (subst (IsMember p) is.pairs member) in
    let decided : IsDecided P w m = (is.decided.each m).0 there in
    subst (λ q. IsReport P w false q.id q.to) (sym same) (report-whole P w m.count m.pair.id m.pair.to decided.reported)

-- a pair that isn't in the list is never decided
undecided : (P : List Pattern) (w : List ℕ) (told : List Pair) → IsTold P w told → (p : Pair) → (IsMember p told → ⊥) → (n k : ℕ) → k < n → k ≤ length w → IsReport P (take k w) false p.id p.to → ⊥
undecided P w told is p none zero k below within report = omega arith
undecided P w told is p none (suc n) k below within report = elim (cases_lt k n) [
  | inl earlier ↦ undecided P w told is p none n k earlier within report
  | inr last ↦
      let m : Mark = record { count = k; pair = p } in
      let decided : IsDecided P w m = record {
        within = within;
        reported = report;
        not_before = λ l before again. undecided P w told is p none n l (omega arith) (omega arith) again;
      } in
      none (subst (IsMember p) (sym is.pairs) (member-map (λ x. x.pair) is.marks m ((is.decided.each m).1 decided)))
]

pub told-exact : (P : List Pattern) (w : List ℕ) (told : List Pair) → IsTold P w told → (p : Pair) → IsMember p told ↔ IsReport P w false p.id p.to
told-exact P w told is p = (
  told-report P w told is p,
  λ report. elim (is_among p told) [
    | inl member ↦ member
    | inr none ↦ absurd
        (undecided P w told is p none (length w + 1) (length w) (omega arith) (omega arith)
        (subst (λ s. IsReport P s false p.id p.to) (sym (take-length w)) report))
  ],
)

-- marks of one pair have one count
one-count : (P : List Pattern) (w : List ℕ) (x y : Mark) → IsDecided P w x → IsDecided P w y → x.pair ≡ y.pair → x.count < y.count → ⊥
one-count P w x y decided decided' same before =
    decided'.not_before x.count before (subst (λ p. IsReport P (take x.count w) false p.id p.to) same decided.reported)

other-pair : (P : List Pattern) (w : List ℕ) (x y : Mark) → IsDecided P w x → IsDecided P w y → IsDecidedBefore x y → x.pair ≡ y.pair → ⊥
other-pair P w x y decided decided' (inl before) same = one-count P w x y decided decided' same before
other-pair P w x y decided decided' (inr (_, before)) same =
    pair-order.irreflexive y.pair (subst (λ p. IsBefore p y.pair) same before)

marks-apart : (P : List Pattern) (w : List ℕ) (ms : List Mark) → Each (IsDecided P w) ms → IsRising IsDecidedBefore ms → IsRising (λ p q. p ≢ q) (map (λ m. m.pair) ms)
marks-apart P w [] decided rising = tt
marks-apart P w (m ∷ ms) decided rising = (
  each-of_members (λ q. m.pair ≢ q) (map (λ x. x.pair) ms)
      (λ q member same.
      let (y, there, pair) = map-member (λ x. x.pair) ms q member in
      other-pair P w m y decided.0 (each-member (IsDecided P w) ms y decided.1 there) (each-member (IsDecidedBefore m) ms y rising.0 there) (same ∙ pair)),
  marks-apart P w ms decided.1 rising.1,
)

pub told-apart : (P : List Pattern) (w : List ℕ) (told : List Pair) → IsTold P w told → IsRising (λ p q. p ≢ q) told
told-apart P w told is =
    subst (IsRising (λ p q. p ≢ q)) (sym is.pairs)
    (marks-apart P w is.marks (each-of_members (IsDecided P w) is.marks (λ m member. (is.decided.each m).0 member)) is.decided.rising)

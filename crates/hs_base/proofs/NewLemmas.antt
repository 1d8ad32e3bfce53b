-- The new reports of one byte, and lists told from the start byte by byte.
use Rattle.std.proofs.Common.{◌≡◌, ℕ, ◌+◌, ◌<◌, ◌≤◌, ◌⊎◌, ◌↔◌, true, false, List, [], ◌∷◌, ◌++◌, length, map, take, drop, refl, sym, ap, subst, ◌∙◌, inl, inr, arith, length-append}
use Rattle.std.proofs.lemmas.Bool.{cases_lt}
use Rattle.std.proofs.lemmas.List.{append-nil, take-append-le, take-append-drop, map-append}
use Rattle.std.proofs.Math.Seq.{take-length, take-append_seam}
use Rattle.hs_base.specs.Lists.{Each, IsMember, IsRising}
use Rattle.hs_base.specs.Patterns.{Pattern, IsPair, AreNotSingle}
use Rattle.hs_base.specs.Reports.{IsReport}
use Rattle.hs_base.specs.Told.{Pair, IsBefore, Mark, IsDecidedBefore, IsDecided, AreMarks, IsTold, IsNew, IsLast}
use Rattle.hs_base.specs.AssertionFree.{AreAssertionFree}
use Rattle.hs_base.proofs.ListLemmas.{each-of_members, member-left, member-right, member-append, member-map, map-member, rising-append, rising-map}
use Rattle.hs_base.proofs.ReportLemmas.{reports-longer, pairs-free, pair-begun, report-to_pair, pair-to_report, empty_report-to_pair, empty_pair-to_report, report-free, no-reports, no-reports_yet}
use Rattle.hs_base.proofs.ToldLemmas.{decided-longer, decided-shorter, told-once, new-joins}

-- The pairs are exactly those that are reported after the byte and not before, by end, then identifier.
pub record AreByteReports (P : List Pattern) (u : List ℕ) (b : ℕ) (new : List Pair) : Type 0 where
  pub each : (p : Pair) → IsMember p new ↔ (IsReport P (u ++ b ∷ []) false p.id p.to × (IsReport P u false p.id p.to → ⊥))
  pub rising : IsRising IsBefore new

abbrev mark_at : ℕ → Pair → Mark
mark_at n p = record { count = n; pair = p }

pairs-mark_at : (n : ℕ) (ps : List Pair) → map (λ m. m.pair) (map (mark_at n) ps) ≡ ps
pairs-mark_at n [] = refl
pairs-mark_at n (p ∷ ps) = ap (λ qs. p ∷ qs) (pairs-mark_at n ps)

-- what is reported of the first bytes is reported of them all
report-take : (P : List Pattern) (u : List ℕ) (n id to : ℕ) → IsReport P (take n u) false id to → IsReport P u false id to
report-take P u n id to report =
    subst (λ s. IsReport P s false id to) (take-append-drop n u) (reports-longer P (take n u) (drop n u) false id to report)

pub length-push : (u : List ℕ) (b : ℕ) → length (u ++ b ∷ []) ≡ length u + 1
length-push u b = length-append u (b ∷ [])

pub take-push : (u : List ℕ) (b : ℕ) → take (length u + 1) (u ++ b ∷ []) ≡ u ++ b ∷ []
take-push u b = ap (λ n. take n (u ++ b ∷ [])) (sym (length-push u b)) ∙ take-length (u ++ b ∷ [])

decided-byte : (P : List Pattern) (u : List ℕ) (b : ℕ) (new : List Pair) → AreByteReports P u b new → (p : Pair) → IsMember p new → IsDecided P (u ++ b ∷ []) (mark_at (length u + 1) p)
decided-byte P u b new are p member =
    let (after, before) = (are.each p).0 member in
    record {
      within = omega (arith, length-push u b);
      reported = subst (λ s. IsReport P s false p.id p.to) (sym (take-push u b)) after;
      not_before = λ n below report.
          before (report-take P u n p.id p.to
          (subst (λ s. IsReport P s false p.id p.to) (take-append-le n u (b ∷ []) (omega arith)) report));
    }

byte-decided : (P : List Pattern) (u : List ℕ) (b : ℕ) (new : List Pair) → AreByteReports P u b new → (m : Mark) → m.count ≡ length u + 1 → IsDecided P (u ++ b ∷ []) m → IsMember m (map (mark_at (length u + 1)) new)
byte-decided P u b new are m count decided =
    let after : IsReport P (u ++ b ∷ []) false m.pair.id m.pair.to =
    subst (λ s. IsReport P s false m.pair.id m.pair.to) (ap (λ n. take n (u ++ b ∷ [])) count ∙ take-push u b) decided.reported in
    let before : IsReport P u false m.pair.id m.pair.to → ⊥ =
    λ report. decided.not_before (length u) (omega arith)
    (subst (λ s. IsReport P s false m.pair.id m.pair.to) (sym (take-append_seam u (b ∷ []))) report) in
    subst (λ n. IsMember (mark_at n m.pair) (map (mark_at (length u + 1)) new)) (sym count)
    (member-map (mark_at (length u + 1)) new m.pair ((are.each m.pair).1 (after, before)))

-- the marks of the longer stream
marks-byte : (P : List Pattern) (u : List ℕ) (b : ℕ) (old : List Mark) (new : List Pair) → AreMarks P u old → AreByteReports P u b new → AreMarks P (u ++ b ∷ []) (old ++ map (mark_at (length u + 1)) new)
marks-byte P u b old new marks are = record {
  each = λ m. (
    λ member. elim (member-append old (map (mark_at (length u + 1)) new) m member) [
      | inl before ↦ decided-longer P u (b ∷ []) m ((marks.each m).0 before)
      | inr here ↦
          let (p, member, same) = map-member (mark_at (length u + 1)) new m here in
          subst (IsDecided P (u ++ b ∷ [])) (sym same) (decided-byte P u b new are p member)
    ],
    λ decided. elim (cases_lt (length u) m.count) [
      | inl above ↦
          member-right old (map (mark_at (length u + 1)) new) m
          (byte-decided P u b new are m (omega (arith, decided.within, length-push u b)) decided)
      | inr within ↦
          member-left old (map (mark_at (length u + 1)) new) m ((marks.each m).1 (decided-shorter P u (b ∷ []) m within decided))
    ],
  );
  rising =
      rising-append IsDecidedBefore old (map (mark_at (length u + 1)) new) marks.rising
      (rising-map IsBefore IsDecidedBefore (mark_at (length u + 1)) new (λ x y before. inr (refl, before)) are.rising)
      (each-of_members (λ x. Each (IsDecidedBefore x) (map (mark_at (length u + 1)) new)) old
      (λ x before. each-of_members (IsDecidedBefore x) (map (mark_at (length u + 1)) new)
      (λ y here. across x y before here)));
}
  where
    across : (x y : Mark) → IsMember x old → IsMember y (map (mark_at (length u + 1)) new) → IsDecidedBefore x y
    across x y before here =
        let (p, member, same) = map-member (mark_at (length u + 1)) new y here in
        let within : x.count ≤ length u = ((marks.each x).0 before).within in
        let count : y.count ≡ length u + 1 = ap (λ m. m.count) same in
        inl (omega arith)

-- The step of one byte: what it adds to the reports is new.
pub new_by_reports : (P : List Pattern) (u : List ℕ) (b : ℕ) (told new : List Pair) → IsTold P u told → AreByteReports P u b new → IsNew P u (b ∷ []) new
new_by_reports P u b told new before are = record {
  told = told;
  before = before;
  after = record {
    marks = before.marks ++ map (mark_at (length u + 1)) new;
    decided = marks-byte P u b before.marks new before.decided are;
    pairs =
        ap (λ ts. ts ++ new) before.pairs
        ∙ (ap (λ ps. map (λ m. m.pair) before.marks ++ ps) (sym (pairs-mark_at (length u + 1) new))
        ∙ sym (map-append (λ m. m.pair) before.marks (map (mark_at (length u + 1)) new)));
  };
}

-- an end that a byte after u can give to an expression without assertions: the one behind it, and behind the first
-- byte also the start
abbrev pub IsByteEnd : List ℕ → ℕ → Type 0
IsByteEnd u to = (to ≡ length u + 1) ⊎ ((length u ≡ 0) × (to ≡ 0))

pub record AreByteEnds (P : List Pattern) (u : List ℕ) (b : ℕ) (new : List Pair) : Type 0 where
  pub each : (p : Pair) → IsMember p new ↔ (IsPair P (u ++ b ∷ []) false p.id p.to × IsByteEnd u p.to)
  pub rising : IsRising IsBefore new

byte_end-new : (P : List Pattern) (u : List ℕ) (id to : ℕ) → IsByteEnd u to → IsPair P u false id to → ⊥
byte_end-new P u id to end pair =
    let begun : 0 < length u = pair-begun P u id to pair in
    let within : to ≤ length u = pair.within in
    omega arith

new-byte_end : (P : List Pattern) → AreAssertionFree P → (u : List ℕ) (b id to : ℕ) → IsPair P (u ++ b ∷ []) false id to → (IsPair P u false id to → ⊥) → IsByteEnd u to
new-byte_end P free u b id to after before =
    elim (cases_lt (length u) to) [
      | inl above ↦ inl (omega (arith, after.within, length-push u b))
      | inr within ↦ elim (cases_lt 0 (length u)) [
        | inl begun ↦ absurd (before (pairs-free P free u (b ∷ []) false false id to within (inl begun) after))
        | inr empty ↦ inr (omega arith, omega arith)
      ]
    ]

-- The step of one byte for expressions without assertions, none of them single: new are the pairs that end behind the
-- byte, and behind the first byte also those that end at the start.
pub new_by_end : (P : List Pattern) → AreNotSingle P → AreAssertionFree P → (u : List ℕ) (b : ℕ) (told new : List Pair) → IsTold P u told → AreByteEnds P u b new → IsNew P u (b ∷ []) new
new_by_end P many free u b told new before are =
    new_by_reports P u b told new before
    (record {
      each = λ p. (
        λ member.
            let (pair, end) = (are.each p).0 member in (
              pair-to_report P many (u ++ b ∷ []) false p.id p.to pair,
              λ report. byte_end-new P u p.id p.to end (report-to_pair P many u false p.id p.to report),
            ),
        λ (after, before).
            let pair : IsPair P (u ++ b ∷ []) false p.id p.to = report-to_pair P many (u ++ b ∷ []) false p.id p.to after in
            (are.each p).1 (pair, new-byte_end P free u b p.id p.to pair (λ earlier. before (pair-to_report P many u false p.id p.to earlier))),
      );
      rising = are.rising;
    })

-- Without assertions nothing is last for a stream that has begun.
pub last_none : (P : List Pattern) → AreAssertionFree P → (w : List ℕ) → 0 < length w → IsLast P w []
last_none P free w begun = record {
  each = λ p. (λ member. absurd member, λ (after, before). before (report-free P free w p.id p.to begun after));
  rising = tt;
}

-- Of the empty stream the pairs are last.
pub last_of_empty : (P : List Pattern) (last : List Pair) → ((p : Pair) → IsMember p last ↔ IsPair P [] true p.id p.to) → IsRising IsBefore last → IsLast P [] last
last_of_empty P last each rising = record {
  each = λ p. (
    λ member. (empty_pair-to_report P p.id p.to ((each p).0 member), λ report. no-reports_yet P p.id p.to report),
    λ (report, _). (each p).1 (empty_report-to_pair P p.id p.to report),
  );
  rising = rising;
}

-- Of no pattern nothing is told, new or last.
pub told_of_nothing : (w : List ℕ) → IsTold [] w []
told_of_nothing w = record {
  marks = [];
  decided = record {
    each = λ m. (λ member. absurd member, λ decided. no-reports (take m.count w) false m.pair.id m.pair.to decided.reported);
    rising = tt;
  };
  pairs = refl;
}

pub new_of_nothing : (u v : List ℕ) → IsNew [] u v []
new_of_nothing u v = record { told = []; before = told_of_nothing u; after = told_of_nothing (u ++ v) }

pub last_of_nothing : (w : List ℕ) → IsLast [] w []
last_of_nothing w = record {
  each = λ p. (λ member. absurd member, λ (report, _). no-reports w true p.id p.to report);
  rising = tt;
}

-- Nothing is told of the empty stream.
pub told_start : (P : List Pattern) → IsTold P [] []
told_start P = record {
  marks = [];
  decided = record {
    each = λ m. (
      λ member. absurd member,
      λ decided.
          let start : m.count ≡ 0 = omega (arith, decided.within) in
          no-reports_yet P m.pair.id m.pair.to
          (subst (λ n. IsReport P (take n []) false m.pair.id m.pair.to) start decided.reported),
    );
    rising = tt;
  };
  pairs = refl;
}

-- A told list is what is new from the start.
pub told-new : (P : List Pattern) (w : List ℕ) (told : List Pair) → IsTold P w told → IsNew P [] w told
told-new P w told is = record { told = []; before = told_start P; after = is }

pub new-told : (P : List Pattern) (w : List ℕ) (told : List Pair) → IsNew P [] w told → IsTold P w told
new-told P w told new =
    subst (λ ts. IsTold P w (ts ++ told)) (told-once P [] new.told [] new.before (told_start P)) new.after

-- No bytes bring nothing new.
pub new_nothing : (P : List Pattern) (u : List ℕ) (told : List Pair) → IsTold P u told → IsNew P u [] []
new_nothing P u told is = record {
  told = told;
  before = is;
  after =
      subst (λ s. IsTold P s (told ++ [])) (sym (append-nil u)) (subst (IsTold P u) (sym (append-nil told)) is);
}

-- From the start: nothing is new of no bytes, and what more bytes bring is added at the end.
pub new_start : (P : List Pattern) → IsNew P [] [] []
new_start P = told-new P [] [] (told_start P)

pub new_more : (P : List Pattern) (u v : List ℕ) (xs ys : List Pair) → IsNew P [] u xs → IsNew P u v ys → IsNew P [] (u ++ v) (xs ++ ys)
new_more P u v xs ys new next = new-joins P [] u v xs ys new next

-- What is new after a stream follows what is told of it.
pub told_more : (P : List Pattern) (u v : List ℕ) (told new : List Pair) → IsTold P u told → IsNew P u v new → IsTold P (u ++ v) (told ++ new)
told_more P u v told new is next =
    subst (λ ts. IsTold P (u ++ v) (ts ++ new)) (told-once P u next.told told next.before is) next.after

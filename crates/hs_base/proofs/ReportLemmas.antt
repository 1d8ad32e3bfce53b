-- Pairs and reports of a stream and of one that begins with it.
use Rattle.std.proofs.Common.{◌≡◌, ℕ, ◌<◌, ◌≤◌, ◌⊎◌, Bool, true, false, not, ◌&&◌, ◌||◌, ◌==◌, List, [], ◌∷◌, ◌++◌, length, IsTrue, refl, sym, ap, subst, ◌∙◌, inl, inr, arith, length-append}
use Rattle.std.specs.List.{list_any, list_all}
use Rattle.std.proofs.lemmas.Bool.{cases_lt}
use Rattle.std.proofs.lemmas.List.{append-nil}
use Rattle.hs_base.specs.Spans.{Spans}
use Rattle.hs_base.specs.Patterns.{Pattern, HasEnd, IsPair, is_single, AreNotSingle}
use Rattle.hs_base.specs.Reports.{IsLeast, IsReport, each, first, first_at_end}
use Rattle.hs_base.specs.AssertionFree.{IsAssertionFree, AreAssertionFree}
use Rattle.hs_base.proofs.ListLemmas.{one_of-map, one_of-each}
use Rattle.hs_base.proofs.SpanLemmas.{not-ended, spans-longer, spans-shorter, spans-free}

-- a stream that may go on and has a pair has a byte
pub pair-begun : (P : List Pattern) (u : List ℕ) (id to : ℕ) → IsPair P u false id to → 0 < length u
pair-begun P u id to pair = elim pair.begun [ inl begun ↦ begun | inr ended ↦ absurd (not-ended ended) ]

end-map : (w : List ℕ) (ended : Bool) (w' : List ℕ) (ended' : Bool) (id to : ℕ) (x : Pattern) → ((i : ℕ) → Spans w ended x.tree i to → Spans w' ended' x.tree i to) → HasEnd w ended id to x → HasEnd w' ended' id to x
end-map w ended w' ended' id to x carry has = record {
  named = has.named;
  above = has.above;
  below = has.below;
  from = has.from;
  spans = carry has.from has.spans;
}

pub pairs-longer : (P : List Pattern) (u v : List ℕ) (ended : Bool) (id to : ℕ) → IsPair P u false id to → IsPair P (u ++ v) ended id to
pairs-longer P u v ended id to pair =
    let begun : 0 < length u = pair-begun P u id to pair in
    record {
      within = omega (arith, pair.within, length-append u v);
      begun = inl (omega (arith, length-append u v));
      given =
          one_of-map (HasEnd u false id to) (HasEnd (u ++ v) ended id to) P
          (λ x has. end-map u false (u ++ v) ended id to x (λ i span. spans-longer u v ended x.tree i to span) has)
          pair.given;
    }

pub pairs-shorter : (P : List Pattern) (u v : List ℕ) (id to : ℕ) → to < length u → IsPair P (u ++ v) false id to → IsPair P u false id to
pairs-shorter P u v id to below pair = record {
  within = omega arith;
  begun = inl (omega arith);
  given =
      one_of-map (HasEnd (u ++ v) false id to) (HasEnd u false id to) P
      (λ x has. end-map (u ++ v) false u false id to x (λ i span. spans-shorter u v x.tree i to below span) has)
      pair.given;
}

-- without assertions the pairs with an end within u are the same whatever follows, and at its end
pub pairs-free : (P : List Pattern) → AreAssertionFree P → (u v : List ℕ) (ended ended' : Bool) (id to : ℕ) → to ≤ length u → (0 < length u) ⊎ IsTrue ended' → IsPair P (u ++ v) ended id to → IsPair P u ended' id to
pairs-free P free u v ended ended' id to within begun pair = record {
  within = within;
  begun = begun;
  given =
      one_of-each (λ x. IsAssertionFree x.tree) (HasEnd (u ++ v) ended id to) (HasEnd u ended' id to) P free
      (λ x alone has. end-map (u ++ v) ended u ended' id to x (λ i span. spans-free u v ended ended' x.tree alone i to within span) has)
      pair.given;
}

pub pair-free : (P : List Pattern) → AreAssertionFree P → (w : List ℕ) (id to : ℕ) → 0 < length w → IsPair P w true id to → IsPair P w false id to
pair-free P free w id to begun pair =
    pairs-free P free w [] true false id to pair.within (inl begun) (subst (λ s. IsPair P s true id to) (sym (append-nil w)) pair)

pub pairs-ended : (P : List Pattern) (w : List ℕ) (id to : ℕ) → IsPair P w false id to → IsPair P w true id to
pairs-ended P w id to pair =
    subst (λ s. IsPair P s true id to) (append-nil w) (pairs-longer P w [] true id to pair)

least-longer : (P : List Pattern) (u v : List ℕ) (id to : ℕ) → IsLeast (IsPair P u false id) to → IsLeast (IsPair P (u ++ v) false id) to
least-longer P u v id to least = record {
  holds = pairs-longer P u v false id to least.holds;
  least = λ m pair. elim (cases_lt m to) [
    | inl below ↦ least.least m (pairs-shorter P u v id m (omega (arith, least.holds.within)) pair)
    | inr above ↦ above
  ];
}

pub reports-longer : (P : List Pattern) (u v : List ℕ) (ended : Bool) (id to : ℕ) → IsReport P u false id to → IsReport P (u ++ v) ended id to
reports-longer P u v ended id to (each many pair) = each many (pairs-longer P u v ended id to pair)
reports-longer P u v ended id to (first single least) = first single (least-longer P u v id to least)
reports-longer P u v ended id to (first_at_end single nothing least) = absurd (nothing to least.holds)

pub reports-ended : (P : List Pattern) (w : List ℕ) (id to : ℕ) → IsReport P w false id to → IsReport P w true id to
reports-ended P w id to report =
    subst (λ s. IsReport P s true id to) (append-nil w) (reports-longer P w [] true id to report)

-- a report is a pair
pub report-pair : (P : List Pattern) (w : List ℕ) (ended : Bool) (id to : ℕ) → IsReport P w ended id to → (IsPair P w false id to) ⊎ (IsPair P w ended id to)
report-pair P w ended id to (each many pair) = inr pair
report-pair P w ended id to (first single least) = inl least.holds
report-pair P w ended id to (first_at_end single nothing least) = inr least.holds

pub report-pair_before_end : (P : List Pattern) (w : List ℕ) (id to : ℕ) → IsReport P w false id to → IsPair P w false id to
report-pair_before_end P w id to report = elim (report-pair P w false id to report) [ inl pair ↦ pair | inr pair ↦ pair ]

-- of no pattern nothing is reported
pub no-reports : (w : List ℕ) (ended : Bool) (id to : ℕ) → IsReport [] w ended id to → ⊥
no-reports w ended id to report = elim (report-pair [] w ended id to report) [ inl pair ↦ pair.given | inr pair ↦ pair.given ]

-- nor of the empty stream that may go on
pub no-reports_yet : (P : List Pattern) (id to : ℕ) → IsReport P [] false id to → ⊥
no-reports_yet P id to report =
    let begun : 0 < 0 = pair-begun P [] id to (report-pair_before_end P [] id to report) in
    omega arith

-- a pattern in front that isn't single makes no identifier single
single-front : (is_its some all : Bool) → (some && all) ≡ false → ((is_its || some) && ((not is_its || false) && all)) ≡ false
single-front true some all none = refl
single-front false some all none = none

pub single-none : (P : List Pattern) (id : ℕ) → AreNotSingle P → is_single P id ≡ false
single-none [] id many = refl
single-none (x ∷ P) id many =
    ap
    (λ b. ((x.id == id) || list_any (λ y. y.id == id) P) && ((not (x.id == id) || b) && list_all (λ y. not (y.id == id) || y.single) P))
    many.0
    ∙ single-front (x.id == id) (list_any (λ y. y.id == id) P) (list_all (λ y. not (y.id == id) || y.single) P)
    (single-none P id many.1)

-- Each pattern of the identifier is single where none of them isn't.
none-many : (is_its single many : Bool) → ((not is_its || single) && not many) ≡ not ((is_its && not single) || many)
none-many true true many = refl
none-many true false many = refl
none-many false single many = refl

pub all-single : (P : List Pattern) (id : ℕ) →
    list_all (λ x. not (x.id == id) || x.single) P ≡ not (list_any (λ x. (x.id == id) && not x.single) P)
all-single [] id = refl
all-single (x ∷ P) id =
    ap (λ b. (not (x.id == id) || x.single) && b) (all-single P id)
    ∙ none-many (x.id == id) x.single (list_any (λ y. (y.id == id) && not y.single) P)

pub same-bool : (b : Bool) → (b ≡ true) ⊎ (b ≡ false)
same-bool true = inl refl
same-bool false = inr refl

-- where no identifier is single, the reports are the pairs
pub report-to_pair : (P : List Pattern) → AreNotSingle P → (w : List ℕ) (ended : Bool) (id to : ℕ) → IsReport P w ended id to → IsPair P w ended id to
report-to_pair P many w ended id to (each _ pair) = pair
report-to_pair P many w ended id to (first single least) =
    absurd (let not : is_single P id ≡ false = single-none P id many in cc)
report-to_pair P many w ended id to (first_at_end single nothing least) = least.holds

pub pair-to_report : (P : List Pattern) → AreNotSingle P → (w : List ℕ) (ended : Bool) (id to : ℕ) → IsPair P w ended id to → IsReport P w ended id to
pair-to_report P many w ended id to pair = each (single-none P id many) pair

-- of the empty stream, ended, the reports are the pairs
pub empty_report-to_pair : (P : List Pattern) (id to : ℕ) → IsReport P [] true id to → IsPair P [] true id to
empty_report-to_pair P id to report = elim (report-pair P [] true id to report) [
  | inl pair ↦ pairs-ended P [] id to pair
  | inr pair ↦ pair
]

pub empty_pair-to_report : (P : List Pattern) (id to : ℕ) → IsPair P [] true id to → IsReport P [] true id to
empty_pair-to_report P id to pair = elim (same-bool (is_single P id)) [
  | inl single ↦
      first_at_end single
      (λ m other. let begun : 0 < 0 = pair-begun P [] id m other in omega arith)
      (record {
        holds = pair;
        least = λ m other. let within : to ≤ 0 = pair.within in omega arith;
      })
  | inr many ↦ each many pair
]

-- without assertions the end of a stream that has begun adds no report
pub report-free : (P : List Pattern) → AreAssertionFree P → (w : List ℕ) (id to : ℕ) → 0 < length w → IsReport P w true id to → IsReport P w false id to
report-free P free w id to begun (each many pair) = each many (pair-free P free w id to begun pair)
report-free P free w id to begun (first single least) = first single least
report-free P free w id to begun (first_at_end single nothing least) =
    absurd (nothing to (pair-free P free w id to begun least.holds))

-- a report is a pair of the stream as it is
pub report-pair_now : (P : List Pattern) (w : List ℕ) (ended : Bool) (id to : ℕ) → IsReport P w ended id to → IsPair P w ended id to
report-pair_now P w true id to report = elim (report-pair P w true id to report) [ inl pair ↦ pairs-ended P w id to pair | inr pair ↦ pair ]
report-pair_now P w false id to report = report-pair_before_end P w id to report

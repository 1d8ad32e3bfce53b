-- Which pairs are reports, and the told and last lists from those of each beginning.
use Rattle.std.proofs.Common.{◌≡◌, ℕ, suc, ◌+◌, ◌<◌, ◌≤◌, ◌&&◌, ◌||◌, not, ◌==◌, Bool, true, false, List, [], ◌∷◌, ◌++◌, length, take, drop, get_or, refl, sym, ap, subst, ◌∙◌, inl, inr, arith, drop-cons}
use Rattle.std.specs.List.{list_all, list_any}
use Rattle.std.proofs.lemmas.List.{take_more, take-append-drop, map-append}
use Rattle.std.proofs.lemmas.Option.{slice_get-get_or}
use Rattle.hs_base.specs.Lists.{Each, IsMember, IsRising}
use Rattle.hs_base.specs.Patterns as base
use Rattle.hs_base.specs.Patterns.{IsPair, is_single}
use Rattle.hs_base.specs.Reports.{IsLeast, IsReport, each, first, first_at_end}
use Rattle.hs_base.specs.Told.{Pair, IsBefore, IsTold, IsLast}
use Rattle.hs_base.specs.declared.entry.Report.{Report}
use Rattle.hs_base.proofs.ListLemmas.{each-member, member-append, rising-right}
use Rattle.hs_base.proofs.ReportLemmas.{report-pair_now}
use Rattle.hs_base.proofs.NewLemmas.{AreByteReports, new_by_reports, told_more}
use Rattle.hs_plain.specs.declared.pattern.Pattern.{Pattern}
use Rattle.hs_plain.specs.PlainPatterns.{patterns_of, pair_of, pairs_of, ArePairs, AreReports, KeepsPairs}
use Rattle.hs_plain.proofs.PairLemmas.{member-at}

named-patterns : (xs : List Pattern) (id : ℕ) →
    list_any (λ x. x.id.0 == id) xs ≡ list_any (λ x. x.id == id) (patterns_of xs)
named-patterns [] id = refl
named-patterns (x ∷ xs) id = ap (λ b. (x.id.0 == id) || b) (named-patterns xs id)

asking-patterns : (xs : List Pattern) (id : ℕ) →
    list_all (λ x. not (x.id.0 == id) || x.single) xs ≡ list_all (λ x. not (x.id == id) || x.single) (patterns_of xs)
asking-patterns [] id = refl
asking-patterns (x ∷ xs) id = ap (λ b. (not (x.id.0 == id) || x.single) && b) (asking-patterns xs id)

-- whether an identifier is single, by the patterns that the program has
pub single-patterns : (xs : List Pattern) (id : ℕ) (named asking : Bool) →
    named ≡ list_any (λ x. x.id.0 == id) xs → asking ≡ list_all (λ x. not (x.id.0 == id) || x.single) xs →
    (named && asking) ≡ is_single (patterns_of xs) id
single-patterns xs id named asking is is' =
    ap (λ b. b && asking) (is ∙ named-patterns xs id)
    ∙ ap (λ b. list_any (λ x. x.id == id) (patterns_of xs) && b) (is' ∙ asking-patterns xs id)

pub least-map : (Q R : ℕ → Type 0) (n : ℕ) → ((m : ℕ) → Q m → R m) → ((m : ℕ) → R m → Q m) → IsLeast Q n → IsLeast R n
least-map Q R n to from least = record { holds = to n least.holds; least = λ m is. least.least m (from m is) }

pub least-unique : (Q : ℕ → Type 0) (m n : ℕ) → IsLeast Q m → IsLeast Q n → m ≡ n
least-unique Q m n one two =
    let below : m ≤ n = one.least n two.holds in
    let above : n ≤ m = two.least m one.holds in
    omega arith

pairs-split : (rs : List Report) (k : ℕ) (d : Report) → k < length rs → pairs_of rs ≡ pairs_of (take k rs) ++ pair_of (get_or rs k d) ∷ pairs_of (drop (suc k) rs)
pairs-split rs k d within =
    ap pairs_of (sym (take-append-drop k rs))
    ∙ (map-append pair_of (take k rs) (drop k rs) ∙ ap (λ xs. pairs_of (take k rs) ++ pairs_of xs) (drop-cons rs k d within))

-- the first report of an identifier has its least end
pub first-least : (rs : List Report) (k id : ℕ) (d : Report) → k < length rs → (get_or rs k d).id.0 ≡ id →
    ((to : ℕ) → IsMember (record { id = id; to = to }) (pairs_of (take k rs)) → ⊥) → IsRising IsBefore (pairs_of rs) → IsLeast (λ m. IsMember (record { id = id; to = m }) (pairs_of rs)) (get_or rs k d).to
first-least rs k id d within named none rising =
    let r : Report = get_or rs k d in
    let f : ℕ → Pair = λ a. record { id = a; to = r.to } in
    let rest : List Pair = pairs_of (drop (suc k) rs) in
    let split : pairs_of rs ≡ pairs_of (take k rs) ++ pair_of r ∷ rest = pairs-split rs k d within in
    let there : IsMember (f r.id.0) (pairs_of rs) = member-at rs k r (slice_get-get_or rs k d within) in
    let after : Each (IsBefore (pair_of r)) rest = (rising-right IsBefore (pairs_of (take k rs)) (pair_of r ∷ rest) (subst (IsRising IsBefore) split rising)).0 in
    record {
      holds = subst (λ a. IsMember (f a) (pairs_of rs)) named there;
      least = λ m member. elim (member-append (pairs_of (take k rs)) (pair_of r ∷ rest) (record { id = id; to = m }) (subst (IsMember (record { id = id; to = m })) split member)) [
        | inl left ↦ absurd (none m left)
        | inr right ↦ elim right [
          | inl here ↦ let same : m ≡ r.to = ap (λ p. p.to) here in omega arith
          | inr behind ↦ later r m (each-member (IsBefore (pair_of r)) rest (record { id = id; to = m }) after behind)
        ]
      ];
    }
  where
    later : (r : Report) (m : ℕ) → IsBefore (pair_of r) (record { id = id; to = m }) → r.to ≤ m
    later r m (inl before) = omega arith
    later r m (inr before) = omega (arith, before.0)

-- a pair of an identifier that isn't single is a report
pub reported-each : (P : List base.Pattern) (w : List ℕ) (ended : Bool) (id to : ℕ) → is_single P id ≡ false → IsPair P w ended id to → IsReport P w ended id to
reported-each P w ended id to many pair = each many pair

-- of a single one it is the first before the end
pub reported-first : (P : List base.Pattern) (w : List ℕ) (ended : Bool) (before : List Pair) (id first_to to : ℕ) → is_single P id ≡ true → ArePairs P w false before → IsLeast (λ m. IsMember (record { id = id; to = m }) before) first_to → (first_to ≡ to → IsReport P w ended id to) × (IsReport P w ended id to → first_to ≡ to)
reported-first P w ended before id first_to to single are least =
    let pair : IsLeast (IsPair P w false id) first_to =
    least-map (λ m. IsMember (record { id = id; to = m }) before) (IsPair P w false id) first_to
    (λ m member. (are.each (record { id = id; to = m })).0 member) (λ m is. (are.each (record { id = id; to = m })).1 is) least in
    (λ same. first single (subst (IsLeast (IsPair P w false id)) same pair), λ report. back pair report)
  where
    back : IsLeast (IsPair P w false id) first_to → IsReport P w ended id to → first_to ≡ to
    back pair (each many is) = absurd (cc)
    back pair (first _ is) = least-unique (IsPair P w false id) first_to to pair is
    back pair (first_at_end _ none is) = absurd (none first_to pair.holds)

-- or, where there is none before the end, the first
pub reported-at_end : (P : List base.Pattern) (w : List ℕ) (ended : Bool) (before all : List Pair) (id to : ℕ) → is_single P id ≡ true → ArePairs P w false before → ArePairs P w ended all → ((m : ℕ) → IsMember (record { id = id; to = m }) before → ⊥) →
    (IsLeast (λ m. IsMember (record { id = id; to = m }) all) to → IsReport P w ended id to) × (IsReport P w ended id to → IsLeast (λ m. IsMember (record { id = id; to = m }) all) to)
reported-at_end P w ended before all id to single are are' none = (
  λ least. first_at_end single nothing
      (least-map (λ m. IsMember (record { id = id; to = m }) all) (IsPair P w ended id) to
      (λ m member. (are'.each (record { id = id; to = m })).0 member) (λ m is. (are'.each (record { id = id; to = m })).1 is) least),
  λ report. back report,
)
  where
    nothing : (m : ℕ) → IsPair P w false id m → ⊥
    nothing m is = none m ((are.each (record { id = id; to = m })).1 is)

    back : IsReport P w ended id to → IsLeast (λ m. IsMember (record { id = id; to = m }) all) to
    back (each many is) = absurd (cc)
    back (first _ is) = absurd (nothing to is.holds)
    back (first_at_end _ _ is) =
        least-map (IsPair P w ended id) (λ m. IsMember (record { id = id; to = m }) all) to
        (λ m pair. (are'.each (record { id = id; to = m })).1 pair) (λ m member. (are'.each (record { id = id; to = m })).0 member) is

-- the pairs that are reports, and nothing else
pub kept-reports : (P : List base.Pattern) (w : List ℕ) (ended : Bool) (before all found : List Pair) → ArePairs P w false before → ArePairs P w ended all → KeepsPairs (λ p. IsReport P w ended p.id p.to) all found → AreReports P w ended found
kept-reports P w ended before all found _ are keeps = record {
  each = λ p. (
    λ member. ((keeps.each p).0 member).1,
    λ report. (keeps.each p).1 ((are.each p).1 (report-pair_now P w ended p.id p.to report), report),
  );
  rising = keeps.rising are.rising;
}

-- one byte more: what is reported after it and not before is told behind the rest
pub told-byte : (P : List base.Pattern) (w : List ℕ) (n : ℕ) (told before after new : List Pair) → n < length w → IsTold P (take n w) told → AreReports P (take n w) false before → AreReports P (take (n + 1) w) false after → KeepsPairs (λ p. IsMember p before → ⊥) after new → IsTold P (take (n + 1) w) (told ++ new)
told-byte P w n told before after new within is are are' keeps =
    let b : ℕ = get_or w n 0 in
    let longer : take (n + 1) w ≡ take n w ++ b ∷ [] = take_more w n 0 within in
    let later : AreReports P (take n w ++ b ∷ []) false after = subst (λ s. AreReports P s false after) longer are' in
    let bytes : AreByteReports P (take n w) b new = record {
      each = λ p. (
        λ member. let (reported, not) = (keeps.each p).0 member in ((later.each p).0 reported, λ earlier. not ((are.each p).1 earlier)),
        λ (report, not). (keeps.each p).1 ((later.each p).1 report, λ member. not ((are.each p).0 member)),
      );
      rising = keeps.rising later.rising;
    } in
    subst (λ s. IsTold P s (told ++ new)) (sym longer) (told_more P (take n w) (b ∷ []) told new is (new_by_reports P (take n w) b told new is bytes))

-- the last list: what is reported of the ended stream and not before
pub last-kept : (P : List base.Pattern) (w : List ℕ) (before after last : List Pair) → AreReports P w false before → AreReports P w true after → KeepsPairs (λ p. IsMember p before → ⊥) after last → IsLast P w last
last-kept P w before after last are are' keeps = record {
  each = λ p. (
    λ member. let (reported, not) = (keeps.each p).0 member in ((are'.each p).0 reported, λ earlier. not ((are.each p).1 earlier)),
    λ (report, not). (keeps.each p).1 ((are'.each p).1 report, λ member. not ((are.each p).0 member)),
  );
  rising = keeps.rising are'.rising;
}

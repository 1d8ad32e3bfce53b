-- What is collected of reports, and how it is counted.
use Rattle.std.proofs.Common.{◌≡◌, ◌∙◌, ℕ, ◌+◌, ◌<◌, Bool, true, false, nat_lt, suc, drop, get_or, List, [], ◌∷◌, ◌++◌, length, map, if◌then◌else◌, refl, sym, ap, ap₂, arith, length-append, append_assoc}
use Rattle.std.specs.List.{sum_by}
use Rattle.std.proofs.lemmas.Bool.{lt-ltb, ltb-true}
use Rattle.std.proofs.Math.Seq.{drop-cons}
use Rattle.std.proofs.lemmas.List.{length-map, map-append}
use Rattle.std.proofs.lemmas.List.Sums.{sum_by-append, sum_by-cons}
use Rattle.hs_base.specs.Told.{Pair}
use Rattle.hs_base.specs.declared.entry.Report.{Report}
use Rattle.hs_reports.specs.Events.{Through, Takes, still, onward}
use Rattle.hs_stream.specs.Collecting.{Collection, Collects, report_of, with_report}
use Rattle.hs_stream.specs.declared.tally.Tally.{Tally}
use Rattle.hs_stream.specs.CutRuns.{IsAdded}
use Rattle.hs_stream.specs.Tallies.{tally_of, with_pairs, with_reports}

-- a pair as a report
abbrev pub told_report : Pair → Report
told_report p = report_of p.id p.to

-- one report more is kept, or there was no room
one-more : (b : Bool) (c now : Collection) (r : Report) → nat_lt (length c.reports) c.room ≡ b → now ≡ (if b then record c { reports = c.reports ++ r ∷ [] } else c) → length now.reports < c.room →
    (now.reports ≡ c.reports ++ r ∷ []) × (length c.reports < c.room)
one-more true c now r full is within = (ap (λ (x : Collection). x.reports) is, ltb-true (length c.reports) c.room full)
one-more false c now r full is within =
    let same : length now.reports ≡ length c.reports = ap (λ (x : Collection). length x.reports) is in
    let less : length c.reports < c.room = omega (arith, within, same) in
    absurd (cc (full, lt-ltb (length c.reports) c.room less))

-- the room stays
same-room : (c : Collection) (id to : ℕ) → (with_report c id to).room ≡ c.room
same-room c id to = by (nat_lt (length c.reports) c.room)
  where
    by : (b : Bool) → (if b then record c { reports = c.reports ++ report_of id to ∷ [] } else c).room ≡ c.room
    by true = refl
    by false = refl

room-stays : {before after : Collection} {pairs : List Pair} → Through Collects before pairs after → after.room ≡ before.room
room-stays still = refl
room-stays (onward {between = between} p through told) = ap (λ (x : Collection). x.room) told ∙ (same-room between p.id p.to ∙ room-stays through)

-- where the room isn't used up, all were kept
pub all-kept : {before after : Collection} {pairs : List Pair} → Through Collects before pairs after → length after.reports < before.room → after.reports ≡ before.reports ++ map told_report pairs
all-kept {before} still within = sym (append-none before.reports)
  where
    append-none : (xs : List Report) → xs ++ [] ≡ xs
    append-none [] = refl
    append-none (x ∷ xs) = ap (λ l. x ∷ l) (append-none xs)
all-kept {before} {after} (onward {pairs = pairs} {between = between} p through told) within =
    let room = room-stays through in
    let here : length after.reports < between.room = omega (arith, within, room) in
    let one = one-more (nat_lt (length between.reports) between.room) between after (told_report p) refl told here in
    let first = all-kept through (omega (arith, one.1, room)) in
    one.0 ∙ (ap (λ l. l ++ told_report p ∷ []) first ∙ (append_assoc before.reports (map told_report pairs) (told_report p ∷ []) ∙ ap (λ l. before.reports ++ l) (sym (map-append told_report pairs (p ∷ [])))))

-- ---- tallies

-- the sum with one end more
pub sum-step : (reports : List Report) (i : ℕ) (report : Report) (sum more total : ℕ) → i < length reports → report ≡ get_or reports i report → more ≡ sum + report.to → sum + sum_by (λ (r : Report). r.to) (drop i reports) ≡ total →
    more + sum_by (λ (r : Report). r.to) (drop (i + 1) reports) ≡ total
sum-step reports i report sum more total below is grows kept =
    let at_suc : suc i ≡ i + 1 = omega arith in
    let front : drop i reports ≡ report ∷ drop (i + 1) reports = drop-cons reports i report below ∙ (ap (λ r. r ∷ drop (suc i) reports) (sym is) ∙ ap (λ k. report ∷ drop k reports) at_suc) in
    let parts = ap (sum_by (λ (r : Report). r.to)) front ∙ sum_by-cons (λ (r : Report). r.to) report (drop (i + 1) reports) in
    omega (arith, parts, grows, kept)

pub sum-start : (reports : List Report) (start : ℕ) → start + sum_by (λ (r : Report). r.to) (drop 0 reports) ≡ start + sum_by (λ (r : Report). r.to) reports
sum-start reports start = refl

sum-told : (pairs : List Pair) → sum_by (λ (r : Report). r.to) (map told_report pairs) ≡ sum_by (λ (p : Pair). p.to) pairs
sum-told [] = refl
sum-told (p ∷ pairs) =
    sum_by-cons (λ (r : Report). r.to) (told_report p) (map told_report pairs)
    ∙ (ap (λ n. p.to + n) (sum-told pairs) ∙ sym (sum_by-cons (λ (q : Pair). q.to) p pairs))

with-told : (tally : Tally) (pairs : List Pair) → with_reports tally (map told_report pairs) ≡ with_pairs tally pairs
with-told tally pairs = ap₂ (λ (c s : ℕ). record { count = tally.count + c; sum = tally.sum + s }) (length-map pairs told_report) (sum-told pairs)

-- what was collected of a list of pairs is added
pub added : (tally now : Tally) (room : ℕ) (before after : Collection) (Holds : List Pair → Type 0) → before ≡ record { reports = []; room = room } → Takes Collects before after Holds → length after.reports < room →
    now ≡ with_reports tally after.reports → IsAdded tally now Holds
added tally now room before after Holds empty takes within is =
    let roomy : before.room ≡ room = ap (λ (x : Collection). x.room) empty in
    let kept = all-kept takes.through (omega (arith, within, roomy)) in
    let all : after.reports ≡ map told_report takes.pairs = kept ∙ ap (λ (x : Collection). x.reports ++ map told_report takes.pairs) empty in
    record {
      pairs = takes.pairs;
      holds = takes.holds;
      added = is ∙ (ap (with_reports tally) all ∙ with-told tally takes.pairs);
    }

-- the room of what is collected
pub room-kept : {before after : Collection} {Holds : List Pair → Type 0} (room : ℕ) → before ≡ record { reports = []; room = room } → Takes Collects before after Holds → after.room ≡ room
room-kept room empty takes = room-stays takes.through ∙ ap (λ (x : Collection). x.room) empty

-- two lists in a row
pub tally-join : (xs ys : List Pair) → with_pairs (tally_of xs) ys ≡ tally_of (xs ++ ys)
tally-join xs ys = ap₂ (λ (c s : ℕ). record { count = c; sum = s }) (sym (length-append xs ys)) (sym (sum_by-append (λ (p : Pair). p.to) xs ys))

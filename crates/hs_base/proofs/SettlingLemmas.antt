-- What one more byte, or the end, decides of an identifier is what the values kept of it and its ends tell.
use Rattle.std.proofs.Common.{◌≡◌, ℕ, zero, suc, ◌+◌, ◌<◌, ◌≤◌, ◌⊎◌, ◌↔◌, Bool, true, false, not, ◌||◌, List, [], ◌∷◌, ◌++◌, length, refl, sym, subst, inl, inr, arith, length-append}
use Rattle.std.proofs.lemmas.Bool.{both_ways, not-true, and_parts, and_from, or_cases, or_parts, or_from, or_left, or_right, not_from_false, false_from_ne_true, cases_Bool, cases_lt, cases_eq}
use Rattle.hs_base.specs.declared.context.Next.TheVariants as after
use Rattle.hs_base.specs.Assertions.{line_feed}
use Rattle.hs_base.specs.Patterns.{Pattern, is_single, IsPair}
use Rattle.hs_base.specs.Reports.{IsLeast, IsReport, each, first, first_at_end}
use Rattle.hs_base.specs.Settling.{HasEndHere, Kept, nothing_kept, IsLeftToEnd, IsKept, Ends, AreEnds, tells_before, tells_behind, is_told, settled, tells_end}
use Rattle.hs_base.proofs.ReportLemmas.{pairs-longer, pairs-shorter, reports-longer, report-pair_now, no-reports_yet}
use Rattle.hs_base.proofs.EndLemmas.{pair-before_byte, pair-before_final_newline, pair-before_end, pair-end, pair-behind_byte, pair-inside}

-- That is what a byte b behind u settles of the identifier, of which `old` was kept, with its ends about the byte.
pub record IsSettled (P : List Pattern) (u : List ℕ) (b id : ℕ) (single : Bool) (old : Kept) (ends : Ends) : Type 0 where
  -- what is kept behind the byte
  pub kept : IsKept P (u ++ b ∷ []) id (settled single old ends)
  -- the pair that ends before the byte is newly reported
  pub before : (tells_before single old ends ≡ true) ↔ (IsReport P (u ++ b ∷ []) false id (length u) × (IsReport P u false id (length u) → ⊥))
  -- the pair that ends behind the byte is reported, and that is new in any case
  pub behind : (tells_behind single old ends ≡ true) ↔ IsReport P (u ++ b ∷ []) false id (length u + 1)

-- least numbers

none-below : (Q : ℕ → Type 0) → ((m : ℕ) → IsLeast Q m → ⊥) → (n m : ℕ) → m < n → Q m → ⊥
none-below Q never zero m below holds = omega arith
none-below Q never (suc n) m below holds =
    never m
    (record {
      holds = holds;
      least = λ k other. elim (cases_lt k m) [
        | inl less ↦ absurd (none-below Q never n k (omega arith) other)
        | inr above ↦ above
      ];
    })

-- what has no least number has none
none-least : (Q : ℕ → Type 0) → ((m : ℕ) → IsLeast Q m → ⊥) → (m : ℕ) → Q m → ⊥
none-least Q never m holds = none-below Q never (m + 1) m (omega arith) holds

-- single identifiers

single-many : (P : List Pattern) (id : ℕ) → is_single P id ≡ true → is_single P id ≡ false → ⊥
single-many P id single many = both_ways (is_single P id) many single

-- where nothing is reported before the end, there is no pair
no-pairs : (P : List Pattern) (w : List ℕ) (id : ℕ) → is_single P id ≡ true → ((to : ℕ) → IsReport P w false id to → ⊥) → (to : ℕ) → IsPair P w false id to → ⊥
no-pairs P w id single never to pair =
    none-least (IsPair P w false id) (λ m least. never m (first single least)) to pair

report-least : (P : List Pattern) (w : List ℕ) (id to : ℕ) → is_single P id ≡ true → IsReport P w false id to → IsLeast (IsPair P w false id) to
report-least P w id to single (each many pair) = absurd (single-many P id single many)
report-least P w id to single (first _ least) = least
report-least P w id to single (first_at_end _ nothing least) = absurd (nothing to least.holds)

-- one pair at most is reported
report-once : (P : List Pattern) (w : List ℕ) (id to to' : ℕ) → is_single P id ≡ true → IsReport P w false id to → IsReport P w false id to' → to ≡ to'
report-once P w id to to' single report report' =
    let least : IsLeast (IsPair P w false id) to = report-least P w id to single report in
    let least' : IsLeast (IsPair P w false id) to' = report-least P w id to' single report' in
    let below : to ≤ to' = least.least to' least'.holds in
    let above : to' ≤ to = least'.least to least.holds in
    omega arith

-- where a byte, or the end, may newly give reports

report-shorter : (P : List Pattern) (u v : List ℕ) (id to : ℕ) → to < length u → IsReport P (u ++ v) false id to → IsReport P u false id to
report-shorter P u v id to below (each many pair) = each many (pairs-shorter P u v id to below pair)
report-shorter P u v id to below (first single least) =
    first single
    (record {
      holds = pairs-shorter P u v id to below least.holds;
      least = λ m pair. least.least m (pairs-longer P u v false id m pair);
    })
report-shorter P u v id to below (first_at_end single nothing least) = absurd (nothing to least.holds)

-- A byte newly gives reports of two ends alone: before and behind it.
pub only-two : (P : List Pattern) (u : List ℕ) (b id to : ℕ) → IsReport P (u ++ b ∷ []) false id to → (IsReport P u false id to → ⊥) → (to ≡ length u) ⊎ (to ≡ length u + 1)
only-two P u b id to report fresh =
    let pair : IsPair P (u ++ b ∷ []) false id to = report-pair_now P (u ++ b ∷ []) false id to report in
    elim (cases_lt to (length u)) [
      | inl below ↦ absurd (fresh (report-shorter P u (b ∷ []) id to below report))
      | inr above ↦ elim (cases_eq to (length u)) [
        | inl same ↦ inl same
        | inr other ↦ inr (omega (arith, pair.within, length-append u (b ∷ [])))
      ]
    ]

report-inside : (P : List Pattern) (w : List ℕ) (id to : ℕ) → to + 1 < length w → IsReport P w true id to → IsReport P w false id to
report-inside P w id to below (each many pair) = each many (pair-inside P w id to below pair)
report-inside P w id to below (first single least) = first single least
report-inside P w id to below (first_at_end single nothing least) = absurd (nothing to (pair-inside P w id to below least.holds))

-- The end newly gives reports of two ends alone: before and behind the last byte.
pub only-last-two : (P : List Pattern) (w : List ℕ) (id to : ℕ) → IsReport P w true id to → (IsReport P w false id to → ⊥) → (suc to ≡ length w) ⊎ (to ≡ length w)
only-last-two P w id to report fresh =
    let pair : IsPair P w true id to = report-pair_now P w true id to report in
    elim (cases_lt (to + 1) (length w)) [
      | inl below ↦ absurd (fresh (report-inside P w id to below report))
      | inr above ↦ elim (cases_eq to (length w)) [
        | inl same ↦ inr same
        | inr other ↦ inl (omega (arith, pair.within))
      ]
    ]

-- Of the empty stream nothing is kept.
pub kept-start : (P : List Pattern) (id : ℕ) → IsKept P [] id nothing_kept
kept-start P id = record {
  told = λ single. (λ never. absurd (cc), λ (to, report). absurd (no-reports_yet P id to report));
  here = (λ never. absurd (cc), λ report. absurd (no-reports_yet P id 0 report));
  last = (λ never. absurd (cc), λ left. absurd (let end : suc left.to ≡ 0 = left.before in omega arith));
}

-- one byte
module _ (P : List Pattern) (u : List ℕ) (b id : ℕ) (kept : Kept) (ends : Ends) (is : IsKept P u id kept) (are : AreEnds P u b id ends) where
  length-behind : length (u ++ b ∷ []) ≡ length u + 1
  length-behind = length-append u (b ∷ [])

  report-stays : (to : ℕ) → IsReport P u false id to → IsReport P (u ++ b ∷ []) false id to
  report-stays to report = reports-longer P u (b ∷ []) false id to report

  report-pair_behind : (ended : Bool) (to : ℕ) → IsReport P (u ++ b ∷ []) ended id to → IsPair P (u ++ b ∷ []) ended id to
  report-pair_behind ended to report = report-pair_now P (u ++ b ∷ []) ended id to report

  none-told : is_single P id ≡ true → kept.told ≡ false → (to : ℕ) → IsReport P u false id to → ⊥
  none-told single none to report = both_ways kept.told none ((is.told single).1 (to, report))

  none-here : kept.here ≡ false → IsReport P u false id (length u) → ⊥
  none-here none report = both_ways kept.here none (is.here.1 report)

  -- an end is within u, or one of the two about the byte
  end-told : (to : ℕ) → IsReport P u false id to → to ≤ length u
  end-told to report =
      let pair : IsPair P u false id to = report-pair_now P u false id to report in
      pair.within

  before-settled : (single : Bool) → is_single P id ≡ single →
      (tells_before single kept ends ≡ true) ↔ (IsReport P (u ++ b ∷ []) false id (length u) × (IsReport P u false id (length u) → ⊥))
  before-settled false many = (
    λ tells.
        let (end, fresh) = and_parts ends.before (not kept.here) tells in (
          each many ((pair-before_byte P u b id).1 (are.before.0 end)),
          none-here (not-true kept.here fresh),
        ),
    λ (report, fresh).
        let end : ends.before ≡ true = are.before.1 ((pair-before_byte P u b id).0 (report-pair_behind false (length u) report)) in
        let none : kept.here ≡ false = false_from_ne_true kept.here (λ here. fresh (is.here.0 here)) in
        and_from ends.before (not kept.here) end (not_from_false kept.here none),
  )
  before-settled true single = (
    λ tells.
        let (end, fresh) = and_parts ends.before (not kept.told) tells in
        let none : kept.told ≡ false = not-true kept.told fresh in (
          first single
              (record {
                holds = (pair-before_byte P u b id).1 (are.before.0 end);
                least = λ m pair. elim (cases_lt m (length u)) [
                  | inl below ↦ absurd (no-pairs P u id single (none-told single none) m (pairs-shorter P u (b ∷ []) id m below pair))
                  | inr above ↦ above
                ];
              }),
          none-told single none (length u),
        ),
    λ (report, fresh).
        let end : ends.before ≡ true = are.before.1 ((pair-before_byte P u b id).0 (report-pair_behind false (length u) report)) in
        let none : kept.told ≡ false =
        false_from_ne_true kept.told (λ told.
        let (to, earlier) = (is.told single).0 told in
        let same : to ≡ length u = report-once P (u ++ b ∷ []) id to (length u) single (report-stays to earlier) report in
        fresh (subst (IsReport P u false id) same earlier)) in
        and_from ends.before (not kept.told) end (not_from_false kept.told none),
  )

  behind-settled : (single : Bool) → is_single P id ≡ single → (tells_behind single kept ends ≡ true) ↔ IsReport P (u ++ b ∷ []) false id (length u + 1)
  behind-settled false many = (
    λ tells. each many ((pair-behind_byte P u b id).1 (are.behind.0 (and_parts ends.behind true tells).0)),
    λ report.
        and_from ends.behind true (are.behind.1 ((pair-behind_byte P u b id).0 (report-pair_behind false (length u + 1) report))) refl,
  )
  behind-settled true single = (
    λ tells.
        let (end, fresh) = and_parts ends.behind (not (kept.told || tells_before true kept ends)) tells in
        let (none, none') = or_parts kept.told (tells_before true kept ends) (not-true (kept.told || tells_before true kept ends) fresh) in
        first single
        (record {
          holds = (pair-behind_byte P u b id).1 (are.behind.0 end);
          least = λ m pair. above single none none' m pair;
        }),
    λ report.
        let end : ends.behind ≡ true = are.behind.1 ((pair-behind_byte P u b id).0 (report-pair_behind false (length u + 1) report)) in
        let none : kept.told ≡ false =
        false_from_ne_true kept.told (λ told.
        let (to, earlier) = (is.told single).0 told in
        let same : to ≡ length u + 1 = report-once P (u ++ b ∷ []) id to (length u + 1) single (report-stays to earlier) report in
        let within : to ≤ length u = end-told to earlier in
        omega arith) in
        let none' : tells_before true kept ends ≡ false =
        false_from_ne_true (tells_before true kept ends) (λ told.
        let earlier : IsReport P (u ++ b ∷ []) false id (length u) = ((before-settled true single).0 told).0 in
        let same : length u ≡ length u + 1 = report-once P (u ++ b ∷ []) id (length u) (length u + 1) single earlier report in
        omega arith) in
        and_from ends.behind (not (kept.told || tells_before true kept ends)) end
        (not_from_false (kept.told || tells_before true kept ends) (or_from kept.told (tells_before true kept ends) none none')),
  )
    where
      above : is_single P id ≡ true → kept.told ≡ false → tells_before true kept ends ≡ false → (m : ℕ) → IsPair P (u ++ b ∷ []) false id m → length u + 1 ≤ m
      above single none none' m pair = elim (cases_lt m (length u)) [
        | inl below ↦ absurd (no-pairs P u id single (none-told single none) m (pairs-shorter P u (b ∷ []) id m below pair))
        | inr within ↦ elim (cases_eq m (length u)) [
          | inl same ↦
              let end : ends.before ≡ true = are.before.1 ((pair-before_byte P u b id).0 (subst (IsPair P (u ++ b ∷ []) false id) same pair)) in
              absurd (both_ways (tells_before true kept ends) none' (and_from ends.before (not kept.told) end (not_from_false kept.told none)))
          | inr other ↦ omega arith
        ]
      ]

  told-single : is_single P id ≡ true → (is_told true kept ends ≡ true) ↔ ((to : ℕ) × IsReport P (u ++ b ∷ []) false id to)
  told-single single = (
    λ told. elim (or_cases kept.told (tells_before true kept ends || tells_behind true kept ends) told) [
      | inl earlier ↦ let (to, report) = (is.told single).0 earlier in (to, report-stays to report)
      | inr new ↦ elim (or_cases (tells_before true kept ends) (tells_behind true kept ends) new) [
        | inl before ↦ (length u, ((before-settled true single).0 before).0)
        | inr behind ↦ (length u + 1, (behind-settled true single).0 behind)
      ]
    ],
    λ (to, report). elim (cases_Bool kept.told) [
      | inl told ↦ or_left kept.told (tells_before true kept ends || tells_behind true kept ends) told
      | inr none ↦
          or_right kept.told (tells_before true kept ends || tells_behind true kept ends)
          (new none to report (only-two P u b id to report (none-told single none to)))
    ],
  )
    where
      new : kept.told ≡ false → (to : ℕ) → IsReport P (u ++ b ∷ []) false id to → (to ≡ length u) ⊎ (to ≡ length u + 1) →
          (tells_before true kept ends || tells_behind true kept ends) ≡ true
      new none to report (inl here) =
          or_left (tells_before true kept ends) (tells_behind true kept ends)
          ((before-settled true single).1 (subst (IsReport P (u ++ b ∷ []) false id) here report, none-told single none (length u)))
      new none to report (inr here) =
          or_right (tells_before true kept ends) (tells_behind true kept ends)
          ((behind-settled true single).1 (subst (IsReport P (u ++ b ∷ []) false id) here report))

  told-settled : (single : Bool) → is_single P id ≡ single → is_single P id ≡ true →
      (is_told single kept ends ≡ true) ↔ ((to : ℕ) × IsReport P (u ++ b ∷ []) false id to)
  told-settled false many single = absurd (single-many P id single many)
  told-settled true same single = told-single single

  here-settled : (single : Bool) → is_single P id ≡ single → (tells_behind single kept ends ≡ true) ↔ IsReport P (u ++ b ∷ []) false id (length (u ++ b ∷ []))
  here-settled single same = (
    λ tells. subst (IsReport P (u ++ b ∷ []) false id) (sym length-behind) ((behind-settled single same).0 tells),
    λ report. (behind-settled single same).1 (subst (IsReport P (u ++ b ∷ []) false id) length-behind report),
  )

  none-behind : is_single P id ≡ true → is_told true kept ends ≡ false → (to : ℕ) → IsReport P (u ++ b ∷ []) false id to → ⊥
  none-behind single none to report = both_ways (is_told true kept ends) none ((told-single single).1 (to, report))

  -- a line feed that ends the stream: a match before it that the end would decide
  final-pair : ends.before_last ≡ true → IsPair P (u ++ b ∷ []) true id (length u)
  final-pair last =
      let (feed, here) = are.before_last.0 last in
      (pair-before_final_newline P u b id feed).1 here

  pair-final : IsPair P (u ++ b ∷ []) true id (length u) → (IsPair P (u ++ b ∷ []) false id (length u) → ⊥) → ends.before_last ≡ true
  pair-final pair fresh = elim (cases_eq b line_feed) [
    | inl feed ↦ are.before_last.1 (feed, (pair-before_final_newline P u b id feed).0 pair)
    | inr other ↦ absurd (fresh (pair-before_end P u b id other pair))
  ]

  -- the pair that ends before the byte is reported, by the values
  none-before : (is_single P id ≡ false) → (kept.here || tells_before false kept ends) ≡ false → IsReport P (u ++ b ∷ []) false id (length u) → ⊥
  none-before many none report =
      let (none-kept, none-told_now) = or_parts kept.here (tells_before false kept ends) none in
      both_ways (tells_before false kept ends) none-told_now ((before-settled false many).1 (report, none-here none-kept))

  before-none : (is_single P id ≡ false) → (IsReport P (u ++ b ∷ []) false id (length u) → ⊥) → (kept.here || tells_before false kept ends) ≡ false
  before-none many never =
      or_from kept.here (tells_before false kept ends)
      (false_from_ne_true kept.here (λ here. never (report-stays (length u) (is.here.0 here))))
      (false_from_ne_true (tells_before false kept ends) (λ told. never ((before-settled false many).0 told).0))

  left-at : IsReport P (u ++ b ∷ []) true id (length u) → (IsReport P (u ++ b ∷ []) false id (length u) → ⊥) → IsLeftToEnd P (u ++ b ∷ []) id
  left-at report fresh = record {
    to = length u;
    before = omega (arith, length-behind);
    at_end = report;
    not_yet = fresh;
  }

  at-left : IsLeftToEnd P (u ++ b ∷ []) id → IsReport P (u ++ b ∷ []) true id (length u) × (IsReport P (u ++ b ∷ []) false id (length u) → ⊥)
  at-left left =
      let here : left.to ≡ length u = omega (arith, left.before, length-behind) in (
        subst (IsReport P (u ++ b ∷ []) true id) here left.at_end,
        subst (λ to. IsReport P (u ++ b ∷ []) false id to → ⊥) here left.not_yet,
      )

  last-settled : (single : Bool) → is_single P id ≡ single → ((settled single kept ends).last ≡ true) ↔ IsLeftToEnd P (u ++ b ∷ []) id
  last-settled false many = (
    λ tells.
        let (last, fresh) = and_parts ends.before_last (not (kept.here || tells_before false kept ends)) tells in
        left-at (each many (final-pair last)) (none-before many (not-true (kept.here || tells_before false kept ends) fresh)),
    λ left.
        let (report, fresh) = at-left left in
        and_from ends.before_last (not (kept.here || tells_before false kept ends))
        (pair-final (report-pair_behind true (length u) report) (λ pair. fresh (each many pair)))
        (not_from_false (kept.here || tells_before false kept ends) (before-none many fresh)),
  )
  last-settled true single = (
    λ tells.
        let (last, fresh) = and_parts ends.before_last (not (is_told true kept ends)) tells in
        let none : (to : ℕ) → IsReport P (u ++ b ∷ []) false id to → ⊥ = none-behind single (not-true (is_told true kept ends) fresh) in
        left-at
        (first_at_end single (no-pairs P (u ++ b ∷ []) id single none)
        (record {
          holds = final-pair last;
          least = λ m pair. within single none m pair;
        }))
        (none (length u)),
    λ left.
        let (report, fresh) = at-left left in
        let nothing : (m : ℕ) → IsPair P (u ++ b ∷ []) false id m → ⊥ = no-pair single report fresh in
        and_from ends.before_last (not (is_told true kept ends))
        (pair-final (report-pair_behind true (length u) report) (nothing (length u)))
        (not_from_false (is_told true kept ends)
        (false_from_ne_true (is_told true kept ends) (λ told.
        let (to, earlier) = (told-single single).0 told in nothing to (report-pair_behind false to earlier)))),
  )
    where
      within : is_single P id ≡ true → ((to : ℕ) → IsReport P (u ++ b ∷ []) false id to → ⊥) → (m : ℕ) → IsPair P (u ++ b ∷ []) true id m → length u ≤ m
      within single none m pair = elim (cases_lt m (length u)) [
        | inl below ↦
            absurd (no-pairs P (u ++ b ∷ []) id single none m
            (pair-inside P (u ++ b ∷ []) id m (omega (arith, length-behind)) pair))
        | inr above ↦ above
      ]

      no-pair : is_single P id ≡ true → IsReport P (u ++ b ∷ []) true id (length u) → (IsReport P (u ++ b ∷ []) false id (length u) → ⊥) → (m : ℕ) → IsPair P (u ++ b ∷ []) false id m → ⊥
      no-pair single (each many pair) fresh = absurd (single-many P id single many)
      no-pair single (first _ least) fresh = absurd (fresh (first single least))
      no-pair single (first_at_end _ nothing least) fresh = nothing

-- What one byte settles of an identifier, from what was kept of it and its ends about the byte.
pub byte-settled : (P : List Pattern) (u : List ℕ) (b id : ℕ) (kept : Kept) (ends : Ends) → IsKept P u id kept → AreEnds P u b id ends → IsSettled P u b id (is_single P id) kept ends
byte-settled P u b id kept ends is are = record {
  kept = record {
    told = told-settled P u b id kept ends is are (is_single P id) refl;
    here = here-settled P u b id kept ends is are (is_single P id) refl;
    last = last-settled P u b id kept ends is are (is_single P id) refl;
  };
  before = before-settled P u b id kept ends is are (is_single P id) refl;
  behind = behind-settled P u b id kept ends is are (is_single P id) refl;
}

-- the end
module _ (P : List Pattern) (w : List ℕ) (id : ℕ) (kept : Kept) (at_end : Bool) (is : IsKept P w id kept) (ends : (at_end ≡ true) ↔ HasEndHere P id w after.End) where
  end-told_by : (single : Bool) → is_single P id ≡ single → (tells_end single kept at_end ≡ true) ↔ (IsReport P w true id (length w) × (IsReport P w false id (length w) → ⊥))
  end-told_by false many = (
    λ tells.
        let (end, fresh) = and_parts at_end (not kept.here) tells in (
          each many ((pair-end P w id).1 (ends.0 end)),
          λ report. both_ways kept.here (not-true kept.here fresh) (is.here.1 report),
        ),
    λ (report, fresh).
        and_from at_end (not kept.here)
        (ends.1 ((pair-end P w id).0 (report-pair_now P w true id (length w) report)))
        (not_from_false kept.here (false_from_ne_true kept.here (λ here. fresh (is.here.0 here)))),
  )
  end-told_by true single = (
    λ tells.
        let (end, fresh) = and_parts at_end (not (kept.told || kept.last)) tells in
        let (none, none-last) = or_parts kept.told kept.last (not-true (kept.told || kept.last) fresh) in
        let never : (to : ℕ) → IsReport P w false id to → ⊥ = λ to report. both_ways kept.told none ((is.told single).1 (to, report)) in (
          first_at_end single (no-pairs P w id single never)
              (record {
                holds = (pair-end P w id).1 (ends.0 end);
                least = λ m pair. behind single never none-last m pair;
              }),
          never (length w),
        ),
    λ (report, fresh). at_last single report fresh,
  )
    where
      least-inside : is_single P id ≡ true → ((to : ℕ) → IsReport P w false id to → ⊥) → (m : ℕ) → IsPair P w true id m → length w ≤ m + 1
      least-inside single never m pair = elim (cases_lt (m + 1) (length w)) [
        | inl below ↦ absurd (no-pairs P w id single never m (pair-inside P w id m below pair))
        | inr above ↦ above
      ]

      behind : is_single P id ≡ true → ((to : ℕ) → IsReport P w false id to → ⊥) → kept.last ≡ false → (m : ℕ) → IsPair P w true id m → length w ≤ m
      behind single never none-last m pair = elim (cases_lt m (length w)) [
        | inl below ↦
            let above : length w ≤ m + 1 = least-inside single never m pair in
            absurd (both_ways kept.last none-last
            (is.last.1
            (record {
              to = m;
              before = omega arith;
              at_end =
                  first_at_end single (no-pairs P w id single never)
                  (record {
                    holds = pair;
                    least = λ k other. let over : length w ≤ k + 1 = least-inside single never k other in omega arith;
                  });
              not_yet = never m;
            })))
        | inr above ↦ above
      ]

      at_last : is_single P id ≡ true → IsReport P w true id (length w) → (IsReport P w false id (length w) → ⊥) → tells_end true kept at_end ≡ true
      at_last single (each many pair) fresh = absurd (single-many P id single many)
      at_last single (first _ least) fresh = absurd (fresh (first single least))
      at_last single (first_at_end _ nothing least) fresh =
          and_from at_end (not (kept.told || kept.last))
          (ends.1 ((pair-end P w id).0 least.holds))
          (not_from_false (kept.told || kept.last)
          (or_from kept.told kept.last
          (false_from_ne_true kept.told (λ told.
          let (to, report) = (is.told single).0 told in nothing to (report-pair_now P w false id to report)))
          (false_from_ne_true kept.last (λ last.
          let left : IsLeftToEnd P w id = is.last.0 last in
          let above : length w ≤ left.to = least.least left.to (report-pair_now P w true id left.to left.at_end) in
          omega (arith, left.before)))))

-- What the end settles of the pair that ends there.
pub end-settled : (P : List Pattern) (w : List ℕ) (id : ℕ) (kept : Kept) (at_end : Bool) → IsKept P w id kept → ((at_end ≡ true) ↔ HasEndHere P id w after.End) →
    (tells_end (is_single P id) kept at_end ≡ true) ↔ (IsReport P w true id (length w) × (IsReport P w false id (length w) → ⊥))
end-settled P w id kept at_end is ends = end-told_by P w id kept at_end is ends (is_single P id) refl

-- What one more byte tells of an identifier, from what is known of it and its ends about the byte.
use Rattle.std.proofs.Common.{◌≡◌, ℕ, zero, suc, ◌+◌, ◌<◌, ◌≤◌, ◌⊎◌, ◌↔◌, Bool, true, false, not, ◌||◌, ◌&&◌, List, [], ◌∷◌, ◌++◌, length, refl, sym, subst, inl, inr, arith, length-append}
use Rattle.std.proofs.lemmas.Bool.{both_ways, not-true, and_parts, and_from, and_right, or_cases, or_parts, or_from, or_left, or_right, not_from_false, not_from_true, false_from_ne_true, cases_Bool, cases_lt, cases_eq}
use Rattle.hs_base.specs.Assertions.{line_feed}
use Rattle.hs_base.specs.Patterns.{Pattern, is_single, IsPair}
use Rattle.hs_base.specs.Reports.{IsLeast, IsReport, each, first, first_at_end}
use Rattle.hs_base.specs.Settling.{Kept, IsLeftToEnd, IsKept, Ends, tells_before, tells_behind, is_told, settled}
use Rattle.hs_base.proofs.ReportLemmas.{pairs-shorter, reports-longer, report-pair_now}
use Rattle.hs_base.proofs.EndLemmas.{pair-before_byte, pair-before_final_newline, pair-before_end, pair-behind_byte, pair-inside}
use Rattle.hs_base.proofs.SettlingLemmas.{only-two}
use Rattle.hs_reports.specs.Heard.{IsHeard, AreSureEnds, IsFinal, IsToldBy}

-- single identifiers
module _ (P : List Pattern) (id : ℕ) (single : is_single P id ≡ true) where
  least-report : (w : List ℕ) (to : ℕ) → IsReport P w false id to → IsLeast (IsPair P w false id) to
  least-report w to (each many pair) = absurd (both_ways (is_single P id) many single)
  least-report w to (first _ least) = least
  least-report w to (first_at_end _ nothing least) = absurd (nothing to least.holds)

  -- one pair at most is reported
  report-once : (w : List ℕ) (to to' : ℕ) → IsReport P w false id to → IsReport P w false id to' → to ≡ to'
  report-once w to to' report report' =
      let least : IsLeast (IsPair P w false id) to = least-report w to report in
      let least' : IsLeast (IsPair P w false id) to' = least-report w to' report' in
      let below : to ≤ to' = least.least to' least'.holds in
      let above : to' ≤ to = least'.least to least.holds in
      omega arith

  -- where nothing is reported there is no pair
  unreported-below : (w : List ℕ) → ((to : ℕ) → IsReport P w false id to → ⊥) → (n m : ℕ) → m < n → IsPair P w false id m → ⊥
  unreported-below w never zero m below pair = omega arith
  unreported-below w never (suc n) m below pair =
      never m
      (first single
      (record {
        holds = pair;
        least = λ k other. elim (cases_lt k m) [
          | inl less ↦ absurd (unreported-below w never n k (omega arith) other)
          | inr above ↦ above
        ];
      }))

  unreported : (w : List ℕ) → ((to : ℕ) → IsReport P w false id to → ⊥) → (m : ℕ) → IsPair P w false id m → ⊥
  unreported w never m pair = unreported-below w never (m + 1) m (omega arith) pair

  -- where nothing is reported of u, the first pair from its length on is reported
  first-new : (u v : List ℕ) (to : ℕ) → ((k : ℕ) → IsReport P u false id k → ⊥) → length u ≤ to → IsPair P (u ++ v) false id to →
      ((m : ℕ) → length u ≤ m → m < to → IsPair P (u ++ v) false id m → ⊥) → IsReport P (u ++ v) false id to
  first-new u v to never above pair none =
      first single
      (record {
        holds = pair;
        least = λ m other. elim (cases_lt m to) [
          | inl below ↦ elim (cases_lt m (length u)) [
            | inl inside ↦ absurd (unreported u never m (pairs-shorter P u v id m inside other))
            | inr behind ↦ absurd (none m behind below other)
          ]
          | inr least ↦ least
        ];
      })

-- what is left to the end is the pair before the last byte
left-at : (P : List Pattern) (u : List ℕ) (b id : ℕ) → IsReport P (u ++ b ∷ []) true id (length u) → (IsReport P (u ++ b ∷ []) false id (length u) → ⊥) → IsLeftToEnd P (u ++ b ∷ []) id
left-at P u b id report fresh = record {
  to = length u;
  before = omega (arith, length-append u (b ∷ []));
  at_end = report;
  not_yet = fresh;
}

at-left : (P : List Pattern) (u : List ℕ) (b id : ℕ) → IsLeftToEnd P (u ++ b ∷ []) id → IsReport P (u ++ b ∷ []) true id (length u) × (IsReport P (u ++ b ∷ []) false id (length u) → ⊥)
at-left P u b id left =
    let here : left.to ≡ length u = omega (arith, left.before, length-append u (b ∷ [])) in (
      subst (IsReport P (u ++ b ∷ []) true id) here left.at_end,
      subst (λ to. IsReport P (u ++ b ∷ []) false id to → ⊥) here left.not_yet,
    )

-- one byte
module _ (P : List Pattern) (u : List ℕ) (b id : ℕ) (kept : Kept) (ends : Ends) (is : IsHeard P u id kept) (are : AreSureEnds P u b id ends) where
  report-stays : (to : ℕ) → IsReport P u false id to → IsReport P (u ++ b ∷ []) false id to
  report-stays to report = reports-longer P u (b ∷ []) false id to report

  none-here : kept.here ≡ false → IsReport P u false id (length u) → ⊥
  none-here none report = both_ways kept.here none (is.here.1 report)

  pair-before : IsPair P (u ++ b ∷ []) false id (length u) → ends.before ≡ true
  pair-before pair = are.before.1 ((pair-before_byte P u b id).0 pair)

  pair-behind : IsPair P (u ++ b ∷ []) false id (length u + 1) → ends.behind ≡ true
  pair-behind pair = are.behind.1 ((pair-behind_byte P u b id).0 pair)

  before-pair : ends.before ≡ true → IsPair P (u ++ b ∷ []) false id (length u)
  before-pair end = (pair-before_byte P u b id).1 (are.before.0 end)

  behind-pair : ends.behind ≡ true → IsPair P (u ++ b ∷ []) false id (length u + 1)
  behind-pair end = (pair-behind_byte P u b id).1 (are.behind.0 end)

  report-pair : (to : ℕ) → IsReport P (u ++ b ∷ []) false id to → IsPair P (u ++ b ∷ []) false id to
  report-pair to report = report-pair_now P (u ++ b ∷ []) false id to report

  -- of a single identifier of which a pair was reported, no other is
  module _ (single : is_single P id ≡ true) where
    untold : kept.told ≡ false → (to : ℕ) → IsReport P u false id to → ⊥
    untold none to report = both_ways kept.told none ((is.told single).1 (to, report))

    -- what is reported was reported already
    told-earlier : kept.told ≡ true → (to : ℕ) → IsReport P (u ++ b ∷ []) false id to → IsReport P u false id to
    told-earlier told to report =
        let (to', earlier) = (is.told single).0 told in
        subst (IsReport P u false id) (report-once P id single (u ++ b ∷ []) to' to (report-stays to' earlier) report) earlier

    none-told : (to : ℕ) → IsReport P (u ++ b ∷ []) false id to → (IsReport P u false id to → ⊥) → kept.told ≡ false
    none-told to report fresh = false_from_ne_true kept.told (λ told. fresh (told-earlier told to report))

    -- no report ends behind its stream
    not-behind : IsReport P u false id (length u + 1) → ⊥
    not-behind report = let pair : IsPair P u false id (length u + 1) = report-pair_now P u false id (length u + 1) report in omega (arith, pair.within)

    before-single : (tells_before true kept ends ≡ true) ↔ (IsReport P (u ++ b ∷ []) false id (length u) × (IsReport P u false id (length u) → ⊥))
    before-single = (
      λ tells.
          let (end, fresh) = and_parts ends.before (not kept.told) tells in
          let never : (to : ℕ) → IsReport P u false id to → ⊥ = untold (not-true kept.told fresh) in (
            first-new P id single u (b ∷ []) (length u) never (omega arith) (before-pair end) (λ m above below. absurd (omega arith)),
            never (length u),
          ),
      λ (report, fresh).
          and_from ends.before (not kept.told)
          (pair-before (report-pair (length u) report))
          (not_from_false kept.told (none-told (length u) report fresh)),
    )

    behind-single : (tells_behind true kept ends ≡ true) ↔ IsReport P (u ++ b ∷ []) false id (length u + 1)
    behind-single = (
      λ tells.
          let (end, fresh) = and_parts ends.behind (not (kept.told || tells_before true kept ends)) tells in
          let (none, none') = or_parts kept.told (tells_before true kept ends) (not-true (kept.told || tells_before true kept ends) fresh) in
          first-new P id single u (b ∷ []) (length u + 1) (untold none) (omega arith) (behind-pair end) (not-before none none'),
      λ report.
          let none : kept.told ≡ false = none-told (length u + 1) report not-behind in
          and_from ends.behind (not (kept.told || tells_before true kept ends))
          (pair-behind (report-pair (length u + 1) report))
          (not_from_false (kept.told || tells_before true kept ends)
          (or_from kept.told (tells_before true kept ends) none
          (false_from_ne_true (tells_before true kept ends) (λ tells.
          let same : length u ≡ length u + 1 = report-once P id single (u ++ b ∷ []) (length u) (length u + 1) (before-single.0 tells).0 report in
          omega arith)))),
    )
      where
        not-before : kept.told ≡ false → tells_before true kept ends ≡ false → (m : ℕ) → length u ≤ m → m < length u + 1 → IsPair P (u ++ b ∷ []) false id m → ⊥
        not-before none none' m above below pair =
            let here : m ≡ length u = omega arith in
            let end : ends.before ≡ true = pair-before (subst (IsPair P (u ++ b ∷ []) false id) here pair) in
            both_ways (tells_before true kept ends) none' (and_from ends.before (not kept.told) end (not_from_false kept.told none))

    told-single : (is_told true kept ends ≡ true) ↔ ((to : ℕ) × IsReport P (u ++ b ∷ []) false id to)
    told-single = (
      λ told. elim (or_cases kept.told (tells_before true kept ends || tells_behind true kept ends) told) [
        | inl earlier ↦ let (to, report) = (is.told single).0 earlier in (to, report-stays to report)
        | inr new ↦ elim (or_cases (tells_before true kept ends) (tells_behind true kept ends) new) [
          | inl before ↦ (length u, (before-single.0 before).0)
          | inr behind ↦ (length u + 1, behind-single.0 behind)
        ]
      ],
      λ (to, report). elim (cases_Bool kept.told) [
        | inl told ↦ or_left kept.told (tells_before true kept ends || tells_behind true kept ends) told
        | inr none ↦
            or_right kept.told (tells_before true kept ends || tells_behind true kept ends)
            (new none to report (only-two P u b id to report (untold none to)))
      ],
    )
      where
        new : kept.told ≡ false → (to : ℕ) → IsReport P (u ++ b ∷ []) false id to → (to ≡ length u) ⊎ (to ≡ length u + 1) →
            (tells_before true kept ends || tells_behind true kept ends) ≡ true
        new none to report (inl here) =
            or_left (tells_before true kept ends) (tells_behind true kept ends)
            (before-single.1 (subst (IsReport P (u ++ b ∷ []) false id) here report, untold none (length u)))
        new none to report (inr here) =
            or_right (tells_before true kept ends) (tells_behind true kept ends)
            (behind-single.1 (subst (IsReport P (u ++ b ∷ []) false id) here report))

  before-told : (single : Bool) → is_single P id ≡ single →
      (tells_before single kept ends ≡ true) ↔ (IsReport P (u ++ b ∷ []) false id (length u) × (IsReport P u false id (length u) → ⊥))
  before-told true single = before-single single
  before-told false many = (
    λ tells.
        let (end, fresh) = and_parts ends.before (not kept.here) tells in
        (each many (before-pair end), none-here (not-true kept.here fresh)),
    λ (report, fresh).
        and_from ends.before (not kept.here)
        (pair-before (report-pair (length u) report))
        (not_from_false kept.here (false_from_ne_true kept.here (λ here. fresh (is.here.0 here)))),
  )

  behind-told : (single : Bool) → is_single P id ≡ single → (tells_behind single kept ends ≡ true) ↔ IsReport P (u ++ b ∷ []) false id (length u + 1)
  behind-told true single = behind-single single
  behind-told false many = (
    λ tells. each many (behind-pair (and_parts ends.behind true tells).0),
    λ report. and_from ends.behind true (pair-behind (report-pair (length u + 1) report)) refl,
  )

  told-told : (single : Bool) → is_single P id ≡ single → is_single P id ≡ true → (is_told single kept ends ≡ true) ↔ ((to : ℕ) × IsReport P (u ++ b ∷ []) false id to)
  told-told true same single = told-single single
  told-told false many single = absurd (both_ways (is_single P id) many single)

  here-told : (single : Bool) → is_single P id ≡ single → (tells_behind single kept ends ≡ true) ↔ IsReport P (u ++ b ∷ []) false id (length (u ++ b ∷ []))
  here-told single same = (
    λ tells. subst (IsReport P (u ++ b ∷ []) false id) (sym (length-append u (b ∷ []))) ((behind-told single same).0 tells),
    λ report. (behind-told single same).1 (subst (IsReport P (u ++ b ∷ []) false id) (length-append u (b ∷ [])) report),
  )

  -- a line feed that ends the stream: a match before it that the end would decide
  module _ (final : IsFinal P u b id ends) where
    final-pair : ends.before_last ≡ true → IsPair P (u ++ b ∷ []) true id (length u)
    final-pair last =
        let (feed, here) = final.0 last in
        (pair-before_final_newline P u b id feed).1 here

    pair-final : IsPair P (u ++ b ∷ []) true id (length u) → (IsPair P (u ++ b ∷ []) false id (length u) → ⊥) → ends.before_last ≡ true
    pair-final pair fresh = elim (cases_eq b line_feed) [
      | inl feed ↦ final.1 (feed, (pair-before_final_newline P u b id feed).0 pair)
      | inr other ↦ absurd (fresh (pair-before_end P u b id other pair))
    ]

    -- of an identifier that isn't single the pair before the byte is reported, by the values
    shown-many : is_single P id ≡ false → ((kept.here || tells_before false kept ends) ≡ true) ↔ IsReport P (u ++ b ∷ []) false id (length u)
    shown-many many = (
      λ told. elim (or_cases kept.here (tells_before false kept ends) told) [
        | inl here ↦ report-stays (length u) (is.here.0 here)
        | inr tells ↦ ((before-told false many).0 tells).0
      ],
      λ report. elim (cases_Bool kept.here) [
        | inl here ↦ or_left kept.here (tells_before false kept ends) here
        | inr none ↦ or_right kept.here (tells_before false kept ends) ((before-told false many).1 (report, none-here none))
      ],
    )

    last-many : is_single P id ≡ false → ((ends.before_last && not (kept.here || tells_before false kept ends)) ≡ true) ↔ IsLeftToEnd P (u ++ b ∷ []) id
    last-many many = (
      λ tells.
          let (last, fresh) = and_parts ends.before_last (not (kept.here || tells_before false kept ends)) tells in
          left-at P u b id
          (each many (final-pair last))
          (λ report. both_ways (kept.here || tells_before false kept ends) (not-true (kept.here || tells_before false kept ends) fresh) ((shown-many many).1 report)),
      λ left.
          let (report, fresh) = at-left P u b id left in
          and_from ends.before_last (not (kept.here || tells_before false kept ends))
          (pair-final (report-pair_now P (u ++ b ∷ []) true id (length u) report) (λ pair. fresh (each many pair)))
          (not_from_false (kept.here || tells_before false kept ends)
          (false_from_ne_true (kept.here || tells_before false kept ends) (λ told. fresh ((shown-many many).0 told)))),
    )

    last-single : is_single P id ≡ true → ((ends.before_last && not (is_told true kept ends)) ≡ true) ↔ IsLeftToEnd P (u ++ b ∷ []) id
    last-single single = (
      λ tells.
          let (last, fresh) = and_parts ends.before_last (not (is_told true kept ends)) tells in
          let never : (to : ℕ) → IsReport P (u ++ b ∷ []) false id to → ⊥ =
          λ to report. both_ways (is_told true kept ends) (not-true (is_told true kept ends) fresh) ((told-single single).1 (to, report)) in
          left-at P u b id
          (first_at_end single (unreported P id single (u ++ b ∷ []) never)
          (record {
            holds = final-pair last;
            least = λ m pair. within never m pair;
          }))
          (never (length u)),
      λ left.
          let (report, fresh) = at-left P u b id left in
          let nothing : (m : ℕ) → IsPair P (u ++ b ∷ []) false id m → ⊥ = no-pair report fresh in
          and_from ends.before_last (not (is_told true kept ends))
          (pair-final (report-pair_now P (u ++ b ∷ []) true id (length u) report) (nothing (length u)))
          (not_from_false (is_told true kept ends)
          (false_from_ne_true (is_told true kept ends) (λ told.
          let (to, earlier) = (told-single single).0 told in nothing to (report-pair to earlier)))),
    )
      where
        within : ((to : ℕ) → IsReport P (u ++ b ∷ []) false id to → ⊥) → (m : ℕ) → IsPair P (u ++ b ∷ []) true id m → length u ≤ m
        within never m pair = elim (cases_lt m (length u)) [
          | inl below ↦
              absurd (unreported P id single (u ++ b ∷ []) never m
              (pair-inside P (u ++ b ∷ []) id m (omega (arith, length-append u (b ∷ []))) pair))
          | inr above ↦ above
        ]

        no-pair : IsReport P (u ++ b ∷ []) true id (length u) → (IsReport P (u ++ b ∷ []) false id (length u) → ⊥) → (m : ℕ) → IsPair P (u ++ b ∷ []) false id m → ⊥
        no-pair (each many pair) fresh = absurd (both_ways (is_single P id) many single)
        no-pair (first _ least) fresh = absurd (fresh (first single least))
        no-pair (first_at_end _ nothing least) fresh = nothing

    last-told : (single : Bool) → is_single P id ≡ single → ((settled single kept ends).last ≡ true) ↔ IsLeftToEnd P (u ++ b ∷ []) id
    last-told true single = last-single single
    last-told false many = last-many many

-- The identifier is single, and a pair of it is reported: no other is, wherever its matches end.
pub record IsSpent (P : List Pattern) (u : List ℕ) (id : ℕ) : Type 0 where
  pub single : is_single P id ≡ true
  pub to : ℕ
  pub reported : IsReport P u false id to

pub spent-longer : (P : List Pattern) (u v : List ℕ) (id : ℕ) → IsSpent P u id → IsSpent P (u ++ v) id
spent-longer P u v id spent = record { single = spent.single; to = spent.to; reported = reports-longer P u v false id spent.to spent.reported }

-- what is reported of it was reported already
pub spent-earlier : (P : List Pattern) (u v : List ℕ) (id to : ℕ) → IsSpent P u id → IsReport P (u ++ v) false id to → IsReport P u false id to
spent-earlier P u v id to spent report =
    subst (IsReport P u false id) (report-once P id spent.single (u ++ v) spent.to to (reports-longer P u v false id spent.to spent.reported) report) spent.reported

pub spent-none : (P : List Pattern) (u : List ℕ) (b id : ℕ) → IsSpent P u id → IsReport P (u ++ b ∷ []) false id (length u + 1) → ⊥
spent-none P u b id spent report =
    let pair : IsPair P u false id (length u + 1) = report-pair_now P u false id (length u + 1) (spent-earlier P u (b ∷ []) id (length u + 1) spent report) in
    omega (arith, pair.within)

-- One byte tells nothing of it, whatever its ends are said to be.
pub spent-tells : (P : List Pattern) (u : List ℕ) (b id : ℕ) (kept : Kept) (ends : Ends) → IsHeard P u id kept → IsSpent P u id → IsToldBy P u b id (is_single P id) kept ends
spent-tells P u b id kept ends is spent =
    subst (λ s. IsToldBy P u b id s kept ends) (sym spent.single)
    (record {
      heard = record {
        told = λ single. (
          λ told. (spent.to, reports-longer P u (b ∷ []) false id spent.to spent.reported),
          λ some. or_left kept.told (tells_before true kept ends || tells_behind true kept ends) told,
        );
        here = (
          λ tells. absurd (both_ways (tells_behind true kept ends) no-behind tells),
          λ report. absurd (spent-none P u b id spent (subst (IsReport P (u ++ b ∷ []) false id) (length-append u (b ∷ [])) report)),
        );
      };
      before = (
        λ tells. absurd (both_ways (tells_before true kept ends) no-before tells),
        λ (report, fresh). absurd (fresh (spent-earlier P u (b ∷ []) id (length u) spent report)),
      );
      behind = (
        λ tells. absurd (both_ways (tells_behind true kept ends) no-behind tells),
        λ report. absurd (spent-none P u b id spent report),
      );
    })
  where
    told : kept.told ≡ true
    told = (is.told spent.single).1 (spent.to, spent.reported)

    no-before : tells_before true kept ends ≡ false
    no-before = and_right ends.before (not kept.told) (not_from_true kept.told told)

    no-behind : tells_behind true kept ends ≡ false
    no-behind =
        and_right ends.behind (not (kept.told || tells_before true kept ends))
        (not_from_true (kept.told || tells_before true kept ends) (or_left kept.told (tells_before true kept ends) told))

-- What one byte tells of an identifier.
pub byte-tells : (P : List Pattern) (u : List ℕ) (b id : ℕ) (kept : Kept) (ends : Ends) → IsHeard P u id kept → AreSureEnds P u b id ends → IsToldBy P u b id (is_single P id) kept ends
byte-tells P u b id kept ends is are = record {
  heard = record {
    told = told-told P u b id kept ends is are (is_single P id) refl;
    here = here-told P u b id kept ends is are (is_single P id) refl;
  };
  before = before-told P u b id kept ends is are (is_single P id) refl;
  behind = behind-told P u b id kept ends is are (is_single P id) refl;
}

-- What it leaves to the end.
pub byte-leaves : (P : List Pattern) (u : List ℕ) (b id : ℕ) (kept : Kept) (ends : Ends) → IsHeard P u id kept → AreSureEnds P u b id ends → IsFinal P u b id ends →
    ((settled (is_single P id) kept ends).last ≡ true) ↔ IsLeftToEnd P (u ++ b ∷ []) id
byte-leaves P u b id kept ends is are final = last-told P u b id kept ends is are final (is_single P id) refl

pub kept-heard : (P : List Pattern) (u : List ℕ) (id : ℕ) (kept : Kept) → IsKept P u id kept ↔ (IsHeard P u id kept × ((kept.last ≡ true) ↔ IsLeftToEnd P u id))
kept-heard P u id kept = (
  λ is. (record { told = is.told; here = is.here }, is.last),
  λ (is, last). record { told = is.told; here = is.here; last = last },
)

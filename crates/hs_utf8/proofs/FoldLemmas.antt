-- The code points that share a simple folding with a member, from the pairs of the table.
use Rattle.std.proofs.Common.{◌≡◌, ◌↔◌, ℕ, zero, suc, ◌<◌, ◌≤◌, Bool, true, false, ◌&&◌, ◌||◌, ◌==◌, List, [], ◌∷◌, length, Contains, refl, sym, ap, ap₂, ◌∙◌, inl, inr, true≢false, eqb-true, eq-eqb, le_of_suc-le-suc, suc-le-suc, zero-le, not-suc-le-zero}
use Rattle.std.proofs.lemmas.Bool.{and_parts, or_cases, cases_eq, cases_lt}
use Rattle.unicode.specs.CaseFolding.{simple_fold, fold_pairs, IsFoldPairs}
use Rattle.ucd_case.specs.FoldOtherRows.{fold_other_rows}
use Rattle.regex_class.specs.Ranges.{Range, in_ranges, in_image, IsCanonical, HasExactly, KeysRise}
use Rattle.regex_class.proofs.RangesLemmas.{same_members-same, in_ranges-above_max, keys_rise_from, KeysRise-from_test}
use Rattle.hs_utf8.specs.Folds.{SharesFolding, AreFolds}

-- the table is in order
pub rising_pairs : KeysRise fold_pairs
unfolding keys_rise_from fold_pairs fold_other_rows
rising_pairs = KeysRise-from_test 0 fold_pairs refl

or-right : (x y : Bool) → y ≡ true → (x || y) ≡ true
or-right true y is = refl
or-right false y is = is

or-left : (x y : Bool) → x ≡ true → (x || y) ≡ true
or-left true y is = refl
or-left false y is = absurd (true≢false (sym is))

-- a pair that leads from a member to the code point
image-found : (pairs : List (ℕ × ℕ)) (rs : List Range) (c : ℕ) → in_image pairs rs c ≡ true →
    (m : ℕ) × Contains pairs (m, c) × (in_ranges rs m ≡ true)
unfolding in_image
image-found [] rs c is = absurd (true≢false (sym is))
image-found (p ∷ pairs) rs c is = elim (or_cases (in_ranges rs p.0 && (p.1 == c)) (in_image pairs rs c) is) [
  | inl here ↦
      let parts = and_parts (in_ranges rs p.0) (p.1 == c) here in
      let second : p.1 ≡ c = eqb-true p.1 c parts.1 in
      let inside : 0 < length (p ∷ pairs) = suc-le-suc zero-le in
      (p.0, (0, inside, ap (λ d. (p.0, d)) second), parts.0)
  | inr there ↦
      let (m, (k, within, same), member) = image-found pairs rs c there in
      (m, (suc k, suc-le-suc within, same), member)
]

image-of : (pairs : List (ℕ × ℕ)) (rs : List Range) (m c : ℕ) → Contains pairs (m, c) → in_ranges rs m ≡ true →
    in_image pairs rs c ≡ true
unfolding in_image
image-of [] rs m c (k, within, same) member = absurd (not-suc-le-zero within)
image-of (p ∷ pairs) rs m c (zero, within, same) member =
    let first : p.0 ≡ m = ap (λ (q : ℕ × ℕ). q.0) same in
    let second : p.1 ≡ c = ap (λ (q : ℕ × ℕ). q.1) same in
    or-left (in_ranges rs p.0 && (p.1 == c)) (in_image pairs rs c)
    (ap₂ (λ a b. a && b) (ap (in_ranges rs) first ∙ member) (eq-eqb p.1 c second))
image-of (p ∷ pairs) rs m c (suc k, within, same) member =
    or-right (in_ranges rs p.0 && (p.1 == c)) (in_image pairs rs c)
    (image-of pairs rs m c (k, le_of_suc-le-suc within, same) member)

pub are_folds : (rs ranges all folds pairs : List (ℕ × ℕ)) → IsCanonical rs → IsCanonical folds → HasExactly rs (in_ranges ranges) →
    ((c : ℕ) → in_ranges all c ≡ (in_ranges rs c || in_image pairs rs c)) → HasExactly folds (in_ranges all) → IsFoldPairs pairs →
    AreFolds ranges folds
are_folds rs ranges all folds pairs order canonical exact image whole meaning = record { canonical = canonical; exactly = exactly }
  where
    bounded : (m : ℕ) → in_ranges rs m ≡ true → m ≤ 0x10FFFF
    bounded m is = elim (cases_lt 0x10FFFF m) [
      | inl above ↦ absurd (true≢false (sym is ∙ in_ranges-above_max rs m order above))
      | inr within ↦ within
    ]

    shares : (m c : ℕ) → in_ranges rs m ≡ true → simple_fold m ≡ simple_fold c → SharesFolding ranges c
    shares m c is same = record {
      member = m;
      within = bounded m is;
      is_member = sym (exact m (bounded m is)) ∙ is;
      same = same;
    }

    to : (c : ℕ) → c ≤ 0x10FFFF → in_ranges folds c ≡ true → SharesFolding ranges c
    to c within is = elim (or_cases (in_ranges rs c) (in_image pairs rs c) (sym (whole c within ∙ image c) ∙ is)) [
      | inl member ↦ shares c c member refl
      | inr found ↦ let (m, pair, member) = image-found pairs rs c found in shares m c member (((meaning m c).0 pair).1)
    ]

    from : (c : ℕ) → c ≤ 0x10FFFF → SharesFolding ranges c → in_ranges folds c ≡ true
    from c within shared =
        let member : in_ranges rs shared.member ≡ true = exact shared.member shared.within ∙ shared.is_member in
        whole c within ∙ image c ∙ elim (cases_eq shared.member c) [
          | inl same ↦ or-left (in_ranges rs c) (in_image pairs rs c) (ap (in_ranges rs) (sym same) ∙ member)
          | inr other ↦
              or-right (in_ranges rs c) (in_image pairs rs c)
              (image-of pairs rs shared.member c ((meaning shared.member c).1 (other, shared.same)) member)
        ]

    exactly : (c : ℕ) → c ≤ 0x10FFFF → (in_ranges folds c ≡ true) ↔ SharesFolding ranges c
    exactly c within = (to c within, from c within)

same-truth : (a b : Bool) → (a ≡ true → b ≡ true) → (b ≡ true → a ≡ true) → a ≡ b
same-truth true b to from = sym (to refl)
same-truth false true to from = from refl
same-truth false false to from = refl

-- there is one list of them
pub folds-once : (ranges xs ys : List (ℕ × ℕ)) → AreFolds ranges xs → AreFolds ranges ys → xs ≡ ys
folds-once ranges xs ys one two =
    same_members-same xs ys one.canonical two.canonical
    (λ c within. same-truth (in_ranges xs c) (in_ranges ys c)
    (λ is. (two.exactly c within).1 ((one.exactly c within).0 is))
    (λ is. (one.exactly c within).1 ((two.exactly c within).0 is)))

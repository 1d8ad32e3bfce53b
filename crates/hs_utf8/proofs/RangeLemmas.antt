-- The runs of ranges that rise, one range after the other.
use Rattle.std.proofs.Common.{◌≡◌, ℕ, zero, suc, ◌+◌, ◌<◌, ◌≤◌, Bool, true, false, ◌&&◌, ◌||◌, max, List, [], ◌∷◌, ◌++◌, drop, length, refl, sym, ap, ap₂, subst, ◌∙◌, inl, append_assoc, append-nil, add-one, drop-cons, drop_of_length-le, not-suc-le-zero, le_of_suc-le-suc, arith}
use Rattle.std.proofs.lemmas.Bool.{and_parts}
use Rattle.hs_base.specs.Trees.{Tree}
use Rattle.regex_class.specs.Ranges.{Range, in_range, in_ranges, range_at, rises_from, IsCanonical}
use Rattle.regex_class.proofs.RangesLemmas.{in_range_tells, in_ranges-nil, in_ranges-cons, in_ranges-outside, rises_from-at}
use Rattle.hs_utf8.specs.Members.{has_encoding, is_member}
use Rattle.hs_utf8.specs.Runs.{AreRuns}
use Rattle.hs_utf8.specs.Lowered.{ascii_end}
use Rattle.hs_utf8.specs.Steps.{IsStretch, AddsRuns, AddsRanges, AddsAllRuns}
use Rattle.hs_utf8.proofs.RunLemmas.{runs-lower, runs-raise, runs-same}

and-true : (b : Bool) → (b && true) ≡ b
and-true true = refl
and-true false = refl

pub and-false : (b : Bool) → (b && false) ≡ false
and-false true = refl
and-false false = refl

below-ranges : (n : ℕ) (rs : List Range) (c : ℕ) → rises_from n rs ≡ true → c < n → in_ranges rs c ≡ false
below-ranges n rs c rises below = in_ranges-outside rs c (λ k within. inl (omega (arith, (rises_from-at n rs k rises within).0)))

-- what is in no range is no member
outside : (rs : List Range) (c : ℕ) → in_ranges rs c ≡ false → is_member rs c ≡ false
outside rs c out = ap (λ b. has_encoding c && b) out ∙ and-false (has_encoding c)

drop-rises : (n : ℕ) (rs : List Range) (k : ℕ) → rises_from n rs ≡ true → k < length rs →
    rises_from ((range_at rs k).1 + 2) (drop (suc k) rs) ≡ true
unfolding rises_from
drop-rises n [] k rises within = absurd (not-suc-le-zero within)
drop-rises n (r ∷ rs) zero rises within = (and_parts _ _ rises).1
drop-rises n (r ∷ rs) (suc k) rises within =
    drop-rises (r.1 + 2) rs k (and_parts _ _ rises).1 (le_of_suc-le-suc within)

module _ (r : Range) (rest : List Range) (order : r.0 ≤ r.1) (rises : rises_from (r.1 + 2) rest ≡ true) where
  out_of_both : (c : ℕ) → in_range r c ≡ false → in_ranges rest c ≡ false → is_member (r ∷ rest) c ≡ false
  out_of_both c here there = outside (r ∷ rest) c (in_ranges-cons r rest c ∙ ap₂ (λ a b. a || b) here there)

  -- the first range is a stretch of members
  first_stretch : IsStretch (is_member (r ∷ rest)) r.0 r.1
  first_stretch = record {
    inside = λ c low high.
        let here : in_range r c ≡ true = grind (arith, in_range_tells r c) in
        ap (λ b. has_encoding c && b) (in_ranges-cons r rest c ∙ ap (λ b. b || in_ranges rest c) here) ∙ and-true (has_encoding c);
    behind =
        let here : in_range r (r.1 + 1) ≡ false = grind (arith, in_range_tells r (r.1 + 1)) in
        out_of_both (r.1 + 1) here (below-ranges (r.1 + 2) rest (r.1 + 1) rises (omega arith));
  }

  -- behind it the members are those of the other ranges
  others_behind : (c : ℕ) → r.1 < c → is_member rest c ≡ is_member (r ∷ rest) c
  others_behind c behind =
      let here : in_range r c ≡ false = grind (arith, in_range_tells r c) in
      ap (λ b. has_encoding c && b) (sym (in_ranges-cons r rest c ∙ ap (λ b. b || in_ranges rest c) here))

  -- before it there is no member
  none_before : (c : ℕ) → c < r.0 → is_member (r ∷ rest) c ≡ false
  none_before c before =
      let here : in_range r c ≡ false = grind (arith, in_range_tells r c) in
      out_of_both c here (below-ranges (r.1 + 2) rest c rises (omega arith))

  -- its runs, and then those of the other ranges
  runs_more : (added trees : List Tree) →
      ((rest' : List Tree) → AreRuns (is_member (r ∷ rest)) (max (r.1 + 1) ascii_end) rest' →
      AreRuns (is_member (r ∷ rest)) (max r.0 ascii_end) (added ++ rest')) →
      AreRuns (is_member rest) ascii_end trees → AreRuns (is_member (r ∷ rest)) ascii_end (added ++ trees)
  runs_more added trees leads runs =
      let raised = runs-raise (is_member rest) ascii_end (max (r.1 + 1) ascii_end) trees (omega arith)
      (λ c low high. outside rest c (below-ranges (r.1 + 2) rest c rises (omega arith))) runs in
      let same = runs-same (is_member rest) (is_member (r ∷ rest)) (max (r.1 + 1) ascii_end) trees
      (λ c low. others_behind c (omega arith)) raised in
      runs-lower (is_member (r ∷ rest)) ascii_end (max r.0 ascii_end) (added ++ trees) (omega arith)
      (λ c low high. none_before c (omega arith)) (leads trees same)

pub ranges-none : (rs : List Range) (old : List Tree) → AddsRanges rs 0 old old
ranges-none rs old = record { added = []; is = sym (append-nil old); leads = λ rest runs. runs }

-- the runs of one range more
pub ranges-more : (rs : List Range) (k : ℕ) (r : Range) (x y z : List Tree) → IsCanonical rs → k < length rs → range_at rs k ≡ r →
    AddsRanges rs k x y →
    ((member : ℕ → Bool) → IsStretch member r.0 r.1 → AddsRuns member (max r.0 ascii_end) (max (r.1 + 1) ascii_end) y z) →
    AddsRanges rs (k + 1) x z
ranges-more rs k r x y z canonical within is before adds =
    let fits = rises_from-at 0 rs k canonical within in
    let rises : rises_from (r.1 + 2) (drop (suc k) rs) ≡ true =
    subst (λ (s : Range). rises_from (s.1 + 2) (drop (suc k) rs) ≡ true) is (drop-rises 0 rs k canonical within) in
    let order : r.0 ≤ r.1 = subst (λ (s : Range). s.0 ≤ s.1) is fits.1 in
    let cut : drop k rs ≡ r ∷ drop (suc k) rs = drop-cons rs k (0, 0) within ∙ ap (λ s. s ∷ drop (suc k) rs) is in
    let runs = adds (is_member (r ∷ drop (suc k) rs)) (first_stretch r (drop (suc k) rs) order rises) in
    record {
      added = before.added ++ runs.added;
      is = runs.is ∙ ap (λ ts. ts ++ runs.added) before.is ∙ append_assoc x before.added runs.added;
      leads = λ rest there.
          let here : AreRuns (is_member (drop (suc k) rs)) ascii_end rest =
          subst (λ n. AreRuns (is_member (drop n rs)) ascii_end rest) (add-one k) there in
          let more = runs_more r (drop (suc k) rs) order rises runs.added rest runs.leads here in
          let whole = subst (λ ss. AreRuns (is_member ss) ascii_end (runs.added ++ rest)) (sym cut) more in
          subst (AreRuns (is_member rs) ascii_end) (sym (append_assoc before.added runs.added rest))
          (before.leads (runs.added ++ rest) whole);
    }

-- the runs of all ranges
pub ranges-all : (rs : List Range) (k : ℕ) (x y : List Tree) → length rs ≤ k → AddsRanges rs k x y → AddsAllRuns rs x y
ranges-all rs k x y whole adds = record {
  runs = adds.added;
  is = adds.is;
  are_runs =
      let none : AreRuns (is_member (drop k rs)) ascii_end [] =
      λ c low. outside (drop k rs) c (ap (λ ss. in_ranges ss c) (drop_of_length-le rs whole) ∙ in_ranges-nil c) in
      subst (AreRuns (is_member rs) ascii_end) (append-nil adds.added) (adds.leads [] none);
}

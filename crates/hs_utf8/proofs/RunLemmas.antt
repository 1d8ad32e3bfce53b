-- The next run of a set of code points, and runs in a row.
use Rattle.std.proofs.Common.{◌≡◌, ℕ, ◌+◌, ◌<◌, ◌≤◌, Bool, false, min, List, [], ◌∷◌, ◌++◌, length, refl, sym, ap, ap₂, subst, ◌∙◌, le_refl, le_trans, inl, inr, true≢false, append_assoc, append-nil, arith}
use Rattle.std.specs.Prelude.{encode_utf8}
use Rattle.std.specs.List.{zip}
use Rattle.std.proofs.lemmas.Bool.{cases_lt}
use Rattle.std.proofs.lemmas.Bool.Decides.{nat_tests}
use Rattle.hs_base.specs.Trees.{Tree}
use Rattle.hs_utf8.specs.Members.{has_encoding}
use Rattle.hs_utf8.specs.Runs.{AreChoices, IsCodePointRun, NextRun, AreRuns, run_tree}
use Rattle.hs_utf8.specs.Digits.{digit_bytes, IsRunEnd, HasLength}
use Rattle.hs_utf8.specs.Steps.{IsStretch, AddsRuns}
use Rattle.hs_utf8.proofs.ChoiceLemmas.{choice-length, choices-same}
use Rattle.hs_utf8.proofs.DigitLemmas.{length-digit_bytes, digits-order, digits-choices, choices-digits}

-- the places of a run, by its first and its last code point
abbrev pub places_of : ℕ → ℕ → List (ℕ × ℕ)
places_of first last = zip (encode_utf8 first) (encode_utf8 last)

module _ (member : ℕ → Bool) (first last from bound limit tail end : ℕ) (stretch : IsStretch member first last)
    (above : first ≤ from) (below : from ≤ last) (same : HasLength from bound tail) (limit_is : limit ≡ min last bound)
    (whole : IsRunEnd tail from limit end) where
  is_run : IsCodePointRun member from end (places_of from end)
  is_run =
      let order = digits-order tail from end whole.digits in
      let inside : end ≤ limit = whole.within in
      let encodings = choices-same (digit_bytes same.lead tail) encode_utf8 from end
      (zip (digit_bytes same.lead tail from) (digit_bytes same.lead tail end))
      (λ c low high. sym (same.encodings c low (omega arith))) (digits-choices same.lead tail from end whole.digits) in
      let places = ap₂ zip (same.encodings from (le_refl from) same.some) (same.encodings end order (omega arith)) in
      record {
        some = order;
        members = λ c low high. stretch.inside c (omega arith) (omega arith) ∙ same.scalar c low (omega arith);
        encodings = subst (AreChoices encode_utf8 from end) (sym places) encodings;
      }

  -- no run goes on where the members end
  within_last : (other : ℕ) (others : List (ℕ × ℕ)) → IsCodePointRun member from other others → other ≤ last
  within_last other others run = elim (cases_lt last other) [
    | inl beyond ↦ absurd (true≢false (sym (run.members (last + 1) (omega arith) (omega arith)) ∙ stretch.behind))
    | inr within ↦ within
  ]

  -- or where the encodings get longer
  within_bound : (other : ℕ) (others : List (ℕ × ℕ)) → IsCodePointRun member from other others → other ≤ bound
  within_bound other others run = elim (cases_lt bound other) [
    | inl beyond ↦
        let most = within_last other others run in
        let low : from ≤ bound + 1 = omega (arith, same.some) in
        let scalar = sym (stretch.inside (bound + 1) (omega arith) (omega arith)) ∙ run.members (bound + 1) low (omega arith) in
        let long = choice-length others (encode_utf8 (bound + 1)) (run.encodings.each (bound + 1) low (omega arith)) in
        let short = choice-length others (encode_utf8 from) (run.encodings.each from (le_refl from) run.some) in
        let size = ap length (same.encodings from (le_refl from) same.some) ∙ length-digit_bytes same.lead tail from in
        absurd (same.ends scalar (long ∙ sym short ∙ size))
    | inr within ↦ within
  ]

  is_longest : (other : ℕ) (others : List (ℕ × ℕ)) → IsCodePointRun member from other others → other ≤ end
  is_longest other others run =
      let bounded = within_bound other others run in
      let ended = within_last other others run in
      let choices = choices-same encode_utf8 (digit_bytes same.lead tail) from other others
      (λ c low high. same.encodings c low (omega arith)) run.encodings in
      whole.longest other (choices-digits same.lead tail from other others run.some choices) (omega arith)

  next_run : NextRun member from
  next_run = record {
    first = from;
    last = end;
    places = places_of from end;
    above = le_refl from;
    least = λ c low high. absurd (omega arith);
    run = is_run;
    longest = is_longest;
  }

-- nothing was added
pub adds-none : (member : ℕ → Bool) (from : ℕ) (old : List Tree) → AddsRuns member from from old old
adds-none member from old = record { added = []; is = sym (append-nil old); leads = λ rest runs. runs }

-- runs and then more runs
pub adds-then : (member : ℕ → Bool) (a b c : ℕ) (x y z : List Tree) →
    AddsRuns member a b x y → AddsRuns member b c y z → AddsRuns member a c x z
adds-then member a b c x y z one two = record {
  added = one.added ++ two.added;
  is = two.is ∙ ap (λ ts. ts ++ two.added) one.is ∙ append_assoc x one.added two.added;
  leads = λ rest runs.
      subst (AreRuns member a) (sym (append_assoc one.added two.added rest)) (one.leads (two.added ++ rest) (two.leads rest runs));
}

-- the next run
adds-run : (member : ℕ → Bool) (from last : ℕ) (places : List (ℕ × ℕ)) (old : List Tree) (next : NextRun member from) →
    next.last ≡ last → next.places ≡ places → AddsRuns member from (last + 1) old (old ++ run_tree places ∷ [])
adds-run member from last places old next end same = record {
  added = run_tree places ∷ [];
  is = refl;
  leads = λ rest runs. (
    next,
    ap run_tree (sym same),
    subst (λ n. AreRuns member (n + 1) rest) (sym end) runs,
  );
}

-- runs from a code point on are those from an earlier one on, where no member lies between
pub runs-lower : (member : ℕ → Bool) (from to : ℕ) (trees : List Tree) → from ≤ to →
    ((c : ℕ) → from ≤ c → c < to → member c ≡ false) → AreRuns member to trees → AreRuns member from trees
runs-lower member from to [] order none runs = λ c low. elim (cases_lt c to) [
  | inl before ↦ none c low before
  | inr behind ↦ runs c behind
]
runs-lower member from to (tree ∷ trees) order none (next, is, runs) = (
  record {
    first = next.first;
    last = next.last;
    places = next.places;
    above = le_trans order next.above;
    least = λ c low high. elim (cases_lt c to) [
      | inl before ↦ none c low before
      | inr behind ↦ next.least c behind high
    ];
    run = next.run;
    longest = next.longest;
  },
  is,
  runs,
)

-- and the other way round
pub runs-raise : (member : ℕ → Bool) (from to : ℕ) (trees : List Tree) → from ≤ to →
    ((c : ℕ) → from ≤ c → c < to → member c ≡ false) → AreRuns member from trees → AreRuns member to trees
runs-raise member from to [] order none runs = λ c low. runs c (le_trans order low)
runs-raise member from to (tree ∷ trees) order none (next, is, runs) = (
  record {
    first = next.first;
    last = next.last;
    places = next.places;
    above = elim (cases_lt next.first to) [
      | inl before ↦
          absurd (true≢false (sym (next.run.members next.first (le_refl next.first) next.run.some) ∙ none next.first next.above before))
      | inr behind ↦ behind
    ];
    least = λ c low high. next.least c (le_trans order low) high;
    run = next.run;
    longest = next.longest;
  },
  is,
  runs,
)

run-same : (member other : ℕ → Bool) (from first last : ℕ) (places : List (ℕ × ℕ)) →
    ((c : ℕ) → from ≤ c → member c ≡ other c) → from ≤ first → IsCodePointRun member first last places → IsCodePointRun other first last places
run-same member other from first last places same above run = record {
  some = run.some;
  members = λ c low high. sym (same c (le_trans above low)) ∙ run.members c low high;
  encodings = run.encodings;
}

-- sets with the same members from a code point on have the same runs from there on
pub runs-same : (member other : ℕ → Bool) (from : ℕ) (trees : List Tree) →
    ((c : ℕ) → from ≤ c → member c ≡ other c) → AreRuns member from trees → AreRuns other from trees
runs-same member other from [] same runs = λ c low. sym (same c low) ∙ runs c low
runs-same member other from (tree ∷ trees) same (next, is, runs) = (
  record {
    first = next.first;
    last = next.last;
    places = next.places;
    above = next.above;
    least = λ c low high. sym (same c low) ∙ next.least c low high;
    run = run-same member other from next.first next.last next.places same next.above next.run;
    longest = λ last places run.
        next.longest last places
        (run-same other member from next.first last places (λ c low. sym (same c low)) next.above run);
  },
  is,
  runs-same member other (next.last + 1) trees
      (λ c low. same c (omega (arith, next.above, next.run.some))) runs,
)

-- no member lies between
pub adds-gap : (member : ℕ → Bool) (from to : ℕ) (old : List Tree) → from ≤ to →
    ((c : ℕ) → from ≤ c → c < to → member c ≡ false) → AddsRuns member from to old old
adds-gap member from to old order none = record {
  added = [];
  is = sym (append-nil old);
  leads = λ rest runs. runs-lower member from to rest order none runs;
}

surrogate : (c : ℕ) → 0xD800 ≤ c → c ≤ 0xDFFF → has_encoding c ≡ false
surrogate c low high = grind (arith, nat_tests)

-- the runs of a stretch so far, and the next one
pub stretch-run : (member : ℕ → Bool) (first last start from bound limit tail end : ℕ) (x y z : List Tree) (tree : Tree) →
    IsStretch member first last → first ≤ from → from ≤ last → HasLength from bound tail → limit ≡ min last bound →
    IsRunEnd tail from limit end → tree ≡ run_tree (places_of from end) → z ≡ y ++ tree ∷ [] →
    AddsRuns member start from x y → AddsRuns member start (end + 1) x z
unfolding next_run
stretch-run member first last start from bound limit tail end x y z tree stretch above below same limit_is whole is grown before =
    let next = next_run member first last from bound limit tail end stretch above below same limit_is whole in
    adds-then member start from (end + 1) x y z before
    (subst (AddsRuns member from (end + 1) y) (ap (λ t. y ++ t ∷ []) (sym is) ∙ sym grown)
    (adds-run member from end (places_of from end) y next refl refl))

-- surrogates are left out
pub stretch-gap : (member : ℕ → Bool) (first last start from limit : ℕ) (x y : List Tree) →
    IsStretch member first last → first ≤ from → from ≤ last → 0xD800 ≤ from → from ≤ 0xDFFF → limit ≡ min last 0xDFFF →
    AddsRuns member start from x y → AddsRuns member start (limit + 1) x y
stretch-gap member first last start from limit x y stretch above below low high limit_is before =
    adds-then member start from (limit + 1) x y y before
    (adds-gap member from (limit + 1) y (omega arith)
    (λ c a b. stretch.inside c (omega arith) (omega arith) ∙ surrogate c (omega arith) (omega arith)))

-- code points of one length have encodings of one length
pub same-length : (from bound tail end : ℕ) → HasLength from bound tail → from ≤ end → end ≤ bound →
    length (encode_utf8 from) ≡ length (encode_utf8 end)
same-length from bound tail end same order within =
    ap length (same.encodings from (le_refl from) same.some) ∙ length-digit_bytes same.lead tail from
    ∙ sym (ap length (same.encodings end order within) ∙ length-digit_bytes same.lead tail end)

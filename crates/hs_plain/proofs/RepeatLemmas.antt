-- Repeats: copies in a row, added one by one, and closed under the body.
use Rattle.std.proofs.Common.{◌≡◌, ℕ, zero, suc, ◌+◌, ◌-◌, ◌<◌, ◌≤◌, ◌⊎◌, ◌↔◌, ◌||◌, true, false, Some, None, refl, sym, subst, ◌∙◌, inl, inr, arith}
use Rattle.std.proofs.lemmas.Bool.{cases_lt}
use Rattle.hs_base.specs.Spans.{Copies}
use Rattle.hs_plain.specs.declared.offsets.Offsets.{Offsets}
use Rattle.hs_plain.specs.OffsetSets.{room, has, AreEnds}
use Rattle.hs_plain.specs.Repeats.{UpTo, AnyNumber, RepeatSpans}
use Rattle.hs_plain.proofs.OffsetLemmas.{either, left_either, right_either, member-below, ends-then, ends-map, ends-either, ends-never}

copies-split : (R : ℕ → ℕ → Type 0) (n k i j : ℕ) → Copies R (n + k) i j → (m : ℕ) × Copies R n i m × Copies R k m j
copies-split R zero k i j copies =
    let e : 0 + k ≡ k = omega arith in (i, refl, subst (λ c. Copies R c i j) e copies)
copies-split R (suc n) k i j copies =
    let e : suc n + k ≡ suc (n + k) = omega arith in
    let (l, first, rest) = one-more copies e in
    let (m, front, back) = copies-split R n k l j rest in
    (m, (l, first, front), back)
  where
    one-more : Copies R (suc n + k) i j → suc n + k ≡ suc (n + k) → (l : ℕ) × R i l × Copies R (n + k) l j
    one-more all e = subst (λ c. Copies R c i j) e all

copies-join : (R : ℕ → ℕ → Type 0) (n k i m j : ℕ) → Copies R n i m → Copies R k m j → Copies R (n + k) i j
copies-join R zero k i m j front back =
    let e : k ≡ 0 + k = omega arith in
    subst (λ c. Copies R c i j) e (subst (λ l. Copies R k l j) (sym front) back)
copies-join R (suc n) k i m j (l, first, rest) back =
    let e : suc (n + k) ≡ suc n + k = omega arith in
    let all : Copies R (suc (n + k)) i j = (l, first, copies-join R n k l m j rest back) in
    subst (λ c. Copies R c i j) e all

copies-one : (R : ℕ → ℕ → Type 0) (i j : ℕ) → Copies R 1 i j → R i j
copies-one R i j (m, one, same) = subst (R i) same one

one-copies : (R : ℕ → ℕ → Type 0) (i j : ℕ) → R i j → Copies R 1 i j
one-copies R i j one = (j, one, refl)

-- one copy more
pub ends-copies_more : (R : ℕ → ℕ → Type 0) (n : ℕ) (s t u : Offsets) → AreEnds (Copies R n) s t → AreEnds R t u → AreEnds (Copies R (n + 1)) s u
ends-copies_more R n s t u before next =
    ends-map (λ i j. (m : ℕ) × Copies R n i m × R m j) (Copies R (n + 1)) s u
    (λ i j (m, front, last). copies-join R n 1 i m j front (one-copies R m j last))
    (λ i j copies. let (m, front, last) = copies-split R n 1 i j copies in (m, front, copies-one R m j last))
    (ends-then (Copies R n) R s t u before next)

-- where one copy more changes nothing, no more do
pub ends-copies_stay : (R : ℕ → ℕ → Type 0) (n d : ℕ) (s t : Offsets) → AreEnds (Copies R n) s t → AreEnds R t t → AreEnds (Copies R (n + d)) s t
ends-copies_stay R n zero s t before next =
    let e : n ≡ n + 0 = omega arith in subst (λ c. AreEnds (Copies R c) s t) e before
ends-copies_stay R n (suc d) s t before next =
    let e : n + d + 1 ≡ n + suc d = omega arith in
    subst (λ c. AreEnds (Copies R c) s t) e
    (ends-copies_more R (n + d) s t t (ends-copies_stay R n d s t before next) next)

pub ends-copies_enough : (R : ℕ → ℕ → Type 0) (n k : ℕ) (s t : Offsets) → n ≤ k → AreEnds (Copies R n) s t → AreEnds R t t → AreEnds (Copies R k) s t
ends-copies_enough R n k s t few before next =
    let e : n + (k - n) ≡ k = omega arith in
    subst (λ c. AreEnds (Copies R c) s t) e (ends-copies_stay R n (k - n) s t before next)

up_to-none : (R : ℕ → ℕ → Type 0) (i j : ℕ) → UpTo R 0 i j → i ≡ j
up_to-none R i j (k, few, copies) =
    let e : k ≡ 0 = omega arith in subst (λ c. Copies R c i j) e copies

pub ends-up_to_none : (R : ℕ → ℕ → Type 0) (s t : Offsets) → AreEnds (λ i j. i ≡ j) s t → AreEnds (UpTo R 0) s t
ends-up_to_none R s t ends =
    ends-map (λ i j. i ≡ j) (UpTo R 0) s t
    (λ i j same. (0, omega arith, same)) (up_to-none R) ends

-- one copy more, beside what was there
pub ends-up_to_more : (R : ℕ → ℕ → Type 0) (n : ℕ) (s all next more : Offsets) → AreEnds (UpTo R n) s all → AreEnds (Copies R (n + 1)) s next → room more ≡ room all → ((j : ℕ) → has more j ≡ (has all j || has next j)) → AreEnds (UpTo R (n + 1)) s more
ends-up_to_more R n s all next more before last size members =
    ends-map (λ i j. UpTo R n i j ⊎ Copies R (n + 1) i j) (UpTo R (n + 1)) s more
    (λ i j found. widen i j found) (λ i j (k, few, copies). narrow i j k few copies)
    (ends-either (UpTo R n) (Copies R (n + 1)) s all next more before last size members)
  where
    widen : (i j : ℕ) → UpTo R n i j ⊎ Copies R (n + 1) i j → UpTo R (n + 1) i j
    widen i j (inl (k, few, copies)) = (k, omega arith, copies)
    widen i j (inr copies) = (n + 1, omega arith, copies)

    narrow : (i j k : ℕ) → k ≤ n + 1 → Copies R k i j → UpTo R n i j ⊎ Copies R (n + 1) i j
    narrow i j k few copies = elim (cases_lt n k) [
      | inl last ↦ let e : k ≡ n + 1 = omega arith in inr (subst (λ c. Copies R c i j) e copies)
      | inr fewer ↦ inl (k, fewer, copies)
    ]

-- where one copy more changes nothing, no more add anything
pub ends-up_to_enough : (R : ℕ → ℕ → Type 0) (n k : ℕ) (s t all : Offsets) → n ≤ k → AreEnds (Copies R n) s t → AreEnds R t t → AreEnds (UpTo R n) s all → AreEnds (UpTo R k) s all
ends-up_to_enough R n k s t all few copies stays ends = record {
  alike = ends.alike;
  each = λ j. (
    λ is. let (i, start, found) = (ends.each j).0 is in (i, start, widen i j found),
    λ (i, start, (m, bounded, leads)). narrow i j m start leads,
  );
}
  where
    widen : (i j : ℕ) → UpTo R n i j → UpTo R k i j
    widen i j (m, bounded, leads) = (m, omega arith, leads)

    narrow : (i j m : ℕ) → has s i ≡ true → Copies R m i j → has all j ≡ true
    narrow i j m start leads = elim (cases_lt n m) [
      | inl above ↦
          let same : AreEnds (Copies R m) s t = ends-copies_enough R n m s t (omega arith) copies stays in
          let (l, from, back) = (copies.each j).0 ((same.each j).1 (i, start, leads)) in
          (ends.each j).1 (l, from, (n, omega arith, back))
      | inr within ↦ (ends.each j).1 (i, start, (m, within, leads))
    ]

-- what a loop over the offsets below n keeps while it closes a set under the body
pub record IsClosedBelow (R : ℕ → ℕ → Type 0) (starts all : Offsets) (n : ℕ) : Type 0 where
  pub alike : room all ≡ room starts
  pub kept : (j : ℕ) → has starts j ≡ true → has all j ≡ true
  pub sound : (j : ℕ) → has all j ≡ true → (i : ℕ) × (has starts i ≡ true) × AnyNumber R i j
  pub closed : (i j : ℕ) → i < n → has all i ≡ true → R i j → has all j ≡ true

pub closed-start : (R : ℕ → ℕ → Type 0) (starts all : Offsets) → room all ≡ room starts → ((j : ℕ) → has all j ≡ has starts j) → IsClosedBelow R starts all 0
closed-start R starts all size members = record {
  alike = size;
  kept = λ j is. members j ∙ is;
  sound = λ j is. (j, sym (members j) ∙ is, (0, refl));
  closed = λ i j below is leads. absurd (omega arith);
}

pub closed-other : (R : ℕ → ℕ → Type 0) (starts all : Offsets) (n : ℕ) → has all n ≡ false → IsClosedBelow R starts all n → IsClosedBelow R starts all (n + 1)
closed-other R starts all n not before = record {
  alike = before.alike;
  kept = before.kept;
  sound = before.sound;
  closed = λ i j below is leads. elim (cases_lt i n) [
    | inl earlier ↦ before.closed i j earlier is leads
    | inr last ↦
        let same : i ≡ n = omega arith in
        let is' : has all n ≡ true = subst (λ k. has all k ≡ true) same is in
        absurd (cc)
  ];
}

-- `ends` are the ends from n alone
pub closed-member : (R : ℕ → ℕ → Type 0) → ((i j : ℕ) → R i j → i ≤ j) → (starts all one ends more : Offsets) (n : ℕ) → has all n ≡ true → ((j : ℕ) → (has one j ≡ true) ↔ (j ≡ n)) → AreEnds R one ends → room more ≡ room all → ((j : ℕ) → has more j ≡ (has all j || has ends j)) → IsClosedBelow R starts all n → IsClosedBelow R starts more (n + 1)
closed-member R order starts all one ends more n is single leads size members before = record {
  alike = size ∙ before.alike;
  kept = λ j start. members j ∙ left_either (has all j) (has ends j) (before.kept j start);
  sound = λ j member. elim (either (has all j) (has ends j) (sym (members j) ∙ member)) [
    | inl old ↦ before.sound j old
    | inr new ↦
        let (i, from, last) = (leads.each j).0 new in
        let last' : R n j = subst (λ k. R k j) ((single i).0 from) last in
        let (l, start, (k, front)) = before.sound n is in
        (l, start, (k + 1, copies-join R k 1 l n j front (one-copies R n j last')))
  ];
  closed = λ i j below member next. elim (cases_lt i n) [
    | inl earlier ↦ members j ∙ left_either (has all j) (has ends j) (before.closed i j earlier (older i earlier member) next)
    | inr last ↦
        let same : i ≡ n = omega arith in
        members j ∙ right_either (has all j) (has ends j)
        ((leads.each j).1 (n, (single n).1 refl, subst (λ k. R k j) same next))
  ];
}
  where
    older : (i : ℕ) → i < n → has more i ≡ true → has all i ≡ true
    older i earlier member = elim (either (has all i) (has ends i) (sym (members i) ∙ member)) [
      | inl old ↦ old
      | inr new ↦
          let (l, from, last) = (leads.each i).0 new in
          let same : l ≡ n = (single l).0 from in
          let rises : l ≤ i = order l i last in
          absurd (omega arith)
    ]

closed-copies : (R : ℕ → ℕ → Type 0) (starts all : Offsets) (n : ℕ) → n ≡ room starts → IsClosedBelow R starts all n → (k i j : ℕ) → has all i ≡ true → Copies R k i j → has all j ≡ true
closed-copies R starts all n whole closed zero i j is same = subst (λ k. has all k ≡ true) same is
closed-copies R starts all n whole closed (suc k) i j is (m, first, rest) =
    let below : i < room all = member-below all i is in
    closed-copies R starts all n whole closed k m j (closed.closed i m (omega (arith, closed.alike)) is first) rest

-- a closed set has all that any number of copies leads to
pub ends-any_number : (R : ℕ → ℕ → Type 0) (starts all : Offsets) (n : ℕ) → n ≡ room starts → IsClosedBelow R starts all n → AreEnds (AnyNumber R) starts all
ends-any_number R starts all n whole closed = record {
  alike = closed.alike;
  each = λ j. (
    λ is. closed.sound j is,
    λ (i, start, (k, copies)). closed-copies R starts all n whole closed k i j (closed.kept i start) copies,
  );
}

-- so many copies, and then any number
pub ends-at_least : (R : ℕ → ℕ → Type 0) (least : ℕ) (s t u : Offsets) → AreEnds (Copies R least) s t → AreEnds (AnyNumber R) t u → AreEnds (RepeatSpans R least None) s u
ends-at_least R least s t u front back =
    ends-map (λ i j. (m : ℕ) × Copies R least i m × AnyNumber R m j) (RepeatSpans R least None) s u
    (λ i j (m, one, (k, more)). (least + k, omega arith, tt, copies-join R least k i m j one more))
    (λ i j (n, low, _, copies).
    let e : n ≡ least + (n - least) = omega arith in
    let (m, one, more) = copies-split R least (n - least) i j (subst (λ c. Copies R c i j) e copies) in
    (m, one, (n - least, more)))
    (ends-then (Copies R least) (AnyNumber R) s t u front back)

-- so many copies, and then up to so many more
pub ends-between : (R : ℕ → ℕ → Type 0) (least greatest : ℕ) (s t u : Offsets) → least ≤ greatest → AreEnds (Copies R least) s t → AreEnds (UpTo R (greatest - least)) t u → AreEnds (RepeatSpans R least (Some greatest)) s u
ends-between R least greatest s t u bounds front back =
    ends-map (λ i j. (m : ℕ) × Copies R least i m × UpTo R (greatest - least) m j) (RepeatSpans R least (Some greatest)) s u
    (λ i j (m, one, (k, few, more)). (least + k, omega arith, omega arith, copies-join R least k i m j one more))
    (λ i j (n, low, high, copies).
    let e : n ≡ least + (n - least) = omega arith in
    let (m, one, more) = copies-split R least (n - least) i j (subst (λ c. Copies R c i j) e copies) in
    (m, one, (n - least, omega arith, more)))
    (ends-then (Copies R least) (UpTo R (greatest - least)) s t u front back)

-- bounds that are not in order leave nothing
pub ends-out_of_order : (R : ℕ → ℕ → Type 0) (least greatest : ℕ) (s t : Offsets) → greatest < least → room t ≡ room s → ((j : ℕ) → has t j ≡ false) → AreEnds (RepeatSpans R least (Some greatest)) s t
ends-out_of_order R least greatest s t bounds size empty =
    ends-never (RepeatSpans R least (Some greatest)) s t size empty
    (λ i j (n, low, high, _). omega arith)

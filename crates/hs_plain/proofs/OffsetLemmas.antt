-- Sets of offsets added to step by step, and the ends that relations lead to.
use Rattle.std.proofs.Common.{◌≡◌, ℕ, ◌+◌, ◌<◌, ◌⊎◌, ◌||◌, Bool, true, false, Result, Ok, Err, IfOk, OnOk, refl, sym, subst, ◌∙◌, inl, inr, arith}
use Rattle.std.proofs.lemmas.Bool.{cases_lt}
use Rattle.std.proofs.lemmas.List.{get_or_past}
use Rattle.hs_plain.specs.declared.offsets.Offsets.{Offsets}
use Rattle.hs_plain.specs.OffsetSets.{room, has, AreEnds, AddsOffsets}

pub either : (a b : Bool) → (a || b) ≡ true → (a ≡ true) ⊎ (b ≡ true)
either true b or = inl refl
either false b or = inr or

pub left_either : (a b : Bool) → a ≡ true → (a || b) ≡ true
left_either true b is = refl
left_either false b is = let e : false ≡ true = is in cc

pub right_either : (a b : Bool) → b ≡ true → (a || b) ≡ true
right_either true b is = refl
right_either false b is = is

-- nothing was added
pub adds-none : (Q : ℕ → Type 0) (s : Offsets) → ((j : ℕ) → Q j → ⊥) → AddsOffsets Q s s
adds-none Q s never = record {
  alike = refl;
  each = λ j. (λ is. inl is, λ found. elim found [ inl is ↦ is | inr more ↦ absurd (never j more) ]);
}

-- the same, said in other words
pub adds-map : (Q Q' : ℕ → Type 0) (s t : Offsets) → ((j : ℕ) → Q j → Q' j) → ((j : ℕ) → Q' j → Q j) → AddsOffsets Q s t → AddsOffsets Q' s t
adds-map Q Q' s t to from adds = record {
  alike = adds.alike;
  each = λ j. (
    λ is. elim ((adds.each j).0 is) [ inl old ↦ inl old | inr more ↦ inr (to j more) ],
    λ found. elim found [ inl old ↦ (adds.each j).1 (inl old) | inr more ↦ (adds.each j).1 (inr (from j more)) ],
  );
}

-- one after the other
pub adds-then : (Q Q' : ℕ → Type 0) (s t u : Offsets) → AddsOffsets Q s t → AddsOffsets Q' t u → AddsOffsets (λ j. Q j ⊎ Q' j) s u
adds-then Q Q' s t u one two = record {
  alike = two.alike ∙ one.alike;
  each = λ j. (
    λ is. elim ((two.each j).0 is) [
      | inl old ↦ elim ((one.each j).0 old) [ inl older ↦ inl older | inr more ↦ inr (inl more) ]
      | inr more ↦ inr (inr more)
    ],
    λ found. elim found [
      | inl old ↦ (two.each j).1 (inl ((one.each j).1 (inl old)))
      | inr which ↦ elim which [
        | inl more ↦ (two.each j).1 (inl ((one.each j).1 (inr more)))
        | inr more ↦ (two.each j).1 (inr more)
      ]
    ],
  );
}

-- no offset is a member beyond the room
pub member-below : (s : Offsets) (i : ℕ) → has s i ≡ true → i < room s
member-below s i is = elim (cases_lt i (room s)) [
  | inl below ↦ below
  | inr beyond ↦ absurd (let past : has s i ≡ false = get_or_past s.marks.items i false (omega arith) in cc)
]

-- what a loop over the starts below n has added
abbrev pub FromBelow : (ℕ → ℕ → Type 0) → Offsets → ℕ → ℕ → Type 0
FromBelow R starts n j = (i : ℕ) × (i < n) × (has starts i ≡ true) × R i j

pub from_below-none : (R : ℕ → ℕ → Type 0) (starts s : Offsets) → AddsOffsets (FromBelow R starts 0) s s
from_below-none R starts s = adds-none (FromBelow R starts 0) s (λ j (i, below, _, _). omega arith)

pub from_below-member : (R : ℕ → ℕ → Type 0) (starts s t u : Offsets) (n : ℕ) → has starts n ≡ true → AddsOffsets (FromBelow R starts n) s t → AddsOffsets (R n) t u → AddsOffsets (FromBelow R starts (n + 1)) s u
from_below-member R starts s t u n is one two =
    adds-map (λ j. FromBelow R starts n j ⊎ R n j) (FromBelow R starts (n + 1)) s u
    (λ j found. widen j found)
    (λ j (i, below, start, leads). narrow j i below start leads)
    (adds-then (FromBelow R starts n) (R n) s t u one two)
  where
    widen : (j : ℕ) → FromBelow R starts n j ⊎ R n j → FromBelow R starts (n + 1) j
    widen j (inl (i, below, start, leads)) = (i, omega arith, start, leads)
    widen j (inr leads) = (n, omega arith, is, leads)

    narrow : (j i : ℕ) → i < n + 1 → has starts i ≡ true → R i j → FromBelow R starts n j ⊎ R n j
    narrow j i below start leads = elim (cases_lt i n) [
      | inl before ↦ inl (i, before, start, leads)
      | inr last ↦ let same : i ≡ n = omega arith in inr (subst (λ k. R k j) same leads)
    ]

pub from_below-other : (R : ℕ → ℕ → Type 0) (starts s t : Offsets) (n : ℕ) → has starts n ≡ false → AddsOffsets (FromBelow R starts n) s t → AddsOffsets (FromBelow R starts (n + 1)) s t
from_below-other R starts s t n not adds =
    adds-map (FromBelow R starts n) (FromBelow R starts (n + 1)) s t
    (λ j (i, below, start, leads). (i, omega arith, start, leads))
    (λ j (i, below, start, leads). narrow j i below start leads)
    adds
  where
    narrow : (j i : ℕ) → i < n + 1 → has starts i ≡ true → R i j → FromBelow R starts n j
    narrow j i below start leads = elim (cases_lt i n) [
      | inl before ↦ (i, before, start, leads)
      | inr last ↦
          let same : i ≡ n = omega arith in
          let start' : has starts n ≡ true = subst (λ k. has starts k ≡ true) same start in
          absurd (cc)
    ]

-- where a loop over all starts has added to nothing, all ends are there
pub from_below-all : (R : ℕ → ℕ → Type 0) (starts none ends : Offsets) (n : ℕ) → n ≡ room starts → room none ≡ room starts → ((j : ℕ) → has none j ≡ false) → AddsOffsets (FromBelow R starts n) none ends → AreEnds R starts ends
from_below-all R starts none ends n whole size empty adds = record {
  alike = adds.alike ∙ size;
  each = λ j. (
    λ is. elim ((adds.each j).0 is) [
      | inl old ↦ absurd (let not : has none j ≡ false = empty j in cc)
      | inr found ↦ let (i, below, start, leads) = found in (i, start, leads)
    ],
    λ (i, start, leads).
        let below : i < room starts = member-below starts i start in
        (adds.each j).1 (inr (i, omega arith, start, leads)),
  );
}

-- ends by one relation, and from there by another
pub ends-then : (R Q : ℕ → ℕ → Type 0) (s t u : Offsets) → AreEnds R s t → AreEnds Q t u → AreEnds (λ i j. (m : ℕ) × R i m × Q m j) s u
ends-then R Q s t u one two = record {
  alike = two.alike ∙ one.alike;
  each = λ j. (
    λ is.
        let (m, middle, last) = (two.each j).0 is in
        let (i, start, first) = (one.each m).0 middle in
        (i, start, (m, first, last)),
    λ (i, start, (m, first, last)). (two.each j).1 (m, (one.each m).1 (i, start, first), last),
  );
}

-- the same, said in other words
pub ends-map : (R Q : ℕ → ℕ → Type 0) (s t : Offsets) → ((i j : ℕ) → R i j → Q i j) → ((i j : ℕ) → Q i j → R i j) → AreEnds R s t → AreEnds Q s t
ends-map R Q s t to from ends = record {
  alike = ends.alike;
  each = λ j. (
    λ is. let (i, start, leads) = (ends.each j).0 is in (i, start, to i j leads),
    λ (i, start, leads). (ends.each j).1 (i, start, from i j leads),
  );
}

-- ends by either of two relations
pub ends-either : (R Q : ℕ → ℕ → Type 0) (s t u v : Offsets) → AreEnds R s t → AreEnds Q s u → room v ≡ room t → ((j : ℕ) → has v j ≡ (has t j || has u j)) → AreEnds (λ i j. R i j ⊎ Q i j) s v
ends-either R Q s t u v one two size members = record {
  alike = size ∙ one.alike;
  each = λ j. (
    λ is. elim (either (has t j) (has u j) (sym (members j) ∙ is)) [
      | inl left ↦ let (i, start, leads) = (one.each j).0 left in (i, start, inl leads)
      | inr right ↦ let (i, start, leads) = (two.each j).0 right in (i, start, inr leads)
    ],
    λ (i, start, leads). elim leads [
      | inl left ↦ members j ∙ left_either (has t j) (has u j) ((one.each j).1 (i, start, left))
      | inr right ↦ members j ∙ right_either (has t j) (has u j) ((two.each j).1 (i, start, right))
    ],
  );
}

-- a set with the same members
pub ends-same : (R : ℕ → ℕ → Type 0) (s t u : Offsets) → room u ≡ room t → ((j : ℕ) → has u j ≡ has t j) → AreEnds R s t → AreEnds R s u
ends-same R s t u size members ends = record {
  alike = size ∙ ends.alike;
  each = λ j. (
    λ is. (ends.each j).0 (sym (members j) ∙ is),
    λ found. members j ∙ (ends.each j).1 found,
  );
}

pub ends-stay : (s : Offsets) → AreEnds (λ i j. i ≡ j) s s
ends-stay s = record {
  alike = refl;
  each = λ j. (λ is. (j, is, refl), λ (i, start, same). subst (λ k. has s k ≡ true) same start);
}

pub ends-never : (R : ℕ → ℕ → Type 0) (s t : Offsets) → room t ≡ room s → ((j : ℕ) → has t j ≡ false) → ((i j : ℕ) → R i j → ⊥) → AreEnds R s t
ends-never R s t size empty never = record {
  alike = size;
  each = λ j. (
    λ is. absurd (let not : has t j ≡ false = empty j in cc),
    λ (i, start, leads). absurd (never i j leads),
  );
}

-- what an `Ok` has, it has by a weaker property
pub if_ok-map : {A E : Type 0} (P Q : A → Type 0) (r : Result A E) → ((x : A) → P x → Q x) → IfOk r P → IfOk r Q
if_ok-map P Q (Ok x) weaker is = weaker x is
if_ok-map P Q (Err e) weaker is = is

pub on_ok-map : {A E : Type 0} (P Q : Type 0) (r : Result A E) → (P → Q) → OnOk r P → OnOk r Q
on_ok-map P Q (Ok x) weaker is = weaker is
on_ok-map P Q (Err e) weaker is = is

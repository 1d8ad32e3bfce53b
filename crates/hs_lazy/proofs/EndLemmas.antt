-- Where members are left, while the table is written.
use Rattle.std.proofs.Common.{◌≡◌, ℕ, zero, suc, ◌+◌, ◌<◌, ◌≤◌, inl, inr, Bool, true, false, ◌&&◌, ◌||◌, ◌==◌, nat_lt, List, length, replicate, Some, slice_get, refl, sym, ap, subst, ◌∙◌, arith, tests}
use Rattle.std.proofs.Math.ListN.{set}
use Rattle.std.proofs.lemmas.Bool.{cases_eq, cases_lt}
use Rattle.std.proofs.lemmas.Option.{slice_get_past}
use Rattle.hs_base.specs.Bits.{has_word_bit}
use Rattle.hs_lazy.specs.declared.cache.ToldEnds.{ToldEnds}
use Rattle.hs_lazy.specs.Ends.{IsRowWhole, member_left_before, member_left_behind, row_before, row_behind}
use Rattle.hs_lazy.proofs.ListLemmas.{get-set, set-got, set-others}
use Rattle.hs_lazy.proofs.PartLemmas.{eight, eight-unset}

abbrev pub nothing : ToldEnds
nothing = record { before = eight; behind = eight }

pub nothing-whole : IsRowWhole nothing
nothing-whole = record { before = refl; behind = refl }

-- no member is left in rows that are all empty
pub same-rows : (n m : ℕ) (row : ToldEnds) → slice_get (replicate n nothing) m ≡ Some row → row ≡ nothing
same-rows zero m row is = absurd (cc)
same-rows (suc n) zero row is = cc
same-rows (suc n) (suc m) row is = same-rows n m row is

pub empty-whole : (n m : ℕ) (row : ToldEnds) → slice_get (replicate n nothing) m ≡ Some row → IsRowWhole row
empty-whole n m row is = subst (λ r. IsRowWhole r) (sym (same-rows n m row is)) nothing-whole

pub empty-before : (n m i : ℕ) → member_left_before (replicate n nothing) m i ≡ false
empty-before zero m i = refl
empty-before (suc n) zero i = eight-unset i
empty-before (suc n) (suc m) i = empty-before n m i

pub empty-behind : (n m i : ℕ) → member_left_behind (replicate n nothing) m i ≡ false
empty-behind zero m i = refl
empty-behind (suc n) zero i = eight-unset i
empty-behind (suc n) (suc m) i = empty-behind n m i

-- behind the last row there is nothing
pub past-before : (rows : List ToldEnds) (m i : ℕ) → length rows ≤ m → member_left_before rows m i ≡ false
past-before rows m i past = ap (λ o. row_before o i) (slice_get_past rows m past)

pub past-behind : (rows : List ToldEnds) (m i : ℕ) → length rows ≤ m → member_left_behind rows m i ≡ false
past-behind rows m i past = ap (λ o. row_behind o i) (slice_get_past rows m past)

-- a row is written
module _ (rows : List ToldEnds) (m : ℕ) (row : ToldEnds) (low : m < length rows) where
  pub before-own : (i : ℕ) → member_left_before (set rows m row) m i ≡ has_word_bit row.before i
  before-own i = ap (λ o. row_before o i) (set-got rows m row low)

  pub behind-own : (i : ℕ) → member_left_behind (set rows m row) m i ≡ has_word_bit row.behind i
  behind-own i = ap (λ o. row_behind o i) (set-got rows m row low)

  pub before-other : (k i : ℕ) → (k ≡ m → ⊥) → member_left_before (set rows m row) k i ≡ member_left_before rows k i
  before-other k i away = ap (λ o. row_before o i) (set-others rows m row k away)

  pub behind-other : (k i : ℕ) → (k ≡ m → ⊥) → member_left_behind (set rows m row) k i ≡ member_left_behind rows k i
  behind-other k i away = ap (λ o. row_behind o i) (set-others rows m row k away)

  pub whole-set : IsRowWhole row → ((k : ℕ) (x : ToldEnds) → slice_get rows k ≡ Some x → IsRowWhole x) →
      (k : ℕ) (x : ToldEnds) → slice_get (set rows m row) k ≡ Some x → IsRowWhole x
  whole-set one all k x is = elim (get-set rows m row k x low is) [
    | inl (here, what) ↦ subst (λ r. IsRowWhole r) (sym what) one
    | inr (other, was) ↦ all k x was
  ]

-- a row is emptied
module _ (rows : List ToldEnds) (m : ℕ) (low : m < length rows) where
  pub emptied-before : (k i : ℕ) → ((k ≡ m → ⊥) → member_left_before rows k i ≡ false) → member_left_before (set rows m nothing) k i ≡ false
  emptied-before k i others = elim (cases_eq k m) [
    | inl same ↦ ap (λ n. member_left_before (set rows m nothing) n i) same ∙ (before-own rows m nothing low i ∙ eight-unset i)
    | inr away ↦ before-other rows m nothing low k i away ∙ others away
  ]

  pub emptied-behind : (k i : ℕ) → ((k ≡ m → ⊥) → member_left_behind rows k i ≡ false) → member_left_behind (set rows m nothing) k i ≡ false
  emptied-behind k i others = elim (cases_eq k m) [
    | inl same ↦ ap (λ n. member_left_behind (set rows m nothing) n i) same ∙ (behind-own rows m nothing low i ∙ eight-unset i)
    | inr away ↦ behind-other rows m nothing low k i away ∙ others away
  ]

-- where the rows of all members that may be left are emptied, nothing is left
pub all-emptied : (left : (member i : ℕ) → Bool) (bit : ℕ → Bool) (from : ℕ) → ((m i : ℕ) → m < from → left m i ≡ false) →
    ((m i : ℕ) → bit m ≡ false → left m i ≡ false) → ((m : ℕ) → from ≤ m → m < 256 → bit m ≡ false) →
    ((m i : ℕ) → 256 ≤ m → left m i ≡ false) → (m i : ℕ) → left m i ≡ false
all-emptied left bit from done silent none past m i = elim (cases_lt m from) [
  | inl before ↦ done m i before
  | inr high ↦ elim (cases_lt m 256) [
    | inl low ↦ silent m i (none m high low)
    | inr behind ↦ past m i behind
  ]
]

both-true : (x : Bool) (k from m : ℕ) → k < from → from ≤ m → (nat_lt k from && x) ≡ (nat_lt k (m + 1) && x)
both-true x k from m low high = grind (arith, tests)

both-past : (x : Bool) (k from m : ℕ) → m < k → from ≤ m → (nat_lt k from && x) ≡ (nat_lt k (m + 1) && x)
both-past x k from m low high = grind (arith, tests)

both-unset : (x e : Bool) (k from m : ℕ) → x ≡ false → (nat_lt k from && (e && x)) ≡ (nat_lt k (m + 1) && (e && x))
both-unset x e k from m unset = grind (arith, tests)

own-put : (x y : Bool) (m place : ℕ) → y ≡ false → x ≡ (y || (nat_lt m (m + 1) && ((place == place) && x)))
own-put x y m place unset = grind (arith, tests)

own-other : (x y : Bool) (m i from place : ℕ) → (i ≡ place → ⊥) → (y || (nat_lt m from && ((i == place) && x))) ≡ (y || (nat_lt m (m + 1) && ((i == place) && x)))
own-other x y m i from place away = grind (arith, tests)

-- the next member of a set is put into the table, behind those before it
pub inserted : (left left' left0 : (member i : ℕ) → Bool) (bit : ℕ → Bool) (from m place : ℕ) →
    ((i : ℕ) → (i ≡ place → ⊥) → left' m i ≡ left m i) → left' m place ≡ bit m →
    ((k i : ℕ) → (k ≡ m → ⊥) → left' k i ≡ left k i) →
    ((k i : ℕ) → k < 256 → left k i ≡ (left0 k i || (nat_lt k from && ((i == place) && bit k)))) →
    ((k : ℕ) → left0 k place ≡ false) → ((j : ℕ) → from ≤ j → j < m → bit j ≡ false) → from ≤ m → m < 256 →
    (k i : ℕ) → k < 256 → left' k i ≡ (left0 k i || (nat_lt k (m + 1) && ((i == place) && bit k)))
inserted left left' left0 bit from m place own put others prior fresh least after room k i small = elim (cases_eq k m) [
  | inl same ↦ elim (cases_eq i place) [
    | inl here ↦
        subst (λ n. left' n i ≡ (left0 n i || (nat_lt n (m + 1) && ((i == place) && bit n)))) (sym same)
        (subst (λ n. left' m n ≡ (left0 m n || (nat_lt m (m + 1) && ((n == place) && bit m)))) (sym here)
        (put ∙ own-put (bit m) (left0 m place) m place (fresh m)))
    | inr away ↦
        subst (λ n. left' n i ≡ (left0 n i || (nat_lt n (m + 1) && ((i == place) && bit n)))) (sym same)
        (own i away ∙ (prior m i room ∙ own-other (bit m) (left0 m i) m i from place away))
  ]
  | inr other ↦ others k i other ∙ (prior k i small ∙ ap (λ x. left0 k i || x) (elim (cases_lt k from) [
    | inl low ↦ both-true ((i == place) && bit k) k from m low after
    | inr high ↦ elim (cases_lt k m) [
      | inl before ↦ both-unset (bit k) (i == place) k from m (least k high before)
      | inr behind ↦ both-past ((i == place) && bit k) k from m (omega (arith, behind, other)) after
    ]
  ]))
]

-- a row is written of a member that may be left
pub set-silent-before : (rows : List ToldEnds) (m : ℕ) (row : ToldEnds) (members : List ℕ) → m < length rows → has_word_bit members m ≡ true →
    ((k i : ℕ) → has_word_bit members k ≡ false → member_left_before rows k i ≡ false) →
    (k i : ℕ) → has_word_bit members k ≡ false → member_left_before (set rows m row) k i ≡ false
set-silent-before rows m row members low marked all k i unset = elim (cases_eq k m) [
  | inl same ↦ absurd (let is : has_word_bit members k ≡ true = ap (has_word_bit members) same ∙ marked in cc)
  | inr away ↦ before-other rows m row low k i away ∙ all k i unset
]

pub set-silent-behind : (rows : List ToldEnds) (m : ℕ) (row : ToldEnds) (members : List ℕ) → m < length rows → has_word_bit members m ≡ true →
    ((k i : ℕ) → has_word_bit members k ≡ false → member_left_behind rows k i ≡ false) →
    (k i : ℕ) → has_word_bit members k ≡ false → member_left_behind (set rows m row) k i ≡ false
set-silent-behind rows m row members low marked all k i unset = elim (cases_eq k m) [
  | inl same ↦ absurd (let is : has_word_bit members k ≡ true = ap (has_word_bit members) same ∙ marked in cc)
  | inr away ↦ behind-other rows m row low k i away ∙ all k i unset
]

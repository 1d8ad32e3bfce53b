-- The table of masks, and loops that go over its rows.
use Rattle.std.proofs.Common.{◌≡◌, ℕ, ◌+◌, ◌*◌, ◌<◌, ◌≤◌, Bool, true, false, ◌&&◌, ◌||◌, List, length, get_or, set, eqb, nat_lt, nat_le, slice_get, Some, refl, sym, ap, ◌∙◌, inl, inr, arith}
use Rattle.std.proofs.lemmas.Bool.{cases_eq, cases_lt, eq-eqb, ne_eqb, lt-ltb, le-ltb, le-leb, leb-true, eqb-true}
use Rattle.std.proofs.Math.Nat.{mul-le-mul_left}
use Rattle.std.proofs.lemmas.Option.{slice_get_past, slice_get-get_or}
use Rattle.std.proofs.lemmas.List.{get_or-set_same, get_or-set_other, length-set}
use Rattle.hs_base.specs.Contexts.{Context}
use Rattle.hs_base.specs.ContextSets.{has_context}
use Rattle.hs_base.specs.declared.context.Mask.{Mask}
use Rattle.hs_engine.specs.Automata.{in_mask}
use Rattle.hs_base.proofs.ContextLemmas.{first_of_both}
use Rattle.hs_engine.proofs.CellLemmas.{same_cell}
use Rattle.hs_glushkov.specs.Ranges.{is_within}
use Rattle.hs_glushkov.specs.FollowTables.{is_followed}
use Rattle.hs_glushkov.specs.declared.follow_masks.FollowMasks.{FollowMasks}

not-true : (b : Bool) → (b ≡ true → ⊥) → b ≡ false
not-true true h = absurd (h refl)
not-true false h = refl

and-false : (b : Bool) → (b && false) ≡ false
and-false true = refl
and-false false = refl

unchanged : (p q m o : Bool) → (p ≡ true → q ≡ true → ⊥) → o ≡ ((p && (q && m)) || o)
unchanged true true m o apart = absurd (apart refl refl)
unchanged true false m o apart = refl
unchanged false q m o apart = refl

-- the element that is there after one was set

pub get-set_same : {A : Type 0} (xs : List A) (i : ℕ) (v : A) → i < length xs → slice_get (set xs i v) i ≡ Some v
get-set_same xs i v below =
    slice_get-get_or (set xs i v) i v (omega (arith, length-set xs i v)) ∙ ap (λ x. Some x) (get_or-set_same xs i v v below)

pub get-set_other : {A : Type 0} (xs : List A) (i k : ℕ) (v : A) → (k ≡ i → ⊥) → slice_get (set xs i v) k ≡ slice_get xs k
get-set_other xs i k v apart =
    elim (cases_lt k (length xs)) [
      | inl below ↦
          slice_get-get_or (set xs i v) k v (omega (arith, length-set xs i v))
          ∙ (ap (λ x. Some x) (get_or-set_other xs i k v v apart) ∙ sym (slice_get-get_or xs k v below))
      | inr past ↦
          slice_get_past (set xs i v) k (omega (arith, length-set xs i v)) ∙ sym (slice_get_past xs k past)
    ]

-- a range with one more number
pub within-suc : (low i k : ℕ) → low ≤ i → is_within low (i + 1) k ≡ (eqb k i || is_within low i k)
within-suc low i k order =
    elim (cases_eq k i) [
      | inl same ↦
          let above : low ≤ k = omega arith in
          let below : k < i + 1 = omega arith in
          rw (eq-eqb k i same, le-leb low k above, lt-ltb k (i + 1) below) refl
      | inr apart ↦
          elim (cases_lt k i) [
            | inl under ↦
                let below : k < i + 1 = omega arith in
                rw (ne_eqb k i apart, lt-ltb k i under, lt-ltb k (i + 1) below) refl
            | inr over ↦
                let above : i + 1 ≤ k = omega arith in
                rw (ne_eqb k i apart, le-ltb k i over, le-ltb k (i + 1) above) refl
          ]
    ]

pub within-true : (low high k : ℕ) → low ≤ k → k < high → is_within low high k ≡ true
within-true low high k above below = rw (le-leb low k above, lt-ltb k high below) refl

pub within-under : (low high k : ℕ) → k < low → is_within low high k ≡ false
within-under low high k under =
    not-true (is_within low high k) (λ is. let above : low ≤ k = leb-true low k (first_of_both (nat_le low k) (nat_lt k high) is) in omega arith)

pub within-over : (low high k : ℕ) → high ≤ k → is_within low high k ≡ false
within-over low high k over = rw (le-ltb k high over) (and-false (nat_le low k))

pub within-none : (low k : ℕ) → is_within low low k ≡ false
within-none low k =
    elim (cases_lt k low) [
      | inl under ↦ within-under low low k under
      | inr over ↦ within-over low low k over
    ]

pub cell-within : (size from to : ℕ) → from < size → to < size → size * from + to < size * size
cell-within size from to hf ht =
    let next : from + 1 ≤ size = omega arith in
    let step : size * (from + 1) ≤ size * size = mul-le-mul_left size next in
    let wide : size * (from + 1) ≡ size * from + size = omega arith in
    omega arith

or-swapped : (a b : Bool) → (a || b) ≡ (b || a)
or-swapped true true = refl
or-swapped true false = refl
or-swapped false true = refl
or-swapped false false = refl

-- the masks where one was widened
pub put-cell : (items : List Mask) (size from to : ℕ) (old new mask : Mask) → from < size → to < size → length items ≡ size * size → old ≡ get_or items (size * from + to) old →
    ((c : Context) → has_context new c ≡ (has_context old c || has_context mask c)) → (x y : ℕ) (c : Context) →
    (nat_lt y size && in_mask (slice_get (set items (size * from + to) new) (size * x + y)) c)
    ≡ ((eqb y to && (eqb x from && has_context mask c)) || (nat_lt y size && in_mask (slice_get items (size * x + y)) c))
put-cell items size from to old new mask hf ht len there union x y c =
    let within : size * from + to < length items = omega (arith, cell-within size from to hf ht) in
    elim (cases_lt y size) [
      | inr past ↦
          let apart : y ≡ to → ⊥ = λ e. omega arith in
          rw (le-ltb y size past, ne_eqb y to apart) refl
      | inl below ↦
          elim (cases_eq (size * x + y) (size * from + to)) [
            | inl same ↦
                let (ex, ey) = same_cell size x y from to below ht same in
                let now : slice_get (set items (size * from + to) new) (size * x + y) ≡ Some new = ap (slice_get (set items (size * from + to) new)) same ∙ get-set_same items (size * from + to) new within in
                let was : slice_get items (size * x + y) ≡ Some old = ap (slice_get items) same ∙ (slice_get-get_or items (size * from + to) old within ∙ ap (λ m. Some m) (sym there)) in
                rw (now, was, lt-ltb y size below, eq-eqb y to ey, eq-eqb x from ex) (union c ∙ or-swapped (has_context old c) (has_context mask c))
            | inr other ↦
                let kept : slice_get (set items (size * from + to) new) (size * x + y) ≡ slice_get items (size * x + y) = get-set_other items (size * from + to) (size * x + y) new other in
                rw (kept) (unchanged (eqb y to) (eqb x from) (has_context mask c) (nat_lt y size && in_mask (slice_get items (size * x + y)) c)
                (λ isy isx. other (ap (λ z. size * z + y) (eqb-true x from isx) ∙ ap (λ z. size * from + z) (eqb-true y to isy))))
          ]
    ]

-- one more of a range: it says so itself, or an earlier one does
row-more : (p q f g o : Bool) → (p ≡ true → f ≡ g) → ((p && f) || ((q && g) || o)) ≡ (((p || q) && g) || o)
row-more true true f true o same = rw (same refl) refl
row-more true true f false o same = rw (same refl) refl
row-more true false f g o same = rw (same refl) refl
row-more false q f g o same = refl

pub range-more : (P : ℕ → Bool) (low i k : ℕ) (before now initial : Bool) (f : Bool) → low ≤ i → (k ≡ i → f ≡ P k) → before ≡ ((is_within low i k && P k) || initial) → now ≡ ((eqb k i && f) || before) →
    now ≡ ((is_within low (i + 1) k && P k) || initial)
range-more P low i k before now initial f order same known step =
    step
    ∙ (ap (λ b. (eqb k i && f) || b) known
    ∙ (row-more (eqb k i) (is_within low i k) f (P k) initial (λ is. same (eqb-true k i is))
    ∙ ap (λ w. (w && P k) || initial) (sym (within-suc low i k order))))

pub range-none : (P : ℕ → Bool) (low k : ℕ) (initial : Bool) → initial ≡ ((is_within low low k && P k) || initial)
range-none P low k initial = ap (λ w. (w && P k) || initial) (sym (within-none low k))

pub and-swapped : (a b c : Bool) → (a && (b && c)) ≡ (b && (a && c))
and-swapped true true c = refl
and-swapped true false c = refl
and-swapped false true c = refl
and-swapped false false c = refl

-- the mask at a place, as it is read there
pub mask-read : (masks : List Mask) (i : ℕ) (d : Mask) (c : Context) → i < length masks → has_context (get_or masks i d) c ≡ in_mask (slice_get masks i) c
mask-read masks i d c below = ap (λ o. in_mask o c) (sym (slice_get-get_or masks i d below))

-- no position beyond the table is followed

and-none : (a : Bool) → (a && false) ≡ false
and-none true = refl
and-none false = refl

pub all-rows : (table : FollowMasks) (n x y : ℕ) (c : Context) → n ≡ table.size → (is_within 0 n x && is_followed table x y c) ≡ is_followed table x y c
all-rows table n x y c same =
    elim (cases_lt x n) [
      | inl below ↦ ap (λ w. w && is_followed table x y c) (within-true 0 n x (omega arith) below)
      | inr past ↦
          let wide : table.size * table.size ≤ table.size * x = mul-le-mul_left table.size (omega arith) in
          let over : length table.masks.items ≤ table.size * x + y = omega (arith, table.square, table.masks.ok.0) in
          let none : is_followed table x y c ≡ false = ap (λ o. nat_lt y table.size && in_mask o c) (slice_get_past table.masks.items (table.size * x + y) over) ∙ and-none (nat_lt y table.size) in
          ap (λ z. is_within 0 n x && z) none ∙ (and-none (is_within 0 n x) ∙ sym none)
    ]

-- Rows of bits.
use Rattle.std.proofs.Common.{◌≡◌, ℕ, ◌+◌, ◌*◌, ◌/◌, ◌%◌, ◌<◌, ◌≤◌, Bool, true, false, ◌&&◌, ◌||◌, List, length, get_or, take, drop, replicate, nat_lt, eqb, refl, sym, ap, ◌∙◌, inl, inr, arith}
use Rattle.std.specs.Int.{bit_at}
use Rattle.std.proofs.lemmas.Bool.{cases_eq, cases_lt, eq-eqb, eqb-true, ne_eqb, lt-ltb, le-ltb}
use Rattle.std.proofs.lemmas.List.{get_or-drop, get_or-take, get_or_past, get_or-replicate, length-replicate, length-drop, length-take-le}
use Rattle.std.proofs.lemmas.Nat.Bits.{bit_at-zero}
use Rattle.hs_base.specs.Bits.{has_bit}
use Rattle.hs_engine.specs.RowSizes.{row_len}
use Rattle.hs_engine.specs.Rows.{in_row, in_square, row_start, square_number}
use Rattle.hs_engine.specs.declared.follow_rows.FollowRows.{FollowRows}
use Rattle.hs_base.specs.Contexts.{Context}
use Rattle.hs_base.proofs.BitLemmas.{bits-zero}
use Rattle.hs_engine.proofs.CellLemmas.{same_cell}

and-none : (a : Bool) → (a && false) ≡ false
and-none true = refl
and-none false = refl

apart-cells : (a b c : Bool) → (a ≡ true → b ≡ true → c ≡ true → ⊥) → (a && (b && c)) ≡ false
apart-cells true true true apart = absurd (apart refl refl refl)
apart-cells true true false apart = refl
apart-cells true false c apart = refl
apart-cells false b c apart = refl

-- no bit is set in bytes that are all zero
pub replicate-bits : (n k : ℕ) → has_bit (replicate n 0) k ≡ false
replicate-bits n k =
    bits-zero (replicate n 0) (λ i.
    elim (cases_lt i n) [
      | inl below ↦ get_or-replicate n i 0 0 below
      | inr above ↦ get_or_past (replicate n 0) i 0 (omega (arith, length-replicate {A = ℕ} n 0))
    ]) k

pub none-in_square : (p q : Bool) (bytes : List ℕ) (n k : ℕ) → bytes ≡ replicate n 0 → (p && (q && has_bit bytes k)) ≡ false
none-in_square p q bytes n k zeros =
    let none : has_bit bytes k ≡ false = ap (λ z. has_bit z k) zeros ∙ replicate-bits n k in
    ap (λ b. p && (q && b)) none ∙ (ap (λ b. p && b) (and-none q) ∙ and-none p)

-- the bits of one row
pub row-bits : (bytes : List ℕ) (start len size square x y : ℕ) → x < size → start ≡ row_start size square x → len ≡ row_len size → start + len ≤ length bytes →
    has_bit (take len (drop start bytes)) y ≡ (nat_lt x size && (nat_lt y (8 * row_len size) && has_bit bytes (8 * row_start size square x + y)))
unfolding has_bit
row-bits bytes start len size square x y hx begins wide within =
    let here : nat_lt x size ≡ true = lt-ltb x size hx in
    elim (cases_lt y (8 * row_len size)) [
      | inl below ↦
          let short : y / 8 < len = omega arith in
          let place : start + y / 8 ≡ (8 * row_start size square x + y) / 8 = omega arith in
          let bit : y % 8 ≡ (8 * row_start size square x + y) % 8 = omega arith in
          let read : get_or (take len (drop start bytes)) (y / 8) 0 ≡ get_or bytes ((8 * row_start size square x + y) / 8) 0 =
          get_or-take len (drop start bytes) (y / 8) 0 short ∙ (get_or-drop start bytes (y / 8) 0 ∙ ap (λ i. get_or bytes i 0) place) in
          rw (here, lt-ltb y (8 * row_len size) below) (ap (λ n. eqb (bit_at n (y % 8)) 1) read ∙ ap (λ i. eqb (bit_at (get_or bytes ((8 * row_start size square x + y) / 8) 0) i) 1) bit)
      | inr above ↦
          let out : length (take len (drop start bytes)) ≤ y / 8 = omega (arith, length-take-le len (drop start bytes) (omega (arith, length-drop start bytes))) in
          rw (here, le-ltb y (8 * row_len size) above) (ap (λ n. eqb (bit_at n (y % 8)) 1) (get_or_past (take len (drop start bytes)) (y / 8) 0 out) ∙ ap (λ n. eqb n 1) (bit_at-zero (y % 8)))
    ]

-- two bits of rows are one only for the same square and the same positions
same_bit : (size square from to k x y : ℕ) → from < size → to < size → x < size → y < 8 * row_len size → 8 * row_start size k x + y ≡ 8 * row_start size square from + to → (k ≡ square) × (x ≡ from) × (y ≡ to)
same_bit size square from to k x y hf ht hx hy same =
    let left : 8 * row_len size * (size * k + x) + y ≡ 8 * row_start size k x + y = omega arith in
    let right : 8 * row_len size * (size * square + from) + to ≡ 8 * row_start size square from + to = omega arith in
    let (rows, places) = same_cell (8 * row_len size) (size * k + x) y (size * square + from) to hy (omega arith) (left ∙ (same ∙ sym right)) in
    let (squares, positions) = same_cell size k x square from hx hf rows in
    (squares, positions, places)

bit-number : (size square from to k x y : ℕ) → from < size → to < size → x < size → y < 8 * row_len size →
    eqb (8 * row_start size k x + y) (8 * row_start size square from + to) ≡ (eqb k square && (eqb x from && eqb y to))
bit-number size square from to k x y hf ht hx hy =
    elim (cases_eq (8 * row_start size k x + y) (8 * row_start size square from + to)) [
      | inl same ↦
          let (ek, ex, ey) = same_bit size square from to k x y hf ht hx hy same in
          rw (eq-eqb (8 * row_start size k x + y) (8 * row_start size square from + to) same, eq-eqb k square ek, eq-eqb x from ex, eq-eqb y to ey) refl
      | inr apart ↦
          ne_eqb (8 * row_start size k x + y) (8 * row_start size square from + to) apart
          ∙ sym (apart-cells (eqb k square) (eqb x from) (eqb y to)
          (λ ek ex ey. apart (ap (λ z. 8 * row_start size z x + y) (eqb-true k square ek) ∙ (ap (λ z. 8 * row_start size square z + y) (eqb-true x from ex) ∙ ap (λ z. 8 * row_start size square from + z) (eqb-true y to ey)))))
    ]

-- the rows where one bit was set
pub inserted-square : (old new : List ℕ) (size square from to bit : ℕ) → from < size → to < size → bit ≡ 8 * row_start size square from + to →
    ((b : ℕ) → has_bit new b ≡ (eqb b bit || has_bit old b)) → (k x y : ℕ) →
    (nat_lt x size && (nat_lt y (8 * row_len size) && has_bit new (8 * row_start size k x + y)))
    ≡ ((eqb k square && (eqb x from && eqb y to)) || (nat_lt x size && (nat_lt y (8 * row_len size) && has_bit old (8 * row_start size k x + y))))
inserted-square old new size square from to bit hf ht at bits k x y =
    elim (cases_lt x size) [
      | inr past ↦ rw (le-ltb x size past, ne_eqb x from (λ e. omega arith)) (sym (ap (λ b. b || false) (and-none (eqb k square))))
      | inl hx ↦ elim (cases_lt y (8 * row_len size)) [
        | inr past ↦
            rw (lt-ltb x size hx, le-ltb y (8 * row_len size) past, ne_eqb y to (λ e. omega arith))
            (sym (ap (λ b. b || false) (ap (λ b. eqb k square && b) (and-none (eqb x from)) ∙ and-none (eqb k square))))
        | inl hy ↦
            rw (lt-ltb x size hx, lt-ltb y (8 * row_len size) hy)
            (bits (8 * row_start size k x + y)
            ∙ (ap (λ z. eqb (8 * row_start size k x + y) z || has_bit old (8 * row_start size k x + y)) at
            ∙ ap (λ b. b || has_bit old (8 * row_start size k x + y)) (bit-number size square from to k x y hf ht hx hy)))
      ]
    ]

-- rows with the same bits say the same
pub same-rows : (r s : FollowRows) → r.bits.items ≡ s.bits.items → r.size ≡ s.size → r.by_context ≡ s.by_context → (x y : ℕ) (c : Context) → in_row r x y c ≡ in_row s x y c
unfolding in_square
same-rows r s bits size by_context x y c =
    ap (λ n. nat_lt x n && (nat_lt y (8 * row_len n) && has_bit r.bits.items (8 * row_start n (square_number r.by_context c) x + y))) size
    ∙ (ap (λ by. nat_lt x s.size && (nat_lt y (8 * row_len s.size) && has_bit r.bits.items (8 * row_start s.size (square_number by c) x + y))) by_context
    ∙ ap (λ items. nat_lt x s.size && (nat_lt y (8 * row_len s.size) && has_bit items (8 * row_start s.size (square_number s.by_context c) x + y))) bits)

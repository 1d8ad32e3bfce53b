-- Rows of bits, one behind the other, and which positions may follow each other.
use prog.Memory.{up}
use Rattle.std.proofs.Common.{◌≡◌, ◌≢◌, ℕ, ◌+◌, ◌-◌, ◌*◌, ◌/◌, ◌%◌, ◌<◌, ◌≤◌, Bool, true, false, not, nat_lt, ◌&&◌, ◌||◌, List, [], ◌++◌, length, get_or, take, drop, eqb, refl, sym, ap, subst, ◌∙◌, inl, inr, arith}
use Rattle.std.specs.Int.{bit_at}
use Rattle.std.proofs.lemmas.Bool.{cases_eq, cases_lt, le-ltb}
use Rattle.std.proofs.lemmas.List.{get_or-take, get_or-drop, get_or_append_left, get_or-append-add, length-append, length-take-le}
use Rattle.hs_base.specs.declared.context.Next.{Next}
use Rattle.hs_base.specs.declared.context.Next.TheVariants as after
use Rattle.hs_base.specs.declared.context.Prev.{Prev}
use Rattle.hs_base.specs.declared.context.Prev.TheVariants as behind
use Rattle.hs_base.specs.Bits.{has_bit, has_word_bit, word_count}
use Rattle.hs_base.specs.Contexts.{Context, prev_number}
use Rattle.hs_bits.specs.WordBits.{word_bit}
use Rattle.hs_bits.proofs.WordLemmas.{and-none, or-none, words-past}
use Rattle.hs_engine.specs.declared.follow_rows.FollowRows.{FollowRows}
use Rattle.hs_engine.specs.RowSizes.{class_number, row_len, square_count}
use Rattle.hs_engine.specs.Rows.{in_square, row_start, square_number}
use Rattle.hs_block.specs.StreamSets.{AreOrders, in_rows}
use Rattle.hs_block.proofs.AnyLemmas.{true-false}
use Rattle.hs_bits.proofs.PlaceLemmas.{bit-none, less-is, not-less}

-- a row has its room among so many
pub row-room : (w x n : ℕ) → x < n → w * x + w ≤ w * n
row-room w x n below =
    let d : ℕ = n - (x + 1) in
    let e : n ≡ x + 1 + d = omega arith in
    let f : w * n ≡ w * (x + 1 + d) = ap (λ k. w * k) e in
    let g : w * (x + 1 + d) ≡ w * x + w + w * d = omega arith in
    omega (arith, f, g)

-- the bits of a part
pub part-bits : (rows : List ℕ) (from width y : ℕ) → y < 64 * width → has_word_bit (take width (drop from rows)) y ≡ has_word_bit rows (64 * from + y)
unfolding has_word_bit
part-bits rows from width y below =
    let short : y / 64 < width = omega arith in
    let place : from + y / 64 ≡ (64 * from + y) / 64 = omega arith in
    let bit : y % 64 ≡ (64 * from + y) % 64 = omega arith in
    ap (λ n. eqb (bit_at n (y % 64)) 1) (get_or-take width (drop from rows) (y / 64) 0 short ∙ (get_or-drop from rows (y / 64) 0 ∙ ap (λ i. get_or rows i 0) place))
    ∙ ap (λ i. eqb (bit_at (get_or rows ((64 * from + y) / 64) 0) i) 1) bit

-- the first words of a row have its first bits
pub front-bits : (row : List ℕ) (width y : ℕ) → y < 64 * width → has_word_bit (take width row) y ≡ has_word_bit row y
unfolding has_word_bit
front-bits row width y below = ap (λ n. eqb (bit_at n (y % 64)) 1) (get_or-take width row (y / 64) 0 (omega arith))

-- rows with one more behind them
pushed-old : (rows row : List ℕ) (k : ℕ) → k < 64 * length rows → has_word_bit (rows ++ row) k ≡ has_word_bit rows k
unfolding has_word_bit
pushed-old rows row k below = ap (λ n. eqb (bit_at n (k % 64)) 1) (get_or_append_left rows row 0 (k / 64) (omega arith))

pushed-new : (rows row : List ℕ) (width y : ℕ) → y < 64 * width → has_word_bit (rows ++ take width row) (64 * length rows + y) ≡ has_word_bit row y
unfolding has_word_bit
pushed-new rows row width y below =
    let place : (64 * length rows + y) / 64 ≡ length rows + y / 64 = omega arith in
    let bit : (64 * length rows + y) % 64 ≡ y % 64 = omega arith in
    ap (λ i. eqb (bit_at (get_or (rows ++ take width row) ((64 * length rows + y) / 64) 0) i) 1) bit
    ∙ (ap (λ i. eqb (bit_at (get_or (rows ++ take width row) i 0) (y % 64)) 1) place
    ∙ ap (λ n. eqb (bit_at n (y % 64)) 1) (get_or-append-add rows (take width row) (y / 64) 0 ∙ get_or-take width row (y / 64) 0 (omega arith)))

-- So many rows are there, and of each bit there is told what a relation says.
pub record AreRows (Bit : (row bit : ℕ) → Bool → Type 0) (width count : ℕ) (rows : List ℕ) : Type 0 where
  pub count_is : length rows ≡ width * count
  pub bits : (x y : ℕ) → x < count → y < 64 * width → Bit x y (in_rows rows width x y)

pub rows-none : (Bit : (row bit : ℕ) → Bool → Type 0) (width : ℕ) → AreRows Bit width 0 []
rows-none Bit width = record {
  count_is = omega arith;
  bits = λ x y below. absurd (omega arith);
}

pub rows-more : (Bit : (row bit : ℕ) → Bool → Type 0) (width count : ℕ) (rows row new : List ℕ) → AreRows Bit width count rows → width ≤ length row →
    ((y : ℕ) → y < 64 * width → Bit count y (has_word_bit row y)) → new ≡ rows ++ take width row → AreRows Bit width (count + 1) new
rows-more Bit width count rows row new are room bits is =
    let long : length new ≡ length rows + width = ap (λ l. length l) is ∙ (length-append rows (take width row) ∙ ap (λ n. length rows + n) (length-take-le width row room)) in
    let more : width * (count + 1) ≡ width * count + width = omega arith in
    record {
      count_is = omega (arith, long, more, are.count_is);
      bits = λ x y below inside.
          elim (cases_eq x count) [
            | inl same ↦
                let at : 64 * (width * x) + y ≡ 64 * length rows + y = ap (λ k. 64 * (width * k) + y) same ∙ ap (λ n. 64 * n + y) (sym are.count_is) in
                let bit : has_word_bit new (64 * (width * x) + y) ≡ has_word_bit row y =
                ap (λ k. has_word_bit new k) at ∙ (ap (λ l. has_word_bit l (64 * length rows + y)) is ∙ pushed-new rows row width y inside) in
                subst (λ b. Bit x y b) (sym bit) (subst (λ k. Bit k y (has_word_bit row y)) (sym same) (bits y inside))
            | inr apart ↦
                let less : x < count = omega arith in
                let low : 64 * (width * x) + y < 64 * length rows = omega (arith, row-room width x count less, are.count_is, inside) in
                let bit : has_word_bit new (64 * (width * x) + y) ≡ has_word_bit rows (64 * (width * x) + y) =
                ap (λ l. has_word_bit l (64 * (width * x) + y)) is ∙ pushed-old rows (take width row) (64 * (width * x) + y) low in
                subst (λ b. Bit x y b) (sym bit) (are.bits x y less inside)
          ];
    }

-- beyond the positions nothing follows
pub square-past : (rows : FollowRows) (k x y : ℕ) → rows.size ≤ x → in_square rows k x y ≡ false
unfolding in_square
square-past rows k x y past = ap (λ b. b && (nat_lt y (8 * row_len rows.size) && has_bit rows.bits.items (8 * row_start rows.size k x + y))) (le-ltb x rows.size past)

pub square-wide : (rows : FollowRows) (k x y : ℕ) → 8 * row_len rows.size ≤ y → in_square rows k x y ≡ false
unfolding in_square
square-wide rows k x y past = ap (λ b. nat_lt x rows.size && (b && has_bit rows.bits.items (8 * row_start rows.size k x + y))) (le-ltb y (8 * row_len rows.size) past) ∙ and-none (nat_lt x rows.size)

prev-few : (p : Prev) → prev_number p < 4
prev-few behind.Start = omega arith
prev-few behind.Word = omega arith
prev-few behind.Newline = omega arith
prev-few behind.Other = omega arith

class-few : (n : Next) → class_number n < 3
class-few after.Word = omega arith
class-few after.Newline = omega arith
class-few after.Other = omega arith
class-few after.End = omega arith
class-few after.FinalNewline = omega arith
class-few after.Unknown = omega arith

pub square-few : (c : Context) → square_number true c < 12
square-few c = omega (arith, prev-few c.prev, class-few c.next)

pub number-few : (by_context : Bool) (c : Context) → square_number by_context c < square_count by_context
number-few true c = square-few c
number-few false c = omega arith

-- the number of a square, by the two that stand for its context
pub square-there : (by_context : Bool) (square : ℕ) (c : Context) → square < square_count by_context → prev_number c.prev ≡ square / 3 → class_number c.next ≡ square % 3 → square_number by_context c ≡ square
square-there true square c few prev class = omega (arith, prev, class)
square-there false square c few prev class = omega arith

-- in each context, or in one but not in each
either-part : (always here : Bool) → (always ≡ true → here ≡ true) → (always || (here && not always)) ≡ here
either-part true here is = sym (is refl)
either-part false true is = refl
either-part false false is = refl

one-square : (by_context : Bool) → square_count by_context ≡ 1 → by_context ≡ false
one-square false is = refl
one-square true is = absurd (omega (arith, is))

pub more-squares : (by_context : Bool) → (square_count by_context ≡ 1 → ⊥) → by_context ≡ true
more-squares true is = refl
more-squares false is = absurd (is refl)

-- what holds of the rows where one square is for all contexts
pub orders-one : (rows : FollowRows) (width : ℕ) (froms rests successors asks : List ℕ) → square_count rows.by_context ≡ 1 → length rests ≡ 0 → width ≡ word_count rows.size → length froms ≡ width * rows.size → length successors ≡ width * rows.size →
    length asks ≡ rows.size → ((x : ℕ) → get_or asks x 0 ≡ 0) →
    (rows.by_context ≡ false → (x y : ℕ) → x < rows.size → y < 64 * width → in_rows froms width x y ≡ in_square rows 0 y x) →
    ((x k y : ℕ) → x < rows.size → y < 64 * width → k < square_count rows.by_context → in_square rows k x y ≡ true → y ≢ x → in_rows successors width x y ≡ true) →
    AreOrders rows width froms rests successors asks
orders-one rows width froms rests successors asks single empty_ wide froms_count successors_count asks_count none_ are have = record {
  wide = wide;
  froms_count = froms_count;
  successors_count = successors_count;
  asks_count = asks_count;
  asked = λ is. true-false rows.by_context is (one-square rows.by_context single);
  still = λ is. none_;
  few_asked = λ x q past. ap (λ w. word_bit w q) (none_ x) ∙ bit-none q;
  froms_are = λ x y c below.
      let square : square_number rows.by_context c ≡ 0 = ap (λ b. square_number b c) (one-square rows.by_context single) in
      let empty : in_rows rests width (12 * x + square_number true c) y ≡ false = words-past rests (64 * (width * (12 * x + square_number true c)) + y) (omega (arith, empty_)) in
      elim (cases_lt y rows.size) [
        | inl inside ↦
            ap (λ b. b && (in_rows froms width x y || in_rows rests width (12 * x + square_number true c) y)) (less-is y rows.size inside)
            ∙ (ap (λ b. in_rows froms width x y || b) empty
            ∙ (or-none (in_rows froms width x y) ∙ (are (one-square rows.by_context single) x y below (omega (arith, inside, wide)) ∙ ap (λ k. in_square rows k y x) (sym square))))
        | inr past ↦
            ap (λ b. b && (in_rows froms width x y || in_rows rests width (12 * x + square_number true c) y)) (not-less y rows.size past)
            ∙ sym (square-past rows (square_number rows.by_context c) y x past)
      ];
  unasked = λ x q y below few inside unset. words-past rests (64 * (width * (12 * x + q)) + y) (omega (arith, empty_));
  successors_have = λ x y c below inside follows apart. have x (square_number rows.by_context c) y below (omega (arith, inside, wide)) (number-few rows.by_context c) follows apart;
}

-- and where each context has its own
pub orders-more : (rows : FollowRows) (width : ℕ) (froms rests successors asks : List ℕ) → rows.by_context ≡ true → width ≡ word_count rows.size → length froms ≡ width * rows.size → length successors ≡ width * rows.size →
    length asks ≡ rows.size → length rests ≡ width * (12 * rows.size) → ((x q : ℕ) → 12 ≤ q → word_bit (get_or asks x 0) q ≡ false) →
    ((x q y : ℕ) → x < rows.size → q < 12 → y < 64 * width → word_bit (get_or asks x 0) q ≡ false → in_rows rests width (12 * x + q) y ≡ false) →
    ((x y k : ℕ) → x < rows.size → y < 64 * width → in_rows froms width x y ≡ true → k < square_count rows.by_context → in_square rows k y x ≡ true) →
    ((x q y : ℕ) → x < rows.size → q < 12 → y < 64 * width → in_rows rests width (12 * x + q) y ≡ (in_square rows q y x && not (in_rows froms width x y))) →
    ((x k y : ℕ) → x < rows.size → y < 64 * width → k < square_count rows.by_context → in_square rows k x y ≡ true → y ≢ x → in_rows successors width x y ≡ true) →
    AreOrders rows width froms rests successors asks
orders-more rows width froms rests successors asks more wide froms_count successors_count asks_count rests_count few_asked unasked each bits have = record {
  wide = wide;
  froms_count = froms_count;
  successors_count = successors_count;
  asks_count = asks_count;
  asked = λ is. omega (arith, rests_count);
  still = λ is. true-false rows.by_context more is;
  few_asked = few_asked;
  froms_are = λ x y c below.
      let q : ℕ = square_number true c in
      let square : square_number rows.by_context c ≡ q = ap (λ b. square_number b c) more in
      elim (cases_lt y rows.size) [
        | inl inside ↦
            let room : y < 64 * width = omega (arith, inside, wide) in
            ap (λ b. b && (in_rows froms width x y || in_rows rests width (12 * x + q) y)) (less-is y rows.size inside)
            ∙ (ap (λ b. in_rows froms width x y || b) (bits x q y below (square-few c) room)
            ∙ (either-part (in_rows froms width x y) (in_square rows q y x)
            (λ always. ap (λ k. in_square rows k y x) (sym square) ∙ each x y (square_number rows.by_context c) below room always (number-few rows.by_context c))
            ∙ ap (λ k. in_square rows k y x) (sym square)))
        | inr past ↦
            ap (λ b. b && (in_rows froms width x y || in_rows rests width (12 * x + q) y)) (not-less y rows.size past)
            ∙ sym (square-past rows (square_number rows.by_context c) y x past)
      ];
  unasked = λ x q y below few inside unset. unasked x q y below few (omega (arith, inside, wide)) unset;
  successors_have = λ x y c below inside follows apart. have x (square_number rows.by_context c) y below (omega (arith, inside, wide)) (number-few rows.by_context c) follows apart;
}

-- all bits of a row
pub with-all : (from size k : ℕ) (test now : Bool) → from ≡ size → (size ≤ k → test ≡ false) → now ≡ (nat_lt k from && test) → now ≡ test
with-all from size k test now all past is =
    is
    ∙ elim (cases_lt k from) [
      | inl below ↦ ap (λ b. b && test) (less-is k from below)
      | inr above ↦ ap (λ b. b && test) (not-less k from above) ∙ sym (past (omega arith))
    ]

-- what few bytes take, up to the next multiple of eight
pub small-size : (bytes : ℕ) → bytes ≤ 1024 → up 8 bytes < 9223372036854775808
small-size bytes few = omega arith

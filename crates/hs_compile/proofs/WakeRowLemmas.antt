-- The rows of first engines, put into a table engine by engine.
use Rattle.std.proofs.Common.{◌≡◌, ℕ, zero, suc, ◌+◌, ◌<◌, ◌≤◌, true, List, [], ◌∷◌, ◌++◌, length, take, Option, Some, slice_get, refl, sym, ap, subst, ◌∙◌, inl, inr, arith, length-append, length-take}
use Rattle.std.specs.Prelude.{slice_index}
use Rattle.std.proofs.lemmas.Bool.{cases_lt}
use Rattle.std.proofs.lemmas.List.{get_or-take, get_or_append_left}
use Rattle.std.proofs.lemmas.Option.{same_Some, slice_get_cases, slice_get_within}
use Rattle.std.proofs.Math.Seq.{get_or-append_seam}
use Rattle.hs_base.specs.declared.byte_set.ByteSet.{ByteSet}
use Rattle.hs_base.specs.declared.context.Mask.{Mask}
use Rattle.hs_base.specs.declared.context.Prev.{Prev}
use Rattle.hs_bits.specs.BlockContexts.{prev_before}
use Rattle.hs_engine.specs.Automata.{in_set}
use Rattle.hs_engine.specs.Engines.{Meaning}
use Rattle.hs_nodes.specs.Waking.{AreRowsFor, AreRowsOf, CoversRow}
use Rattle.hs_nodes.specs.declared.table.Node.{Node}
use Rattle.hs_nodes.specs.declared.table.NodeKind.TheVariants.{Engine}
use Rattle.hs_nodes.specs.declared.wake_table.WakeTable.{WakeTable}
use Rattle.hs_rose.proofs.ListLemmas.{get-behind, get-left, get-push, take-get}
use Rattle.hs_rose.specs.PieceEngines.{piece_meaning}
use Rattle.hs_rose.specs.declared.engine.PieceEngine.{PieceEngine}
use Rattle.hs_waking.proofs.RowTableLemmas.{behind-kept, there}
use Rattle.hs_waking.specs.Fits.{FitsAt, IsBehindBy, IsRowBy, row_numbers}
use Rattle.hs_waking.specs.PrevSets.{has_prev}
use Rattle.hs_waking.specs.RowTables.{Extends, IsCutRow, PutsRow}
use Rattle.hs_waking.specs.declared.prev_set.PrevSet.{PrevSet}
use Rattle.hs_waking.specs.declared.row_table.RowTable.{RowTable}
use Rattle.hs_waking.specs.declared.wake_row.WakeRow.{WakeRow}
use Rattle.hs_compile.specs.GraphWakes.{AreRowsAt, AreWithin, PutsOne, PutsRows}

-- a row that ends early

taken : {A : Type 0} (n : ℕ) (xs : List A) (d : ℕ) → d < n → slice_get (take n xs) d ≡ slice_get xs d
taken zero xs d low = absurd (omega (arith, low))
taken (suc n) [] d low = refl
taken (suc n) (x ∷ xs) zero low = refl
taken (suc n) (x ∷ xs) (suc d) low = taken n xs d (omega (arith, low))

-- it fits wherever the whole row does, and so does one that may begin behind more
cut-fits : (behind less : PrevSet) (own : List ByteSet) (n : ℕ) → ((prev : Prev) → has_prev less prev ≡ true → has_prev behind prev ≡ true) → (prev : Prev) (bytes : List ℕ) (i : ℕ) → FitsAt less own prev bytes i → FitsAt behind (take n own) prev bytes i
cut-fits behind less own n more prev bytes i fits = (
  more (prev_before prev bytes i) fits.0,
  λ d within inside.
      let short = length-take n own in
      ap (λ o. in_set o (slice_index bytes (i + d))) (taken n own d (omega (arith, within, short))) ∙ fits.1 d (omega (arith, within, short)) inside,
)

-- sets that are put behind others

numbered-kept : (numbers : List ℕ) (old new own : List ByteSet) → Extends old new → IsRowBy numbers old own → IsRowBy numbers new own
numbered-kept numbers old new own kept by = record {
  count = by.count;
  are = λ d low.
      let (set, here) = there own d (omega (arith, low, by.count)) in
      here ∙ sym (kept (slice_index numbers d) set (sym (by.are d low) ∙ here));
}

within-kept : (old new : List ByteSet) (k : ℕ) → Extends old new → k < length old → k < length new
within-kept old new k kept low = let (set, here) = there old k low in slice_get_within new k set (kept k set here)

covers-kept : (old new : List ByteSet) (behind : PrevSet) (own : List ByteSet) (row : WakeRow) → Extends old new → CoversRow old behind own row → CoversRow new behind own row
covers-kept old new behind own row kept is = record { cut = is.cut; numbered = numbered-kept (row_numbers row) old new is.cut kept is.numbered; covers = is.covers }

-- rows that stay where others are put behind them

abbrev AreKept : (old new : List WakeRow) → Type 0
AreKept old new = (i : ℕ) (row : WakeRow) → slice_get old i ≡ Some row → slice_get new i ≡ Some row

count-kept : (old new : List WakeRow) → AreKept old new → length old ≤ length new
count-kept old new kept = elim (slice_get_cases old (length new)).1 [
  | inl found ↦ absurd (omega (arith, slice_get_within new (length new) found.0 (kept (length new) found.0 found.2)))
  | inr past ↦ past.0
]

rows-kept : (m : Meaning) (old new : List ByteSet) (rows rows' : List WakeRow) (from to : ℕ) → Extends old new → AreKept rows rows' → AreRowsFor m old rows from to → AreRowsFor m new rows' from to
rows-kept m old new rows rows' from to kept stay are = record {
  behind = are.behind;
  own = are.own;
  tell = are.tell;
  each = λ d one at. let (i, row, high, low, here, covers) = are.each d one at in (i, row, high, low, stay i row here, covers-kept old new are.behind one row kept covers);
}

rows-between : (m : Meaning) (sets : List ByteSet) (rows : List WakeRow) (from from' to to' : ℕ) → from ≡ from' → to ≡ to' → AreRowsFor m sets rows from to → AreRowsFor m sets rows from' to'
rows-between m sets rows from from' to to' low high are = subst (AreRowsFor m sets rows from') high (subst (λ s. AreRowsFor m sets rows s to) low are)

-- the new row

module _ (sets own : List ByteSet) (row : WakeRow) (is : IsCutRow sets own row.count row.numbers) where
  cut-numbered : IsRowBy (row_numbers row) sets (take row.count own)
  cut-numbered = record {
    count = omega (arith, length-take row.count own, length-take row.count row.numbers, is.few, is.room);
    are = λ d low.
        let short : d < row.count = omega (arith, low, length-take row.count row.numbers) in
        taken row.count own d short ∙ (sym (is.are d short) ∙ ap (slice_get sets) (sym (get_or-take row.count row.numbers d 0 short)));
  }

  cut-within : (d : ℕ) → d < length (row_numbers row) → slice_index (row_numbers row) d < length sets
  cut-within d low =
      let short : d < row.count = omega (arith, low, length-take row.count row.numbers) in
      let (set, here) = there own d (omega (arith, short, is.few)) in
      omega (arith, get_or-take row.count row.numbers d 0 short, slice_get_within sets (slice_index row.numbers d) set (is.are d short ∙ here))

module _ (old new : RowTable) (behind : PrevSet) (own : List ByteSet) (puts : PutsRow old new behind own) where
  row-stays : AreKept old.rows.items new.rows.items
  row-stays i row at = ap (λ rs. slice_get rs i) puts.rows ∙ get-left old.rows.items (puts.row ∷ []) i row at

  row-covers : CoversRow new.sets.items behind own puts.row
  row-covers = record {
    cut = take puts.row.count own;
    numbered = cut-numbered new.sets.items own puts.row puts.is;
    covers = cut-fits puts.row.behind behind own puts.row.count puts.behind_more;
  }

  row-there : slice_get new.rows.items (length old.rows.items) ≡ Some puts.row
  row-there = ap (λ rs. slice_get rs (length old.rows.items)) puts.rows ∙ get-behind old.rows.items puts.row

  row-within : AreWithin old → AreWithin new
  row-within within = record {
    numbers = λ i d row at low. elim (get-push old.rows.items puts.row i row (ap (λ rs. slice_get rs i) (sym puts.rows) ∙ at)) [
      | inl before ↦ within-kept old.sets.items new.sets.items (slice_index (row_numbers row) d) puts.kept (within.numbers i d row before low)
      | inr last ↦
          subst (λ (r : WakeRow). slice_index (row_numbers r) d < length new.sets.items) last.1
          (cut-within new.sets.items own puts.row puts.is d (subst (λ (r : WakeRow). d < length (row_numbers r)) (sym last.1) low))
    ];
    begins = λ i row at. elim (get-push old.rows.items puts.row i row (ap (λ rs. slice_get rs i) (sym puts.rows) ∙ at)) [
      | inl before ↦ behind-kept row row old.sets.items new.sets.items refl refl puts.kept (within.begins i row before)
      | inr last ↦ subst (λ (r : WakeRow). IsBehindBy r new.sets.items) last.1 puts.behind_is
    ];
  }

-- the rows of one engine

module _ (old mid new : RowTable) (behind : PrevSet) (first : List (List ByteSet)) (own : List ByteSet) (before : PutsRows old mid behind first) (puts : PutsRow mid new behind own) where
  one-kept : (one : List ByteSet) → PutsOne mid (length old.rows.items) behind one → PutsOne new (length old.rows.items) behind one
  one-kept one is = record {
    place = is.place;
    row = is.row;
    behind_all = is.behind_all;
    there = row-stays mid new behind own puts is.place is.row is.there;
    covers = covers-kept mid.sets.items new.sets.items behind one is.row puts.kept is.covers;
  }

  one-more : PutsOne new (length old.rows.items) behind own
  one-more = record {
    place = length mid.rows.items;
    row = puts.row;
    behind_all = count-kept old.rows.items mid.rows.items before.more;
    there = row-there mid new behind own puts;
    covers = row-covers mid new behind own puts;
  }

  puts-push : PutsRows old new behind (first ++ own ∷ [])
  puts-push = record {
    more = λ i row at. row-stays mid new behind own puts i row (before.more i row at);
    kept = λ k set at. puts.kept k set (before.kept k set at);
    within = λ within. row-within mid new behind own puts (before.within within);
    each = λ d one at. elim (get-push first own d one at) [
      | inl here ↦ one-kept one (before.each d one here)
      | inr last ↦ subst (PutsOne new (length old.rows.items) behind) last.1 one-more
    ];
  }

pub puts-more : (old mid new : RowTable) (behind : PrevSet) (rows : List (List ByteSet)) (n m : ℕ) (own : List ByteSet) → m ≡ suc n → slice_get rows n ≡ Some own → PutsRows old mid behind (take n rows) → PutsRow mid new behind own → PutsRows old new behind (take m rows)
puts-more old mid new behind rows n m own next at before puts =
    subst (PutsRows old new behind) (sym (take-get rows n own at) ∙ ap (λ k. take k rows) (sym next)) (puts-push old mid new behind (take n rows) own before puts)

-- the rows of so many engines of the list, and where they begin
pub record AreRowsTo (nodes : List Node) (engines : List PieceEngine) (list : List ℕ) (n : ℕ) (starts : List ℕ) (table : RowTable) : Type 0 where
  pub count : length starts ≡ suc n
  pub last : slice_index starts n ≡ length table.rows.items
  pub known : (i : ℕ) → i ≤ n → slice_index starts i ≤ length table.rows.items
  pub within : AreWithin table
  pub are : (i k number : ℕ) (null : Option Mask) (node : Node) (e : PieceEngine) → i < n → slice_get list i ≡ Some k → slice_get nodes k ≡ Some node → node.kind ≡ Engine number null → slice_get engines number ≡ Some e →
      AreRowsFor (piece_meaning e) table.sets.items table.rows.items (slice_index starts i) (slice_index starts (suc i))

module _ (nodes : List Node) (engines : List PieceEngine) (list : List ℕ) (n m k : ℕ) (next : m ≡ suc n) (starts : List ℕ) (old new : RowTable) (behind : PrevSet) (own : List (List ByteSet))
    (at_list : slice_get list n ≡ Some k) (of_node : AreRowsAt nodes engines k behind own) (puts : PutsRows old new behind own) (to : AreRowsTo nodes engines list n starts old) where
  start-before : (i : ℕ) → i < suc n → slice_index starts i ≡ slice_index (starts ++ length new.rows.items ∷ []) i
  start-before i low = sym (get_or_append_left starts (length new.rows.items ∷ []) 0 i (omega (arith, low, to.count)))

  start-last : (i : ℕ) → i ≡ suc n → length new.rows.items ≡ slice_index (starts ++ length new.rows.items ∷ []) i
  start-last i is = sym (ap (λ j. slice_index (starts ++ length new.rows.items ∷ []) j) (is ∙ sym to.count) ∙ get_or-append_seam starts (length new.rows.items) [] 0)

  own-rows : (number : ℕ) (null : Option Mask) (node : Node) (e : PieceEngine) → slice_get nodes k ≡ Some node → node.kind ≡ Engine number null → slice_get engines number ≡ Some e →
      AreRowsFor (piece_meaning e) new.sets.items new.rows.items (length old.rows.items) (length new.rows.items)
  own-rows number null node e at_node kind_is at_e = record {
    behind = behind;
    own = own;
    tell = of_node number null node e at_node kind_is at_e;
    each = λ d one at.
        let is = puts.each d one at in
        (is.place, is.row, is.behind_all, slice_get_within new.rows.items is.place is.row is.there, is.there, is.covers);
  }

  rows-push : AreRowsTo nodes engines list m (starts ++ length new.rows.items ∷ []) new
  rows-push = record {
    count = omega (arith, next, to.count, length-append starts (length new.rows.items ∷ []));
    last = sym (start-last m next);
    known = λ i low. elim (cases_lt i (suc n)) [
      | inl less ↦ omega (arith, start-before i less, to.known i (omega (arith, less)), count-kept old.rows.items new.rows.items puts.more)
      | inr past ↦ omega (arith, start-last i (omega (arith, low, past, next)))
    ];
    within = puts.within to.within;
    are = λ i k' number null node e low listed at_node kind_is at_e. elim (cases_lt i n) [
      | inl less ↦
          rows-between (piece_meaning e) new.sets.items new.rows.items _ _ _ _ (start-before i (omega (arith, less))) (start-before (suc i) (omega (arith, less)))
          (rows-kept (piece_meaning e) old.sets.items new.sets.items old.rows.items new.rows.items _ _ puts.kept puts.more (to.are i k' number null node e less listed at_node kind_is at_e))
      | inr past ↦
          let same : i ≡ n = omega (arith, past, low, next) in
          let one : k' ≡ k = same_Some k' k (sym listed ∙ (ap (slice_get list) same ∙ at_list)) in
          let start : length old.rows.items ≡ slice_index starts i = sym (ap (λ j. slice_index starts j) same ∙ to.last) in
          rows-between (piece_meaning e) new.sets.items new.rows.items _ _ _ _ (start ∙ start-before i (omega (arith, same))) (start-last (suc i) (ap suc same))
          (own-rows number null node e (ap (slice_get nodes) (sym one) ∙ at_node) kind_is at_e)
    ];
  }

  pub rows-more : (start : ℕ) (starts' : List ℕ) → start ≡ length new.rows.items → starts' ≡ starts ++ start ∷ [] → AreRowsTo nodes engines list m starts' new
  rows-more start starts' is pushed = subst (λ ss. AreRowsTo nodes engines list m ss new) (sym (pushed ∙ ap (λ s. starts ++ s ∷ []) is)) rows-push

-- the rows of all engines of the list
pub rows-all : (nodes : List Node) (engines : List PieceEngine) (list starts : List ℕ) (table : RowTable) (n : ℕ) → n ≡ length list → AreRowsTo nodes engines list n starts table → AreRowsOf piece_meaning nodes engines list starts table.rows.items table.sets.items
rows-all nodes engines list starts table n whole to = record {
  within = to.within.numbers;
  begins = to.within.begins;
  starts_count = to.count ∙ ap suc whole;
  known = λ i low. to.known (suc i) (omega (arith, low, whole));
  are = λ i k number null node e listed. to.are i k number null node e (omega (arith, whole, slice_get_within list i k listed)) listed;
}

-- the same nodes, engines and rows
pub rows-same : (nodes nodes' : List Node) (engines engines' : List PieceEngine) (wakes wakes' : WakeTable) → nodes ≡ nodes' → engines ≡ engines' → wakes ≡ wakes' →
    AreRowsOf piece_meaning nodes engines wakes.first_engines.items wakes.row_starts.items wakes.rows.items wakes.sets.items →
    AreRowsOf piece_meaning nodes' engines' wakes'.first_engines.items wakes'.row_starts.items wakes'.rows.items wakes'.sets.items
rows-same nodes nodes' engines engines' wakes wakes' one two three are =
    subst (λ (w : WakeTable). AreRowsOf piece_meaning nodes' engines' w.first_engines.items w.row_starts.items w.rows.items w.sets.items) three
    (subst (λ es. AreRowsOf piece_meaning nodes' es wakes.first_engines.items wakes.row_starts.items wakes.rows.items wakes.sets.items) two
    (subst (λ ns. AreRowsOf piece_meaning ns engines wakes.first_engines.items wakes.row_starts.items wakes.rows.items wakes.sets.items) one are))

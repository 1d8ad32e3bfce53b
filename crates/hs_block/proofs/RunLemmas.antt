-- How a block is taken byte by byte.
use Rattle.std.proofs.Common.{◌≡◌, ◌↔◌, ℕ, zero, suc, ◌+◌, ◌-◌, ◌<◌, ◌≤◌, Bool, true, false, not, ◌&&◌, ◌||◌, List, [], ◌∷◌, ◌++◌, length, get_or, take, eqb, refl, sym, ap, subst, ◌∙◌, inl, inr, arith}
use Rattle.std.specs.Prelude.{if◌then◌else◌, IsTrue}
use Rattle.std.proofs.lemmas.Bool.{cases_eq, cases_lt, eq-eqb, ne_eqb}
use Rattle.hs_base.specs.declared.context.Next.{Next}
use Rattle.hs_base.specs.declared.context.Next.TheVariants as after
use Rattle.hs_base.specs.declared.context.NextSet.{NextSet}
use Rattle.hs_base.specs.declared.context.Prev.{Prev}
use Rattle.hs_base.specs.Assertions.{line_feed, is_word_byte}
use Rattle.hs_base.specs.Bits.{AreZero}
use Rattle.hs_base.specs.Contexts.{class_of, prev_at, prev_by}
use Rattle.hs_base.specs.ContextSets.{has_next}
use Rattle.hs_base.specs.Trees.{Tree}
use Rattle.hs_base.specs.declared.byte_set.ByteSet.{ByteSet}
use Rattle.hs_base.specs.ByteSets.{has}
use Rattle.hs_engine.specs.Engines.{Meaning, AreWakers, IsQuiet, IsStart, LeavesNothing, Stays, TellsLeaves}
use Rattle.hs_block.specs.declared.by_steps.Progress.{Progress}
use Rattle.hs_bits.specs.WordBits.{word_bit, bits_of, Marks, count_below, count_set}
use Rattle.hs_block.specs.Scans.{IsLeftBefore, IsLeftBehind}
use Rattle.hs_block.specs.Blocks.{IsEnteredThroughout, IsFieldOf, IsBlockRun, is_blank, is_busy}
use Rattle.hs_block.specs.Rests.{is_busy_at, IsAsleepOver}
use Rattle.hs_block.specs.Progress.{IsRunTo}
use Rattle.std.proofs.lemmas.List.{append-nil, take_all}
use Rattle.hs_bits.proofs.PlaceLemmas.{or-false, bit-none}
use Rattle.hs_bits.proofs.BlockLemmas.{block-more, entered-more, length-block, length-entered, prev-next, marks-more, count-same, count-more, or-none}

-- regions up to a place, and another from there on
extended : (ℕ → List ℕ) → ℕ → List ℕ → ℕ → List ℕ
extended parts n new i = elim (cases_lt n i) [ inl above ↦ new | inr low ↦ parts i ]

extended-low : (parts : ℕ → List ℕ) (n : ℕ) (new : List ℕ) (i : ℕ) → i ≤ n → extended parts n new i ≡ parts i
unfolding extended
extended-low parts n new i low = elim (cases_lt n i) as (λ s. elim s [ inl above ↦ new | inr low ↦ parts i ] ≡ parts i) [ inl above ↦ absurd (omega arith) | inr low ↦ refl ]

extended-above : (parts : ℕ → List ℕ) (n : ℕ) (new : List ℕ) (i : ℕ) → n < i → extended parts n new i ≡ new
unfolding extended
extended-above parts n new i above = elim (cases_lt n i) as (λ s. elim s [ inl above ↦ new | inr low ↦ parts i ] ≡ new) [ inl above ↦ refl | inr low ↦ absurd (omega arith) ]

-- What taking one byte of a block shows.
pub record IsByteTaken (m : Meaning) (region new : List ℕ) (at enters : ℕ) (bytes : List ℕ) (p : Progress) (behind : Prev) (rests : Bool) (left : NextSet) (before' behind' spent : ℕ) : Type 0 where
  pub within : p.place < length bytes
  pub len : length new ≡ m.width
  pub well : m.well new (at + (p.place + 1))
  pub spent_is : spent ≡ (if is_busy_at region enters p.place then 1 else 0)
  pub idle : is_busy_at region enters p.place ≡ false → new ≡ region
  pub takes : (tree : Tree) (u : List ℕ) (entered : List Bool) → IsFieldOf m region p.behind (at + p.place) tree u entered →
      m.field new tree (u ++ get_or bytes p.place 0 ∷ []) (entered ++ word_bit enters p.place ∷ [])
  pub behind_is : behind ≡ prev_by (eqb (get_or bytes p.place 0) line_feed) (is_word_byte (get_or bytes p.place 0))
  pub left_is : TellsLeaves m new behind (at + (p.place + 1)) left
  pub rests_are : m.always ≡ false → IsTrue rests ↔ AreZero new
  pub quiet : IsTrue rests → IsQuiet m new
  pub silent : IsTrue rests → (next : Next) → has_next left next ≡ false
  pub before_bits : (j : ℕ) → word_bit before' j ≡ ((eqb j p.place && has_next p.left (class_of (get_or bytes p.place 0))) || word_bit p.ends.before j)
  pub behind_bits : (j : ℕ) → word_bit behind' j ≡ ((eqb j p.place && has_next left after.Unknown) || word_bit p.ends.behind j)

-- the history so far
history : (m : Meaning) (first region : List ℕ) (prev : Prev) (at enters : ℕ) (bytes : List ℕ) (p : Progress) (ticks : ℕ) → IsRunTo m first region prev at enters bytes p ticks →
    (tree : Tree) (u : List ℕ) (entered : List Bool) → IsFieldOf m first prev at tree u entered →
    IsFieldOf m region p.behind (at + p.place) tree (u ++ take p.place bytes) (entered ++ bits_of enters p.place)
history m first region prev at enters bytes p ticks run tree u entered is = record {
  runs = is.runs;
  count = omega (arith, is.count, length-block u bytes p.place run.within, length-entered entered enters p.place);
  offset = omega (arith, is.offset, length-block u bytes p.place run.within);
  behind = run.prev_is u is.behind;
  field = subst (λ part. m.field part tree (u ++ take p.place bytes) (entered ++ bits_of enters p.place)) run.here (run.fields tree u entered is p.place (omega arith));
}

-- the field behind one more byte
field-next : (m : Meaning) (first region new : List ℕ) (prev : Prev) (at enters : ℕ) (bytes : List ℕ) (p : Progress) (ticks : ℕ) (behind : Prev) (rests : Bool) (left : NextSet) (before' behind' spent : ℕ) →
    IsRunTo m first region prev at enters bytes p ticks → IsByteTaken m region new at enters bytes p behind rests left before' behind' spent →
    (tree : Tree) (u : List ℕ) (entered : List Bool) → IsFieldOf m first prev at tree u entered →
    m.field new tree (u ++ take (p.place + 1) bytes) (entered ++ bits_of enters (p.place + 1))
field-next m first region new prev at enters bytes p ticks behind rests left before' behind' spent run taken tree u entered is =
    subst (λ w. m.field new tree w (entered ++ bits_of enters (p.place + 1))) (block-more u bytes p.place taken.within)
    (subst (λ v. m.field new tree ((u ++ take p.place bytes) ++ get_or bytes p.place 0 ∷ []) v) (entered-more entered enters p.place)
    (taken.takes tree (u ++ take p.place bytes) (entered ++ bits_of enters p.place) (history m first region prev at enters bytes p ticks run tree u entered is)))

-- one more byte
pub run-more : (m : Meaning) (first region new : List ℕ) (prev : Prev) (at enters : ℕ) (bytes : List ℕ) (p : Progress) (ticks : ℕ) (behind : Prev) (rests : Bool) (left : NextSet) (before' behind' spent : ℕ) →
    IsRunTo m first region prev at enters bytes p ticks → IsByteTaken m region new at enters bytes p behind rests left before' behind' spent →
    IsRunTo m first new prev at enters bytes (record { place = p.place + 1; behind = behind; rests = rests; left = left; ends = record { before = before'; behind = behind' } }) (ticks + spent)
run-more m first region new prev at enters bytes p ticks behind rests left before' behind' spent run taken =
    let n : ℕ = p.place in
    let parts : ℕ → List ℕ = extended run.parts n new in
    let low : (i : ℕ) → i ≤ n → parts i ≡ run.parts i = extended-low run.parts n new in
    let last : (i : ℕ) → n < i → parts i ≡ new = extended-above run.parts n new in
    let there : parts n ≡ region = low n (omega arith) ∙ run.here in
    let busy : (i : ℕ) → i ≤ n → is_busy enters run.parts i ≡ is_busy enters parts i = λ i h. ap (λ part. word_bit enters i || not (is_blank part)) (sym (low i h)) in
    let busy_here : is_busy enters parts n ≡ is_busy_at region enters n = ap (λ part. word_bit enters n || not (is_blank part)) there in
    record {
      parts = parts;
      begins = low 0 (omega arith) ∙ run.begins;
      here = last (n + 1) (omega arith);
      within = omega (arith, taken.within);
      sized = λ i h.
          elim (cases_lt n i) [
            | inl above ↦ ap length (last i above) ∙ taken.len
            | inr below ↦ ap length (low i below) ∙ run.sized i below
          ];
      well = λ i h.
          elim (cases_lt n i) [
            | inl above ↦
                let e : n + 1 ≡ i = omega arith in
                subst (λ part. m.well part (at + i)) (sym (last i above)) (subst (λ k. m.well new (at + k)) e taken.well)
            | inr below ↦ subst (λ part. m.well part (at + i)) (sym (low i below)) (run.well i below)
          ];
      ticks_are =
          let one : count_below n (is_busy enters run.parts) ≡ count_below n (is_busy enters parts) = count-same n (is_busy enters run.parts) (is_busy enters parts) (λ i h. busy i (omega arith)) in
          let here : spent ≡ (if is_busy enters parts n then 1 else 0) = taken.spent_is ∙ ap (λ b. if b then 1 else 0) (sym busy_here) in
          omega (arith, run.ticks_are, one, here, count-more n (is_busy enters parts));
      idle = λ i h unmoved.
          elim (cases_lt i n) [
            | inl below ↦ low (i + 1) (omega arith) ∙ (run.idle i below (busy i (omega arith) ∙ unmoved) ∙ sym (low i (omega arith)))
            | inr above ↦
                let e : n ≡ i = omega arith in
                subst (λ k. parts (k + 1) ≡ parts k) e
                (last (n + 1) (omega arith) ∙ (taken.idle (sym busy_here ∙ subst (λ k. is_busy enters parts k ≡ false) (sym e) unmoved) ∙ sym there))
          ];
      fields = λ tree u entered is i h.
          elim (cases_lt n i) [
            | inl above ↦
                let e : n + 1 ≡ i = omega arith in
                subst (λ part. m.field part tree (u ++ take i bytes) (entered ++ bits_of enters i)) (sym (last i above))
                (subst (λ k. m.field new tree (u ++ take k bytes) (entered ++ bits_of enters k)) e
                (field-next m first region new prev at enters bytes p ticks behind rests left before' behind' spent run taken tree u entered is))
            | inr below ↦ subst (λ part. m.field part tree (u ++ take i bytes) (entered ++ bits_of enters i)) (sym (low i below)) (run.fields tree u entered is i below)
          ];
      before_is = λ tree u entered is.
          let here = history m first region prev at enters bytes p ticks run tree u entered is in
          marks-more n p.ends.before before' (IsLeftBefore tree u entered bytes enters) (has_next p.left (class_of (get_or bytes n 0))) (run.before_is tree u entered is) taken.before_bits
          (run.left_is tree (u ++ take n bytes) (entered ++ bits_of enters n) here.runs here.count here.offset here.behind here.field (class_of (get_or bytes n 0)));
      behind_is = λ tree u entered is.
          let e : length (u ++ take (n + 1) bytes) ≡ length u + (n + 1) = length-block u bytes (n + 1) (omega (arith, taken.within)) in
          marks-more n p.ends.behind behind' (IsLeftBehind tree u entered bytes enters) (has_next left after.Unknown) (run.behind_is tree u entered is) taken.behind_bits
          (taken.left_is tree (u ++ take (n + 1) bytes) (entered ++ bits_of enters (n + 1)) is.runs (omega (arith, is.count, e, length-entered entered enters (n + 1))) (omega (arith, is.offset, e))
          (prev-next bytes u n behind taken.within taken.behind_is) (field-next m first region new prev at enters bytes p ticks behind rests left before' behind' spent run taken tree u entered is) after.Unknown);
      prev_is = λ u is. prev-next bytes u n behind taken.within taken.behind_is;
      left_is = taken.left_is;
      rests = taken.rests_are;
      quiet = taken.quiet;
      silent = taken.silent;
    }

-- an engine that counts as entered at every offset is entered here
pub counts-bit : (always bit : Bool) → (always ≡ true → bit ≡ true) → (always || bit) ≡ bit
counts-bit true bit set = sym (set refl)
counts-bit false bit set = refl

-- a bit that is placed tells of a set
pub bits-as : (new old place : ℕ) (x : Bool) (set : NextSet) (next next' : Next) → ((j : ℕ) → word_bit new j ≡ ((eqb j place && x) || word_bit old j)) → x ≡ has_next set next →
    next ≡ next' → (j : ℕ) → word_bit new j ≡ ((eqb j place && has_next set next') || word_bit old j)
bits-as new old place x set next next' is tells same j = is j ∙ ap (λ e. (eqb j place && e) || word_bit old j) (tells ∙ ap (has_next set) same)

pub one-step : (busy : Bool) → busy ≡ true → ◌≡◌ {A = ℕ} 1 (if busy then 1 else 0)
one-step true is = refl
one-step false is = absurd (let e : false ≡ true = is in cc)

-- bytes that are 0 are blank
pub zero-blank : (xs : List ℕ) → AreZero xs → is_blank xs ≡ true
zero-blank [] zeros = refl
zero-blank (x ∷ xs) zeros =
    ap (λ t. t && is_blank xs) (eq-eqb x 0 (zeros 0 (omega arith))) ∙ zero-blank xs (λ i below. zeros (suc i) (omega arith))

cons-zero : (x : ℕ) (xs : List ℕ) → x ≡ 0 → AreZero xs → AreZero (x ∷ xs)
cons-zero x xs is zeros zero below = is
cons-zero x xs is zeros (suc i) below = zeros i (omega arith)

pub blank-zero : (xs : List ℕ) → is_blank xs ≡ true → AreZero xs
blank-zero [] blank = λ i below. absurd (omega arith)
blank-zero (x ∷ xs) blank =
    elim (cases_eq x 0) [
      | inl is ↦ cons-zero x xs is (blank-zero xs (sym (ap (λ t. t && is_blank xs) (eq-eqb x 0 is)) ∙ blank))
      | inr apart ↦ absurd (let e : false ≡ true = sym (ap (λ t. t && is_blank xs) (ne_eqb x 0 apart)) ∙ blank in cc)
    ]

-- where an engine isn't entered, it doesn't count as entered at every offset
pub never-always : (always bit : Bool) → (always ≡ true → bit ≡ true) → bit ≡ false → always ≡ false
never-always true bit set unset = sym (set refl) ∙ unset
never-always false bit set unset = refl

live-busy : (blank rests : Bool) (region : List ℕ) → is_blank region ≡ blank → IsTrue rests ↔ AreZero region → rests ≡ false → not blank ≡ true
live-busy false rests region is tells live = refl
live-busy true rests region is tells live = absurd (let e : false ≡ true = sym live ∙ tells.1 (blank-zero region is) in cc)

-- where it isn't at rest, it is busy
pub awake-busy : (always bit rests : Bool) (region : List ℕ) → (always ≡ true → bit ≡ true) → (always ≡ false → IsTrue rests ↔ AreZero region) → rests ≡ false → (bit || not (is_blank region)) ≡ true
awake-busy always true rests region set tells live = refl
awake-busy always false rests region set tells live = live-busy (is_blank region) rests region refl (tells (never-always always false set refl)) live

-- where it is at rest, but not over the byte, it is entered
pub unstarted-busy : (always bit rests started : Bool) (region : List ℕ) → (always ≡ true → bit ≡ true) → (always ≡ false → IsTrue rests ↔ AreZero region) → rests ≡ true →
    (always ≡ false → AreZero region → IsTrue started) → started ≡ false → (bit || not (is_blank region)) ≡ true
unstarted-busy always true rests started region set tells at_rest whole none = refl
unstarted-busy always false rests started region set tells at_rest whole none =
    let never : always ≡ false = never-always always false set refl in
    absurd (let e : false ≡ true = sym none ∙ whole never ((tells never).0 at_rest) in cc)

pub entered-busy : (bit blank : Bool) → bit ≡ true → (bit || not blank) ≡ true
entered-busy bit blank set = ap (λ b. b || not blank) set

-- bytes over which nothing happens

-- the region stays over a byte that wakes nothing, and over any before which the engine isn't entered
stays-over : (m : Meaning) (set : ByteSet) (region : List ℕ) (byte : ℕ) (bit : Bool) → (m.always ≡ true → bit ≡ true) → AreWakers m set → IsStart m region → IsQuiet m region → byte < 256 →
    (bit ≡ true → has set byte ≡ false) → Stays m region byte bit
stays-over m set region byte true always wakers start quiet small none = (wakers region byte start small (none refl)).stays true
stays-over m set region byte false always wakers start quiet small none = quiet.stays (never-always m.always false always refl) byte small

pub asleep-over : (m : Meaning) (set : ByteSet) (region : List ℕ) (enters : ℕ) (bytes : List ℕ) (from end : ℕ) → AreWakers m set → IsStart m region → AreZero region → ((at : ℕ) → m.well region at) → IsQuiet m region →
    IsEnteredThroughout m enters (length bytes) → end ≤ length bytes → ((i : ℕ) → get_or bytes i 0 < 256) →
    ((i : ℕ) → from ≤ i → i < end → word_bit enters i ≡ true → has set (get_or bytes i 0) ≡ false) → IsAsleepOver m region enters bytes from end
asleep-over m set region enters bytes from end wakers start zeros well quiet throughout within small none = record {
  zero = zeros;
  well = well;
  leaves_nothing = quiet.leaves_nothing;
  stays = λ i low high. stays-over m set region (get_or bytes i 0) (word_bit enters i) (λ always. throughout always i (omega arith)) wakers start quiet (small i) (none i low high);
}

unset-same : (a left word : Bool) → left ≡ false → word ≡ ((a && left) || word)
unset-same a left word none = sym (ap (λ l. (a && l) || word) none ∙ or-false a word)

-- one that is entered or not
one-if : Bool → ℕ
one-if bit = if bit then 1 else 0

asleep-byte : (m : Meaning) (first region : List ℕ) (prev : Prev) (at enters : ℕ) (bytes : List ℕ) (p : Progress) (ticks : ℕ) → IsRunTo m first region prev at enters bytes p ticks →
    IsTrue p.rests → AreZero region → LeavesNothing m region → Stays m region (get_or bytes p.place 0) (word_bit enters p.place) → (m.always ≡ true → word_bit enters p.place ≡ true) → p.place < length bytes →
    length region ≡ m.width → ((n : ℕ) → m.well region n) →
    IsByteTaken m region region at enters bytes p (prev_by (eqb (get_or bytes p.place 0) line_feed) (is_word_byte (get_or bytes p.place 0))) p.rests p.left p.ends.before p.ends.behind (one-if (word_bit enters p.place))
unfolding one-if
asleep-byte m first region prev at enters bytes p ticks run rests zeros leaves_nothing stays always below len well =
    let b : ℕ = get_or bytes p.place 0 in
    let bit : Bool = word_bit enters p.place in
    let none : (next : Next) → has_next p.left next ≡ false = run.silent rests in
    record {
      within = below;
      len = len;
      well = well (at + (p.place + 1));
      spent_is = ap (λ t. if t then 1 else 0) (sym (ap (λ t. bit || not t) (zero-blank region zeros) ∙ or-none bit));
      idle = λ unmoved. refl;
      takes = λ tree u entered is.
          subst (λ t. m.field region tree (u ++ b ∷ []) (entered ++ t ∷ [])) (counts-bit m.always bit always) (stays tree u entered is.runs is.count is.field);
      behind_is = refl;
      left_is = λ tree u entered runs count offset behind field next.
          ((λ is. absurd (let e : false ≡ true = sym (none next) ∙ is in cc)), (λ leaves. absurd (leaves_nothing tree u entered runs count field next leaves)));
      rests_are = run.rests;
      quiet = run.quiet;
      silent = run.silent;
      before_bits = λ j. unset-same (eqb j p.place) (has_next p.left (class_of b)) (word_bit p.ends.before j) (none (class_of b));
      behind_bits = λ j. unset-same (eqb j p.place) (has_next p.left after.Unknown) (word_bit p.ends.behind j) (none after.Unknown);
    }

-- so many bytes on, with nothing left
on : Progress → (bytes : List ℕ) → ℕ → Progress
on p bytes place = record {
  place = place + 1;
  behind = prev_by (eqb (get_or bytes place 0) line_feed) (is_word_byte (get_or bytes place 0));
  rests = p.rests;
  left = p.left;
  ends = p.ends;
}

run-on : (m : Meaning) (first region : List ℕ) (prev : Prev) (at enters : ℕ) (bytes : List ℕ) (p : Progress) (ticks : ℕ) → IsRunTo m first region prev at enters bytes p ticks →
    IsTrue p.rests → AreZero region → LeavesNothing m region → Stays m region (get_or bytes p.place 0) (word_bit enters p.place) → (m.always ≡ true → word_bit enters p.place ≡ true) → p.place < length bytes →
    length region ≡ m.width → ((n : ℕ) → m.well region n) →
    IsRunTo m first region prev at enters bytes (on p bytes p.place) (ticks + one-if (word_bit enters p.place))
unfolding on
run-on m first region prev at enters bytes p ticks run rests zeros leaves_nothing stays always below len well =
    run-more m first region region prev at enters bytes p ticks (prev_by (eqb (get_or bytes p.place 0) line_feed) (is_word_byte (get_or bytes p.place 0))) p.rests p.left p.ends.before p.ends.behind
    (one-if (word_bit enters p.place)) run (asleep-byte m first region prev at enters bytes p ticks run rests zeros leaves_nothing stays always below len well)

count-one : (enters place k : ℕ) (ticks here : ℕ) → here ≡ place + k →
    ticks + count_below k (λ i. word_bit enters (place + i)) + one-if (word_bit enters here) ≡ ticks + count_below (suc k) (λ i. word_bit enters (place + i))
unfolding one-if
count-one enters place k ticks here is = let e : ◌≡◌ {A = ℕ} (if word_bit enters here then 1 else 0) (if word_bit enters (place + k) then 1 else 0) = ap (λ n. if word_bit enters n then 1 else 0) is in omega (arith, e)

-- what is asleep over some bytes is so over fewer
asleep-less : (m : Meaning) (region : List ℕ) (enters : ℕ) (bytes : List ℕ) (from end less : ℕ) → IsAsleepOver m region enters bytes from end → less ≤ end → IsAsleepOver m region enters bytes from less
asleep-less m region enters bytes from end less asleep below = record {
  zero = asleep.zero;
  well = asleep.well;
  leaves_nothing = asleep.leaves_nothing;
  stays = λ i low high. asleep.stays i low (omega arith);
}

run-far : (k : ℕ) (m : Meaning) (first region : List ℕ) (prev : Prev) (at enters : ℕ) (bytes : List ℕ) (p : Progress) (ticks : ℕ) → IsRunTo m first region prev at enters bytes p ticks →
    IsTrue p.rests → p.place + k < length bytes → IsAsleepOver m region enters bytes p.place (p.place + k + 1) → IsEnteredThroughout m enters (length bytes) → length region ≡ m.width →
    IsRunTo m first region prev at enters bytes (on p bytes (p.place + k)) (ticks + count_below (suc k) (λ i. word_bit enters (p.place + i)))
unfolding on
run-far zero m first region prev at enters bytes p ticks run rests room asleep throughout len =
    let e : p.place ≡ p.place + 0 = omega arith in
    let none : ticks + 0 ≡ ticks = omega arith in
    let count : ticks + one-if (word_bit enters p.place) ≡ ticks + count_below (suc zero) (λ i. word_bit enters (p.place + i)) =
    ap (λ n. n + one-if (word_bit enters p.place)) (sym none) ∙ count-one enters p.place 0 ticks p.place e in
    subst (λ n. IsRunTo m first region prev at enters bytes (on p bytes n) (ticks + count_below (suc zero) (λ i. word_bit enters (p.place + i)))) e
    (subst (IsRunTo m first region prev at enters bytes (on p bytes p.place)) count
    (run-on m first region prev at enters bytes p ticks run rests asleep.zero asleep.leaves_nothing (asleep.stays p.place (omega arith) (omega arith)) (λ always. throughout always p.place (omega arith)) (omega arith) len asleep.well))
run-far (suc k) m first region prev at enters bytes p ticks run rests room asleep throughout len =
    let q : Progress = on p bytes (p.place + k) in
    let spent : ℕ = ticks + count_below (suc k) (λ i. word_bit enters (p.place + i)) in
    let before : IsRunTo m first region prev at enters bytes q spent =
    run-far k m first region prev at enters bytes p ticks run rests (omega arith) (asleep-less m region enters bytes p.place (p.place + suc k + 1) (p.place + k + 1) asleep (omega arith)) throughout len in
    let e : p.place + k + 1 ≡ p.place + suc k = omega arith in
    subst (λ n. IsRunTo m first region prev at enters bytes (on p bytes n) (ticks + count_below (suc (suc k)) (λ i. word_bit enters (p.place + i)))) e
    (subst (IsRunTo m first region prev at enters bytes (on p bytes (p.place + k + 1))) (count-one enters p.place (suc k) ticks (p.place + k + 1) e)
    (run-on m first region prev at enters bytes q spent before rests asleep.zero asleep.leaves_nothing (asleep.stays (p.place + k + 1) (omega arith) (omega arith)) (λ always. throughout always (p.place + k + 1) (omega arith))
    (omega arith) len asleep.well))

pub run-over : (m : Meaning) (first region : List ℕ) (prev : Prev) (at enters : ℕ) (bytes : List ℕ) (p : Progress) (ticks to : ℕ) (behind : Prev) →
    p.place < to → to ≤ length bytes → IsTrue p.rests → IsAsleepOver m region enters bytes p.place to → IsEnteredThroughout m enters (length bytes) → length region ≡ m.width →
    behind ≡ prev_by (eqb (get_or bytes (to - 1) 0) line_feed) (is_word_byte (get_or bytes (to - 1) 0)) → IsRunTo m first region prev at enters bytes p ticks →
    IsRunTo m first region prev at enters bytes (record { place = to; behind = behind; rests = p.rests; left = p.left; ends = p.ends }) (ticks + count_set enters p.place to)
unfolding on
run-over m first region prev at enters bytes p ticks to behind from room rests asleep throughout len is run =
    let k : ℕ = to - 1 - p.place in
    let last : p.place + k ≡ to - 1 = omega arith in
    let end : p.place + k + 1 ≡ to = omega arith in
    let count : suc k ≡ to - p.place = omega arith in
    let far : IsRunTo m first region prev at enters bytes (on p bytes (p.place + k)) (ticks + count_below (suc k) (λ i. word_bit enters (p.place + i))) =
    run-far k m first region prev at enters bytes p ticks run rests (omega arith) (asleep-less m region enters bytes p.place to (p.place + k + 1) asleep (omega arith)) throughout len in
    subst (λ n. IsRunTo m first region prev at enters bytes (record { place = to; behind = behind; rests = p.rests; left = p.left; ends = p.ends }) (ticks + count_below n (λ i. word_bit enters (p.place + i)))) count
    (subst (λ e. IsRunTo m first region prev at enters bytes (record { place = to; behind = e; rests = p.rests; left = p.left; ends = p.ends }) (ticks + count_below (suc k) (λ i. word_bit enters (p.place + i))))
    (ap (λ n. prev_by (eqb (get_or bytes n 0) line_feed) (is_word_byte (get_or bytes n 0))) last ∙ sym is)
    (subst (λ n. IsRunTo m first region prev at enters bytes
    (record { place = n; behind = prev_by (eqb (get_or bytes (p.place + k) 0) line_feed) (is_word_byte (get_or bytes (p.place + k) 0)); rests = p.rests; left = p.left; ends = p.ends })
    (ticks + count_below (suc k) (λ i. word_bit enters (p.place + i)))) end far))

-- no byte is passed over
pub count-nothing : (enters from to : ℕ) → to ≤ from → count_set enters from to ≡ 0
count-nothing enters from to none = let e : to - from ≡ 0 = omega arith in ap (λ n. count_below n (λ i. word_bit enters (from + i))) e

-- no byte so far
pub run-none : (m : Meaning) (region : List ℕ) (prev : Prev) (at enters : ℕ) (bytes : List ℕ) (rests : Bool) (left : NextSet) → length region ≡ m.width → m.well region at →
    TellsLeaves m region prev at left → (m.always ≡ false → IsTrue rests ↔ AreZero region) → (IsTrue rests → IsQuiet m region) → (IsTrue rests → (next : Next) → has_next left next ≡ false) →
    IsRunTo m region region prev at enters bytes (record { place = 0; behind = prev; rests = rests; left = left; ends = record { before = 0; behind = 0 } }) 0
run-none m region prev at enters bytes rests left len well leaves rests_are quiet silent =
    let here : at ≡ at + 0 = omega arith in
    record {
      parts = λ i. region;
      begins = refl;
      here = refl;
      within = omega arith;
      sized = λ i h. len;
      well = λ i h. subst (m.well region) (let e : at ≡ at + i = omega arith in e) well;
      ticks_are = refl;
      idle = λ i h. absurd (omega arith);
      fields = λ tree u entered is i h.
          let e : 0 ≡ i = omega arith in
          subst (λ k. m.field region tree (u ++ take k bytes) (entered ++ bits_of enters k)) e
          (subst (λ w. m.field region tree w (entered ++ [])) (sym (append-nil u)) (subst (m.field region tree u) (sym (append-nil entered)) is.field));
      before_is = λ tree u entered is. record { below = λ i h. absurd (omega arith); above = λ i h. bit-none i };
      behind_is = λ tree u entered is. record { below = λ i h. absurd (omega arith); above = λ i h. bit-none i };
      prev_is = λ u is. is ∙ ap (λ w. prev_at w (length w)) (sym (append-nil u));
      left_is = subst (λ n. TellsLeaves m region prev n left) here leaves;
      rests = rests_are;
      quiet = quiet;
      silent = silent;
    }

-- the whole block
pub run-all : (m : Meaning) (old new : List ℕ) (prev : Prev) (at enters : ℕ) (bytes : List ℕ) (p : Progress) (ticks : ℕ) → IsRunTo m old new prev at enters bytes p ticks → length bytes ≤ p.place →
    IsBlockRun m old new prev at enters bytes p.ends ticks
run-all m old new prev at enters bytes p ticks run all =
    let e : p.place ≡ length bytes = omega (arith, run.within) in
    record {
      parts = run.parts;
      first = run.begins;
      last = ap run.parts (sym e) ∙ run.here;
      sized = λ i h. run.sized i (omega arith);
      well = λ i h. run.well i (omega arith);
      ticks_are = subst (λ n. ticks ≡ count_below n (is_busy enters run.parts)) e run.ticks_are;
      idle = λ i h unmoved. run.idle i (omega arith) unmoved;
      fields = λ tree u entered is i h. run.fields tree u entered is i (omega arith);
      scans = λ tree u entered is. record {
        field = subst (λ w. m.field new tree (u ++ w) (entered ++ bits_of enters (length bytes))) (take_all (length bytes) bytes (omega arith))
            (subst (λ n. m.field new tree (u ++ take n bytes) (entered ++ bits_of enters n)) e
            (subst (λ part. m.field part tree (u ++ take p.place bytes) (entered ++ bits_of enters p.place)) run.here (run.fields tree u entered is p.place (omega arith))));
        before_is = subst (λ n. Marks n p.ends.before (IsLeftBefore tree u entered bytes enters)) e (run.before_is tree u entered is);
        behind_is = subst (λ n. Marks n p.ends.behind (IsLeftBehind tree u entered bytes enters)) e (run.behind_is tree u entered is);
      };
    }

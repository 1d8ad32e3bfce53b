-- A whole block of at most so many bytes of a set, taken by words, is taken as the engine takes it.
use Rattle.std.proofs.Common.{◌≡◌, ◌↔◌, ℕ, zero, suc, ◌+◌, ◌^◌, ◌<◌, ◌≤◌, Bool, true, false, not, ◌||◌, eqb, List, ◌++◌, length, get_or, take, bit_or, refl, sym, ap, subst, ◌∙◌, inl, inr, arith}
use Rattle.std.specs.Prelude.{if◌then◌else◌}
use Rattle.std.proofs.lemmas.Bool.{cases_eq, eq-eqb, eqb-true, ne_eqb}
use Rattle.std.proofs.lemmas.List.{take_all}
use Rattle.std.proofs.lemmas.Nat.Bits.{bit_at_above}
use Rattle.hs_base.specs.declared.byte_set.ByteSet.{ByteSet}
use Rattle.hs_base.specs.declared.context.Next.TheVariants as after
use Rattle.hs_base.specs.declared.context.Prev.{Prev}
use Rattle.hs_base.specs.Bits.{AreZero}
use Rattle.hs_base.specs.ByteSets.{has, members}
use Rattle.hs_base.specs.Contexts.{class_of}
use Rattle.hs_base.specs.RepeatRows.{IsAway, IsDistanceAt, IsLastDistance, distance_of}
use Rattle.hs_base.specs.Trees.{Tree}
use Rattle.hs_base.proofs.BitLemmas.{same-zero}
use Rattle.hs_base.proofs.RepeatRowLemmas.{distance-zero, zero-distance}
use Rattle.hs_engine.specs.Engines.{Meaning}
use Rattle.hs_bits.specs.WordBits.{bits_of, count_below, count_set, one_later, word_bit}
use Rattle.hs_bits.proofs.BlockLemmas.{count-same}
use Rattle.hs_bits.proofs.PlaceLemmas.{bit-either}
use Rattle.hs_block.specs.Blocks.{IsBlockRun, IsFieldOf, TakesBlock, is_blank, is_busy}
use Rattle.hs_block.specs.Scans.{IsLeftBefore}
use Rattle.hs_engine.specs.declared.ends.BlockEnds.{BlockEnds}
use Rattle.hs_block.proofs.StreamRunLemmas.{blank-is}
use Rattle.hs_repeat.specs.RepeatBlocks.{TakesDistances, distance_behind}
use Rattle.hs_repeat.specs.RepeatLaws.{row_of}
use Rattle.hs_repeat.specs.RepeatMeanings.{last_meaning}
use Rattle.hs_repeat.proofs.LastLawLemmas.{last-through, left-before, stay-within, tells-leaving}
use Rattle.hs_repeat.proofs.LastWalkLemmas.{behind-none, behind-outside}

-- a word has no bit from 64 on
past-word : (word i : ℕ) → word < 2 ^ 64 → 64 ≤ i → word_bit word i ≡ false
unfolding word_bit
past-word word i fits past = ap (λ n. eqb n 1) (bit_at_above word 64 i fits past)

-- rows of two bytes

pub blank-row : (row : List ℕ) → length row ≡ 2 → is_blank row ≡ eqb (distance_of row) 0
blank-row row len =
    sym (blank-is (eqb (distance_of row) 0) row
    ((λ is. distance-zero row len (eqb-true (distance_of row) 0 is)), (λ zeros. eq-eqb (distance_of row) 0 (zero-distance row len zeros))))

-- whether a row isn't at rest, as the code tells it
pub live-is : (rests : Bool) (row : List ℕ) → length row ≡ 2 → (rests ≡ true) ↔ AreZero row → not rests ≡ not (eqb (distance_of row) 0)
live-is rests row len is = ap not (blank-is rests row is ∙ blank-row row len)

same-none : (row other : List ℕ) → length row ≡ 2 → length other ≡ 2 → distance_of row ≡ 0 → distance_of other ≡ 0 → row ≡ other
same-none row other len len' is is' = same-zero row other (len ∙ sym len') (distance-zero row len is) (distance-zero other len' is')

row-says : (distance : ℕ) → distance_of (row_of distance) ≡ distance
row-says distance = omega arith

-- an entry that doesn't live, and none is made
behind-rests : (bound d : ℕ) (enters inside : Bool) → enters ≡ false → d ≡ 0 → distance_behind bound d enters inside ≡ 0
behind-rests bound d enters false out zero_is = behind-outside bound d enters false refl
behind-rests bound d enters true out zero_is = behind-none bound d enters true refl out zero_is

not-off : (b : Bool) → not b ≡ false → b ≡ true
not-off true is = refl
not-off false is = absurd (let e : true ≡ false = is in cc)

first-off : (a b : Bool) → (a || b) ≡ false → a ≡ false
first-off true b is = absurd (let e : true ≡ false = is in cc)
first-off false b is = refl

second-off : (a b : Bool) → (a || b) ≡ false → b ≡ false
second-off true b is = absurd (let e : true ≡ false = is in cc)
second-off false b is = is

-- The rows before the bytes of a block and behind its last one: the old one, those of the distances, and the new one.
part : (old new : List ℕ) (distances : ℕ → ℕ) (count : ℕ) → ℕ → List ℕ
part old new distances count zero = old
part old new distances count (suc i) = if eqb (suc i) count then new else row_of (distances (suc i))

part-last : (old new : List ℕ) (distances : ℕ → ℕ) (count : ℕ) → 0 < count → part old new distances count count ≡ new
unfolding part
part-last old new distances zero some = absurd (omega arith)
part-last old new distances (suc n) some = ap (λ b. if b then new else row_of (distances (suc n))) (eq-eqb (suc n) (suc n) refl)

-- such a row has its distance
record IsRow (row : List ℕ) (distance : ℕ) : Type 0 where
  len : length row ≡ 2
  says : distance_of row ≡ distance

part-is : (old new : List ℕ) (distances : ℕ → ℕ) (count : ℕ) → IsRow old (distances 0) → IsRow new (distances count) → (i : ℕ) → IsRow (part old new distances count i) (distances i)
unfolding part
part-is old new distances count first last zero = first
part-is old new distances count first last (suc i) =
    elim (cases_eq (suc i) count) [
      | inl same ↦
          subst (λ b. IsRow (if b then new else row_of (distances (suc i))) (distances (suc i))) (sym (eq-eqb (suc i) count same)) (subst (λ k. IsRow new (distances k)) (sym same) last)
      | inr apart ↦
          subst (λ b. IsRow (if b then new else row_of (distances (suc i))) (distances (suc i))) (sym (ne_eqb (suc i) count apart)) (record { len = refl; says = row-says (distances (suc i)) })
    ]

-- a mark, by a bit that is the same
as-marked : (bit other : Bool) (P : Type 0) → bit ≡ other → (other ≡ true) ↔ P → (bit ≡ true) ↔ P
as-marked bit other P same is = ((λ on. is.0 (sym same ∙ on)), (λ p. same ∙ is.1 p))

module _ (set : ByteSet) (bound : ℕ) (old new : List ℕ) (at enters : ℕ) (bytes : List ℕ) (left before : ℕ) (some : 0 < bound) (whole : length bytes ≡ 64) (small : (i : ℕ) → i < length bytes → get_or bytes i 0 < 256)
    (old_len : length old ≡ 2) (new_len : length new ≡ 2) (well : IsDistanceAt bound (distance_of old) at) (takes : TakesDistances set bound (distance_of old) (distance_of new) enters bytes left)
    (before_is : (i : ℕ) → i < 64 → word_bit before i ≡ one_later (not (eqb (distance_of old) 0)) (word_bit left) i) where
  abbrev Part : ℕ → List ℕ
  Part = part old new takes.distances (length bytes)

  row-there : (i : ℕ) → IsRow (Part i) (takes.distances i)
  row-there = part-is old new takes.distances (length bytes) (record { len = old_len; says = sym takes.first }) (record { len = new_len; says = sym takes.last })

  there-first : Part 0 ≡ old
  unfolding part
  there-first = refl

  there-last : Part (length bytes) ≡ new
  there-last = part-last old new takes.distances (length bytes) (omega (arith, whole))

  well-there : (i : ℕ) → i ≤ length bytes → IsDistanceAt bound (distance_of (Part i)) (at + i)
  well-there i within =
      let says : distance_of (Part i) ≡ takes.distances i = (row-there i).says in
      let low : distance_of old ≤ at = well.within in
      let stays = stay-within set bound (distance_of old) (distance_of new) enters bytes left some well.bounded takes i within in
      let bounded : takes.distances i ≤ bound = stays.bounded in
      let near : takes.distances i ≤ distance_of old + i = stays.within in
      record { bounded = omega (arith, says, bounded); within = omega (arith, says, near, low) }

  -- whether an entry lives there
  blank-there : (i : ℕ) → is_blank (Part i) ≡ eqb (takes.distances i) 0
  blank-there i = blank-row (Part i) (row-there i).len ∙ ap (λ d. eqb d 0) (row-there i).says

  before-there : (i : ℕ) → i < length bytes → word_bit before i ≡ not (eqb (takes.distances i) 0)
  before-there i below = before_is i (omega (arith, whole, below)) ∙ left-before set bound (distance_of old) (distance_of new) enters bytes left takes i below

  busy-there : (i : ℕ) → i < length bytes → word_bit (bit_or enters before) (0 + i) ≡ is_busy enters Part i
  busy-there i below =
      let e : 0 + i ≡ i = omega arith in
      ap (word_bit (bit_or enters before)) e ∙ (bit-either enters before i ∙ ap (λ b. word_bit enters i || b) (before-there i below ∙ ap not (sym (blank-there i))))

  count-there : (ticks : ℕ) → ticks ≡ count_set (bit_or enters before) 0 64 → ticks ≡ count_below (length bytes) (is_busy enters Part)
  count-there ticks is =
      is
      ∙ (ap (λ n. count_below n (λ i. word_bit (bit_or enters before) (0 + i))) (sym whole) ∙ count-same (length bytes) (λ i. word_bit (bit_or enters before) (0 + i)) (is_busy enters Part) busy-there)

  rests-there : (i : ℕ) → i < length bytes → is_busy enters Part i ≡ false → Part (i + 1) ≡ Part i
  rests-there i below rests =
      let out : word_bit enters i ≡ false = first-off (word_bit enters i) (not (is_blank (Part i))) rests in
      let blank : is_blank (Part i) ≡ true = not-off (is_blank (Part i)) (second-off (word_bit enters i) (not (is_blank (Part i))) rests) in
      let none : takes.distances i ≡ 0 = eqb-true (takes.distances i) 0 (sym (blank-there i) ∙ blank) in
      let none' : takes.distances (i + 1) ≡ 0 = takes.moves i below ∙ behind-rests bound (takes.distances i) (word_bit enters i) (has set (get_or bytes i 0)) out none in
      same-none (Part (i + 1)) (Part i) (row-there (i + 1)).len (row-there i).len ((row-there (i + 1)).says ∙ none') ((row-there i).says ∙ none)

  module _ (prev : Prev) (left_fits : left < 2 ^ 64) (before_fits : before < 2 ^ 64) where
    field-there : (tree : Tree) (u : List ℕ) (entered : List Bool) → IsFieldOf (last_meaning set bound) old prev at tree u entered → (i : ℕ) → i ≤ length bytes →
        (last_meaning set bound).field (Part i) tree (u ++ take i bytes) (entered ++ bits_of enters i)
    field-there tree u entered is i within =
        subst (IsLastDistance bound (IsAway (members set) (u ++ take i bytes) (entered ++ bits_of enters i))) (sym (row-there i).says)
        (last-through set bound (distance_of old) (distance_of new) enters bytes left some small takes u entered is.count is.field i within)

    pub words-run : (ticks : ℕ) → ticks ≡ count_set (bit_or enters before) 0 64 → IsBlockRun (last_meaning set bound) old new prev at enters bytes (record { before = before; behind = left }) ticks
    words-run ticks counted = record {
      parts = Part;
      first = there-first;
      last = there-last;
      sized = λ i within. (row-there i).len;
      well = well-there;
      ticks_are = count-there ticks counted;
      idle = rests-there;
      fields = field-there;
      scans = λ tree u entered is.
          let tells = tells-leaving set bound (distance_of old) (distance_of new) enters bytes left some small takes tree u entered is.runs is.count is.field in
          record {
            field = subst (λ w. (last_meaning set bound).field new tree (u ++ w) (entered ++ bits_of enters (length bytes))) (take_all (length bytes) bytes (omega arith))
                (subst (λ row. (last_meaning set bound).field row tree (u ++ take (length bytes) bytes) (entered ++ bits_of enters (length bytes))) there-last (field-there tree u entered is (length bytes) (omega arith)));
            before_is = record {
              below = λ i low.
                  as-marked (word_bit before i) (one_later (not (eqb (distance_of old) 0)) (word_bit left) i) (IsLeftBefore tree u entered bytes enters i) (before_is i (omega (arith, whole, low)))
                  (tells.before i (class_of (get_or bytes i 0)) low);
              above = λ i high. past-word before i before_fits (omega (arith, whole, high));
            };
            behind_is = record {
              below = λ i low. tells.behind i after.Unknown low;
              above = λ i high. past-word left i left_fits (omega (arith, whole, high));
            };
          };
    }

    pub words-take : (ticks steps_old steps_new : ℕ) → ticks ≡ count_set (bit_or enters before) 0 64 → steps_new ≡ steps_old + ticks →
        TakesBlock (last_meaning set bound) old new prev at enters bytes (record { before = before; behind = left }) steps_old steps_new
    words-take ticks steps_old steps_new counted grown = record { ticks = ticks; counted = grown; run = words-run ticks counted }

-- what a block leaves is well formed behind it
pub taken-well : {m : Meaning} {old new : List ℕ} {prev : Prev} {at enters : ℕ} {bytes : List ℕ} {ends : BlockEnds} {before after : ℕ} →
    TakesBlock m old new prev at enters bytes ends before after → m.well new (at + length bytes)
taken-well {m = m} {at = at} {bytes = bytes} taken = subst (λ row. m.well row (at + length bytes)) taken.run.last (taken.run.well (length bytes) (omega arith))

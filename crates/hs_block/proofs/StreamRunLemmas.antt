-- What a block does, from the words of its positions.
use Rattle.std.proofs.Common.{◌≡◌, ◌↔◌, ℕ, zero, suc, ◌+◌, ◌*◌, ◌/◌, ◌<◌, ◌≤◌, Bool, true, false, not, nat_lt, ◌&&◌, ◌||◌, List, length, get_or, slice_get, eqb, bit_and, Option, Some, None, refl, sym, ap, ◌∙◌, inl, inr, arith}
use Rattle.std.proofs.lemmas.Bool.{cases_lt, eqb-true}
use Rattle.hs_base.specs.declared.context.Mask.{Mask}
use Rattle.hs_base.specs.declared.context.Next.TheVariants as after
use Rattle.hs_base.specs.declared.context.Prev.{Prev}
use Rattle.hs_base.specs.Assertions.{line_feed, is_word_byte}
use Rattle.hs_base.specs.Bits.{AreZero, has_bit, has_word_bit}
use Rattle.hs_base.specs.Contexts.{Context, class_of, prev_by}
use Rattle.hs_base.proofs.BitLemmas.{same-zero, zero-bits}
use Rattle.hs_base.proofs.ContextLemmas.{first_of_both, second_of_both, of_both}
use Rattle.hs_bits.proofs.WordLemmas.{and-none, and-true, or-none}
use Rattle.hs_engine.specs.AnyBelow.{any_below}
use Rattle.hs_engine.specs.declared.ends.BlockEnds.{BlockEnds}
use Rattle.hs_block.specs.declared.streams.Streams.{Streams}
use Rattle.hs_block.specs.Blocks.{is_blank, is_busy}
use Rattle.hs_bits.specs.Packed.{packed}
use Rattle.hs_bits.specs.BlockContexts.{context_before, context_behind, prev_before}
use Rattle.hs_block.specs.Rows.{is_next, live_at}
use Rattle.hs_block.specs.StreamRuns.{IsStreamRun, IsTried, accepts_before, accepts_behind, stream_part, stream_row}
use Rattle.hs_engine.specs.Automata.{in_mask, in_set}
use Rattle.hs_engine.specs.Between.{between}
use Rattle.hs_block.specs.StreamSets.{takes_byte}
use Rattle.hs_block.specs.StreamTables.{comes_before, stream_rules}
use Rattle.hs_bits.specs.WordBits.{count_below, one_later, word_bit}
use Rattle.hs_block.proofs.AnyLemmas.{any-none, any-same, any-some, none-any, same-truth, true-false, true-or-false}
use Rattle.hs_bits.proofs.BlockLemmas.{count-same}
use Rattle.hs_bits.proofs.PackedLemmas.{bit-packed, length-packed, packed-same, packed-zero}
use Rattle.hs_bits.proofs.PlaceLemmas.{bit-both, bit-none, less-is, not-less}
use Rattle.hs_block.proofs.RunLemmas.{blank-zero, zero-blank}

-- the bytes are blank where none passes
packed-blank : (n size : ℕ) (f : ℕ → Bool) → size ≤ 8 * n → not (is_blank (packed n (λ x. nat_lt x size && f x))) ≡ any_below size f
packed-blank n size f room =
    let bit : ℕ → Bool = λ x. nat_lt x size && f x in
    elim (true-or-false (any_below size f)) [
      | inl any ↦
          let (x, below, is) = any-some size f any in
          let set : has_bit (packed n bit) x ≡ true = bit-packed n bit x (omega arith) ∙ (ap (λ b. b && f x) (less-is x size below) ∙ is) in
          let live : is_blank (packed n bit) ≡ false =
          elim (true-or-false (is_blank (packed n bit))) [
            | inl blank ↦ true-false (has_bit (packed n bit) x) set (zero-bits (packed n bit) (blank-zero (packed n bit) blank) x)
            | inr isnt ↦ isnt
          ] in
          ap not live ∙ sym any
      | inr none_ ↦
          let unset : (x : ℕ) → x < 8 * n → bit x ≡ false = λ x below.
          elim (cases_lt x size) [
            | inl inside ↦ ap (λ b. b && f x) (less-is x size inside) ∙ none-any size f none_ x inside
            | inr past ↦ ap (λ b. b && f x) (not-less x size past)
          ] in
          ap not (zero-blank (packed n bit) (packed-zero n bit unset)) ∙ sym none_
    ]

-- both where a number is below another
pub under : (i n : ℕ) (a b : Bool) → (i < n → a ≡ b) → (nat_lt i n && a) ≡ (nat_lt i n && b)
under i n a b same =
    elim (cases_lt i n) [
      | inl below ↦ ap (λ t. nat_lt i n && t) (same below)
      | inr past ↦ ap (λ t. t && a) (not-less i n past) ∙ sym (ap (λ t. t && b) (not-less i n past))
    ]

-- whether a region is 0, as the code tells it
pub blank-is : (clear : Bool) (region : List ℕ) → (clear ≡ true) ↔ AreZero region → clear ≡ is_blank region
blank-is clear region is = same-truth clear (is_blank region) (λ on. zero-blank region (is.0 on)) (λ blank. is.1 (blank-zero region blank))

-- bits of the bytes of a region
room-for : (s : Streams) (old : List ℕ) → length old ≡ (s.size + 7) / 8 → s.size ≤ 8 * length old
room-for s old len = omega (arith, len)

-- the words of a block are its rows
module _ (s : Streams) (prev : Prev) (old : List ℕ) (enters : ℕ) (whole words : List ℕ) (state : List ℕ) (blank : Bool) (state_is : (k : ℕ) → has_word_bit state k ≡ has_bit old k)
    (holds : (x : ℕ) → x < s.size → (i : ℕ) → i < 64 → word_bit (get_or words x 0) i ≡ is_next (stream_rules s prev enters whole) i (live_at (has_word_bit state) words i) x) where
  pub live-row : (i : ℕ) → i ≤ 64 → (x : ℕ) → x < s.size → live_at (has_word_bit state) words i x ≡ stream_row s prev old enters whole i x
  live-row zero few x below = state_is x
  live-row (suc i) few x below =
      holds x below i (omega arith)
      ∙ ap (λ b. takes_byte s.sets.items s.numbers.items x (get_or whole i 0) && (Begins || b))
      (any-same s.size (λ y. live_at (has_word_bit state) words i y && comes_before s x y (context_before prev whole i)) (λ y. stream_row s prev old enters whole i y && comes_before s x y (context_before prev whole i))
      (λ y inside. ap (λ b. b && comes_before s x y (context_before prev whole i)) (live-row i (omega arith) y inside)))
    where
      Begins : Bool
      Begins = word_bit enters i && in_mask (slice_get s.enters.items x) (context_before prev whole i)

  -- the bits of the region behind a byte
  part-live : (j : ℕ) → suc j ≤ 64 → length old ≡ (s.size + 7) / 8 → any_below s.size (λ x. word_bit (get_or words x 0) j) ≡ not (is_blank (stream_part s prev old enters whole (suc j)))
  part-live j few len =
      any-same s.size (λ x. word_bit (get_or words x 0) j) (stream_row s prev old enters whole (suc j)) (live-row (suc j) few)
      ∙ sym (packed-blank (length old) s.size (stream_row s prev old enters whole (suc j)) (room-for s old len))

  busy-is : (i : ℕ) → i < 64 → length old ≡ (s.size + 7) / 8 → blank ≡ is_blank old →
      (word_bit enters i || one_later (not blank) (λ j. any_below s.size (λ x. word_bit (get_or words x 0) j)) i) ≡ is_busy enters (stream_part s prev old enters whole) i
  busy-is zero small len blank_is = ap (λ b. word_bit enters 0 || not b) blank_is
  busy-is (suc j) small len blank_is = ap (λ b. word_bit enters (suc j) || b) (part-live j (omega arith) len)

  kept-part : (new : List ℕ) (count : ℕ) → count ≤ 64 → length old ≡ (s.size + 7) / 8 → (count ≡ 0 → new ≡ old) →
      ((last : ℕ) → count ≡ last + 1 → new ≡ packed (length old) (λ x. nat_lt x s.size && word_bit (get_or words x 0) last)) → new ≡ stream_part s prev old enters whole count
  kept-part new zero few len none_ some = none_ refl
  kept-part new (suc n) few len none_ some =
      some n (omega arith)
      ∙ packed-same (length old) (λ x. nat_lt x s.size && word_bit (get_or words x 0) n) (λ x. nat_lt x s.size && stream_row s prev old enters whole (suc n) x)
      (λ x below. under x s.size (word_bit (get_or words x 0) n) (stream_row s prev old enters whole (suc n) x) (live-row (suc n) few x))

  pub words-run : (new : List ℕ) (count : ℕ) (ends : BlockEnds) (busy ticks : ℕ) → count ≤ 64 → length old ≡ (s.size + 7) / 8 → blank ≡ is_blank old → (count ≡ 0 → new ≡ old) →
      ((last : ℕ) → count ≡ last + 1 → new ≡ packed (length old) (λ x. nat_lt x s.size && word_bit (get_or words x 0) last)) →
      ((i : ℕ) → word_bit ends.before i
      ≡ (nat_lt i count && any_below s.size (λ x. live_at (has_word_bit state) words i x && in_mask (slice_get s.accepts.items x) (context_before prev whole i)))) →
      ((i : ℕ) → word_bit ends.behind i
      ≡ (nat_lt i count && any_below s.size (λ x. word_bit (get_or words x 0) i && in_mask (slice_get s.accepts.items x) (context_behind prev whole i)))) →
      ((i : ℕ) → word_bit busy i ≡
      (nat_lt i count && (word_bit enters i || one_later (not blank) (λ j. any_below s.size (λ x. word_bit (get_or words x 0) j)) i))) →
      (((i : ℕ) → count ≤ i → word_bit busy i ≡ false) → ticks ≡ count_below count (word_bit busy)) → IsStreamRun s prev old new enters whole count ends ticks
  words-run new count ends busy ticks few len blank_is none_ some before behind busy_bits counted = record {
    new_is = kept-part new count few len none_ some;
    before_is = λ i.
        let accept : ℕ → Bool = λ x. in_mask (slice_get s.accepts.items x) (context_before prev whole i) in
        before i
        ∙ under i count (any_below s.size (λ x. live_at (has_word_bit state) words i x && accept x)) (accepts_before s prev old enters whole i)
        (λ below.
        any-same s.size (λ x. live_at (has_word_bit state) words i x && accept x) (λ x. stream_row s prev old enters whole i x && accept x)
        (λ x inside. ap (λ b. b && accept x) (live-row i (omega arith) x inside)));
    behind_is = λ i.
        let accept : ℕ → Bool = λ x. in_mask (slice_get s.accepts.items x) (context_behind prev whole i) in
        behind i
        ∙ under i count (any_below s.size (λ x. word_bit (get_or words x 0) i && accept x)) (accepts_behind s prev old enters whole i)
        (λ below.
        any-same s.size (λ x. word_bit (get_or words x 0) i && accept x) (λ x. stream_row s prev old enters whole (suc i) x && accept x)
        (λ x inside. ap (λ b. b && accept x) (live-row (suc i) (omega arith) x inside)));
    ticks_are =
        counted (λ i past. busy_bits i ∙ ap (λ t. t && (word_bit enters i || one_later (not blank) (λ j. any_below s.size (λ x. word_bit (get_or words x 0) j)) i)) (not-less i count past))
        ∙ count-same count (word_bit busy) (is_busy enters (stream_part s prev old enters whole))
        (λ i below.
        busy_bits i
        ∙ (ap (λ t. t && (word_bit enters i || one_later (not blank) (λ j. any_below s.size (λ x. word_bit (get_or words x 0) j)) i)) (less-is i count below)
        ∙ busy-is i (omega arith) len blank_is));
  }

-- a block in which nothing is live
module _ (s : Streams) (prev : Prev) (old : List ℕ) (enters : ℕ) (whole : List ℕ) (count first low : ℕ) (rested : Bool) (few : count ≤ 64) (len : length old ≡ (s.size + 7) / 8)
    (blank : rested ≡ is_blank old) (small : (i : ℕ) → get_or whole i 0 < 256) (low_is : (i : ℕ) → word_bit low i ≡ nat_lt i count)
    (first_is : (i : ℕ) → i < 64 → word_bit first i ≡ in_set (slice_get s.sets.items 0) (get_or whole i 0))
    (rests : (rested && eqb (bit_and first (bit_and enters low)) 0) ≡ true) where
  no-first : bit_and first (bit_and enters low) ≡ 0
  no-first = eqb-true (bit_and first (bit_and enters low)) 0 (second_of_both (rested) (eqb (bit_and first (bit_and enters low)) 0) rests)

  no-state : AreZero old
  no-state = blank-zero old (sym blank ∙ first_of_both rested (eqb (bit_and first (bit_and enters low)) 0) rests)

  -- none begins
  unbegun : (i x : ℕ) → i < count → x < s.size →
      (takes_byte s.sets.items s.numbers.items x (get_or whole i 0) && (word_bit enters i && in_mask (slice_get s.enters.items x) (context_before prev whole i))) ≡ false
  unbegun i x below inside =
      let t : Bool = takes_byte s.sets.items s.numbers.items x (get_or whole i 0) in
      let m : Bool = in_mask (slice_get s.enters.items x) (context_before prev whole i) in
      elim (true-or-false (t && (word_bit enters i && m))) [
        | inr off ↦ off
        | inl on ↦
            let both : (word_bit enters i && m) ≡ true = second_of_both t (word_bit enters i && m) on in
            let entered : word_bit enters i ≡ true = first_of_both (word_bit enters i) m both in
            let member : word_bit first i ≡ true =
            first_is i (omega arith)
            ∙ s.firsts x (get_or whole i 0) (context_before prev whole i) inside (small i) (second_of_both (word_bit enters i) m both) (first_of_both t (word_bit enters i && m) on) in
            true-false (word_bit (bit_and first (bit_and enters low)) i)
            (bit-both first (bit_and enters low) i ∙ of_both (word_bit first i) (word_bit (bit_and enters low) i) member
            (bit-both enters low i ∙ of_both (word_bit enters i) (word_bit low i) entered (low_is i ∙ less-is i count below)))
            (ap (λ w. word_bit w i) no-first ∙ bit-none i)
      ]

  pub rest-row : (i : ℕ) → i ≤ count → (x : ℕ) → x < s.size → stream_row s prev old enters whole i x ≡ false
  rest-row zero within x inside = zero-bits old no-state x
  rest-row (suc i) within x inside =
      let t : Bool = takes_byte s.sets.items s.numbers.items x (get_or whole i 0) in
      let begins : Bool = word_bit enters i && in_mask (slice_get s.enters.items x) (context_before prev whole i) in
      ap (λ b. t && (begins || b))
      (any-none s.size (λ y. stream_row s prev old enters whole i y && comes_before s x y (context_before prev whole i)) (λ y below. ap (λ b. b && comes_before s x y (context_before prev whole i)) (rest-row i (omega arith) y below)))
      ∙ (ap (λ b. t && b) (or-none begins) ∙ unbegun i x (omega arith) inside)

  rest-part : (i : ℕ) → i ≤ count → AreZero (stream_part s prev old enters whole i)
  rest-part zero within = no-state
  rest-part (suc i) within =
      packed-zero (length old) (λ x. nat_lt x s.size && stream_row s prev old enters whole (suc i) x)
      (λ x below. under x s.size (stream_row s prev old enters whole (suc i) x) false (rest-row (suc i) within x) ∙ and-none (nat_lt x s.size))

  rest-blank : (i : ℕ) → i ≤ count → not (is_blank (stream_part s prev old enters whole i)) ≡ false
  rest-blank i within = ap not (zero-blank (stream_part s prev old enters whole i) (rest-part i within))

  part-len : (i : ℕ) → length (stream_part s prev old enters whole i) ≡ length old
  part-len zero = refl
  part-len (suc i) = length-packed (length old) (λ x. nat_lt x s.size && stream_row s prev old enters whole (suc i) x)

  accepts-none : (i : ℕ) (c : Context) → i ≤ count → any_below s.size (λ x. stream_row s prev old enters whole i x && in_mask (slice_get s.accepts.items x) c) ≡ false
  accepts-none i c within =
      any-none s.size (λ x. stream_row s prev old enters whole i x && in_mask (slice_get s.accepts.items x) c)
      (λ x inside. ap (λ b. b && in_mask (slice_get s.accepts.items x) c) (rest-row i within x inside))

  pub rest-run : (ticks : ℕ) → (((i : ℕ) → count ≤ i → word_bit (bit_and enters low) i ≡ false) → ticks ≡ count_below count (word_bit (bit_and enters low))) →
      IsStreamRun s prev old old enters whole count (record { before = 0; behind = 0 }) ticks
  rest-run ticks counted = record {
    new_is = same-zero old (stream_part s prev old enters whole count) (sym (part-len count)) (rest-part 0 (omega arith)) (rest-part count (omega arith));
    before_is = λ i. bit-none i ∙ sym (under i count (accepts_before s prev old enters whole i) false (λ below. accepts-none i (context_before prev whole i) (omega arith)) ∙ and-none (nat_lt i count));
    behind_is = λ i. bit-none i ∙ sym (under i count (accepts_behind s prev old enters whole i) false (λ below. accepts-none (suc i) (context_behind prev whole i) (omega arith)) ∙ and-none (nat_lt i count));
    ticks_are =
        counted (λ i past. bit-both enters low i ∙ (ap (λ b. word_bit enters i && b) (low_is i ∙ not-less i count past) ∙ and-none (word_bit enters i)))
        ∙ count-same count (word_bit (bit_and enters low)) (is_busy enters (stream_part s prev old enters whole))
        (λ i below.
        bit-both enters low i
        ∙ (ap (λ b. word_bit enters i && b) (low_is i ∙ less-is i count below)
        ∙ (and-true (word_bit enters i) ∙ sym (ap (λ b. word_bit enters i || b) (rest-blank i (omega arith)) ∙ or-none (word_bit enters i)))));
  }

-- the same of other bytes that begin alike

module _ (s : Streams) (prev : Prev) (old : List ℕ) (enters : ℕ) (whole bytes : List ℕ) (count : ℕ) (same : (i : ℕ) → i < count → get_or whole i 0 ≡ get_or bytes i 0) where
  prev-alike : (i : ℕ) → i ≤ count → prev_before prev whole i ≡ prev_before prev bytes i
  prev-alike zero within = refl
  prev-alike (suc i) within = ap (λ b. prev_by (eqb b line_feed) (is_word_byte b)) (same i (omega arith))

  before-alike : (mask : Option Mask) (i : ℕ) → i < count → in_mask mask (context_before prev whole i) ≡ in_mask mask (context_before prev bytes i)
  before-alike mask i below =
      ap (λ p. in_mask mask (between p (class_of (get_or whole i 0)))) (prev-alike i (omega arith))
      ∙ ap (λ b. in_mask mask (between (prev_before prev bytes i) (class_of b))) (same i below)

  behind-alike : (mask : Option Mask) (i : ℕ) → i < count → in_mask mask (context_behind prev whole i) ≡ in_mask mask (context_behind prev bytes i)
  behind-alike mask i below = ap (λ p. in_mask mask (between p after.Unknown)) (prev-alike (suc i) (omega arith))

  context-alike : (i : ℕ) → i < count → context_before prev whole i ≡ context_before prev bytes i
  context-alike i below =
      ap (λ p. between p (class_of (get_or whole i 0))) (prev-alike i (omega arith))
      ∙ ap (λ b. between (prev_before prev bytes i) (class_of b)) (same i below)

  row-alike : (i : ℕ) → i ≤ count → (x : ℕ) → stream_row s prev old enters whole i x ≡ stream_row s prev old enters bytes i x
  row-alike zero within x = refl
  row-alike (suc i) within x =
      let begins : Bool = word_bit enters i && in_mask (slice_get s.enters.items x) (context_before prev bytes i) in
      ap (λ b. takes_byte s.sets.items s.numbers.items x b
      && ((word_bit enters i && in_mask (slice_get s.enters.items x) (context_before prev whole i)) || any_below s.size (λ y. stream_row s prev old enters whole i y && comes_before s x y (context_before prev whole i))))
      (same i (omega arith))
      ∙ (ap (λ b. takes_byte s.sets.items s.numbers.items x (get_or bytes i 0) && ((word_bit enters i && b) || any_below s.size (λ y. stream_row s prev old enters whole i y && comes_before s x y (context_before prev whole i))))
      (before-alike (slice_get s.enters.items x) i (omega arith))
      ∙ ap (λ b. takes_byte s.sets.items s.numbers.items x (get_or bytes i 0) && (begins || b))
      (any-same s.size (λ y. stream_row s prev old enters whole i y && comes_before s x y (context_before prev whole i)) (λ y. stream_row s prev old enters bytes i y && comes_before s x y (context_before prev bytes i))
      (λ y inside.
      ap (λ b. b && comes_before s x y (context_before prev whole i)) (row-alike i (omega arith) y)
      ∙ ap (λ c. stream_row s prev old enters bytes i y && comes_before s x y c) (context-alike i (omega arith)))))

  part-alike : (i : ℕ) → i ≤ count → stream_part s prev old enters whole i ≡ stream_part s prev old enters bytes i
  part-alike zero within = refl
  part-alike (suc i) within =
      packed-same (length old) (λ x. nat_lt x s.size && stream_row s prev old enters whole (suc i) x) (λ x. nat_lt x s.size && stream_row s prev old enters bytes (suc i) x)
      (λ x below. ap (λ b. nat_lt x s.size && b) (row-alike (suc i) within x))

  accepts-alike : (i : ℕ) → i < count → accepts_before s prev old enters whole i ≡ accepts_before s prev old enters bytes i
  accepts-alike i below =
      any-same s.size (λ x. stream_row s prev old enters whole i x && in_mask (slice_get s.accepts.items x) (context_before prev whole i))
      (λ x. stream_row s prev old enters bytes i x && in_mask (slice_get s.accepts.items x) (context_before prev bytes i))
      (λ x inside.
      ap (λ b. b && in_mask (slice_get s.accepts.items x) (context_before prev whole i)) (row-alike i (omega arith) x)
      ∙ ap (λ b. stream_row s prev old enters bytes i x && b) (before-alike (slice_get s.accepts.items x) i below))

  accepts-alike_behind : (i : ℕ) → i < count → accepts_behind s prev old enters whole i ≡ accepts_behind s prev old enters bytes i
  accepts-alike_behind i below =
      any-same s.size (λ x. stream_row s prev old enters whole (suc i) x && in_mask (slice_get s.accepts.items x) (context_behind prev whole i))
      (λ x. stream_row s prev old enters bytes (suc i) x && in_mask (slice_get s.accepts.items x) (context_behind prev bytes i))
      (λ x inside.
      ap (λ b. b && in_mask (slice_get s.accepts.items x) (context_behind prev whole i)) (row-alike (suc i) (omega arith) x)
      ∙ ap (λ b. stream_row s prev old enters bytes (suc i) x && b) (behind-alike (slice_get s.accepts.items x) i below))

  run-alike : (new : List ℕ) (ends : BlockEnds) (ticks : ℕ) → IsStreamRun s prev old new enters whole count ends ticks → IsStreamRun s prev old new enters bytes count ends ticks
  run-alike new ends ticks run = record {
    new_is = run.new_is ∙ part-alike count (omega arith);
    before_is = λ i. run.before_is i ∙ under i count (accepts_before s prev old enters whole i) (accepts_before s prev old enters bytes i) (accepts-alike i);
    behind_is = λ i. run.behind_is i ∙ under i count (accepts_behind s prev old enters whole i) (accepts_behind s prev old enters bytes i) (accepts-alike_behind i);
    ticks_are =
        run.ticks_are
        ∙ count-same count (is_busy enters (stream_part s prev old enters whole)) (is_busy enters (stream_part s prev old enters bytes))
        (λ i below. ap (λ part. word_bit enters i || not (is_blank part)) (part-alike i (omega arith)));
  }

  pub tried-alike : (new : List ℕ) (result : Option BlockEnds) (before after : ℕ) → IsTried s prev old new enters whole count result before after → IsTried s prev old new enters bytes count result before after
  tried-alike new None before after tried = tried
  tried-alike new (Some ends) before after tried = let (ticks, counted, run) = tried in (ticks, counted, run-alike new ends ticks run)

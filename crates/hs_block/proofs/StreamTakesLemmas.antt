-- A block that streams have taken is taken as the engine takes it.
use Rattle.std.proofs.Common.{◌≡◌, ◌↔◌, ℕ, zero, suc, ◌+◌, ◌*◌, ◌/◌, ◌<◌, ◌≤◌, Bool, true, false, not, nat_lt, ◌&&◌, ◌||◌, List, [], ◌++◌, length, get_or, take, slice_get, refl, sym, ap, subst, ◌∙◌, inl, inr, arith}
use Rattle.std.proofs.lemmas.Bool.{cases_lt}
use Rattle.std.proofs.lemmas.List.{append-nil, take_all}
use Rattle.hs_base.specs.declared.context.Next.TheVariants as after
use Rattle.hs_base.specs.declared.context.Prev.{Prev}
use Rattle.hs_base.specs.Bits.{AreZero, has_bit}
use Rattle.hs_base.specs.Contexts.{class_of, prev_at}
use Rattle.hs_base.specs.PositionRows.{IsField}
use Rattle.hs_base.specs.Trees.{Tree}
use Rattle.hs_base.specs.WrittenOut.{IsReached, write_out}
use Rattle.hs_base.proofs.BitLemmas.{same-zero, zero-bits}
use Rattle.hs_base.proofs.ContextLemmas.{first_of_both, second_of_both, of_both}
use Rattle.hs_bits.proofs.WordLemmas.{and-none}
use Rattle.hs_engine.specs.declared.automaton.Automaton.{Automaton}
use Rattle.hs_engine.specs.Automata.{in_mask}
use Rattle.hs_engine.specs.Between.{between}
use Rattle.hs_engine.specs.Engines.{Meaning}
use Rattle.hs_engine.specs.Tables.{IsClearFrom, Runs}
use Rattle.hs_engine.specs.declared.ends.BlockEnds.{BlockEnds}
use Rattle.hs_block.specs.declared.streams.Streams.{Streams}
use Rattle.hs_bits.specs.BlockContexts.{context_before, context_behind, prev_before}
use Rattle.hs_block.specs.Blocks.{IsFieldOf, TakesBlock, is_blank, is_busy}
use Rattle.hs_block.specs.Scans.{IsLeftBefore, IsLeftBehind, Scans}
use Rattle.hs_block.specs.StreamRuns.{IsStreamRun, RunsStreams, accepts_before, accepts_behind, stream_part, stream_row}
use Rattle.hs_block.specs.StreamSets.{takes_byte}
use Rattle.hs_block.specs.StreamTables.{TellsOf, comes_before}
use Rattle.hs_bits.specs.WordBits.{bits_of, word_bit}
use Rattle.hs_block.proofs.AnyLemmas.{any-none}
use Rattle.hs_bits.proofs.ContextLemmas.{prev-there}
use Rattle.hs_bits.proofs.PackedLemmas.{bit-packed, bit-packed_past, length-packed, packed-zero}
use Rattle.hs_bits.proofs.PlaceLemmas.{less, less-is, not-less}
use Rattle.hs_block.proofs.RunLemmas.{blank-zero}
use Rattle.hs_block.proofs.StreamRowLemmas.{accepts-leave, reached-below, rows-field}
use Rattle.hs_block.proofs.StreamRunLemmas.{under}

not-false : (b : Bool) → not b ≡ false → b ≡ true
not-false true is = refl
not-false false is = absurd (let e : true ≡ false = is in cc)

left-false : (a b : Bool) → (a || b) ≡ false → a ≡ false
left-false true b is = absurd (let e : true ≡ false = is in cc)
left-false false b is = refl

right-false : (a b : Bool) → (a || b) ≡ false → b ≡ false
right-false true b is = absurd (let e : true ≡ false = is in cc)
right-false false b is = is

-- a mark where the word says so
marked : (n word i : ℕ) (b : Bool) (P : Type 0) → i < n → word_bit word i ≡ (nat_lt i n && b) → (b ≡ true) ↔ P → (word_bit word i ≡ true) ↔ P
marked n word i b P below is tells =
    let same : word_bit word i ≡ b = is ∙ ap (λ t. t && b) (less-is i n below) in (
      λ set. tells.0 (sym same ∙ set),
      λ p. same ∙ tells.1 p,
    )

module _ (s : Streams) (prev : Prev) (old : List ℕ) (enters : ℕ) (bytes : List ℕ) (len : length old ≡ (s.size + 7) / 8) where
  abbrev Size : ℕ
  Size = s.size

  abbrev Part : ℕ → List ℕ
  Part = stream_part s prev old enters bytes

  abbrev Row : ℕ → ℕ → Bool
  Row = stream_row s prev old enters bytes

  pub part-len : (i : ℕ) → length (Part i) ≡ length old
  part-len zero = refl
  part-len (suc i) = length-packed (length old) (λ x. nat_lt x Size && Row (suc i) x)

  -- behind a byte the region has the bits of its row
  part-bit : (i x : ℕ) → has_bit (Part (suc i)) x ≡ (nat_lt x Size && Row (suc i) x)
  part-bit i x =
      elim (cases_lt x (8 * length old)) [
        | inl below ↦ bit-packed (length old) (λ x. nat_lt x Size && Row (suc i) x) x below
        | inr past ↦
            bit-packed_past (length old) (λ x. nat_lt x Size && Row (suc i) x) x past ∙ sym (ap (λ t. t && Row (suc i) x) (not-less x Size (omega (arith, len))))
      ]

  part-clear : (i : ℕ) → IsClearFrom (Part (suc i)) Size
  part-clear i k past = part-bit i k ∙ ap (λ t. t && Row (suc i) k) (not-less k Size past)

  -- where the region is 0, none is live
  zero-row : (i : ℕ) → AreZero (Part i) → (x : ℕ) → x < Size → Row i x ≡ false
  zero-row zero zeros x below = zero-bits old zeros x
  zero-row (suc i) zeros x below = sym (part-bit i x ∙ ap (λ t. t && Row (suc i) x) (less-is x Size below)) ∙ zero-bits (Part (suc i)) zeros x

  rests-row : (i : ℕ) → AreZero (Part i) → word_bit enters i ≡ false → (x : ℕ) → x < Size → Row (suc i) x ≡ false
  rests-row i zeros unset x below =
      let t : Bool = takes_byte s.sets.items s.numbers.items x (get_or bytes i 0) in
      ap (λ b. t && ((word_bit enters i && in_mask (slice_get s.enters.items x) (context_before prev bytes i)) || b)) (any-none Size (λ y. Row i y && comes_before s x y (context_before prev bytes i)) (λ y inside. ap (λ b. b && comes_before s x y (context_before prev bytes i)) (zero-row i zeros y inside)))
      ∙ (ap (λ b. t && ((b && in_mask (slice_get s.enters.items x) (context_before prev bytes i)) || false)) unset ∙ and-none t)

  rests-part : (i : ℕ) → is_busy enters Part i ≡ false → Part (suc i) ≡ Part i
  rests-part i rests =
      let blank : is_blank (Part i) ≡ true = not-false (is_blank (Part i)) (right-false (word_bit enters i) (not (is_blank (Part i))) rests) in
      let unset : word_bit enters i ≡ false = left-false (word_bit enters i) (not (is_blank (Part i))) rests in
      let zeros : AreZero (Part i) = blank-zero (Part i) blank in
      same-zero (Part (suc i)) (Part i) (part-len (suc i) ∙ sym (part-len i))
      (packed-zero (length old) (λ x. nat_lt x Size && Row (suc i) x)
      (λ x below. under x Size (Row (suc i) x) false (rests-row i zeros unset x) ∙ and-none (nat_lt x Size)))
      zeros

  -- for each history of the old region
  module _ (a : Automaton) (tells : TellsOf s a) (tree : Tree) (runs : Runs a tree) (u : List ℕ) (entered : List Bool) (count : length entered ≡ length u) (field : IsField old (write_out tree) u entered) (behind_u : prev ≡ prev_at u (length u))
      (small : (i : ℕ) → i < length bytes → get_or bytes i 0 < 256) where
    row-reached : (i : ℕ) → i ≤ length bytes → (x : ℕ) → x < Size → (Row i x ≡ true) ↔ IsReached (write_out tree) (u ++ take i bytes) (entered ++ bits_of enters i) x
    row-reached i within x below = rows-field s a tells (write_out tree) runs.tables u entered count (has_bit old) field enters bytes prev behind_u small i within x below

    pub part-field : (i : ℕ) → i ≤ length bytes → IsField (Part i) (write_out tree) (u ++ take i bytes) (entered ++ bits_of enters i)
    part-field zero within x = subst (λ w. (has_bit old x ≡ true) ↔ IsReached (write_out tree) w (entered ++ []) x) (sym (append-nil u)) (subst (λ e. (has_bit old x ≡ true) ↔ IsReached (write_out tree) u e x) (sym (append-nil entered)) (field x))
    part-field (suc i) within x = (
      λ set.
          let both : (nat_lt x Size && Row (suc i) x) ≡ true = sym (part-bit i x) ∙ set in
          (row-reached (suc i) within x (less x Size (first_of_both (nat_lt x Size) (Row (suc i) x) both))).0 (second_of_both (nat_lt x Size) (Row (suc i) x) both),
      λ reached.
          let below : x < Size = omega (arith, reached-below (write_out tree) (u ++ take (suc i) bytes) (entered ++ bits_of enters (suc i)) x reached, tells.size_is, runs.tables.size) in
          part-bit i x ∙ of_both (nat_lt x Size) (Row (suc i) x) (less-is x Size below) ((row-reached (suc i) within x below).1 reached),
    )

    pub part-scans : (ends : BlockEnds) → ((i : ℕ) → word_bit ends.before i ≡ (nat_lt i (length bytes) && accepts_before s prev old enters bytes i)) →
        ((i : ℕ) → word_bit ends.behind i ≡ (nat_lt i (length bytes) && accepts_behind s prev old enters bytes i)) → (Field : List ℕ → List Bool → Type 0) →
        Field (u ++ bytes) (entered ++ bits_of enters (length bytes)) → Scans Field tree u entered bytes enters ends.before ends.behind
    part-scans ends before behind Field there = record {
      field = there;
      before_is = record {
        below = λ i low.
            marked (length bytes) ends.before i (accepts_before s prev old enters bytes i) (IsLeftBefore tree u entered bytes enters i) low (before i)
            (accepts-leave s a tells tree runs (u ++ take i bytes) (entered ++ bits_of enters i) (Row i) (row-reached i (omega arith)) (class_of (get_or bytes i 0)) (context_before prev bytes i)
            (ap (λ p. between p (class_of (get_or bytes i 0))) (prev-there prev u bytes i behind_u (omega arith))));
        above = λ i high. before i ∙ ap (λ t. t && accepts_before s prev old enters bytes i) (not-less i (length bytes) high);
      };
      behind_is = record {
        below = λ i low.
            let e : suc i ≡ i + 1 = omega arith in
            marked (length bytes) ends.behind i (accepts_behind s prev old enters bytes i) (IsLeftBehind tree u entered bytes enters i) low (behind i)
            (accepts-leave s a tells tree runs (u ++ take (i + 1) bytes) (entered ++ bits_of enters (i + 1)) (Row (suc i))
            (λ x below. subst (λ k. (Row (suc i) x ≡ true) ↔ IsReached (write_out tree) (u ++ take k bytes) (entered ++ bits_of enters k) x) e (row-reached (suc i) (omega arith) x below)) after.Unknown (context_behind prev bytes i)
            (ap (λ p. between p after.Unknown) (subst (λ k. prev_before prev bytes (suc i) ≡ prev_at (u ++ take k bytes) (length (u ++ take k bytes))) e (prev-there prev u bytes (suc i) behind_u (omega arith)))));
        above = λ i high. behind i ∙ ap (λ t. t && accepts_behind s prev old enters bytes i) (not-less i (length bytes) high);
      };
    }

-- the block is taken
pub stream-takes : (m : Meaning) (s : Streams) (old new : List ℕ) (prev : Prev) (at enters : ℕ) (bytes : List ℕ) (ends : BlockEnds) (ticks steps_old steps_new : ℕ) → RunsStreams m s → length old ≡ m.width → m.well old at →
    ((i : ℕ) → get_or bytes i 0 < 256) → steps_new ≡ steps_old + ticks → IsStreamRun s prev old new enters bytes (length bytes) ends ticks → TakesBlock m old new prev at enters bytes ends steps_old steps_new
stream-takes m s old new prev at enters bytes ends ticks steps_old steps_new streams width well small counted run =
    let len : length old ≡ (s.size + 7) / 8 = width ∙ streams.width in
    let part : ℕ → List ℕ = stream_part s prev old enters bytes in
    record {
      ticks = ticks;
      counted = counted;
      run = record {
        parts = part;
        first = refl;
        last = sym run.new_is;
        sized = λ i within. part-len s prev old enters bytes len i ∙ width;
        well = λ i within. well-part i;
        ticks_are = run.ticks_are;
        idle = λ i below rests.
            let e : suc i ≡ i + 1 = omega arith in
            ap part (sym e) ∙ rests-part s prev old enters bytes len i rests;
        fields = λ tree u entered is i within. fields-part tree u entered is i within;
        scans = λ tree u entered is.
            let (a, tells, runs) = streams.told tree is.runs in
            part-scans s prev old enters bytes len a tells tree runs u entered is.count ((streams.field old tree u entered).0 is.field) is.behind (λ i below. small i) ends run.before_is run.behind_is (m.field new tree)
            (subst (λ part. m.field part tree (u ++ bytes) (entered ++ bits_of enters (length bytes))) (sym run.new_is)
            (subst (λ w. m.field (part (length bytes)) tree (u ++ w) (entered ++ bits_of enters (length bytes))) (take_all (length bytes) bytes (omega arith))
            (fields-part tree u entered is (length bytes) (omega arith))));
      };
    }
  where
    well-part : (i : ℕ) → m.well (stream_part s prev old enters bytes i) (at + i)
    well-part zero = subst (m.well old) (let e : at ≡ at + 0 = omega arith in e) well
    well-part (suc i) = (streams.clear (stream_part s prev old enters bytes (suc i)) (at + suc i)).1 (part-clear s prev old enters bytes (width ∙ streams.width) i)

    fields-part : (tree : Tree) (u : List ℕ) (entered : List Bool) → IsFieldOf m old prev at tree u entered → (i : ℕ) → i ≤ length bytes → m.field (stream_part s prev old enters bytes i) tree (u ++ take i bytes) (entered ++ bits_of enters i)
    fields-part tree u entered is i within =
        let (a, tells, runs) = streams.told tree is.runs in
        (streams.field (stream_part s prev old enters bytes i) tree (u ++ take i bytes) (entered ++ bits_of enters i)).1
        (part-field s prev old enters bytes (width ∙ streams.width) a tells tree runs u entered is.count ((streams.field old tree u entered).0 is.field) is.behind (λ i below. small i) i within)

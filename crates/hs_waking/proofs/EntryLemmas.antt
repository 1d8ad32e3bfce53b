-- An engine that is entered where one of its rows fits reaches what it reaches where it is entered before each byte.
use Rattle.std.proofs.Common.{◌≡◌, ◌⊎◌, ℕ, zero, suc, ◌+◌, ◌<◌, ◌≤◌, Bool, true, false, List, [], ◌∷◌, ◌++◌, length, take, replicate, get_or, Some, slice_get, refl, sym, subst, ◌∙◌, inl, inr, arith, length-append}
use Rattle.std.specs.Prelude.{EachIndex, slice_index}
use Rattle.std.proofs.lemmas.Bool.{cases_lt}
use Rattle.std.proofs.lemmas.Grind.{not_there}
use Rattle.std.proofs.lemmas.List.{append_assoc, length-replicate, length-take-le, take_all}
use Rattle.std.proofs.lemmas.Option.{slice_get_within}
use Rattle.std.proofs.Math.Logic.{∥∥₁_map, ∥∥₁_map₂}
use Rattle.hs_base.specs.declared.byte_set.ByteSet.{ByteSet}
use Rattle.hs_base.specs.declared.context.Next.{Next}
use Rattle.hs_base.specs.declared.context.Prev.{Prev}
use Rattle.hs_bits.specs.BlockContexts.{prev_before}
use Rattle.hs_engine.specs.Between.{between}
use Rattle.hs_base.specs.Contexts.{Context, class_of, context_of, prev_at}
use Rattle.hs_base.specs.Fields.{Leaves}
use Rattle.hs_base.specs.PositionRows.{IsField}
use Rattle.hs_base.specs.Trees.{Tree}
use Rattle.hs_base.specs.WrittenOut.{IsReached, write_out}
use Rattle.hs_engine.specs.declared.automaton.Automaton.{Automaton}
use Rattle.hs_engine.specs.Agreement.{IsAccepting, StepsTo, steps_in, steps_on}
use Rattle.hs_engine.specs.Automata.{enters, takes}
use Rattle.hs_engine.specs.Engines.{Meaning}
use Rattle.hs_engine.specs.Tables.{Runs}
use Rattle.hs_engine.proofs.AgreementLemmas.{accepting-leaves, get-append, get-seam, leaves-accepting, reached-steps, steps-reached}
use Rattle.hs_bits.proofs.ContextLemmas.{prev-there}
use Rattle.hs_waking.proofs.AnyLemmas.{true-false, true-or-false}
use Rattle.hs_waking.proofs.WakeLemmas.{Stands, begins, bytes-next, entered-next, goes-on, stands-nowhere}
use Rattle.hs_waking.specs.EntryRows.{AreEntryRows, KeepsSomeFits, entries_to}
use Rattle.hs_waking.specs.Fits.{FitsTo}
use Rattle.hs_waking.specs.declared.prev_set.PrevSet.{PrevSet}
use Rattle.hs_waking.specs.PrevSets.{has_prev}
use Rattle.hs_waking.specs.Rows.{AreRowsOf, IsBehindOf, RunsByRows}

-- the entries before these bytes alone, and those before each

pub kept-length : (kept : ℕ → Bool) (i : ℕ) → length (entries_to kept i) ≡ i
kept-length kept zero = refl
kept-length kept (suc i) =
    let before : length (entries_to kept i) ≡ i = kept-length kept i in
    omega (arith, before, length-append (entries_to kept i) (kept i ∷ []))

pub kept-next : (entered : List Bool) (kept : ℕ → Bool) (i : ℕ) → entered ++ entries_to kept (suc i) ≡ (entered ++ entries_to kept i) ++ kept i ∷ []
kept-next entered kept i = sym (append_assoc entered (entries_to kept i) (kept i ∷ []))

pub kept-size : (entered : List Bool) (kept : ℕ → Bool) (i : ℕ) → length (entered ++ entries_to kept i) ≡ length entered + i
kept-size entered kept i = omega (arith, length-append entered (entries_to kept i), kept-length kept i)

pub all-size : (entered : List Bool) (i : ℕ) → length (entered ++ replicate i true) ≡ length entered + i
all-size entered i = omega (arith, length-append entered (replicate i true), length-replicate i true)

pub bytes-size : (u bytes : List ℕ) (i : ℕ) → i ≤ length bytes → length (u ++ take i bytes) ≡ length u + i
bytes-size u bytes i within = omega (arith, length-append u (take i bytes), length-take-le i bytes within)

-- each entry of the ones is one of the others
pub kept-all : (entered : List Bool) (kept : ℕ → Bool) (i q : ℕ) → slice_get (entered ++ entries_to kept i) q ≡ Some true → slice_get (entered ++ replicate i true) q ≡ Some true
kept-all entered kept zero q is = is
kept-all entered kept (suc i) q is =
    let long : slice_get ((entered ++ entries_to kept i) ++ kept i ∷ []) q ≡ Some true = subst (λ es. slice_get es q ≡ Some true) (kept-next entered kept i) is in
    subst (λ es. slice_get es q ≡ Some true) (sym (entered-next entered i))
    (elim (cases_lt q (length entered + i)) [
      | inl before ↦
          let old : slice_get (entered ++ entries_to kept i) q ≡ Some true =
          sym (get-append (entered ++ entries_to kept i) (kept i ∷ []) q false (omega (arith, kept-size entered kept i))) ∙ long in
          get-append (entered ++ replicate i true) (true ∷ []) q false (omega (arith, all-size entered i)) ∙ kept-all entered kept i q old
      | inr past ↦
          let within : q < length ((entered ++ entries_to kept i) ++ kept i ∷ []) = slice_get_within ((entered ++ entries_to kept i) ++ kept i ∷ []) q true long in
          let last : length (entered ++ replicate i true) ≡ q = omega (arith, all-size entered i, kept-size entered kept i, length-append (entered ++ entries_to kept i) (kept i ∷ [])) in
          subst (λ k. slice_get ((entered ++ replicate i true) ++ true ∷ []) k ≡ Some true) last (get-seam (entered ++ replicate i true) true)
    ])

module _ (a : Automaton) (behind : PrevSet) (rows : List (List ByteSet)) (are : ∥ AreRowsOf a rows ∥₁) (before_is : IsBehindOf a behind) (prev : Prev) (bytes : List ℕ) (kept : ℕ → Bool) (keeps : KeepsSomeFits behind rows kept prev bytes) (small : EachIndex bytes (λ k. slice_index bytes k < 256))
    (tree : Tree) (runs : Runs a tree) (u : List ℕ) (entered : List Bool) (len : length entered ≡ length u) (last : prev ≡ prev_at u (length u)) where
  -- an entry that is left out
  abbrev Misses : ℕ → Type 0
  Misses i = (has_prev behind (prev_before prev bytes i) ≡ true) × (kept i ≡ false)

  abbrev Before : ℕ → List ℕ
  Before i = u ++ take i bytes

  abbrev Kept : ℕ → List Bool
  Kept i = entered ++ entries_to kept i

  abbrev All : ℕ → List Bool
  All i = entered ++ replicate i true

  -- reached by an entry that isn't, or else standing behind one that is
  abbrev Known : ℕ → ℕ → Type 0
  Known i y = IsReached (write_out tree) (Before i) (Kept i) y ⊎ ∥ Stands a Misses rows bytes i y ∥₁

  misses-whole : (k i : ℕ) (row : List ByteSet) → slice_get rows k ≡ Some row → i < length bytes → Misses i → FitsTo (slice_get row) bytes (length row) i → ⊥
  misses-whole k i row there within (begun, out) fits = true-false (kept i) (keeps k i row there within (begun, fits)) out

  arrives : (i : ℕ) → i < length bytes → (y : ℕ) → StepsTo (write_out tree) (Before i) (Kept i) (get_or bytes i 0) (kept i) y → IsReached (write_out tree) (Before (suc i)) (Kept (suc i)) y
  arrives i within y steps =
      subst (λ w. IsReached (write_out tree) w (Kept (suc i)) y) (sym (bytes-next u bytes i within))
      (subst (λ es. IsReached (write_out tree) (Before i ++ get_or bytes i 0 ∷ []) es y) (sym (kept-next entered kept i))
      (steps-reached (write_out tree) (Before i) (Kept i) (get_or bytes i 0) (kept i) y (omega (arith, len, kept-size entered kept i, bytes-size u bytes i (omega arith))) steps))

  of-steps : (i : ℕ) → i < length bytes → ((x : ℕ) → IsReached (write_out tree) (Before i) (All i) x → Known i x) → (y : ℕ) →
      StepsTo (write_out tree) (Before i) (All i) (get_or bytes i 0) true y → Known (suc i) y
  of-steps i within known y (steps_in member now enter) =
      let b : ℕ = get_or bytes i 0 in
      let here : Context = context_of (Before i) (class_of b) in
      let takes_it : takes a y b ≡ true = (runs.tables.sets y b (small i within)).1 member in
      let enters_it : enters a y (between (prev_before prev bytes i) (class_of b)) ≡ true =
      subst (λ p. enters a y (between p (class_of b)) ≡ true) (sym (prev-there prev u bytes i last (omega (arith, within)))) (runs.tables.enters y here ∙ enter) in
      elim (true-or-false (kept i)) [
        | inl stays ↦ inl (arrives i within y (steps_in member stays enter))
        | inr out ↦
            inr (∥∥₁_map are (λ rows_are. begins a rows rows_are bytes Misses misses-whole i y (between (prev_before prev bytes i) (class_of b)) within (small i within)
            (before_is y b (prev_before prev bytes i) (small i within) enters_it takes_it, out) enters_it takes_it))
      ]
  of-steps i within known y (steps_on x member reached follow) =
      let b : ℕ = get_or bytes i 0 in
      let here : Context = context_of (Before i) (class_of b) in
      elim (known x reached) [
        | inl before ↦ inl (arrives i within y (steps_on x member before follow))
        | inr standing ↦
            inr (∥∥₁_map₂ are standing (λ rows_are stood. goes-on a rows rows_are bytes Misses misses-whole i x y here within (small i within) stood
            (runs.tables.follows x y (prev_at (Before i) (length (Before i))) b ∙ follow) ((runs.tables.sets y b (small i within)).1 member)))
      ]

  known : (i : ℕ) → i ≤ length bytes → (y : ℕ) → IsReached (write_out tree) (Before i) (All i) y → Known i y
  known zero within y reached = inl reached
  known (suc i) within y reached =
      let below : i < length bytes = omega arith in
      let long : IsReached (write_out tree) (Before i ++ get_or bytes i 0 ∷ []) (All i ++ true ∷ []) y =
      subst (λ es. IsReached (write_out tree) (Before i ++ get_or bytes i 0 ∷ []) es y) (entered-next entered i)
      (subst (λ w. IsReached (write_out tree) w (All (suc i)) y) (bytes-next u bytes i below) reached) in
      of-steps i below (known i (omega arith)) y
      (reached-steps (write_out tree) (Before i) (All i) (get_or bytes i 0) true y (omega (arith, len, all-size entered i, bytes-size u bytes i (omega arith))) long)

  reached-kept : (y : ℕ) → IsReached (write_out tree) (u ++ bytes) (All (length bytes)) y → IsReached (write_out tree) (u ++ bytes) (Kept (length bytes)) y
  reached-kept y reached =
      let whole : take (length bytes) bytes ≡ bytes = take_all (length bytes) bytes (omega arith) in
      elim (known (length bytes) (omega arith) y (subst (λ v. IsReached (write_out tree) (u ++ v) (All (length bytes)) y) (sym whole) reached)) [
        | inl before ↦ subst (λ v. IsReached (write_out tree) (u ++ v) (Kept (length bytes)) y) whole before
        | inr standing ↦ absurd (not_there are (λ rows_are. not_there standing (stands-nowhere a rows rows_are bytes Misses misses-whole y)))
      ]

  reached-all : (w : List ℕ) (i y : ℕ) → IsReached (write_out tree) w (Kept i) y → IsReached (write_out tree) w (All i) y
  reached-all w i y reached = record { from = reached.from; is_entered = kept-all entered kept i reached.from reached.is_entered; reached = reached.reached }

  leaves-kept : (i : ℕ) → i ≤ length bytes → (next : Next) → Leaves tree (Before i) (All i) next → Leaves tree (Before i) (Kept i) next
  leaves-kept i within next leaves =
      let accepting : IsAccepting (write_out tree) (Before i) (All i) next = leaves-accepting tree (Before i) (All i) next runs.plain runs.ends_last leaves in
      elim (known i within accepting.position accepting.reached) [
        | inl before ↦
            accepting-leaves tree (Before i) (Kept i) next runs.plain runs.ends_last
            (record { position = accepting.position; reached = before; accepts = accepting.accepts })
        | inr standing ↦
            absurd (not_there standing (λ stood. stood.is.ends stood.level accepting.position (context_of (Before i) next) stood.further stood.at_level
            (runs.tables.accepts accepting.position (context_of (Before i) next) ∙ accepting.accepts)))
      ]

  field-all : (region : List ℕ) → IsField region (write_out tree) (u ++ bytes) (Kept (length bytes)) → IsField region (write_out tree) (u ++ bytes) (All (length bytes))
  field-all region field y = (
    λ bit. reached-all (u ++ bytes) (length bytes) y ((field y).0 bit),
    λ reached. (field y).1 (reached-kept y reached),
  )

-- what is left where the ones are entered is where all are
pub leaves-all : (tree : Tree) (w : List ℕ) (entered : List Bool) (kept : ℕ → Bool) (i : ℕ) (next : Next) → Leaves tree w (entered ++ entries_to kept i) next → Leaves tree w (entered ++ replicate i true) next
leaves-all tree w entered kept i next leaves =
    record { from = leaves.from; is_entered = kept-all entered kept i leaves.from leaves.is_entered; before = leaves.before; spans = leaves.spans }

pub entry-rows : (m : Meaning) (behind : PrevSet) (rows : List (List ByteSet)) → RunsByRows m behind rows → AreEntryRows m behind rows
entry-rows m behind rows by kept prev bytes small keeps = record {
  field = λ tree u region entered told len last field.
      let (a, are, before, runs) = by.told tree told in
      (by.field region tree (u ++ bytes) (entered ++ replicate (length bytes) true) told).1
      (field-all a behind rows are before prev bytes kept keeps small tree runs u entered len last region
      ((by.field region tree (u ++ bytes) (entered ++ entries_to kept (length bytes)) told).0 field));
  leaves = λ tree u entered told len last i within next.
      let (a, are, before, runs) = by.told tree told in (
        leaves-all tree (u ++ take i bytes) entered kept i next,
        leaves-kept a behind rows are before prev bytes kept keeps small tree runs u entered len last i within next,
      );
}

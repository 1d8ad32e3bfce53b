-- Over bytes in which no row of an automaton fits anywhere no position that is reached accepts, and behind them none is
-- reached.
use Rattle.std.proofs.Common.{◌≡◌, ℕ, zero, suc, ◌+◌, ◌<◌, ◌≤◌, Bool, true, List, [], ◌∷◌, ◌++◌, length, take, replicate, get_or, Option, Some, slice_get, refl, sym, ap, subst, ◌∙◌, inl, inr, arith, length-append}
use Rattle.std.specs.Prelude.{EachIndex, slice_index}
use Rattle.std.proofs.lemmas.Bool.{cases_lt}
use Rattle.std.proofs.lemmas.Grind.{not_there}
use Rattle.std.proofs.lemmas.List.{append-nil, append_assoc, length-replicate, length-take-le, replicate-append-replicate, take_all}
use Rattle.std.proofs.Math.Seq.{take-suc}
use Rattle.hs_base.specs.declared.byte_set.ByteSet.{ByteSet}
use Rattle.hs_base.specs.declared.context.Next.{Next}
use Rattle.hs_base.specs.declared.context.Prev.{Prev}
use Rattle.hs_bits.specs.BlockContexts.{prev_before}
use Rattle.hs_engine.specs.Between.{between}
use Rattle.hs_base.specs.Bits.{has_bit}
use Rattle.hs_base.specs.Contexts.{Context, class_of, context_of, prev_at}
use Rattle.hs_base.specs.Fields.{Leaves}
use Rattle.hs_base.specs.PositionRows.{IsField}
use Rattle.hs_base.specs.Trees.{Tree}
use Rattle.hs_base.specs.WrittenOut.{Core, IsReached, write_out}
use Rattle.hs_engine.specs.declared.automaton.Automaton.{Automaton}
use Rattle.hs_engine.specs.Agreement.{IsAccepting, StepsTo, steps_in, steps_on}
use Rattle.hs_engine.specs.Automata.{enters, follows, in_set, takes}
use Rattle.hs_engine.specs.Engines.{Meaning}
use Rattle.hs_engine.specs.Tables.{Runs}
use Rattle.hs_engine.proofs.AgreementLemmas.{leaves-accepting, reached-steps}
use Rattle.hs_engine.proofs.AutomatonLemmas.{start-clear}
use Rattle.hs_bits.proofs.ContextLemmas.{prev-there}
use Rattle.hs_waking.proofs.AnyLemmas.{true-false}
use Rattle.hs_waking.specs.Fits.{FitsNowhere, FitsTo}
use Rattle.hs_waking.specs.declared.prev_set.PrevSet.{PrevSet}
use Rattle.hs_waking.specs.PrevSets.{has_prev}
use Rattle.hs_waking.specs.Rows.{AreRowsOf, IsAtLevelFrom, IsBehindOf, IsRowFrom, RunsByRows}
use Rattle.hs_waking.specs.WakeRows.{AreWakeRows}

-- one more set has its byte
pub fits-more : (row : ℕ → Option ByteSet) (bytes : List ℕ) (n p : ℕ) → FitsTo row bytes n p → (p + n < length bytes → in_set (row n) (get_or bytes (p + n) 0) ≡ true) → FitsTo row bytes (suc n) p
fits-more row bytes n p fits last d below inside =
    elim (cases_lt d n) [
      | inl less ↦ fits d less inside
      | inr past ↦
          let same : n ≡ d = omega arith in
          subst (λ k. in_set (row k) (get_or bytes (p + k) 0) ≡ true) same (last (omega arith))
    ]

-- The position is one of a level of a row whose bytes end at a place, and not of the last level; the row begins where
-- these begin, and fits up to there.
pub record Stands (a : Automaton) (Begins : ℕ → Type 0) (rows : List (List ByteSet)) (bytes : List ℕ) (at y : ℕ) : Type 0 where
  pub number : ℕ
  pub row : List ByteSet
  pub there : slice_get rows number ≡ Some row
  pub first : ℕ
  pub is : IsRowFrom a first row
  pub level : ℕ
  pub place : ℕ
  pub behind : place + suc level ≡ at
  pub begun : Begins place
  pub at_level : IsAtLevelFrom a first level y
  pub further : suc level < length row
  pub fits : FitsTo (slice_get row) bytes (suc level) place

-- where none of them begins and fits to its end
module _ (a : Automaton) (rows : List (List ByteSet)) (are : AreRowsOf a rows) (bytes : List ℕ) (Begins : ℕ → Type 0) (nowhere : (k i : ℕ) (row : List ByteSet) → slice_get rows k ≡ Some row → i < length bytes → Begins i → FitsTo (slice_get row) bytes (length row) i → ⊥) where
  -- where it has fitted up to the last level it would fit
  stands : (k : ℕ) (row : List ByteSet) (first i y level place : ℕ) → slice_get rows k ≡ Some row → IsRowFrom a first row → i < length bytes → place + suc level ≡ suc i → Begins place → IsAtLevelFrom a first level y → level < length row →
      FitsTo (slice_get row) bytes (suc level) place → Stands a Begins rows bytes (suc i) y
  stands k row first i y level place there is within to begun at_level below fits =
      elim (cases_lt (suc level) (length row)) [
        | inl further ↦
            record { number = k; row = row; there = there; first = first; is = is; level = level; place = place; behind = to; begun = begun; at_level = at_level; further = further; fits = fits }
        | inr last ↦ absurd (nowhere k place row there (omega arith) begun (λ d less inside. fits d (omega arith) inside))
      ]

  pub begins : (i y : ℕ) (c : Context) → i < length bytes → get_or bytes i 0 < 256 → Begins i → enters a y c ≡ true → takes a y (get_or bytes i 0) ≡ true → Stands a Begins rows bytes (suc i) y
  begins i y c within small begun enter member =
      let (k, row, there, is) = are y c enter in
      let first : in_set (slice_get row 0) (get_or bytes i 0) ≡ true = is.sets 0 y (get_or bytes i 0) is.some refl small member in
      let place : i ≡ i + 0 = omega arith in
      stands k row y i y 0 i there is within (omega arith) begun refl is.some
      (fits-more (slice_get row) bytes 0 i (λ d below inside. absurd (omega arith)) (λ inside. subst (λ p. in_set (slice_get row 0) (get_or bytes p 0) ≡ true) place first))

  pub goes-on : (i x y : ℕ) (c : Context) → i < length bytes → get_or bytes i 0 < 256 → Stands a Begins rows bytes i x → follows a x y c ≡ true → takes a y (get_or bytes i 0) ≡ true → Stands a Begins rows bytes (suc i) y
  goes-on i x y c within small before follow member =
      let row : List ByteSet = before.row in
      let level : ℕ = suc before.level in
      let at_level : IsAtLevelFrom a before.first level y = (x, c, before.at_level, follow) in
      let last : in_set (slice_get row level) (get_or bytes i 0) ≡ true = before.is.sets level y (get_or bytes i 0) before.further at_level small member in
      let place : i ≡ before.place + level = sym before.behind in
      stands before.number row before.first i y level before.place before.there before.is within (omega (arith, before.behind)) before.begun at_level before.further
      (fits-more (slice_get row) bytes level before.place before.fits (λ inside. subst (λ p. in_set (slice_get row level) (get_or bytes p 0) ≡ true) place last))

  -- at the end of the bytes it fits as far as they go
  pub stands-nowhere : (y : ℕ) → Stands a Begins rows bytes (length bytes) y → ⊥
  stands-nowhere y stood = nowhere stood.number stood.place stood.row stood.there (omega (arith, stood.behind)) stood.begun (λ d below inside. stood.fits d (omega (arith, stood.behind)) inside)

-- one more of the bytes
pub bytes-next : (u bytes : List ℕ) (i : ℕ) → i < length bytes → u ++ take (suc i) bytes ≡ (u ++ take i bytes) ++ get_or bytes i 0 ∷ []
bytes-next u bytes i within = ap (λ v. u ++ v) (take-suc bytes i 0 within) ∙ sym (append_assoc u (take i bytes) (get_or bytes i 0 ∷ []))

-- before which it is entered
pub entered-next : (entered : List Bool) (i : ℕ) → entered ++ replicate (suc i) true ≡ (entered ++ replicate i true) ++ true ∷ []
entered-next entered i =
    let one : i + 1 ≡ suc i = omega arith in
    ap (λ n. entered ++ replicate n true) (sym one)
    ∙ (ap (λ v. entered ++ v) (sym (replicate-append-replicate i 1 true)) ∙ sym (append_assoc entered (replicate i true) (true ∷ [])))

module _ (a : Automaton) (behind : PrevSet) (rows : List (List ByteSet)) (are : AreRowsOf a rows) (before_is : IsBehindOf a behind) (prev : Prev) (bytes : List ℕ) (nowhere : (k : ℕ) (row : List ByteSet) → slice_get rows k ≡ Some row → FitsNowhere behind row prev bytes) where
  abbrev Begins : ℕ → Type 0
  Begins i = has_prev behind (prev_before prev bytes i) ≡ true

  nowhere-whole : (k i : ℕ) (row : List ByteSet) → slice_get rows k ≡ Some row → i < length bytes → Begins i → FitsTo (slice_get row) bytes (length row) i → ⊥
  nowhere-whole k i row there within begun fits = nowhere k row there i within (begun, fits)

  module _ (small : EachIndex bytes (λ k. slice_index bytes k < 256)) (tree : Tree) (runs : Runs a tree) (u : List ℕ) (entered : List Bool) (len : length entered ≡ length u) (last : prev ≡ prev_at u (length u))
      (unreached : (y : ℕ) → IsReached (write_out tree) u entered y → ⊥) where
    abbrev Before : ℕ → List ℕ
    Before i = u ++ take i bytes

    abbrev Entered : ℕ → List Bool
    Entered i = entered ++ replicate i true

    same-len : (i : ℕ) → i ≤ length bytes → length (Entered i) ≡ length (Before i)
    same-len i within =
        omega (arith, len, length-append entered (replicate i true), length-append u (take i bytes), length-replicate i true, length-take-le i bytes within)

    of-steps : (i : ℕ) → i < length bytes → ((x : ℕ) → IsReached (write_out tree) (Before i) (Entered i) x → Stands a Begins rows bytes i x) → (y : ℕ) →
        StepsTo (write_out tree) (Before i) (Entered i) (get_or bytes i 0) true y → Stands a Begins rows bytes (suc i) y
    of-steps i within known y (steps_in member now enter) =
        let b : ℕ = get_or bytes i 0 in
        let here : Context = context_of (Before i) (class_of b) in
        let takes_it : takes a y b ≡ true = (runs.tables.sets y b (small i within)).1 member in
        let enters_it : enters a y (between (prev_before prev bytes i) (class_of b)) ≡ true =
        subst (λ p. enters a y (between p (class_of b)) ≡ true) (sym (prev-there prev u bytes i last (omega (arith, within)))) (runs.tables.enters y here ∙ enter) in
        begins a rows are bytes Begins nowhere-whole i y (between (prev_before prev bytes i) (class_of b)) within (small i within)
        (before_is y b (prev_before prev bytes i) (small i within) enters_it takes_it) enters_it takes_it
    of-steps i within known y (steps_on x member reached follow) =
        let b : ℕ = get_or bytes i 0 in
        let here : Context = context_of (Before i) (class_of b) in
        goes-on a rows are bytes Begins nowhere-whole i x y here within (small i within) (known x reached) (runs.tables.follows x y (prev_at (Before i) (length (Before i))) b ∙ follow) ((runs.tables.sets y b (small i within)).1 member)

    reached-stands : (i : ℕ) → i ≤ length bytes → (y : ℕ) → IsReached (write_out tree) (Before i) (Entered i) y → Stands a Begins rows bytes i y
    reached-stands zero within y reached =
        absurd (unreached y
        (subst (λ e. IsReached (write_out tree) u e y) (append-nil entered)
        (subst (λ w. IsReached (write_out tree) w (entered ++ []) y) (append-nil u) reached)))
    reached-stands (suc i) within y reached =
        let below : i < length bytes = omega arith in
        let long : IsReached (write_out tree) (Before i ++ get_or bytes i 0 ∷ []) (Entered i ++ true ∷ []) y =
        subst (λ e. IsReached (write_out tree) (Before i ++ get_or bytes i 0 ∷ []) e y) (entered-next entered i)
        (subst (λ w. IsReached (write_out tree) w (Entered (suc i)) y) (bytes-next u bytes i below) reached) in
        of-steps i below (reached-stands i (omega arith)) y
        (reached-steps (write_out tree) (Before i) (Entered i) (get_or bytes i 0) true y (same-len i (omega arith)) long)

    unreached-behind : (y : ℕ) → IsReached (write_out tree) (u ++ bytes) (entered ++ replicate (length bytes) true) y → ⊥
    unreached-behind y reached =
        let all : bytes ≡ take (length bytes) bytes = sym (take_all (length bytes) bytes (omega arith)) in
        stands-nowhere a rows are bytes Begins nowhere-whole y
        (reached-stands (length bytes) (omega arith) y
        (subst (λ v. IsReached (write_out tree) (u ++ v) (entered ++ replicate (length bytes) true) y) all reached))

    left-nowhere : (i : ℕ) → i ≤ length bytes → (next : Next) → Leaves tree (Before i) (Entered i) next → ⊥
    left-nowhere i within next leaves =
        let accepting : IsAccepting (write_out tree) (Before i) (Entered i) next = leaves-accepting tree (Before i) (Entered i) next runs.plain runs.ends_last leaves in
        let here = reached-stands i within accepting.position accepting.reached in
        here.is.ends here.level accepting.position (context_of (Before i) next) here.further here.at_level
        (runs.tables.accepts accepting.position (context_of (Before i) next) ∙ accepting.accepts)

-- no position is reached where the region is that of the empty stream
unreached-start : (r : Core) (region u : List ℕ) (entered : List Bool) → IsField region r [] [] → IsField region r u entered → (y : ℕ) → IsReached r u entered y → ⊥
unreached-start r region u entered start field y reached = true-false (has_bit region y) ((field y).1 reached) (start-clear r region start y)

rests-behind : (r : Core) (region w : List ℕ) (entries : List Bool) → IsField region r [] [] → ((y : ℕ) → IsReached r w entries y → ⊥) → IsField region r w entries
rests-behind r region w entries start unreached y = (
  λ set. true-false (has_bit region y) set (start-clear r region start y),
  λ reached. absurd (unreached y reached),
)

pub wake-rows : (m : Meaning) (behind : PrevSet) (rows : List (List ByteSet)) → RunsByRows m behind rows → AreWakeRows m behind rows
wake-rows m behind rows by region bytes prev start small nowhere = record {
  stays = λ tree u entered told len last field.
      let (a, are, before, runs) = by.told tree told in
      let begun : IsField region (write_out tree) [] [] = (by.field region tree [] [] told).0 (start tree told) in
      let here : IsField region (write_out tree) u entered = (by.field region tree u entered told).0 field in
      (by.field region tree (u ++ bytes) (entered ++ replicate (length bytes) true) told).1
      (rests-behind (write_out tree) region (u ++ bytes) (entered ++ replicate (length bytes) true) begun
      (λ y reached. not_there are (λ rows_are. unreached-behind a behind rows rows_are before prev bytes nowhere small tree runs u entered len last (unreached-start (write_out tree) region u entered begun here) y reached)));
  leaves_nothing = λ tree u entered told len last field.
      let (a, are, before, runs) = by.told tree told in
      let begun : IsField region (write_out tree) [] [] = (by.field region tree [] [] told).0 (start tree told) in
      let here : IsField region (write_out tree) u entered = (by.field region tree u entered told).0 field in
      λ i some within next leaves. not_there are
      (λ rows_are. left-nowhere a behind rows rows_are before prev bytes nowhere small tree runs u entered len last (unreached-start (write_out tree) region u entered begun here) i within next leaves);
}

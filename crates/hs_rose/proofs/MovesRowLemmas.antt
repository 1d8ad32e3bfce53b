-- The rows of an automaton are those of the engine whose tables it fits.
use Rattle.std.proofs.Common.{◌≡◌, ℕ, zero, suc, ◌<◌, true, List, sym, ◌∙◌, arith}
use Rattle.std.proofs.Math.Logic.{∥∥₁_map}
use Rattle.hs_base.specs.declared.byte_set.ByteSet.{ByteSet}
use Rattle.hs_base.specs.declared.context.Prev.{Prev}
use Rattle.hs_base.specs.Contexts.{class_of}
use Rattle.hs_engine.specs.Between.{between}
use Rattle.hs_waking.specs.declared.prev_set.PrevSet.{PrevSet}
use Rattle.hs_waking.specs.PrevSets.{has_prev}
use Rattle.hs_engine.specs.declared.automaton.Automaton.{Automaton}
use Rattle.hs_limex.specs.Fitting.{Fits, tables_meaning}
use Rattle.hs_limex.specs.PositionMoves.{PositionMoves}
use Rattle.hs_rose.specs.MovesRows.{AreMovesRows, IsMovesLevel, IsMovesRow}
use Rattle.hs_waking.specs.EntryRows.{TellBeginnings}
use Rattle.hs_waking.specs.Rows.{AreRowsOf, IsAtLevelFrom, IsRowFrom, RunsByRows}
use Rattle.hs_waking.proofs.EntryLemmas.{entry-rows}
use Rattle.hs_waking.proofs.WakeLemmas.{wake-rows}

module _ (m : PositionMoves) (a : Automaton) (fits : Fits m a) where
  -- levels by the tables are those of the automaton
  level-of : (first d x : ℕ) → IsMovesLevel m first d x → IsAtLevelFrom a first d x
  level-of first zero x same = same
  level-of first (suc d) y (x, c, before, follow) = (x, c, level-of first d x before, sym (fits.follows x y c) ∙ follow)

  level-from : (first d x : ℕ) → IsAtLevelFrom a first d x → IsMovesLevel m first d x
  level-from first zero x same = same
  level-from first (suc d) y (x, c, before, follow) = (x, c, level-from first d x before, fits.follows x y c ∙ follow)

  -- and so are the rows
  row-of : (first : ℕ) (row : List ByteSet) → IsMovesRow m first row → IsRowFrom a first row
  row-of first row is = record {
    some = is.some;
    sets = λ d x b low at small member. is.sets d x b low (level-from first d x at) small (fits.reach b x small ∙ member);
    ends = λ d x c low at accept. is.ends d x c (omega (arith, low)) (level-from first d x at) (fits.accepts c x ∙ accept);
  }

  row-from : (first : ℕ) (row : List ByteSet) → IsRowFrom a first row → IsMovesRow m first row
  row-from first row is = record {
    some = is.some;
    sets = λ d x b low at small member. is.sets d x b low (level-of first d x at) small (sym (fits.reach b x small) ∙ member);
    ends = λ d x c low at accept. is.ends d x c (omega (arith, low)) (level-of first d x at) (sym (fits.accepts c x) ∙ accept);
  }

  rows-of : (rows : List (List ByteSet)) → AreMovesRows m rows → AreRowsOf a rows
  rows-of rows have x c enter = let (k, row, there, is) = have x c (fits.enters c x ∙ enter) in (k, row, there, row-of x row is)

  pub rows-from : (rows : List (List ByteSet)) → AreRowsOf a rows → AreMovesRows m rows
  rows-from rows are x c enter = let (k, row, there, is) = are x c (sym (fits.enters c x) ∙ enter) in (k, row, there, row-from x row is)

-- what is said by the tables is said by the automaton
moves-by : (m : PositionMoves) (behind : PrevSet) (rows : List (List ByteSet)) →
    ((x b : ℕ) (prev : Prev) → b < 256 → m.enters (between prev (class_of b)) x ≡ true → m.reach b x ≡ true → has_prev behind prev ≡ true) →
    ∥ AreMovesRows m rows ∥₁ → RunsByRows (tables_meaning m) behind rows
moves-by m behind rows before have = record {
  told = λ tree is. (
    is.automaton,
    ∥∥₁_map have (rows-of m is.automaton is.fits rows),
    λ x b prev small enter member. before x b prev small (is.fits.enters (between prev (class_of b)) x ∙ enter) (is.fits.reach b x small ∙ member),
    is.runs,
  );
  field = λ region tree u entered told. (λ is. is, λ is. is);
}

pub moves-rows : (m : PositionMoves) (behind : PrevSet) (rows : List (List ByteSet)) →
    ((x b : ℕ) (prev : Prev) → b < 256 → m.enters (between prev (class_of b)) x ≡ true → m.reach b x ≡ true → has_prev behind prev ≡ true) →
    ∥ AreMovesRows m rows ∥₁ → TellBeginnings (tables_meaning m) behind rows
moves-rows m behind rows before have =
    let by : RunsByRows (tables_meaning m) behind rows = moves-by m behind rows before have in
    record { wakes = wake-rows (tables_meaning m) behind rows by; enters = entry-rows (tables_meaning m) behind rows by }

-- The row of the first bytes of an automaton, and its rows from one position each.
use Rattle.std.specs.Prelude.{◌≡◌, ◌↔◌, ℕ, zero, suc, ◌<◌, ◌≤◌, true, List, length, slice_get, Some}
use Rattle.std.specs.Prelude.{Bool}
use Rattle.std.specs.declared.alloc.Global.{Global}
use Rattle.std.specs.declared.vec.Vec.{Vec}
use Rattle.hs_base.specs.declared.byte_set.ByteSet.{ByteSet}
use Rattle.hs_base.specs.Bits.{has_word_bit}
use Rattle.hs_base.specs.declared.context.Prev.{Prev}
use Rattle.hs_base.specs.Contexts.{Context, class_of}
use Rattle.hs_base.specs.PositionRows.{IsField}
use Rattle.hs_base.specs.Trees.{Tree}
use Rattle.hs_base.specs.WrittenOut.{write_out}
use Rattle.hs_engine.specs.declared.automaton.Automaton.{Automaton}
use Rattle.hs_engine.specs.Automata.{accepts, enters, follows, in_set, takes}
use Rattle.hs_engine.specs.Between.{between}
use Rattle.hs_engine.specs.Engines.{Meaning}
use Rattle.hs_engine.specs.Tables.{Runs}
use Rattle.hs_waking.specs.declared.prev_set.PrevSet.{PrevSet}
use Rattle.hs_waking.specs.PrevSets.{has_prev}

-- The position may take the byte of that number of a match, counted from 0: it is entered in some context, or follows a
-- position of the level before in some context.
abbrev pub IsAtLevel : Automaton → (level position : ℕ) → Type 0
IsAtLevel a zero x = (c : Context) × (enters a x c ≡ true)
IsAtLevel a (suc d) y = (x : ℕ) × (c : Context) × IsAtLevel a d x × (follows a x y c ≡ true)

-- The row has a set for each of the first levels, with the bytes of its positions. No position accepts in any context
-- that is of one of these levels but the last.
pub record IsRowOf (a : Automaton) (row : List ByteSet) : Type 0 where
  pub some : 0 < length row
  pub sets : (d x b : ℕ) →
      d < length row →
      IsAtLevel a d x →
      b < 256 →
      takes a x b ≡ true →
      in_set (slice_get row d) b ≡ true
  pub ends : (d x : ℕ) (c : Context) → suc d < length row → IsAtLevel a d x → accepts a x c ≡ true → ⊥

-- The position may take the byte of that number of a match that begins with the first one.
abbrev pub IsAtLevelFrom : Automaton → (first level position : ℕ) → Type 0
IsAtLevelFrom a first zero x = x ≡ first
IsAtLevelFrom a first (suc d) y = (x : ℕ) × (c : Context) × IsAtLevelFrom a first d x × (follows a x y c ≡ true)

-- the bits of the positions of the level of these matches are set
abbrev pub HasLevelFrom : Automaton → (first level : ℕ) (words : List ℕ) → Type 0
HasLevelFrom a first d words = (x : ℕ) → IsAtLevelFrom a first d x → has_word_bit words x ≡ true

-- The row has a set for each of the first levels of these matches, with the bytes of its positions. No position accepts
-- in any context that is of one of these levels but the last.
pub record IsRowFrom (a : Automaton) (first : ℕ) (row : List ByteSet) : Type 0 where
  pub some : 0 < length row
  pub sets : (d x b : ℕ) →
      d < length row →
      IsAtLevelFrom a first d x →
      b < 256 →
      takes a x b ≡ true →
      in_set (slice_get row d) b ≡ true
  pub ends : (d x : ℕ) (c : Context) →
      suc d < length row →
      IsAtLevelFrom a first d x →
      accepts a x c ≡ true →
      ⊥

-- The row is one of the matches that begin with any position of the words.
pub record IsRowFromEach (a : Automaton) (words : List ℕ) (row : List ByteSet) : Type 0 where
  pub some : 0 < length row
  pub each : (x : ℕ) → has_word_bit words x ≡ true → IsRowFrom a x row

-- One of the rows is that of the matches that begin with the position.
abbrev pub HasRowFrom : Automaton → (rows : List (List ByteSet)) (first : ℕ) → Type 0
HasRowFrom a rows x = (k : ℕ) × (row : List ByteSet) × (slice_get rows k ≡ Some row) × IsRowFrom a x row

-- There is such a row for each position that is entered in some context.
abbrev pub AreRowsOf : Automaton → (rows : List (List ByteSet)) → Type 0
AreRowsOf a rows = (x : ℕ) (c : Context) → enters a x c ≡ true → HasRowFrom a rows x

-- Each of the rows has at most eight sets.
abbrev pub AreShort : (rows : List (List ByteSet)) → Type 0
AreShort rows = (k : ℕ) (row : List ByteSet) → slice_get rows k ≡ Some row → length row ≤ 8

-- the sets of a row that is kept
abbrev pub row_sets : Vec ByteSet Global → List ByteSet
row_sets row = row.items

-- All rows are there still, and besides one of the matches that begin with the position, if it is entered.
pub record AddsRow (a : Automaton) (first : ℕ) (old new : List (List ByteSet)) : Type 0 where
  pub kept : (x : ℕ) → HasRowFrom a old x → HasRowFrom a new x
  pub added : (c : Context) → enters a first c ≡ true → HasRowFrom a new first
  pub short : AreShort old → AreShort new

-- The set has what may stand before a byte with which the automaton is entered.
abbrev pub IsBehindOf : Automaton → PrevSet → Type 0
IsBehindOf a behind =
    (x b : ℕ) (prev : Prev) →
    b < 256 →
    enters a x (between prev (class_of b)) ≡ true →
    takes a x b ≡ true →
    has_prev behind prev ≡ true

-- The engine runs expressions by automata of which these are the rows, whichever of them is whose, which begin behind
-- these alone; and its regions have a bit for each position.
pub record RunsByRows (m : Meaning) (behind : PrevSet) (rows : List (List ByteSet)) : Type 0 where
  pub told : (tree : Tree) → m.is_for tree → (a : Automaton) × ∥ AreRowsOf a rows ∥₁ × IsBehindOf a behind × Runs a tree
  pub field : (region : List ℕ) (tree : Tree) (u : List ℕ) (entered : List Bool) →
      m.is_for tree →
      m.field region tree u entered ↔ IsField region (write_out tree) u entered

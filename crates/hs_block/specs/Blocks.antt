-- What an engine does with a block of bytes: its regions byte by byte, its steps, and where its expression is left.
use Rattle.std.specs.Prelude.{◌≡◌, ℕ, ◌+◌, ◌<◌, ◌≤◌, Bool, true, false, not, ◌&&◌, ◌||◌, ◌==◌, List, [], ◌∷◌, ◌++◌}
use Rattle.std.specs.Prelude.{length, take}
use Rattle.hs_base.specs.declared.context.Prev.{Prev}
use Rattle.hs_base.specs.Contexts.{prev_at}
use Rattle.hs_base.specs.Trees.{Tree}
use Rattle.hs_engine.specs.Engines.{Meaning}
use Rattle.hs_engine.specs.declared.ends.BlockEnds.{BlockEnds}
use Rattle.hs_bits.specs.WordBits.{word_bit, bits_of, AreSet, count_below}
use Rattle.hs_block.specs.Scans.{Scans}

-- an engine that counts as entered at every offset is entered before each of so many bytes
abbrev pub IsEnteredThroughout : Meaning → (enters count : ℕ) → Type 0
IsEnteredThroughout m enters count = m.always ≡ true → AreSet enters count

-- all bytes are 0
abbrev pub is_blank : List ℕ → Bool
is_blank [] = true
is_blank (b ∷ bytes) = (b == 0) && is_blank bytes

-- before the byte i the engine is entered, or its region isn't all 0
abbrev pub is_busy : (enters : ℕ) (parts : ℕ → List ℕ) → ℕ → Bool
is_busy enters parts i = word_bit enters i || not (is_blank (parts i))

-- The region is the field of a stream that ends at the offset `at` behind `prev`.
pub record IsFieldOf (m : Meaning) (region : List ℕ) (prev : Prev) (at : ℕ) (tree : Tree) (u : List ℕ)
    (entered : List Bool) : Type 0 where
  pub runs : m.is_for tree
  pub count : length entered ≡ length u
  pub offset : at ≡ length u
  pub behind : prev ≡ prev_at u (length u)
  pub field : m.field region tree u entered

-- The engine takes a block of bytes: its region goes from the old one to the new one, byte by byte. For each history of
-- the old one these are the fields, and the words of the ends tell where the expression is left. It takes a step for
-- each byte before which it is busy; over the others its region stays.
pub record IsBlockRun (m : Meaning) (old new : List ℕ) (prev : Prev) (at enters : ℕ) (bytes : List ℕ)
    (ends : BlockEnds) (ticks : ℕ) : Type 0 where
  -- the region before each byte of the block, and behind the last
  pub parts : ℕ → List ℕ
  pub first : parts 0 ≡ old
  pub last : parts (length bytes) ≡ new
  pub sized : (i : ℕ) → i ≤ length bytes → length (parts i) ≡ m.width
  pub well : (i : ℕ) → i ≤ length bytes → m.well (parts i) (at + i)
  pub ticks_are : ticks ≡ count_below (length bytes) (is_busy enters parts)
  pub idle : (i : ℕ) → i < length bytes → is_busy enters parts i ≡ false → parts (i + 1) ≡ parts i
  pub fields : (tree : Tree) (u : List ℕ) (entered : List Bool) →
      IsFieldOf m old prev at tree u entered →
      (i : ℕ) →
      i ≤ length bytes →
      m.field (parts i) tree (u ++ take i bytes) (entered ++ bits_of enters i)
  pub scans : (tree : Tree) (u : List ℕ) (entered : List Bool) →
      IsFieldOf m old prev at tree u entered →
      Scans (m.field new tree) tree u entered bytes enters ends.before ends.behind

-- It does so, and the counter grows by its steps.
pub record TakesBlock (m : Meaning) (old new : List ℕ) (prev : Prev) (at enters : ℕ) (bytes : List ℕ)
    (ends : BlockEnds) (steps_old steps_new : ℕ) : Type 0 where
  pub ticks : ℕ
  pub counted : steps_new ≡ steps_old + ticks
  pub run : IsBlockRun m old new prev at enters bytes ends ticks

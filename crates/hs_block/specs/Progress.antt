-- How far an engine has taken a block of bytes.
use Rattle.std.specs.Prelude.{◌≡◌, ◌↔◌, ℕ, ◌+◌, ◌<◌, ◌≤◌, Bool, false, IsTrue, List, ◌++◌, length, take}
use Rattle.hs_base.specs.declared.context.Next.{Next}
use Rattle.hs_base.specs.declared.context.Prev.{Prev}
use Rattle.hs_base.specs.Bits.{AreZero}
use Rattle.hs_base.specs.Contexts.{prev_at}
use Rattle.hs_base.specs.ContextSets.{has_next}
use Rattle.hs_base.specs.Trees.{Tree}
use Rattle.hs_engine.specs.Engines.{Meaning, IsQuiet, TellsLeaves}
use Rattle.hs_block.specs.declared.by_steps.Progress.{Progress}
use Rattle.hs_bits.specs.WordBits.{bits_of, Marks, count_below}
use Rattle.hs_block.specs.Scans.{IsLeftBefore, IsLeftBehind}
use Rattle.hs_block.specs.Blocks.{IsFieldOf, is_busy}

-- The first bytes of the block have led from the first region to this one, in so many steps.
pub record IsRunTo (m : Meaning) (first region : List ℕ) (prev : Prev) (at enters : ℕ) (bytes : List ℕ) (p : Progress)
    (ticks : ℕ) : Type 0 where
  pub parts : ℕ → List ℕ
  pub begins : parts 0 ≡ first
  pub here : parts p.place ≡ region
  pub within : p.place ≤ length bytes
  pub sized : (i : ℕ) → i ≤ p.place → length (parts i) ≡ m.width
  pub well : (i : ℕ) → i ≤ p.place → m.well (parts i) (at + i)
  pub ticks_are : ticks ≡ count_below p.place (is_busy enters parts)
  pub idle : (i : ℕ) → i < p.place → is_busy enters parts i ≡ false → parts (i + 1) ≡ parts i
  pub fields : (tree : Tree) (u : List ℕ) (entered : List Bool) →
      IsFieldOf m first prev at tree u entered →
      (i : ℕ) →
      i ≤ p.place →
      m.field (parts i) tree (u ++ take i bytes) (entered ++ bits_of enters i)
  pub before_is : (tree : Tree) (u : List ℕ) (entered : List Bool) →
      IsFieldOf m first prev at tree u entered →
      Marks p.place p.ends.before (IsLeftBefore tree u entered bytes enters)
  pub behind_is : (tree : Tree) (u : List ℕ) (entered : List Bool) →
      IsFieldOf m first prev at tree u entered →
      Marks p.place p.ends.behind (IsLeftBehind tree u entered bytes enters)
  -- what stands before the next byte
  pub prev_is : (u : List ℕ) →
      prev ≡ prev_at u (length u) →
      p.behind ≡ prev_at (u ++ take p.place bytes) (length (u ++ take p.place bytes))
  pub left_is : TellsLeaves m region p.behind (at + p.place) p.left
  pub rests : m.always ≡ false → IsTrue p.rests ↔ AreZero region
  pub quiet : IsTrue p.rests → IsQuiet m region
  pub silent : IsTrue p.rests → (next : Next) → has_next p.left next ≡ false

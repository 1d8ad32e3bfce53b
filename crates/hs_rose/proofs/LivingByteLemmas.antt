-- Behind a byte that no position takes, none is live.
use Rattle.std.proofs.Common.{◌≡◌, ℕ, ◌+◌, ◌<◌, ◌/◌, ◌%◌, Bool, true, false, List, [], ◌∷◌, ◌++◌, length, Some, slice_get, eqb, sym, ap, ◌∙◌, arith}
use Rattle.std.specs.Int.{bit_at}
use Rattle.std.proofs.lemmas.List.{get_or-replicate}
use Rattle.hs_base.specs.declared.byte_set.ByteSet.{ByteSet}
use Rattle.hs_base.specs.declared.byte_set.TheConstants.ByteSet.{ALL}
use Rattle.hs_base.specs.Bits.{AreZero}
use Rattle.hs_base.specs.ByteSets.{has}
use Rattle.hs_base.specs.Trees.{Tree}
use Rattle.hs_base.specs.WrittenOut.{set_of, write_out}
use Rattle.hs_base.proofs.BitLemmas.{zero-bits}
use Rattle.hs_base.proofs.ContextSetLemmas.{bit-all}
use Rattle.hs_engine.specs.Engines.{Meaning}
use Rattle.hs_limex.specs.Fitting.{tables_meaning}
use Rattle.hs_limex.specs.PositionMoves.{PositionMoves}
use Rattle.hs_rose.proofs.LastByteLemmas.{reached-last}

-- behind each byte outside of the set, a region that is zero is the field
abbrev pub TellsLiving : Meaning → ByteSet → Type 0
TellsLiving m living =
    (region : List ℕ) (tree : Tree) (u : List ℕ) (b : ℕ) (entered : List Bool) → m.is_for tree → length entered ≡ length u + 1 → b < 256 → has living b ≡ false →
    length region ≡ m.width → AreZero region → m.field region tree (u ++ b ∷ []) entered

-- a set that has the bytes of each position tells so
pub living-told : (m : PositionMoves) (living : ByteSet) → ((x b : ℕ) → b < 256 → m.reach b x ≡ true → has living b ≡ true) → TellsLiving (tables_meaning m) living
living-told m living each region tree u b entered is len small lacks width zeros x = (
  λ bit. absurd (let e : false ≡ true = sym (zero-bits region zeros x) ∙ bit in cc),
  λ reached.
      let member : slice_get (set_of (write_out tree) x) b ≡ Some true = reached-last (write_out tree) u b reached.from x reached.reached in
      let taken : m.reach b x ≡ true = is.fits.reach b x small ∙ (is.runs.tables.sets x b small).1 member in
      absurd (let e : false ≡ true = sym lacks ∙ each x b small taken in cc),
)

-- the set of all bytes has each
pub all-has : (b : ℕ) → b < 256 → has ALL b ≡ true
unfolding has
all-has b below = ap (λ w. eqb (bit_at w (b % 64)) 1) (get_or-replicate 4 (b / 64) 18446744073709551615 0 (omega arith)) ∙ bit-all 64 (b % 64) (omega arith)

-- so nothing is asked behind it
pub all-tells : (m : Meaning) → TellsLiving m ALL
all-tells m region tree u b entered is len small lacks width zeros = absurd (let e : true ≡ false = sym (all-has b small) ∙ lacks in cc)

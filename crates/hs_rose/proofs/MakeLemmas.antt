-- The engines of pieces, and where pieces have the empty span.
use Rattle.std.proofs.Common.{◌≡◌, ℕ, zero, suc, ◌+◌, ◌/◌, ◌<◌, ◌≤◌, Bool, true, false, List, length, Option, Some, None, Box, Global, refl, sym, ap, subst, ◌∙◌, inl, inr, arith}
use Rattle.std.proofs.lemmas.Bool.{false≢true}
use Rattle.std.proofs.lemmas.Bool.Decides.{nat_tests}
use Rattle.hs_base.specs.declared.context.Mask.{Mask}
use Rattle.hs_base.specs.ByteSets.{members}
use Rattle.hs_base.specs.Chains.{nfa, rep, is_long}
use Rattle.hs_base.specs.Contexts.{Context, context_of, then_bytes, then_ended}
use Rattle.hs_base.specs.ContextSets.{has_context}
use Rattle.hs_base.specs.RepeatRows.{IsFirstRow, IsLastRow, IsRingRow, IsDistanceAt, IsRingAt, distance_of}
use Rattle.hs_base.specs.Spans.{Spans, Copies}
use Rattle.hs_base.specs.Trees.{Tree, class, repeat}
use Rattle.hs_base.specs.WrittenOut.{count, write_out}
use Rattle.hs_engine.specs.Tables.{IsClearFrom}
use Rattle.hs_limex.specs.LimexEngines.{moves_of_limex}
use Rattle.hs_rose.specs.declared.positions.PositionEngine.{PositionEngine}
use Rattle.hs_rose.specs.PositionEngines.{meaning_of_positions}
use Rattle.hs_repeat.specs.declared.first.First.{First}
use Rattle.hs_repeat.specs.declared.last.Last.{Last}
use Rattle.hs_repeat.specs.declared.ring.Ring.{Ring}
use Rattle.hs_repeat.specs.RepeatEngines.{meaning_of_first, meaning_of_last, meaning_of_ring}
use Rattle.hs_rose.specs.declared.engine.PieceEngine.TheVariants as engine
use Rattle.hs_rose.specs.Made.{IsNullMask}
use Rattle.hs_rose.specs.PieceEngines.{IsEngineOf}

-- the engine of an expression
pub positions-engine : (positions : Box PositionEngine Global) (tree : Tree) → (meaning_of_positions positions.value).is_for tree → IsEngineOf (engine.Positions positions) (nfa tree)
positions-engine positions tree runs =
    let size : (moves_of_limex positions.value.limex).size ≡ count (write_out tree) = runs.fits.size ∙ runs.runs.tables.size in record {
      runs = runs;
      kind_is = refl;
      width = ap (λ n. (n + 7) / 8) size;
      always = refl;
      says = λ bytes u entered. (λ is. is, λ is. is);
      well = λ bytes at. (λ is. subst (λ n. IsClearFrom bytes n) size is, λ is. subst (λ n. IsClearFrom bytes n) (sym size) is);
    }

-- The engines of repeats: their sets and bounds are those of the repeat.
pub record IsSet (set own : List Bool) (n m : ℕ) : Type 0 where
  pub set_is : set ≡ own
  pub bound_is : n ≡ m

pub first-engine : (first : First) (set : List Bool) (n : ℕ) → (meaning_of_first first).is_for (repeat (class set) n None) → IsEngineOf (engine.First first) (rep set n None)
first-engine first set n runs =
    let set_is : set ≡ members first.farthest.set = cc in
    let bound_is : n ≡ first.farthest.bound = cc in record {
      runs = runs;
      kind_is = refl;
      width = refl;
      always = refl;
      says = λ bytes u entered. (
        λ is. subst (λ s. IsFirstRow n s bytes u entered) (sym set_is) (subst (λ k. IsFirstRow k (members first.farthest.set) bytes u entered) (sym bound_is) is),
        λ is. subst (λ k. IsFirstRow k (members first.farthest.set) bytes u entered) bound_is (subst (λ s. IsFirstRow n s bytes u entered) set_is is),
      );
      well = λ bytes at. (
        λ is. subst (λ k. IsDistanceAt k (distance_of bytes) at) (sym bound_is) is,
        λ is. subst (λ k. IsDistanceAt k (distance_of bytes) at) bound_is is,
      );
    }

last-made : (last : Last) (set : List Bool) (n m : ℕ) → n ≤ 1 → set ≡ members last.nearest.set → m ≡ last.nearest.bound → (meaning_of_last last).is_for (repeat (class set) n (Some m)) → IsEngineOf (engine.Last last) (rep set n (Some m))
last-made last set zero m few set_is bound_is runs = record {
  runs = runs;
  kind_is = refl;
  width = refl;
  always = refl;
  says = λ bytes u entered. (
    λ is. subst (λ s. IsLastRow m s bytes u entered) (sym set_is) (subst (λ k. IsLastRow k (members last.nearest.set) bytes u entered) (sym bound_is) is),
    λ is. subst (λ k. IsLastRow k (members last.nearest.set) bytes u entered) bound_is (subst (λ s. IsLastRow m s bytes u entered) set_is is),
  );
  well = λ bytes at. (
    λ is. subst (λ k. IsDistanceAt k (distance_of bytes) at) (sym bound_is) is,
    λ is. subst (λ k. IsDistanceAt k (distance_of bytes) at) bound_is is,
  );
}
last-made last set (suc zero) m few set_is bound_is runs = record {
  runs = runs;
  kind_is = refl;
  width = refl;
  always = refl;
  says = λ bytes u entered. (
    λ is. subst (λ s. IsLastRow m s bytes u entered) (sym set_is) (subst (λ k. IsLastRow k (members last.nearest.set) bytes u entered) (sym bound_is) is),
    λ is. subst (λ k. IsLastRow k (members last.nearest.set) bytes u entered) bound_is (subst (λ s. IsLastRow m s bytes u entered) set_is is),
  );
  well = λ bytes at. (
    λ is. subst (λ k. IsDistanceAt k (distance_of bytes) at) (sym bound_is) is,
    λ is. subst (λ k. IsDistanceAt k (distance_of bytes) at) bound_is is,
  );
}
last-made last set (suc (suc n)) m few set_is bound_is runs = absurd (omega arith)

last-set : (last : Last) (set : List Bool) (n m : ℕ) → (meaning_of_last last).is_for (repeat (class set) n (Some m)) → IsSet set (members last.nearest.set) m last.nearest.bound
last-set last set n m (inl is) = record { set_is = cc; bound_is = cc }
last-set last set n m (inr is) = record { set_is = cc; bound_is = cc }

pub last-engine : (last : Last) (set : List Bool) (n m : ℕ) → n ≤ 1 → (meaning_of_last last).is_for (repeat (class set) n (Some m)) → IsEngineOf (engine.Last last) (rep set n (Some m))
last-engine last set n m few runs =
    let is = last-set last set n m runs in
    last-made last set n m few is.set_is is.bound_is runs

pub ring-engine : (ring : Ring) (set : List Bool) (n m : ℕ) → 1 < n → (meaning_of_ring ring).is_for (repeat (class set) n (Some m)) → IsEngineOf (engine.Ring ring) (rep set n (Some m))
ring-engine ring set zero m many runs = absurd (omega arith)
ring-engine ring set (suc zero) m many runs = absurd (omega arith)
ring-engine ring set (suc (suc n)) m many runs =
    let set_is : set ≡ members ring.set = cc in
    let bound_is : m ≡ ring.greatest = cc in record {
      runs = runs;
      kind_is = refl;
      width = ap (λ k. (k + 7) / 8) (sym bound_is);
      always = refl;
      says = λ bytes u entered. (
        λ is. subst (λ s. IsRingRow m s bytes u entered) (sym set_is) (subst (λ k. IsRingRow k (members ring.set) bytes u entered) (sym bound_is) is),
        λ is. subst (λ k. IsRingRow k (members ring.set) bytes u entered) bound_is (subst (λ s. IsRingRow m s bytes u entered) set_is is),
      );
      well = λ bytes at. (
        λ is. subst (λ k. IsRingAt k bytes at) (sym bound_is) is,
        λ is. subst (λ k. IsRingAt k bytes at) bound_is is,
      );
    }

-- a repeat from none has the empty span everywhere
pub all-null : (mask : Mask) (set : List Bool) (greatest : Option ℕ) → ((c : Context) → has_context mask c ≡ true) → IsNullMask mask (repeat (class set) 0 greatest)
all-null mask set None all u next = (λ is. (0, omega arith, tt, refl), λ span. all (context_of u next))
all-null mask set (Some m) all u next = (λ is. (0, omega arith, omega arith, refl), λ span. all (context_of u next))

-- copies of a set are as long as they are many
copies-long : (w : List ℕ) (ended : Bool) (set : List Bool) (n i j : ℕ) → Copies (Spans w ended (class set)) n i j → i + n ≤ j
copies-long w ended set zero i j copies = let e : i ≡ j = copies in omega (arith, e)
copies-long w ended set (suc n) i j copies =
    let e : copies.0 ≡ i + 1 = copies.1.1 in
    let rest = copies-long w ended set n copies.0 j copies.2 in
    omega (arith, e, rest)

-- one from one or more has it nowhere
pub no-null : (mask : Mask) (set : List Bool) (n : ℕ) (greatest : Option ℕ) → 0 < n → ((c : Context) → has_context mask c ≡ false) → IsNullMask mask (repeat (class set) n greatest)
no-null mask set n greatest some none u next = (
  λ is. absurd (false≢true (sym (none (context_of u next)) ∙ is)),
  λ span. absurd (let far = copies-long (then_bytes u next) (then_ended next) set span.0 (length u) (length u) span.3 in omega (arith, far, span.1)),
)

-- the bounds of a long repeat
pub long-least : (n : ℕ) → is_long n None ≡ true → 0 < n
long-least n long = grind (arith, nat_tests)

pub long-greatest : (n m : ℕ) → is_long n (Some m) ≡ true → 0 < m
long-greatest n m long = grind (arith, nat_tests)

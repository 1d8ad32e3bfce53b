-- The last byte of a match is taken by a position that accepts.
use Rattle.std.proofs.Common.{◌≡◌, ℕ, ◌<◌, Bool, true, false, List, [], ◌∷◌, ◌++◌, length, Some, slice_get, subst, ◌∙◌, arith, length-append}
use Rattle.hs_base.specs.declared.byte_set.ByteSet.{ByteSet}
use Rattle.hs_base.specs.declared.context.Next.{Next}
use Rattle.hs_base.specs.ByteSets.{has}
use Rattle.hs_base.specs.Contexts.{Context, context_at, context_of}
use Rattle.hs_base.specs.Fields.{Leaves}
use Rattle.hs_base.specs.Spans.{IsByteOf}
use Rattle.hs_base.specs.Trees.{Tree}
use Rattle.hs_base.specs.WrittenOut.{Core, IsReachedFrom, set_of, write_out}
use Rattle.hs_base.proofs.StreamContexts.{slice_get-seam}
use Rattle.hs_engine.specs.Agreement.{IsAccepting}
use Rattle.hs_engine.proofs.AgreementLemmas.{leaves-accepting}
use Rattle.hs_engine.proofs.PositionLemmas.{Arrives, arrives, reach-arrives}
use Rattle.hs_limex.specs.Fitting.{tables_meaning}
use Rattle.hs_limex.specs.PositionMoves.{PositionMoves}

-- a position at whose byte some bytes end has their last byte in its set
arrived-last : (r : Core) (u : List ℕ) (b q x : ℕ) → Arrives (context_at (u ++ b ∷ []) false) (λ set k. IsByteOf set (u ++ b ∷ []) k) r x q (length (u ++ b ∷ [])) → slice_get (set_of r x) b ≡ Some true
arrived-last r u b q x (arrives p end (byte, there, member) from) =
    let place : p ≡ length u = omega (arith, end, length-append u (b ∷ [])) in
    let seam : slice_get (u ++ b ∷ []) (length u) ≡ Some b = slice_get-seam u b [] in
    let last : slice_get (u ++ b ∷ []) (length u) ≡ Some byte = subst (λ k. slice_get (u ++ b ∷ []) k ≡ Some byte) place there in
    let same : byte ≡ b = (cc) in
    subst (λ k. slice_get (set_of r x) k ≡ Some true) same member

-- so has one that is reached
pub reached-last : (r : Core) (u : List ℕ) (b q x : ℕ) → IsReachedFrom r (u ++ b ∷ []) q x → slice_get (set_of r x) b ≡ Some true
reached-last r u b q x reached =
    arrived-last r u b q x
    (reach-arrives (context_at (u ++ b ∷ []) false) (λ set k. IsByteOf set (u ++ b ∷ []) k) r x q (length (u ++ b ∷ [])) reached)

-- a set that has the bytes of each position that accepts has the last byte of each match
pub last-told : (m : PositionMoves) (last : ByteSet) → ((x b : ℕ) (c : Context) → b < 256 → m.accepts c x ≡ true → m.reach b x ≡ true → has last b ≡ true) →
    (tree : Tree) (u : List ℕ) (b : ℕ) (entered : List Bool) (next : Next) → (tables_meaning m).is_for tree → b < 256 → Leaves tree (u ++ b ∷ []) entered next → has last b ≡ true
last-told m last each tree u b entered next is small leaves =
    let runs = is.runs in
    let accepting : IsAccepting (write_out tree) (u ++ b ∷ []) entered next = leaves-accepting tree (u ++ b ∷ []) entered next runs.plain runs.ends_last leaves in
    let x : ℕ = accepting.position in
    let c : Context = context_of (u ++ b ∷ []) next in
    let member : slice_get (set_of (write_out tree) x) b ≡ Some true = reached-last (write_out tree) u b accepting.reached.from x accepting.reached.reached in
    each x b c small (is.fits.accepts c x ∙ (runs.tables.accepts x c ∙ accepting.accepts)) (is.fits.reach b x small ∙ (runs.tables.sets x b small).1 member)
